use Rattle.kpn_machine.proofs.Common.{◌≡◌, false, get_or, sym, ◌∙◌, subst, inl, inr, arith, rules, cases_lt, get_or_default, is_marked}
use Rattle.kpn_machine.proofs.machine.marked_waits.has_mark.Goals as goal

pub channels-init : goal.channels-init
channels-init c = λ j below. absurd (omega (arith, below))

pub channels-preserved : goal.channels-preserved
channels-preserved c = λ j below.
    elim (cases_lt j c.channels.k) [
      | inl before ↦ c.channels.invariant j before
      | inr past ↦
          let told : c.is_marked.result ≡ false = search rules in
          let same : c.channels.k ≡ j = omega (arith, below, past) in
          subst (λ n. is_marked c.args.marks.now (get_or c.args.channels.now n 0) ≡ false) same
          (sym c.is_marked.ensures ∙ told)
    ]

pub returns : goal.returns
returns c = λ none d among.
    let below = among.1 in
    let end = c.channels-test.false in
    subst (λ z. is_marked c.args.marks.now z ≡ false)
    (get_or_default c.args.channels.now among.0 0 d below ∙ among.2)
    (c.channels.invariant among.0 (omega (arith, below, end)))
