use Rattle.kpn_machine.proofs.Common.{◌≡◌, None, true, false, sym, ap, ◌∙◌, map, List, ℤ, rules, both_ways, ChannelState, kept_journal, opened, Machine, are_kept}
use Rattle.kpn_machine.proofs.Keeping.{all_are_kept, kept_journals}
use Rattle.kpn_machine.proofs.machine.Machine.into_journals.Goals as goal

pub returns-then-not-all_kept-clause-forgotten : goal.returns-then-not-all_kept-clause-forgotten
returns-then-not-all_kept-clause-forgotten g c _ kept =
    let s = c.args.self in
    let is = c.deref.ensures.value ∙ ap (λ (x : Machine). x.channels) c.self.view_is in
    let none : c.all_kept.result ≡ false = search rules in
    both_ways c.all_kept.result none
    (c.all_kept.ensures ∙ ap are_kept is ∙ all_are_kept s.channels (opened None false) kept)

pub returns-in-Ok-clause-journals : goal.returns-in-Ok-clause-journals
returns-in-Ok-clause-journals g c =
    let given = c.self.inside.channels.items in
    let all : c.all_kept.result ≡ true = search rules in
    let kept : are_kept given ≡ true = ap are_kept (sym c.deref.ensures.value) ∙ sym c.all_kept.ensures ∙ all in
    c.in-Ok.ensures ∙ kept_journals given kept
    ∙ ap (λ (x : Machine). map (λ (channel : ChannelState). channel.journal) x.channels) c.self.view_is

pub returns-clause-forgotten : goal.returns-clause-forgotten
returns-clause-forgotten g c e = absurd cc
