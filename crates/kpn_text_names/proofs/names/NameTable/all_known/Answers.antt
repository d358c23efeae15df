-- A name adds its number, or is the first that is not known.
use Rattle.kpn_text_names.proofs.Common.{◌≡◌, ◌++◌, ◌∷◌, [], Ok, refl, sym, ap, ◌∙◌, arith, err_from_is_err_and, with_number, known}
use Rattle.kpn_text_names.proofs.Chains.{then_ok}
use Rattle.kpn_text_names.proofs.Steps.{goes, fails, fails_first, ends}
use Rattle.kpn_text_names.proofs.names.NameTable.all_known.Goals as goal

pub returns-in_err-number : goal.returns-in_err-number
returns-in_err-number c =
    let p = err_from_is_err_and c.from_residual.result c.from_residual.ensures.1 in
    rw (p.1, p.2, ← c.loop-name.invariant)
    (fails (with_number c.args.self.now) (λ x. x.bytes.now) c.loop-name.numbers c.args.names.now
    c.loop-name.name-index _ _ c.in_err-number.field-0.0 (omega arith) refl
    (fails_first c.in_err-number.field-0.0 (known c.args.self.now _) (λ k. Ok (c.loop-name.numbers ++ k ∷ []))
    c.in_err-number.ensures))

pub loop-name-preserved : goal.loop-name-preserved
loop-name-preserved c =
    let pushed : c.push.new.self ≡ c.loop-name.numbers ++ c.in_ok-number.number ∷ [] = c.in_ok-push.ensures.items in
    sym
    (goes (with_number c.args.self.now) (λ x. x.bytes.now) c.loop-name.numbers c.args.names.now
    c.loop-name.name-index _ _ c.push.new.self (omega arith) refl
    (then_ok (known c.args.self.now _) (λ k. Ok (c.loop-name.numbers ++ k ∷ [])) c.in_ok-number.number
    c.in_ok-number.ensures ∙ ap Ok (sym pushed)))
    ∙ c.loop-name.invariant

pub returns : goal.returns
returns c =
    sym c.loop-name.invariant
    ∙ ends (with_number c.args.self.now) (λ x. x.bytes.now) c.loop-name.numbers c.args.names.now
    c.loop-name.name-index (omega arith)
