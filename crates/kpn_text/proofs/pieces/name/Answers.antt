-- The name is the one with the number.
use Rattle.std.proofs.Common.{List, ℕ, [], ◌++◌, ap, ◌∙◌}
use Rattle.kpn_text.proofs.PrintingLemmas.{same_prints}
use Rattle.kpn_text.proofs.pieces.name.Goals as goal

pub returns-in-Some : goal.returns-in-Some
returns-in-Some c =
    let is = c.as_slice.ensures ∙ c.in-Some.ensures.lookup.3.1 [] in
    same_prints _ _ _ _ _ (λ more. ap (λ (x : List ℕ). x ++ more) is) c.bytes.ensures
