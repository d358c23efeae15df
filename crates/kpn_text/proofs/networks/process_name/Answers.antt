-- The name is that of the process with the number.
use Rattle.kpn_text.proofs.Common.{List, ℕ, [], ◌++◌, sym, ap, ◌∙◌, get_or-map, ProcessNames}
use Rattle.kpn_text.proofs.PrintingLemmas.{same_prints}
use Rattle.kpn_text.proofs.networks.process_name.Goals as goal

pub returns-in-Some : goal.returns-in-Some
returns-in-Some c =
    let name : ProcessNames → List ℕ = λ p. p.name in
    let found =
    get_or-map name c.args.processes.now c.args.number c.in-Some.names.now [] c.in-Some.ensures.lookup.3.0 in
    let is = c.as_slice.ensures ∙ ap name c.in-Some.ensures.lookup.1 ∙ sym found in
    same_prints _ _ _ _ _ (λ more. ap (λ (x : List ℕ). x ++ more) is) c.bytes.ensures
