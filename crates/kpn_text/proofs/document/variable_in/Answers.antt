-- The variables are those of the process with the number.
use Rattle.kpn_text.proofs.Common.{List, ℕ, [], sym, ap, ◌∙◌, get_or-map, name_at, ProcessNames}
use Rattle.kpn_text.proofs.document.variable_in.Goals as goal

pub returns-in-Some : goal.returns-in-Some
returns-in-Some c =
    let vars : ProcessNames → List (List ℕ) = λ p. p.vars in
    let found =
    get_or-map vars c.args.processes.now c.args.i c.in-Some.names.now [] c.in-Some.ensures.lookup.3.0 in
    c.bytes_in.ensures
    ∙ ap (λ (names : List (List ℕ)). name_at names c.args.v)
    (c.as_slice.ensures ∙ ap vars c.in-Some.ensures.lookup.1 ∙ sym found)
