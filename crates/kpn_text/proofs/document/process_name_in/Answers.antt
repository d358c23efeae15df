-- The name is that of the process with the number.
use Rattle.kpn_text.proofs.Common.{List, ℕ, [], sym, ap, subst, ◌∙◌, IsUtf8, get_or-map, ProcessNames}
use Rattle.kpn_text.proofs.document.process_name_in.Goals as goal

pub text_of-requires : goal.text_of-requires
text_of-requires c =
    let name : ProcessNames → List ℕ = λ p. p.name in
    let found =
    get_or-map name c.args.processes.now c.args.number c.in-Some.names.now [] c.in-Some.ensures.lookup.3.0 in
    subst IsUtf8 (sym (c.as_slice.ensures ∙ ap name c.in-Some.ensures.lookup.1 ∙ sym found)) c.requires

pub returns-in-Some : goal.returns-in-Some
returns-in-Some c =
    let name : ProcessNames → List ℕ = λ p. p.name in
    let found =
    get_or-map name c.args.processes.now c.args.number c.in-Some.names.now [] c.in-Some.ensures.lookup.3.0 in
    c.text_of.ensures ∙ c.as_slice.ensures ∙ ap name c.in-Some.ensures.lookup.1 ∙ sym found
