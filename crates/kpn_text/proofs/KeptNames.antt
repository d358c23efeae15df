-- The processes of a description keep their names, each with its number.
use Rattle.kpn_text.proofs.Common.{◌≡◌, List, [], ◌∷◌, ◌++◌, length, map, Ok, sym, ap, ◌∙◌, append_assoc, append-nil, refl, arith, length-map, Language, NameBytes, ProcessNode, NameScope, SharedTables, Programs, with_named_process, programs_of, paired, process_names_in, ok_is, went, programs_match, declared_is}
use Rattle.kpn_text_names.specs.Fault.{each}

paired_names : (xs : List NameBytes) (ss : List NameScope) → length xs ≡ length ss
    → map (λ p. p.name) (paired process_names_in xs ss) ≡ xs
paired_names [] ss e = refl
paired_names (x ∷ xs) [] e = absurd (omega arith)
paired_names (x ∷ xs) (s ∷ ss) e = ap (λ l. x ∷ l) (paired_names xs ss (omega arith))

-- the names by number are those of the processes
pub names_back : (l : Language) (shared : SharedTables) (processes : List ProcessNode) (p : Programs) → programs_of l shared processes ≡ Ok p
    → map (λ q. q.name) (paired process_names_in p.names (map (λ q. q.names) p.programs)) ≡ p.names
names_back l shared processes p e =
    paired_names p.names (map (λ q. q.names) p.programs)
    (programs_match l shared processes p e ∙ sym (length-map p.programs (λ q. q.names)))

names_after : (l : Language) (shared : SharedTables) (before : Programs) (processes : List ProcessNode) (after : Programs)
    → each (with_named_process l shared) before processes ≡ Ok after
    → after.names ≡ before.names ++ map (λ p. p.name) processes
unfolding each
names_after l shared before [] after h =
    ap (λ (q : Programs). q.names) (sym (ok_is before after h)) ∙ sym (append-nil before.names)
names_after l shared before (p ∷ processes) after h =
    let first = went (with_named_process l shared before p) (λ q. each (with_named_process l shared) q processes) after h in
    let names = went _ _ first.value first.first in
    let made = went _ _ first.value names.rest in
    let same : ◌≡◌ {A = Programs} (record { names = names.value; programs = before.programs ++ made.value ∷ [] })
    first.value = ok_is _ _ made.rest in
    let new : before.names ++ p.name ∷ [] ≡ names.value =
    (declared_is before.names p.name names.value names.first).1 in
    names_after l shared first.value processes after first.rest
    ∙ ap (λ xs. xs ++ map (λ q. q.name) processes) (ap (λ (q : Programs). q.names) (sym same) ∙ sym new)
    ∙ append_assoc before.names (p.name ∷ []) (map (λ q. q.name) processes)

pub names_kept : (l : Language) (shared : SharedTables) (processes : List ProcessNode) (p : Programs) → programs_of l shared processes ≡ Ok p
    → p.names ≡ map (λ q. q.name) processes
names_kept l shared processes p e = names_after l shared (record { names = []; programs = [] }) processes p e
