-- Processes whose names were resolved are the processes again once their numbers are replaced by their names, each with
-- its arrays and then its tables.
use Rattle.std.proofs.Common.{◌≡◌, ℕ, zero, suc, ◌+◌, ◌-◌, ◌<◌, ◌≤◌, ◌||◌, ℤ, Bool, true, false, cond, Option, Some, None, List, [], ◌∷◌, ◌++◌, length, map, take, drop, nat_lt, Ok, refl, sym, ap, subst, ◌∙◌, append_assoc, append-nil, length-append, arith}
use Rattle.kpn_text.proofs.Common.{All, sum_by, AllByRecursion, flat_map, take-append_seam, nat_tests, take_at, MAX_VARIABLES, MAX_PORTS, MAX_CELLS, MAX_NODES, MAX_LEVELS, ProgramFault, Parts, IsProgram, is_too_large, statement_nodes, Tree, tree_of, Language, NameBytes, Declaration, array, table, ProcessNode, ProcessIsWithin, ProcessNames, Row, NameScope, SharedTables, declared, within_64_bits, are_new, behind_arrays, declare, head_scope, is_taken, declared_name, scope_with, with_declaration, values_at, tree_in, body_blocks, WrittenBody, body_of, BlocksAreTheTree, NamedProgram, free_of, values_of, program_with, with_uses, at_body, named_program, Programs, with_named_process, programs_of, paired, named_row, process_names_in, statements_named, literal_named, array_named, tables_named, declarations_named, process_named, ok_is, went, if_so, if_not, declared_is, body_grows}
use Rattle.kpn_lang.specs.declared.program.ProgramFault.TheVariants as rule
use Rattle.kpn_text_names.specs.Fault.{each}
use Rattle.kpn_text.proofs.DeclaredRows.{Laid, rows_of, Declares, all_declared, or_parts}
use Rattle.kpn_text.proofs.NamedBodies.{block_back}
use Rattle.kpn_text.proofs.SharedTables.{sorted_process}
use Rattle.kpn_text.proofs.SortedDeclarations.{arrays_of, tables_of, sorted}
use Rattle.kpn_text.proofs.StandingRows.{Standing, moved, rows_agree}
use Rattle.kpn_text.proofs.UsedTables.{AreFilled, Uses, uses_none, body_uses}

-- ---- a program has not too many cells

abbrev pub HasFewCells : Parts → Type 0
HasFewCells p = p.free + length p.tables ≤ MAX_CELLS

not_first : (b : Bool) (rest : Option ProgramFault) → cond b (Some rule.TooMany) rest ≡ None → b ≡ false
not_first true rest e = absurd cc
not_first false rest e = refl

few_by : (cells : ℕ) → nat_lt MAX_CELLS cells ≡ false → cells ≤ MAX_CELLS
few_by cells e = grind (arith, nat_tests, e)

pub few_cells : (p : Parts) → IsProgram p → HasFewCells p
few_cells p is =
    let vars : Bool = nat_lt MAX_VARIABLES p.vars in
    let ins : Bool = nat_lt MAX_PORTS p.ins in
    let outs : Bool = nat_lt MAX_PORTS p.outs in
    let cells : Bool = nat_lt MAX_CELLS (p.free + length p.tables) in
    let nodes : Bool = nat_lt MAX_NODES (sum_by (sum_by statement_nodes) p.blocks) in
    let four = or_parts (((vars || ins) || outs) || cells) nodes (not_first (is_too_large p) _ is.sound) in
    let last = or_parts ((vars || ins) || outs) cells four.0 in
    few_by (p.free + length p.tables) last.1

-- ---- the declarations of a process

-- the rows of tables are printed without their places
moved_same : (from n : ℕ) (xs : List NameBytes) (rs : List Row) (vs : List ℤ)
    → tables_named (take n (paired named_row xs (map (moved from) rs))) vs
    ≡ tables_named (take n (paired named_row xs rs)) vs
moved_same from zero xs rs vs = refl
moved_same from (suc n) [] rs vs = refl
moved_same from (suc n) (x ∷ xs) [] vs = refl
moved_same from (suc n) (x ∷ xs) (r ∷ rs) vs =
    ap (λ l. table (record { name = x; values = map literal_named (take r.size vs) }) ∷ l)
    (moved_same from n xs rs (drop r.size vs))

paired_count : (xs : List NameBytes) (rs : List Row) → length xs ≡ length rs → length (paired named_row xs rs) ≡ length xs
paired_count [] rs same = refl
paired_count (x ∷ xs) [] same = absurd (omega (arith, same))
paired_count (x ∷ xs) (r ∷ rs) same =
    let rest : length xs ≡ length rs = omega (arith, same) in
    ap (λ n. suc n) (paired_count xs rs rest)

own_count : (all own used : ℕ) → all ≡ own + used → all - used ≡ own
own_count all own used h = omega (arith, h)

-- a scope at the end of a body, of which the declarations are printed as these
module _ (n : NameBytes) (shared : SharedTables) (s t : NameScope) (arrays tables : List Declaration) (d : Declares s arrays tables)
    (same : t.arrays ≡ s.arrays) (u : Uses shared s.tables t.tables) where
  arrays_shown : map array_named (rows_of t.arrays) ≡ arrays
  arrays_shown = ap (λ r. map array_named (rows_of r)) same ∙ d.arrays_named

  own_rows : take (length t.tables.rows.names - length t.tables.used) (rows_of t.tables.rows) ≡ rows_of s.tables.rows
  own_rows =
      let own : length t.tables.rows.names - length t.tables.used ≡ length s.tables.rows.names =
      own_count (length t.tables.rows.names) (length s.tables.rows.names) (length t.tables.used) u.count in
      let count : length (rows_of s.tables.rows) ≡ length t.tables.rows.names - length t.tables.used =
      paired_count s.tables.rows.names s.tables.rows.rows d.tables_laid.named ∙ sym own in
      ap (λ l. take (length t.tables.rows.names - length t.tables.used) l) u.rows
      ∙ take_at (rows_of s.tables.rows) u.more (length t.tables.rows.names - length t.tables.used) count

  tables_shown : (values : List ℤ)
      → tables_named
      (take (length t.tables.rows.names - length t.tables.used)
      (paired named_row t.tables.rows.names (map (behind_arrays t) t.tables.rows.rows)))
      (t.tables.values ++ values)
      ≡ tables
  tables_shown values =
      moved_same t.arrays.end (length t.tables.rows.names - length t.tables.used) t.tables.rows.names
      t.tables.rows.rows (t.tables.values ++ values)
      ∙ (λ i. tables_named (own_rows i) (u.values i ++ values))
      ∙ ap (λ l. tables_named l (s.tables.values ++ values)) (sym (append-nil (rows_of s.tables.rows)))
      ∙ d.tables_are [] values ∙ append-nil tables

  declarations_back : declarations_named (process_names_in n t) (values_of shared t) ≡ arrays ++ tables
  declarations_back =
      λ i. arrays_shown i ++ tables_shown (flat_map (values_at shared) t.tables.used) i

  -- its rows have places of their own
  standing : free_of t + length (values_of shared t) ≤ MAX_CELLS → Standing t
  standing few =
      let used : ℕ = length (flat_map (values_at shared) t.tables.used) in
      let count : length (values_of shared t) ≡ length t.tables.values + used =
      length-append t.tables.values (flat_map (values_at shared) t.tables.used) in
      let is : t.tables.rows.end ≡ within_64_bits (length t.tables.values + used) = u.end in
      let end : t.tables.rows.end ≤ length t.tables.values + used = omega (arith, is) in
      let all : t.arrays.end + t.tables.rows.end < 18446744073709551615 = omega (arith, few, count, end) in
      let laid : Laid 64 t.arrays = subst (λ r. Laid 64 r) (sym same) d.arrays_laid in
      record {
        arrays_named = laid.named;
        arrays = laid.rows;
        tables_named = u.laid.named;
        tables = u.laid.rows;
        few = all;
      }

-- ---- the head of a process

record HasHead (p : ProcessNode) (s : NameScope) : Type 0 where
  ins : s.ins ≡ p.ins
  outs : s.outs ≡ p.outs
  vars : s.vars ≡ p.pars

with_its_head : (p : ProcessNode) (s : NameScope) (d : Declaration) → HasHead p s → HasHead p (with_declaration s d)
with_its_head p s (array x n) h = record { ins = h.ins; outs = h.outs; vars = h.vars }
with_its_head p s (table t) h = record { ins = h.ins; outs = h.outs; vars = h.vars }

heads_stay : (shared : List NameBytes) (p : ProcessNode) (s t : NameScope) (ds : List Declaration)
    → each (declare shared) s ds ≡ Ok t → HasHead p s → HasHead p t
unfolding each
heads_stay shared p s t [] e h = subst (λ u. HasHead p u) (ok_is s t e) h
heads_stay shared p s t (d ∷ ds) e h =
    let first = went (declare shared s d) (λ u. each (declare shared) u ds) t e in
    let is = if_not (is_taken shared s (declared_name d)) (with_declaration s d) first.value first.first in
    heads_stay shared p first.value t ds first.rest
    (subst (λ u. HasHead p u) is.1 (with_its_head p s d h))

-- a head declares nothing
declares_none : (ins outs vars : List NameBytes) → Declares (scope_with ins outs vars) [] []
declares_none ins outs vars = record {
  arrays_laid = record { named = refl; rows = refl };
  arrays_named = refl;
  tables_laid = record { named = refl; rows = refl };
  tables_end = omega arith;
  tables_are = λ more values. refl;
  unused = refl;
}

-- ---- one process

abbrev written_of : NameScope × Tree → WrittenBody
written_of t = record { scope = t.0; blocks = body_blocks t.1 }

abbrev ComesBack : ProcessNode → NamedProgram → Type 0
ComesBack p made = process_named (process_names_in p.name made.names) made.parts ≡ sorted_process p

module _ (flat : BlocksAreTheTree) (l : Language) (shared : SharedTables) (filled : AreFilled shared) where
  body_comes_back : (p : ProcessNode) (s : NameScope) (t : NameScope × Tree) → HasHead p s
      → Declares s (arrays_of p.declarations) (tables_of p.declarations)
      → HasFewCells (program_with shared s (written_of t)).parts
      → tree_in shared.names (at_body l shared s p.body) p.body ≡ Ok t
      → ComesBack p (program_with shared s (written_of t))
  body_comes_back p s t head_scope d few e =
      let b = block_back shared.names (at_body l shared s p.body) p.body t e in
      let grows = body_grows l shared.names (with_uses shared s p.body) p.body t e in
      let u : Uses shared s.tables t.0.tables =
      subst (λ ts. Uses shared s.tables ts) (sym grows.tables)
      (body_uses shared s.tables filled p.body (uses_none shared s.tables d.tables_laid d.tables_end d.unused)) in
      let names : ProcessNames = process_names_in p.name t.0 in
      let same : t.0.arrays ≡ s.arrays = grows.arrays in
      let stand : Standing t.0 =
      standing p.name shared s t.0 (arrays_of p.declarations) (tables_of p.declarations) d same u few in
      let pars : take (length s.vars) t.0.vars ≡ p.pars =
      (λ i. take (length (head_scope.vars i)) (grows.vars i))
      ∙ ap (λ l. take (length p.pars) (l ++ grows.more)) head_scope.vars ∙ take-append_seam p.pars grows.more in
      let declarations : declarations_named names (values_of shared t.0) ≡ sorted p.declarations =
      declarations_back p.name shared s t.0 (arrays_of p.declarations) (tables_of p.declarations) d same u in
      let body : statements_named names (tree_of (body_blocks t.1) 0) ≡ p.body =
      ap (λ tree. statements_named names tree) (flat t.1)
      ∙ b.back names
      (record {
        ins = refl;
        outs = refl;
        more = [];
        vars = sym (append-nil t.0.vars);
        rows = rows_agree p.name t.0 stand;
      }) in
      let ins : t.0.ins ≡ p.ins = grows.ins ∙ head_scope.ins in
      let outs : t.0.outs ≡ p.outs = grows.outs ∙ head_scope.outs in
      λ i. record {
        name = p.name;
        ins = ins i;
        outs = outs i;
        pars = pars i;
        declarations = declarations i;
        body = body i;
      }

  process_back : (p : ProcessNode) (made : NamedProgram) → ProcessIsWithin MAX_LEVELS MAX_LEVELS p → named_program l shared p ≡ Ok made
      → HasFewCells made.parts → ComesBack p made
  process_back p made within e few =
      let h = went (head_scope shared.names p) _ made e in
      let s = went (each (declare shared.names) h.value p.declarations) _ made h.rest in
      let body = went (body_of shared.names (at_body l shared s.value p.body) p.body) _ made s.rest in
      let tree = went (tree_in shared.names (at_body l shared s.value p.body) p.body) _ body.value body.first in
      let start : NameScope = scope_with p.ins p.outs p.pars in
      let known : start ≡ h.value =
      (if_so (are_new shared.names (p.ins ++ p.outs ++ p.pars)) start h.value h.first).1 in
      let first : HasHead p h.value =
      subst (λ q. HasHead p q) known (record { ins = refl; outs = refl; vars = refl }) in
      let head_scope : HasHead p s.value = heads_stay shared.names p h.value s.value p.declarations s.first first in
      let declares : Declares s.value (arrays_of p.declarations) (tables_of p.declarations) =
      all_declared shared.names h.value s.value p.declarations [] [] within.declarations s.first
      (subst (λ q. Declares q [] []) known (declares_none p.ins p.outs p.pars)) in
      let written : written_of tree.value ≡ body.value = ok_is (written_of tree.value) body.value tree.rest in
      let program : program_with shared s.value body.value ≡ made =
      ok_is (program_with shared s.value body.value) made body.rest in
      let same : program_with shared s.value (written_of tree.value) ≡ made =
      ap (λ w. program_with shared s.value w) written ∙ program in
      subst (λ q. ComesBack p q) same
      (body_comes_back p s.value tree.value head_scope declares
      (subst (λ (q : NamedProgram). HasFewCells q.parts) (sym same) few) tree.first)

-- ---- several

-- the processes that stand for these names and programs
abbrev pub processes_named : List NameBytes → List NamedProgram → List ProcessNode
processes_named names programs =
    paired process_named (paired process_names_in names (map (λ q. q.names) programs)) (map (λ q. q.parts) programs)

-- none of the programs has too many cells
abbrev pub HaveFewCells : List NamedProgram → Type 0
HaveFewCells programs = AllByRecursion (λ q. HasFewCells q.parts) programs

pub have_few : (programs : List NamedProgram) → All IsProgram (map (λ q. q.parts) programs) → HaveFewCells programs
have_few [] all = tt
have_few (q ∷ programs) all = (
  few_cells q.parts (all zero q.parts (omega arith)),
  have_few programs (λ k d here. all (suc k) d (omega (arith, here))),
)

-- the names and programs that processes added to those before
record Added (before : Programs) (processes : List ProcessNode) (after : Programs) : Type 0 where
  names : List NameBytes
  programs : List NamedProgram
  after_names : after.names ≡ before.names ++ names
  after_programs : after.programs ≡ before.programs ++ programs
  back : HaveFewCells programs → processes_named names programs ≡ map sorted_process processes

module _ (flat : BlocksAreTheTree) (l : Language) (shared : SharedTables) (filled : AreFilled shared) where
  added : (before : Programs) (processes : List ProcessNode) (after : Programs)
      → AllByRecursion (ProcessIsWithin MAX_LEVELS MAX_LEVELS) processes → each (with_named_process l shared) before processes ≡ Ok after
      → Added before processes after
  unfolding each
  added before [] after within h =
      let same : before ≡ after = ok_is before after h in
      record {
        names = [];
        programs = [];
        after_names = ap (λ (q : Programs). q.names) (sym same) ∙ sym (append-nil before.names);
        after_programs = ap (λ (q : Programs). q.programs) (sym same) ∙ sym (append-nil before.programs);
        back = λ few. refl;
      }
  added before (p ∷ processes) after within h =
      let first = went (with_named_process l shared before p) (λ q. each (with_named_process l shared) q processes) after h in
      let names = went (declared before.names p.name) _ first.value first.first in
      let made = went (named_program l shared p) _ first.value names.rest in
      let same : ◌≡◌ {A = Programs} (record { names = names.value; programs = before.programs ++ made.value ∷ [] })
      first.value = ok_is _ _ made.rest in
      let new : before.names ++ p.name ∷ [] ≡ names.value =
      (declared_is before.names p.name names.value names.first).1 in
      let more = added first.value processes after within.1 first.rest in
      record {
        names = p.name ∷ more.names;
        programs = made.value ∷ more.programs;
        after_names =
            more.after_names ∙ ap (λ l. l ++ more.names) (ap (λ (q : Programs). q.names) (sym same) ∙ sym new)
            ∙ append_assoc before.names (p.name ∷ []) more.names;
        after_programs =
            more.after_programs ∙ ap (λ (q : Programs). q.programs ++ more.programs) (sym same)
            ∙ append_assoc before.programs (made.value ∷ []) more.programs;
        back =
            λ few.
            let one = process_back flat l shared filled p made.value within.0 made.first few.0 in
            let others = more.back few.1 in
            λ i. one i ∷ others i;
      }

  -- the processes of a description come back, each with its arrays and then its tables
  pub processes_back : (processes : List ProcessNode) (p : Programs) → AllByRecursion (ProcessIsWithin MAX_LEVELS MAX_LEVELS) processes
      → programs_of l shared processes ≡ Ok p → HaveFewCells p.programs
      → processes_named p.names p.programs ≡ map sorted_process processes
  processes_back processes p within h few =
      let a = added (record { names = []; programs = [] }) processes p within h in
      let some : HaveFewCells a.programs = subst (λ l. HaveFewCells l) a.after_programs few in
      (λ i. processes_named (a.after_names i) (a.after_programs i)) ∙ a.back some
