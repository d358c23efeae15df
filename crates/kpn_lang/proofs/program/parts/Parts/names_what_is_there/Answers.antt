-- The chain's answer is that of the statements that the code holds, block after block.
use Rattle.kpn_lang.proofs.Common.{◌≡◌, ◌+◌, ◌∙◌, ap, length, rules, tests, arith, YieldsList-from_slice, YieldsList-from_flatten, all_from_yields_List, statement_of, each_statement, names_there, parts_of, blocks_of}
use Rattle.kpn_lang.proofs.Programs.{limits_kept}
use Rattle.kpn_lang.proofs.Rules.{all_statements}
use Rattle.kpn_lang.proofs.program.parts.Parts.names_what_is_there.Goals as goal

pub overflow_add-free : goal.overflow_add-free
overflow_add-free c =
    let small = limits_kept (parts_of c.args.self.now) c.requires in
    omega (arith, small.variables, small.cells)

pub overflow_add-all : goal.overflow_add-all
overflow_add-all c =
    let small = limits_kept (parts_of c.args.self.now) c.requires in
    let parts = c.args.self.now in
    let long : c.len-tables.result ≡ length parts.tables.items = c.len-tables.ensures ∙ parts.tables.ok.0 in
    omega (arith, small.variables, small.cells, long)

pub returns : goal.returns
returns c =
    let parts = c.args.self.now in
    let free = parts.vars + parts.free in
    let long : c.len-tables.result ≡ length parts.tables.items = c.len-tables.ensures ∙ parts.tables.ok.0 in
    let test = names_there parts.vars free (free + c.len-tables.result) in
    all_from_yields_List (λ s. test (statement_of s)) _ _ _ c.all.ensures.ran
    (YieldsList-from_flatten _ _ (λ s. s.now) (λ block. block.items) (λ x j b. YieldsList-from_slice x.now.items b.0)
    (YieldsList-from_slice parts.blocks.items (cc)) (cc) (cc) (cc))
    (λ x b q k. search (rules, tests))
    ∙ all_statements test parts.blocks.items
    ∙ ap (λ n. each_statement (names_there parts.vars free (free + n)) (blocks_of parts.blocks.items)) long
