-- The chain's answer is that of the statements that the code holds, block after block.
use Rattle.kpn_lang.proofs.Common.{◌≡◌, ◌∙◌, ap, ◌||◌, false, sym, rules, tests, arith, length, nat_lt, list_any, nat_tests, length-map, YieldsList-from_slice, YieldsList-from_flatten, any_from_yields_List, statement_of, blocks_of, names_from}
use Rattle.kpn_lang.proofs.Rules.{any_statement}
use Rattle.kpn_lang.proofs.program.parts.Parts.lacks_a_block.Goals as goal

pub returns-else-count-lt1 : goal.returns-else-count-lt1
returns-else-count-lt1 c =
    let parts = c.args.self.now in
    let count = c.len-count.result in
    let blocks = blocks_of parts.blocks.items in
    let counts : count ≡ length blocks = c.len-count.ensures ∙ parts.blocks.ok.0
    ∙ sym (length-map parts.blocks.items _) in
    let some : nat_lt (length blocks) 1 ≡ false = grind (arith, nat_tests, counts) in
    any_from_yields_List (λ s. names_from count (statement_of s)) _ _ _ c.any.ensures.ran
    (YieldsList-from_flatten _ _ (λ s. s.now) (λ block. block.items) (λ x j b. YieldsList-from_slice x.now.items b.0)
    (YieldsList-from_slice parts.blocks.items (cc)) (cc) (cc) (cc))
    (λ x b q k. search (rules, tests))
    ∙ any_statement (names_from count) parts.blocks.items
    ∙ ap (λ n. list_any (list_any (names_from n)) blocks) counts
    ∙ ap (λ b. b || list_any (list_any (names_from (length blocks))) blocks) (sym some)
