-- The chain's answer is that of the statements that the code holds, block after block.
use Rattle.kpn_lang.proofs.Common.{◌∙◌, sym, ap, not, rules, tests, Bool, list_all, YieldsList-from_slice, YieldsList-from_flatten, all_from_yields_List, MAX_LEVELS, Statement, statement_of, depth, expressions, each_statement, is_within, blocks_of}
use Rattle.std.specs.Prelude.{nat_le}
use Rattle.kpn_lang.proofs.Rules.{all_statements, too_deep}
use Rattle.kpn_lang.proofs.program.parts.Parts.nests_too_deep.Goals as goal

abbrev is_shallow : Statement → Bool
is_shallow s = list_all (λ e. nat_le (depth e) MAX_LEVELS) (expressions s)

pub returns-else-not-is_within : goal.returns-else-not-is_within
returns-else-not-is_within c =
    let parts = c.args.self.now in
    let blocks = blocks_of parts.blocks.items in
    ap not
    (all_from_yields_List (λ s. is_shallow (statement_of s)) _ _ _ c.all.ensures.ran
    (YieldsList-from_flatten _ _ (λ s. s.now) (λ block. block.items) (λ x j b. YieldsList-from_slice x.now.items b.0)
    (YieldsList-from_slice parts.blocks.items (cc)) (cc) (cc) (cc))
    (λ x b q k. search (rules, tests))
    ∙ all_statements is_shallow parts.blocks.items)
    ∙ too_deep (is_within blocks MAX_LEVELS 0) (each_statement is_shallow blocks)
    (sym c.is_within.ensures ∙ c.if-not-is_within.false)
