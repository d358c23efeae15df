-- The chain's answer is that of the statements that the code holds, block after block.
use Rattle.kpn_lang.proofs.Common.{◌∙◌, rules, tests, YieldsList-from_slice, YieldsList-from_flatten, all_from_yields_List, statement_of, names_ports_below}
use Rattle.kpn_lang.proofs.Rules.{all_statements}
use Rattle.kpn_lang.proofs.program.parts.Parts.names_its_ports.Goals as goal

pub returns : goal.returns
returns c =
    let parts = c.args.self.now in
    let test = names_ports_below parts.ins parts.outs in
    all_from_yields_List (λ s. test (statement_of s)) _ _ _ c.all.ensures.ran
    (YieldsList-from_flatten _ _ (λ s. s.now) (λ block. block.items) (λ x j b. YieldsList-from_slice x.now.items b.0)
    (YieldsList-from_slice parts.blocks.items (cc)) (cc) (cc) (cc))
    (λ x b q k. search (rules, tests))
    ∙ all_statements test parts.blocks.items
