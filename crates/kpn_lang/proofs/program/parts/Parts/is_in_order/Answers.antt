-- The blocks are in order if the count from the body on comes to their number.
use Rattle.kpn_lang.proofs.Common.{◌≡◌, sym, ◌∙◌, ap, length, length-map, parts_of, blocks_of}
use Rattle.kpn_lang.proofs.Rules.{ends_at, order_read}
use Rattle.kpn_lang.proofs.program.parts.Parts.is_in_order.Goals as goal

pub returns-in-Some : goal.returns-in-Some
returns-in-Some c =
    let parts = c.args.self.now in
    let counts : c.len-count.result ≡ length (blocks_of parts.blocks.items) =
    c.len-count.ensures ∙ parts.blocks.ok.0 ∙ sym (length-map parts.blocks.items _) in
    ap (ends_at c.len-count.result) (sym c.in-Some.is)
    ∙ order_read (parts_of parts) c.len-count.result c.count_block.result counts c.count_block.ensures

pub returns-in-None : goal.returns-in-None
returns-in-None c =
    let parts = c.args.self.now in
    let counts : c.len-count.result ≡ length (blocks_of parts.blocks.items) =
    c.len-count.ensures ∙ parts.blocks.ok.0 ∙ sym (length-map parts.blocks.items _) in
    ap (ends_at c.len-count.result) (sym c.in-None.is)
    ∙ order_read (parts_of parts) c.len-count.result c.count_block.result counts c.count_block.ensures
