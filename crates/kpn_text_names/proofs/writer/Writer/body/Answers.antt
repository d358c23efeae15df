-- A body is the block that is written first.
use Rattle.kpn_text_names.proofs.Common.{◌≡◌, [], ap, subst, sym, ◌∙◌, err_from_is_err_and, blocks_of, block_seen, ResolvingFails, numbered_block, WrittenBody, body_written}
use Rattle.kpn_text_names.proofs.Writing.{whole_body, body_fails}
use Rattle.kpn_text_names.proofs.writer.Writer.body.Goals as goal

pub returns-in_err-block-clause-written : goal.returns-in_err-block-clause-written
returns-in_err-block-clause-written c =
    let p = err_from_is_err_and c.from_residual.result c.from_residual.ensures.1 in
    let start : ◌≡◌ {A = WrittenBody} (body_written c.args.self.now) (record { scope = c.args.self.now.scope; blocks = [] }) =
    ap (λ items. record { scope = c.args.self.now.scope; blocks = blocks_of items }) c.requires in
    rw (p.1, p.2)
    (body_fails c.args.shared.now c.args.self.now.scope (block_seen c.args.statements.now) c.in_err-block.field-0.0
    (subst (λ (w : WrittenBody). ResolvingFails c.in_err-block.field-0.0 (numbered_block c.args.shared.now w (block_seen c.args.statements.now))) start
    c.in_err-block.ensures.written))

pub returns-clause-written : goal.returns-clause-written
returns-clause-written c =
    let start : ◌≡◌ {A = WrittenBody} (body_written c.args.self.now) (record { scope = c.args.self.now.scope; blocks = [] }) =
    ap (λ items. record { scope = c.args.self.now.scope; blocks = blocks_of items }) c.requires in
    whole_body c.args.shared.now c.args.self.now.scope (block_seen c.args.statements.now) (body_written c.block.new.self)
    c.in_ok-block.field-0
    (ap (λ w. numbered_block c.args.shared.now w (block_seen c.args.statements.now)) (sym start) ∙ c.in_ok-block.ensures.written)
