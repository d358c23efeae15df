-- One more file is stored, or the shelf does not take it.
use Rattle.std.proofs.Common.{Ok, subst, arith}
use Rattle.kpn_shelf.specs.Shelf.{KeepsOthers}
use Rattle.kpn_command_base.specs.Conclusion.{stored_as}
use Rattle.kpn_cli.proofs.Stores.{stored_more, cut_here, if_error}
use Rattle.kpn_cli.proofs.concluding.store_files.Goals as goal

pub returns-in_err-store-clause-cut_short : goal.returns-in_err-store-clause-cut_short
returns-in_err-store-clause-cut_short g c =
    let may_give = g.S.Shelf.may_give in
    if_error c.from_residual.result
    (cut_here may_give stored_as c.args.files.now c.loop-file.file-index c.file-item.result
    (omega (arith, c.loop-file-test.true)) c.file-item.is c.args.shelf.now c.loop-file.shelf c.store.new.self
    c.loop-file.invariant
    (subst (λ name. KeepsOthers (may_give c.loop-file.shelf) (may_give c.store.new.self) name)
    c.as_str.ensures.value c.store.ensures.others))

pub loop-file-preserved : goal.loop-file-preserved
loop-file-preserved g c =
    let may_give = g.S.Shelf.may_give in
    let before = c.loop-file.shelf in
    let after = c.store.new.self in
    stored_more may_give stored_as c.args.files.now c.loop-file.file-index c.file-item.result
    (omega (arith, c.loop-file-test.true)) c.file-item.is c.args.shelf.now before after
    c.loop-file.invariant
    (subst (λ name. may_give after name (Ok c.file-item.result.bytes.items)
    × KeepsOthers (may_give before) (may_give after) name) c.as_str.ensures.value (
      subst (λ bs. may_give after c.as_str.result.now (Ok bs)) c.deref.ensures.value c.in_ok-store.ensures.stored,
      c.store.ensures.others,
    ))
