-- One more word gives no source these items.
use Rattle.kpn_command_base.proofs.Common.{◌≢◌, HasEquals, file_in}
use Rattle.kpn_command_base.proofs.Apart.{one_more}
use Rattle.kpn_command_base.proofs.outputs.any_gives_items.Goals as goal

pub loop-word-preserved : goal.loop-word-preserved
loop-word-preserved g c =
    one_more (λ word. HasEquals word.now → c.args.name.now ≢ file_in word.now) c.args.words.now
    c.loop-word.word-index _ c.loop-word-test.true c.loop-word.invariant (c.in_ok-gives.ensures.apart c.if-gives.false)
