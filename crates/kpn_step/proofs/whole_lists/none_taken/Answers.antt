-- With nothing taken all remains.
use Rattle.std.proofs.Common.{◌≡◌, length, arith}
use Rattle.kpn_lang.proofs.Remaining.{remaining-start}
use Rattle.kpn_step.proofs.whole_lists.none_taken.Goals as goal

pub returns-clause-remaining : goal.returns-clause-remaining
returns-clause-remaining c =
    let all : c.loop.index ≡ length c.args.lists.now = omega arith in
    rw (c.loop.invariant, all) (remaining-start c.args.lists.now)
