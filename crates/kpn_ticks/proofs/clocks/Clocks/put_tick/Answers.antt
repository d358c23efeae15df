-- Neither the process nor the room is later than the last tick.
use Rattle.kpn_ticks.proofs.Common.{arith, shown}
use Rattle.kpn_ticks.proofs.Counting.{room_up_to}
use Rattle.kpn_ticks.proofs.clocks.Clocks.put_tick.Goals as goal

pub overflow_add-result : goal.overflow_add-result
overflow_add-result c =
    let room = room_up_to c.args.network.now (shown c.args.self.now) c.args.c c.requires.clocks in
    let own = c.requires.clocks.latest c.args.p in
    omega (arith, room, own, c.latest_of.ensures, c.room_there.ensures, c.max.ensures, c.requires.fits)
