use Rattle.std.proofs.Common.{◌≡◌, take, drop, length, map}
use Rattle.kpn_c.specs.States.{state_as}
use Rattle.kpn_c.proofs.processes.put_states.Given as goal

abbrev pub invariant-processes : goal.invariant-processes
invariant-processes l = record {
  told : take l.p l.room ≡ map state_as (take l.p l.book.schedule.states);
  rest : drop l.p l.room ≡ drop l.p l.initial.room;
  long : length l.room ≡ length l.initial.room;
}
