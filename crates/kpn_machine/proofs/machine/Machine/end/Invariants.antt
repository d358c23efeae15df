use Rattle.kpn_machine.proofs.Common.{◌≡◌, ◌≤◌, take, instance_at, with_end, EndSoFar}
use Rattle.arrayvec.specs.ArrayVec.{array_vec_len}
use Rattle.kpn_machine.proofs.machine.Machine.end.Given as goal

abbrev pub invariant-ports : goal.invariant-ports
invariant-ports g l = record {
  ins : l.ins ≡ (instance_at l.network l.p).ins;
  so_far : EndSoFar l.network (with_end l.p l.fn.how l.fn.self) l.self (take l.port l.ins) l.woken.items;
  few : array_vec_len l.woken ≤ l.port;
}
