use Rattle.kpn_machine.proofs.Common.{◌≡◌, ℕ, ◌<◌, length, get_or, IsTrue, instance_at, program_of, start_frame, fits, no_frame}
use Rattle.kpn_machine.proofs.machine.start.frames_at_start.Given as goal

abbrev pub invariant-loop-p : goal.invariant-loop-p
invariant-loop-p g l = record {
  len : length l.frames.items ≡ l.p;
  each : (k : ℕ) → k < l.p
      → get_or l.frames.items k no_frame ≡ start_frame (program_of l.network k) (instance_at l.network k).pars;
  fit : (k : ℕ) → k < l.p → IsTrue (fits (program_of l.network k) (get_or l.frames.items k no_frame));
}
