-- All steps but those that are left were made, and but for the frame nothing has changed.
use Rattle.kpn_audit.proofs.Common.{◌≡◌, ◌≢◌, ℕ, ◌≤◌, ◌-◌, List, program_of, Steps, Event, frame_in, IsMachine, IsFree, IsRun}
use Rattle.kpn_audit.proofs.stepping.step_on.Given as goal

abbrev pub invariant-steps : goal.invariant-steps
invariant-steps g l =
    let t = l.network in
    record {
      shape : IsMachine t l.machine;
      free : IsFree l.fn.machine l.p → IsFree l.machine l.p;
      run : (H : List Event) → IsRun t H l.fn.machine → IsRun t H l.machine;
      remaining : l.remaining ≤ l.quota;
      others : (q : ℕ) → q ≢ l.p → frame_in l.machine q ≡ frame_in l.fn.machine q;
      stepped : Steps (program_of t l.p).blocks (l.quota - l.remaining) (frame_in l.fn.machine l.p)
          (frame_in l.machine l.p);
    }

abbrev pub decreases-steps : goal.decreases-steps
decreases-steps g l = l.remaining
