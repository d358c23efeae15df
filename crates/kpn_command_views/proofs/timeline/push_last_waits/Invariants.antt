use Rattle.kpn_command_views.proofs.Common.{◌≡◌, ◌++◌, string_bytes, wait_at, shown, each_below, last_wait}
use Rattle.kpn_command_views.proofs.timeline.push_last_waits.Given as goal

abbrev pub invariant-loop-p : goal.invariant-loop-p
invariant-loop-p l =
    string_bytes l.text
    ≡ string_bytes l.initial.text
    ++ each_below l.p (λ p. last_wait l.document.names.channels (shown l.clocks) p (wait_at l.waits p))
