use Rattle.kpn_command_views.proofs.Common.{◌≡◌, ◌++◌, string_bytes, wait_at, shown, each_below, last_box}
use Rattle.kpn_command_views.proofs.picture.push_last_waits.Given as goal

abbrev pub invariant-loop-p : goal.invariant-loop-p
invariant-loop-p l =
    string_bytes l.text
    ≡ string_bytes l.initial.text
    ++ each_below l.p (λ p. last_box l.document.names.channels l.scale (shown l.ends) p (wait_at l.waits p))
