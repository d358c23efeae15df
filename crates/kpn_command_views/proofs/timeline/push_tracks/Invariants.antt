use Rattle.kpn_command_views.proofs.Common.{◌≡◌, ◌++◌, string_bytes, name_at, each_below, track_line}
use Rattle.kpn_command_views.proofs.timeline.push_tracks.Given as goal

abbrev pub invariant-loop-p : goal.invariant-loop-p
invariant-loop-p l =
    string_bytes l.text
    ≡ string_bytes l.initial.text ++ each_below l.p (λ p. track_line p (name_at l.document.names.instances p))
