-- What is put so far, and the levels still to come, are all levels.
use Rattle.kpn_text.proofs.Common.{◌≡◌, ◌-◌, ◌++◌, List, ℕ, indented}
use Rattle.kpn_text.proofs.pieces.indent.Given as goal

abbrev pub invariant-loop-step : goal.invariant-loop-step
invariant-loop-step l =
    (more : List ℕ) → l.out.items ++ indented (l.level - l._step) more ≡ l.initial.out.items ++ indented l.level more
