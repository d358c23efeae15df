-- What a run has come to under its limits.
use Rattle.std.specs.Prelude.{◌≡◌, ℕ, ◌<◌, ◌≤◌, true, List, length, Option, Some, None}
use Rattle.kpn_net.specs.Tables.{Tables, channel_at, is_sink}
use Rattle.kpn_history.specs.declared.event.Event.{Event}
use Rattle.kpn_history.specs.declared.state.Verdict.{Verdict}
use Rattle.kpn_history.specs.declared.state.Verdict.TheVariants as verdict
use Rattle.kpn_history.specs.Channels.{read_on}
use Rattle.kpn_history.specs.Ends.{IsVerdict}
use Rattle.kpn_book.specs.declared.outcome.Limits.{Limits}
use Rattle.kpn_book.specs.declared.outcome.Outcome.{Outcome}
use Rattle.kpn_book.specs.declared.outcome.Outcome.TheVariants.{Ended, Clogged, Jammed, Enough, Stopped}

-- this many items or more were read of each sink
abbrev pub HaveRead : Tables → List Event → (items : ℕ) → Type 0
HaveRead t H items = (c : ℕ) → c < length t.channels → is_sink (channel_at t c) ≡ true → items ≤ length (read_on H c)

-- what was wanted of the sinks, if anything, was read
abbrev pub IsEnough : Tables → List Event → (wanted : Option ℕ) → Type 0
IsEnough t H None = ⊥
IsEnough t H (Some items) = HaveRead t H items

-- the outcome of a history after this many commits: enough if what was wanted was read; else the verdict if there is
-- one; else stopped if the commits have reached their limit; else none
abbrev pub IsOutcome : Tables → List Event → (commits : ℕ) → Limits → Option Outcome → Type 0
IsOutcome t H commits limits (Some Enough) = IsEnough t H limits.take
IsOutcome t H commits limits (Some Ended) = (¬ IsEnough t H limits.take) × IsVerdict t H (Some verdict.Ended)
IsOutcome t H commits limits (Some Clogged) = (¬ IsEnough t H limits.take) × IsVerdict t H (Some verdict.Clogged)
IsOutcome t H commits limits (Some Jammed) = (¬ IsEnough t H limits.take) × IsVerdict t H (Some verdict.Jammed)
IsOutcome t H commits limits (Some Stopped) =
    (¬ IsEnough t H limits.take) × IsVerdict t H None × (limits.commits ≤ commits)
IsOutcome t H commits limits None = (¬ IsEnough t H limits.take) × IsVerdict t H None × (commits < limits.commits)

-- the verdict that an outcome is, if it is one
abbrev pub verdict_of : Outcome → Option Verdict
verdict_of Ended = Some verdict.Ended
verdict_of Clogged = Some verdict.Clogged
verdict_of Jammed = Some verdict.Jammed
verdict_of Enough = None
verdict_of Stopped = None
