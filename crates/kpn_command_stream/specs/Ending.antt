-- What a stream has come to.
use Rattle.std.specs.Prelude.{◌≡◌, Bool, Option, Some, None}
use Rattle.kpn_history.specs.Waiting.{waits_of}
use Rattle.kpn_deadlock.specs.Told.{AreRings}
use Rattle.kpn_book.specs.Book.{Book}
use Rattle.kpn_book.specs.declared.outcome.Limits.{Limits}
use Rattle.kpn_book.specs.declared.outcome.Outcome.{Outcome}
use Rattle.kpn_book.specs.Outcomes.{IsOutcome}
use Rattle.kpn_stream.specs.Closing.{AreClosed}
use Rattle.kpn_stream.specs.declared.ending.StreamEnding.{StreamEnding}
use Rattle.kpn_stream.specs.declared.ending.StreamEnding.TheVariants as ending
use Rattle.kpn_command_stream.specs.declared.ending.Over.{Over}
use Rattle.kpn_command_stream.specs.Summary.{AreSinkEnds}
use Rattle.kpn_command_stream.specs.Counters.{AreCountsIf}

-- the outcome of a stream, and its book then: if it rests, all its sources are closed before
abbrev pub IsOutcomeAt : Limits → StreamEnding → (before : Book) → Option Outcome → (after : Book) → Type 0
IsOutcomeAt limits (ending.Outcome outcome) before told after = (told ≡ Some outcome) × (after ≡ before)
IsOutcomeAt limits ending.Resting before told after =
    AreClosed before after × IsOutcome after.tables after.history after.commits limits told
IsOutcomeAt limits other before told after = (told ≡ None) × (after ≡ before)

-- what is told of a stream: of its sinks, and of its channels if they are asked for, before sources are closed that
-- nobody reads, and the rest afterwards. Its rings are those of its history
pub record IsOver (limits : Limits) (stats : Bool) (ending : StreamEnding) (b : Book) (over : Over) : Type 0 where
  pub sinks : AreSinkEnds b over.sinks.items
  pub channels : AreCountsIf stats b over.channels.items
  pub after : Book
  pub outcome : IsOutcomeAt limits ending b over.outcome after
  pub history : over.history.events ≡ after.history
  pub states : over.states ≡ after.schedule.states
  pub rings : AreRings after.tables (waits_of after.tables after.history) over.rings
