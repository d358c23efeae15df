-- How a stream ends, and what is true then.
use Rattle.std.specs.Prelude.{◌≡◌, ℕ, Bool, true, false, ◌⊎◌, List, count_by, is_some, Option, Some, None}
use Rattle.std.specs.List.{filter}
use Rattle.kpn_net.specs.declared.tables.ChannelSpec.{ChannelSpec}
use Rattle.kpn_net.specs.Tables.{Tables, channel_at, is_source, is_sink}
use Rattle.kpn_net.specs.Faults.{channel_numbers}
use Rattle.kpn_history.specs.declared.event.Event.{Event}
use Rattle.kpn_history.specs.Views.{is_ready}
use Rattle.kpn_history.specs.Channels.{is_closed, is_empty, is_left}
use Rattle.kpn_history.specs.Ends.{HaveStopped, IsSettled}
use Rattle.kpn_machine.specs.Woken.{waiting_reader}
use Rattle.kpn_book.specs.Book.{Book}
use Rattle.kpn_book.specs.declared.outcome.Limits.{Limits}
use Rattle.kpn_book.specs.Outcomes.{IsOutcome}
use Rattle.kpn_stream.specs.declared.faults.SourceFault.{SourceFault}
use Rattle.kpn_stream.specs.declared.faults.SinkFault.{SinkFault}
use Rattle.kpn_stream.specs.declared.ending.StreamEnding.{StreamEnding}
use Rattle.kpn_stream.specs.declared.ending.StreamEnding.TheVariants.{Outcome, Resting, Left, Halted, NoMemory, SourceFailed, SinkFailed}

-- the channels that are ends of this kind, in order of number
abbrev pub end_numbers : (ChannelSpec → Bool) → Tables → List ℕ
end_numbers is_end t = filter (λ c. is_end (channel_at t c)) (channel_numbers t)

-- a source is closed, or no process waits for its item
abbrev pub IsUnwanted : Book → (c : ℕ) → Type 0
IsUnwanted b c =
    (is_closed b.history c ≡ true) ⊎ (is_some (waiting_reader b.tables b.machine.waits c) ≡ false)

-- no process is ready, and each has ended or waits, but none for an item of an open source. The run has not stopped,
-- since some source is open
pub record IsResting (b : Book) : Type 0 where
  pub nobody_ready : count_by is_ready b.schedule.states ≡ 0
  pub unwanted : (c : ℕ) → is_source (channel_at b.tables c) ≡ true → IsUnwanted b c
  pub stopped : HaveStopped b.tables b.history
  pub unsettled : ¬ IsSettled b.tables b.history

-- there is a sink
abbrev pub HasSink : Tables → Type 0
HasSink t = (c : ℕ) × (is_sink (channel_at t c) ≡ true)

-- each sink was left
abbrev pub AreLeft : Tables → List Event → Type 0
AreLeft t H = (c : ℕ) → is_sink (channel_at t c) ≡ true → is_left H c ≡ true

-- nothing is unread on this sink, or it was left
abbrev pub IsSinkTaken : List Event → (c : ℕ) → Type 0
IsSinkTaken H c = (is_empty H c ≡ true) ⊎ (is_left H c ≡ true)

-- all that came to the sinks was taken
abbrev pub AreTaken : Tables → List Event → Type 0
AreTaken t H = (c : ℕ) → is_sink (channel_at t c) ≡ true → IsSinkTaken H c

-- a stream leaves nothing unread on a sink that was not left, unless the device of a sink has failed
abbrev pub LeavesNothing : StreamEnding → Book → Type 0
LeavesNothing (SinkFailed c fault) b = Unit {0}
LeavesNothing ending b = AreTaken b.tables b.history

-- the run has come to no outcome under these limits
abbrev pub HasNoOutcome : Limits → Book → Type 0
HasNoOutcome limits b = IsOutcome b.tables b.history b.commits limits None

-- what an ending says of the book
abbrev pub IsEnding : Limits → StreamEnding → Book → Type 0
IsEnding limits (Outcome outcome) b = IsOutcome b.tables b.history b.commits limits (Some outcome)
IsEnding limits Resting b = IsResting b × HasNoOutcome limits b
IsEnding limits Left b = HasSink b.tables × AreLeft b.tables b.history × HasNoOutcome limits b
IsEnding limits Halted b = Unit {0}
IsEnding limits NoMemory b = Unit {0}
IsEnding limits (SourceFailed c fault) b = Unit {0}
IsEnding limits (SinkFailed c fault) b = Unit {0}

-- the watcher wanted the end
abbrev pub is_halted : Option StreamEnding → Bool
is_halted (Some Halted) = true
is_halted ending = false

-- the source whose device failed, if the stream has ended so
abbrev pub failed_source : Option StreamEnding → Option (ℕ × SourceFault)
failed_source (Some (SourceFailed c fault)) = Some (c, fault)
failed_source ending = None

-- the sink whose device failed
abbrev pub failed_sink : Option StreamEnding → Option (ℕ × SinkFault)
failed_sink (Some (SinkFailed c fault)) = Some (c, fault)
failed_sink ending = None
