-- What calls with slices do to a book.
use Rattle.std.specs.Prelude.{◌≡◌, ◌↔◌, ℕ, ◌+◌, ◌-◌, ◌^◌, ◌<◌, ◌≤◌, ◌⊎◌, Bool, true, false, ℤ, pos, List, [], length, map, take, drop, get_or, Option, Some, None}
use Rattle.kpn_history.specs.Complete.{IsComplete}
use Rattle.kpn_chan.specs.Channel.{unread}
use Rattle.kpn_history.specs.declared.event.Event.TheVariants as event
use Rattle.kpn_machine.specs.Machine.{channel_in}
use Rattle.kpn_book.specs.declared.answers.Done.{Done}
use Rattle.kpn_book.specs.declared.answers.Refused.{Refused}
use Rattle.kpn_book.specs.Book.{Book}
use Rattle.kpn_book.specs.Appending.{AllHappen}
use Rattle.kpn_book.specs.Refusals.{IsOpenSource, RefusesFeed, IsOpenSink, RefusesTake}
use Rattle.kpn_book.specs.Stepping.{ClaimsNobody, StepsNext, StepsInVain}
use Rattle.kpn_c.specs.declared.feeding.FedCount.{FedCount}
use Rattle.kpn_c.specs.declared.stepping.StepCount.{StepCount}
use Rattle.kpn_c.specs.declared.taking.Taken.{Taken}

-- ---- feeding

-- all items were fed, and the source was open, also if there were none; or the next one was refused for this cause
abbrev pub feeds_all_unless : Option Refused → (source : ℕ) → List ℤ → (count : ℕ) → (before after : Book) → Type 0
feeds_all_unless None source items count before after = (count ≡ length items) × IsOpenSource before source
feeds_all_unless (Some cause) source items count before after =
    RefusesFeed source (get_or items count (pos 0)) (2 ^ 64 - 1) after cause

-- the first items, as many as are told, were fed to a source, and then the feed ended as is told
pub record FeedsEach (source : ℕ) (items : List ℤ) (fed : FedCount) (before after : Book) : Type 0 where
  pub feeds : AllHappen (map (event.Feed source) (take fed.count items)) before after
  pub within : fed.count ≤ length items
  pub ends : feeds_all_unless fed.cause source items fed.count before after

-- ---- stepping

-- this many turns lead from the first book to this one. In each turn the front of the queue is claimed, makes no more
-- steps than the quota, and is committed
pub data TurnsFrom (quota : ℕ) (first : Book) : ℕ → Book → Type 0 where
  no_turn : TurnsFrom quota first 0 first
  one_turn_more : {n : ℕ} (before after : Book) (answer : Done) → TurnsFrom quota first n before
      → StepsNext quota answer before after → TurnsFrom quota first (n + 1) after

-- why no more turns were made: they were as many as they may be, or no process can be claimed. Or else memory ran out
-- in the next turn
abbrev pub stops_by : (is_refused : Bool) → (quota most made : ℕ) → (last after : Book) → Type 0
stops_by false quota most made last after = (after ≡ last) × ((made ≡ most) ⊎ ClaimsNobody last)
stops_by true quota most made last after = StepsInVain quota last after

-- as many turns as are told were made, and no more than may be
pub record StepsEach (quota most : ℕ) (stepped : StepCount) (before after : Book) : Type 0 where
  pub last : Book
  pub turns : TurnsFrom quota before stepped.commits last
  pub within : stepped.commits ≤ most
  pub stops : stops_by stepped.is_refused quota most stepped.commits last after

-- ---- taking

-- there is no more room, or nothing is unread, and the sink was not left, also if there was no room; or else the next
-- take was refused for this cause
abbrev pub takes_all_unless : Option Refused → (sink : ℕ) → (room count : ℕ) → (before after : Book) → Type 0
takes_all_unless None sink room count before after =
    IsOpenSink before sink × ((count ≡ room) ⊎ (unread (channel_in after.machine sink) ≡ []))
takes_all_unless (Some cause) sink room count before after = RefusesTake sink after cause

-- as many items as are told were taken from a sink. They stand at the front of the slice, and the rest of the slice is
-- as before
pub record TakesEach (sink : ℕ) (taken : Taken) (room kept : List ℤ) (before after : Book) : Type 0 where
  pub takes : AllHappen (map (event.Take sink) (take taken.count kept)) before after
  pub rest : drop taken.count kept ≡ drop taken.count room
  pub long : length kept ≡ length room
  pub within : taken.count ≤ length room
  pub ends : takes_all_unless taken.cause sink (length room) taken.count before after

-- ---- complete channels

-- whether the channel is complete, or that no channel has this number
abbrev pub TellsCompleteness : (channel : ℕ) → Option Bool → Book → Type 0
TellsCompleteness channel None b = length b.tables.channels ≤ channel
TellsCompleteness channel (Some told) b =
    (channel < length b.tables.channels) × ((told ≡ true) ↔ IsComplete b.tables b.history channel)
