-- Steps in a row, made in place one after another, until one has put an item on a sink.
use Rattle.std.specs.Prelude.{◌≡◌, ◌≢◌, ℕ, ◌+◌, ◌<◌, ◌≤◌, ◌⊎◌, true, false, ℤ, [], ◌∷◌, ◌++◌, slice_get, Option, Some, None}
use Rattle.kpn_net.specs.Tables.{channel_at, is_sink}
use Rattle.kpn_step.specs.declared.stop.Stop.TheVariants as stop
use Rattle.kpn_step.specs.Stops.{Advanced, IsAdvance, IsWithinQuota}
use Rattle.kpn_history.specs.declared.event.Event.TheVariants as event
use Rattle.kpn_book.specs.declared.answers.Done.{Done}
use Rattle.kpn_book.specs.declared.answers.Done.TheVariants as done
use Rattle.kpn_book.specs.Book.{Book, standing_at}
use Rattle.kpn_book.specs.Commits.{IsOwnAdvance}
use Rattle.kpn_book.specs.Kept.{IsBook}
use Rattle.kpn_book.specs.Stepping.{StepsNext}

-- a step with this answer has put an item on a channel, which is a sink
pub record PutsOnSink (c : ℕ) (answer : Done) (before after : Book) : Type 0 where
  pub put : answer ≡ done.Put
  pub sink : is_sink (channel_at before.tables c) ≡ true
  pub process : ℕ
  pub item : ℤ
  pub history : after.history ≡ before.history ++ event.Put process c item ∷ []

-- if a step with this answer has put an item on a channel, that is no sink
abbrev pub PutsOnNoSink : Done → (before after : Book) → Type 0
PutsOnNoSink done.Put before after =
    (p c : ℕ) (v : ℤ) → after.history ≡ before.history ++ event.Put p c v ∷ []
    → is_sink (channel_at before.tables c) ≡ false
PutsOnNoSink other before after = Unit {0}

-- the sink on which a step with this answer has put an item, if it has
abbrev pub puts_on : Option ℕ → Done → (before after : Book) → Type 0
puts_on (Some c) answer before after = PutsOnSink c answer before after
puts_on None answer before after = PutsOnNoSink answer before after

-- one step of a row
pub record IsStepInRow (quota : ℕ) (sink : Option ℕ) (before after : Book) : Type 0 where
  pub was : IsBook before
  pub is : IsBook after
  pub answer : Done
  pub steps : StepsNext quota answer before after
  pub puts : puts_on sink answer before after

-- this many steps lead from the first book to this one, and none has put an item on a sink
pub data StepsInRow (quota : ℕ) (first : Book) : ℕ → Book → Type 0 where
  no_step : StepsInRow quota first 0 first
  one_step_more : {n : ℕ} (before after : Book) → StepsInRow quota first n before
      → IsStepInRow quota None before after → StepsInRow quota first (n + 1) after

-- one step more, which has put an item on this sink, or none
abbrev pub ends_row : (quota : ℕ) → Option ℕ → (before after : Book) → Type 0
ends_row quota (Some c) before after = IsStepInRow quota (Some c) before after
ends_row quota None before after = after ≡ before

-- at most this many steps in a row, of which only the last may have put an item on a sink, namely on this one. At least
-- one is made if a process is ready
pub record RunsInRow (quota most : ℕ) (sink : Option ℕ) (before after : Book) : Type 0 where
  pub steps : ℕ
  pub last : Book
  pub row : StepsInRow quota before steps last
  pub ends : ends_row quota sink last after
  pub within : after.commits ≤ before.commits + most
  pub some : ((before.schedule.queue ≡ []) → ⊥) → 0 < most → before.commits < after.commits

-- the first process of the queue has made these steps, at most the quota, and they were not committed: nothing else has
-- changed, and it stays the first
pub record StepsUncommitted (quota : ℕ) (before after : Book) : Type 0 where
  pub process : ℕ
  pub first : slice_get before.schedule.queue 0 ≡ Some process
  pub advance : Advanced
  pub own : IsOwnAdvance before process advance
  pub advances : IsAdvance advance
  pub within : IsWithinQuota quota advance
  pub wants : advance.stop ≢ stop.Paused
  pub there : after ≡ standing_at process advance.to before

-- memory ran out after a number of steps in a row, fewer than there may be, of which none has put an item on a sink:
-- the book is that of the last step, or the process whose turn it then is has made its steps
pub record RunsInVain (quota most : ℕ) (before after : Book) : Type 0 where
  pub steps : ℕ
  pub last : Book
  pub row : StepsInRow quota before steps last
  pub fewer : steps < most
  pub commits : after.commits ≡ before.commits + steps
  pub ends : (after ≡ last) ⊎ StepsUncommitted quota last after
