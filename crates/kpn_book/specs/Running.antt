-- Scaffolding: what the code keeps while it runs a network by itself. Only contracts of private functions use it.
use Rattle.std.specs.Prelude.{◌≡◌, ◌≢◌, ◌↔◌, ℕ, ◌+◌, ◌<◌, ◌≤◌, Bool, true, false, IsTrue, ℤ, List, [], ◌∷◌, ◌++◌, length, take, slice_index_or, Option, Some, None}
use Rattle.kpn_lang.specs.Prefix.{IsPrefix}
use Rattle.kpn_net.specs.Tables.{Tables, channel_at, is_source, is_sink}
use Rattle.kpn_net.specs.Process.{Family}
use Rattle.kpn_history.specs.declared.event.Event.{Event}
use Rattle.kpn_history.specs.declared.event.Event.TheVariants as event
use Rattle.kpn_history.specs.declared.state.View.{View}
use Rattle.kpn_history.specs.Channels.{written_on, read_on, is_closed, is_left}
use Rattle.kpn_book.specs.declared.answers.Done.{Done}
use Rattle.kpn_book.specs.declared.answers.Done.TheVariants as done
use Rattle.kpn_book.specs.Book.{Book, held_count}
use Rattle.kpn_book.specs.Stepping.{StepsNext}
use Rattle.kpn_book.specs.declared.outcome.Limits.{Limits}
use Rattle.kpn_book.specs.declared.outcome.Outcome.{Outcome}
use Rattle.kpn_book.specs.Outcomes.{IsEnough, IsOutcome}
use Rattle.kpn_book.specs.RunHere.{IsTurn, Turns}
use Rattle.kpn_book.specs.Remembering.{RemembersAsMuch}

-- ---- the sources are fed

-- these items were fed to source c, and nothing else has happened except that it may be closed
pub record IsSupplied (c : ℕ) (items : List ℤ) (before after : Book) : Type 0 where
  pub tables : after.tables ≡ before.tables
  pub held : held_count after ≡ held_count before
  pub here : written_on after.history c ≡ written_on before.history c ++ items
  pub elsewhere : (d : ℕ) → d ≢ c → written_on after.history d ≡ written_on before.history d
  pub closed : (d : ℕ) → is_closed before.history d ≡ true → is_closed after.history d ≡ true
  pub commits : after.commits ≡ before.commits

-- the sources with a number below k were fed their lists and are closed, and nothing else was written or committed, and
-- no sink left
pub record IsFedBelow (t : Tables) (given : Family) (k : ℕ) (b : Book) : Type 0 where
  pub tables : b.tables ≡ t
  pub nobody_held : held_count b ≡ 0
  pub fed : (c : ℕ) → c < k → is_source (channel_at t c) ≡ true → written_on b.history c ≡ given c
  pub closed : (c : ℕ) → c < k → is_source (channel_at t c) ≡ true → is_closed b.history c ≡ true
  pub later : (c : ℕ) → k ≤ c → written_on b.history c ≡ []
  pub not_closed : (c : ℕ) → k ≤ c → is_closed b.history c ≡ false
  pub others : (c : ℕ) → is_source (channel_at t c) ≡ false → written_on b.history c ≡ []
  pub stays : (c : ℕ) → is_left b.history c ≡ false
  pub commits : b.commits ≡ 0

-- ---- the processes are stepped

-- the outside has nothing to do: each source is closed, and all that was written on a sink was read. Nobody is held
pub record IsLeftToItself (b : Book) : Type 0 where
  pub nobody_held : held_count b ≡ 0
  pub closed : (c : ℕ) → is_source (channel_at b.tables c) ≡ true → is_closed b.history c ≡ true
  pub all_read : (c : ℕ) → is_sink (channel_at b.tables c) ≡ true
      → length (written_on b.history c) ≤ length (read_on b.history c)

-- the first process of the queue is claimed, makes no more steps than the quota, and is committed
abbrev pub IsFrontStepped : (quota : ℕ) → (before after : Book) → Type 0
IsFrontStepped quota before after = (answer : Done) × StepsNext quota answer before after

-- the same run, later, of which as much is kept; no sink was left
pub record IsLater (before after : Book) : Type 0 where
  pub tables : after.tables ≡ before.tables
  pub history : IsPrefix before.history after.history
  pub stays : (c : ℕ) → is_left before.history c ≡ false → is_left after.history c ≡ false
  pub keeps : RemembersAsMuch before after

-- a step that answers so has put an item
abbrev pub has_put : Option Done → Bool
has_put (Some done.Put) = true
has_put answer = false

-- a step has put an item on a channel, and nothing else has come
pub record HasPut (before after : Book) : Type 0 where
  pub process : ℕ
  pub channel : ℕ
  pub item : ℤ
  pub history : after.history ≡ before.history ++ event.Put process channel item ∷ []

-- a step has put an item on this sink, and nothing else has come
pub record HasPutOn (c : ℕ) (before after : Book) : Type 0 where
  pub sink : is_sink (channel_at before.tables c) ≡ true
  pub process : ℕ
  pub item : ℤ
  pub history : after.history ≡ before.history ++ event.Put process c item ∷ []

-- a commit was made, and nobody is held
pub record IsCommitted (before after : Book) : Type 0 where
  pub later : IsLater before after
  pub commits : after.commits ≡ before.commits + 1
  pub nobody_held : held_count after ≡ 0

-- of sinks as much was written and read
pub record KeepsSinks (before after : Book) : Type 0 where
  pub written : (c : ℕ) → is_sink (channel_at before.tables c) ≡ true
      → written_on after.history c ≡ written_on before.history c
  pub read : (c : ℕ) → is_sink (channel_at before.tables c) ≡ true
      → read_on after.history c ≡ read_on before.history c

-- what a step has done to the sinks, by whether it has put an item
abbrev pub sinks_after : (put : Bool) → (before after : Book) → Type 0
sinks_after true before after = HasPut before after
sinks_after false before after = KeepsSinks before after

-- of one sink at most one item more was read, of the others none
pub record ReadsOneMore (t : Tables) (sink : ℕ) (before after : List Event) : Type 0 where
  pub here : length (read_on after sink) ≤ length (read_on before sink) + 1
  pub elsewhere : (c : ℕ) → is_sink (channel_at t c) ≡ true → c ≢ sink
      → length (read_on after c) ≡ length (read_on before c)

-- a step and what the outside takes after it: a turn, if it was made in the order of the queue
pub record IsStepped (limits : Limits) (in_order enough : Bool) (before after : Book) : Type 0 where
  pub turn : in_order ≡ true → IsTurn limits.quota before after
  pub later : IsLater before after
  pub commits : after.commits ≡ before.commits + 1
  pub to_itself : IsLeftToItself after
  pub decides : IsTrue enough ↔ IsEnough after.tables after.history limits.take

-- turns, at least one, that have not gone beyond the limit of the commits
pub record AreStepped (limits : Limits) (in_order enough : Bool) (before after : Book) : Type 0 where
  pub made : in_order ≡ true → (first : Book) (n : ℕ) → Turns limits first n before
      → (m : ℕ) × Turns limits first m after
  pub later : IsLater before after
  pub further : before.commits < after.commits
  pub within : after.commits ≤ limits.commits
  pub to_itself : IsLeftToItself after
  pub decides : IsTrue enough ↔ IsEnough after.tables after.history limits.take

-- the run has come to this outcome by turns, in the order of the queue or in any, and its commits have not gone beyond
-- their limit
pub record ComesToOutcome (limits : Limits) (in_order : Bool) (outcome : Outcome) (before after : Book) : Type 0 where
  pub made : in_order ≡ true → (turns : ℕ) × Turns limits before turns after
  pub later : IsLater before after
  pub nobody_held : held_count after ≡ 0
  pub comes_to : IsOutcome after.tables after.history after.commits limits (Some outcome)
  pub within : before.commits ≤ limits.commits → after.commits ≤ limits.commits

-- ---- the report is written

-- the first items of a journal in a view, as many as were read of it
abbrev pub first_read : {A : Type 0} → View A → (c : ℕ) → List ℤ
first_read view c = take (slice_index_or view.read c 0) (slice_index_or view.journals c [])

-- no more of a journal in a view was read than was written
abbrev pub ReadsWithin : {A : Type 0} → View A → (c : ℕ) → Type 0
ReadsWithin view c = slice_index_or view.read c 0 ≤ length (slice_index_or view.journals c [])
