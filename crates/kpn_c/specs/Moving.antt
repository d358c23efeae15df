-- What one call does that feeds, steps and takes.
use Rattle.std.specs.Prelude.{◌≡◌, ℕ, ◌<◌, ◌-◌, ◌^◌, Bool, true, false, if◌then◌else◌, is_some, ℤ, pos, List, [], ◌∷◌, ◌++◌, length, map, take, drop, get_or, Option, Some, None}
use Rattle.kpn_history.specs.declared.event.Event.{Event}
use Rattle.kpn_history.specs.declared.event.Event.TheVariants as event
use Rattle.kpn_book.specs.declared.answers.Refused.{Refused}
use Rattle.kpn_book.specs.Book.{Book}
use Rattle.kpn_book.specs.Appending.{AllHappen}
use Rattle.kpn_book.specs.Refusals.{RefusesFeed, RefusesTake, Takes}
use Rattle.kpn_c.specs.declared.feeding.FedCount.{FedCount}
use Rattle.kpn_c.specs.declared.stepping.StepCount.{StepCount}
use Rattle.kpn_c.specs.declared.taking.Taken.{Taken}
use Rattle.kpn_c.specs.declared.moving.SourceItem.{SourceItem}
use Rattle.kpn_c.specs.declared.moving.Wanted.{Wanted}
use Rattle.kpn_c.specs.declared.moving.Moved.{Moved}
use Rattle.kpn_c.specs.Faults.{number_of_refusal}
use Rattle.kpn_c.specs.Calls.{StepsEach}

-- ---- feeding

abbrev pub feed_of : SourceItem → Event
feed_of i = event.Feed i.channel i.item

abbrev pub item_at : List SourceItem → ℕ → SourceItem
item_at items k = get_or items k (record { channel = 0; item = pos 0 })

-- all items were fed, or the next one was refused for this cause
abbrev pub feeds_unless : Option Refused → List SourceItem → (count : ℕ) → Book → Type 0
feeds_unless None items count after = count ≡ length items
feeds_unless (Some cause) items count after =
    (count < length items)
    × RefusesFeed (item_at items count).channel (item_at items count).item (2 ^ 64 - 1) after cause

-- the first items, as many as are told, were fed, each to its source, and then the feeds ended as is told
pub record FeedsItems (items : List SourceItem) (fed : FedCount) (before after : Book) : Type 0 where
  pub feeds : AllHappen (map feed_of (take fed.count items)) before after
  pub ends : feeds_unless fed.cause items fed.count after

-- ---- taking

abbrev pub wanted_at : List Wanted → ℕ → Wanted
wanted_at places k = get_or places k (record { channel = 0; item = pos 0; has_item = 0 })

-- a place with this item, or with the note that none was there
abbrev pub filled : Option ℤ → Wanted → Wanted
filled None w = record { channel = w.channel; item = w.item; has_item = 0 }
filled (Some v) w = record { channel = w.channel; item = v; has_item = 1 }

-- for each place in order the next item of its sink was taken, or nothing was unread there
pub data TakesForEach (first : Book) : (asked kept : List Wanted) → Book → Type 0 where
  no_take : TakesForEach first [] [] first
  one_take_more : {asked kept : List Wanted} (w : Wanted) (item : Option ℤ) (before after : Book)
      → TakesForEach first asked kept before → Takes w.channel item before after
      → TakesForEach first (asked ++ w ∷ []) (kept ++ filled item w ∷ []) after

-- all places were served, or the next take was refused for this cause
abbrev pub takes_unless : Option Refused → List Wanted → (count : ℕ) → Book → Type 0
takes_unless None asked count after = count ≡ length asked
takes_unless (Some cause) asked count after =
    (count < length asked) × RefusesTake (wanted_at asked count).channel after cause

-- the first places, as many as are told, were served, and the others are as before. Then the takes ended as is told
pub record TakesWanted (taken : Taken) (asked kept : List Wanted) (before after : Book) : Type 0 where
  pub takes : TakesForEach before (take taken.count asked) (take taken.count kept) after
  pub rest : drop taken.count kept ≡ drop taken.count asked
  pub long : length kept ≡ length asked
  pub ends : takes_unless taken.cause asked taken.count after

-- ---- all of it

-- turns were made, unless the call has ended before
abbrev pub steps_if : (goes_on : Bool) → (quota most : ℕ) → StepCount → (before after : Book) → Type 0
steps_if false quota most stepped before after =
    (stepped ≡ record { commits = 0; is_refused = false }) × (after ≡ before)
steps_if true quota most stepped before after = StepsEach quota most stepped before after

-- items were taken, unless the call has ended before
abbrev pub takes_if : (goes_on : Bool) → Taken → (asked kept : List Wanted) → (before after : Book) → Type 0
takes_if false taken asked kept before after =
    (taken ≡ record { count = 0; cause = None }) × (kept ≡ asked) × (after ≡ before)
takes_if true taken asked kept before after = TakesWanted taken asked kept before after

-- whether each item was fed
abbrev pub has_fed : Moved → Bool
has_fed moved = if is_some moved.fed.cause then false else true

-- whether besides no turn was refused
abbrev pub has_stepped : Moved → Bool
has_stepped moved = if is_some moved.fed.cause then false else (if moved.stepped.is_refused then false else true)

-- items were fed, turns were made and items were taken, one after the other, until something was refused
pub record Moves (items : List SourceItem) (quota most : ℕ) (moved : Moved) (asked kept : List Wanted)
    (before after : Book) : Type 0 where
  pub fed : Book
  pub stepped : Book
  pub feeds : FeedsItems items moved.fed before fed
  pub steps : steps_if (has_fed moved) quota most moved.stepped fed stepped
  pub takes : takes_if (has_stepped moved) moved.taken asked kept stepped after

-- the number of the first of two causes that is there, or 0
abbrev pub code_of_first : Option Refused → Option Refused → ℕ
code_of_first None None = 0
code_of_first None (Some cause) = number_of_refusal cause
code_of_first (Some cause) other = number_of_refusal cause

-- the number of what has ended the call, or 0
abbrev pub code_of_moved : Moved → ℕ
code_of_moved moved = if moved.stepped.is_refused then 42 else code_of_first moved.fed.cause moved.taken.cause
