-- What a worker does with a region between two holds of the lock.
use Rattle.std.specs.Prelude.{◌≡◌, ℕ, ◌*◌, ◌⊎◌, max, length, Bool, true, false, ℤ, List, Option, Some, None}
use Rattle.kpn_net.specs.Tables.{Tables}
use Rattle.kpn_region.specs.Batch.{Batch, RunsOn}
use Rattle.kpn_book.specs.declared.answers.Refused.{Refused}
use Rattle.kpn_book.specs.declared.answers.Refused.TheVariants as refused
use Rattle.kpn_book.specs.Book.{Book}
use Rattle.kpn_book.specs.RegionClaims.{ClaimsRegion}
use Rattle.kpn_book.specs.RegionCalls.{CommitsRegion, RefusesRegion}
use Rattle.kpn_book.specs.Refusals.{Takes}
use Rattle.kpn_book.specs.Regions.{batch_put_back}
use Rattle.kpn_pool_desk.specs.declared.phases.NextMove.{NextMove}
use Rattle.kpn_pool_desk.specs.declared.phases.NextMove.TheVariants as next
use Rattle.kpn_pool_desk.specs.declared.seat.Why.{Why}
use Rattle.kpn_pool_desk.specs.declared.seat.Why.TheVariants.{NoMemory}
use Rattle.kpn_pool_desk.specs.declared.taking.Takers.{Takers}
use Rattle.kpn_pool_desk.specs.declared.taking.Takers.TheVariants.{Seats, Workers}
use Rattle.kpn_pool_desk.specs.Desk.{Desk, EndsFor, KeepsWorkers, with_book}

-- the region in hand, if one is held
abbrev pub held_of : (is_held : Bool) → Option Batch → Option Batch
held_of true batch = batch
held_of false batch = None

-- whether regions empty their sinks: they do if the workers take
abbrev pub DrainsFor : Takers → (drains : Bool) → Type 0
DrainsFor Seats drains = drains ≡ false
DrainsFor (Workers wanted) drains = drains ≡ true

-- how many gets and puts a batch makes at most: 4,096, or 16 for each process of the network
abbrev pub most_events : Tables → ℕ
most_events t = max 4096 (16 * length t.instances)

-- a region is claimed for a batch
pub record ClaimsFor (takers : Takers) (batch : Batch) (before after : Book) : Type 0 where
  pub of : List ℕ
  pub drains : Bool
  pub drained : DrainsFor takers drains
  pub claims : ClaimsRegion of (most_events before.tables) drains batch before after

-- a worker claims a region, which it then has in hand
pub record ClaimsOne (takers : Takers) (hand : Option Batch) (before after : Book) : Type 0 where
  pub batch : Batch
  pub in_hand : hand ≡ Some batch
  pub claims : ClaimsFor takers batch before after

-- the region in hand runs by itself, and makes at most this many gets and puts
abbrev pub Runs : (before after : Option Batch) → Type 0
Runs None after = after ≡ None
Runs (Some batch) after = (run : Batch) × (after ≡ Some run)
    × RunsOn (most_events batch.tables) 0 batch run

-- a batch is committed, for all of whose processes there was memory or not; or it is refused for this cause, and its
-- processes are put back
abbrev pub CommitsOrPutsBack : (memory : Bool) → Refused → Batch → (before after : Book) → Type 0
CommitsOrPutsBack memory cause batch before after =
    CommitsRegion batch memory before after
    ⊎ (RefusesRegion batch before cause × (after ≡ batch_put_back batch before))

-- why a worker ends whose region is settled. One that does not agree with the book is put back, and the worker goes on
abbrev pub EndsSettled : Batch → Option Why → (before after : Desk) → Type 0
EndsSettled batch None before after =
    CommitsOrPutsBack true refused.Stranger batch before.book after.book × (after.halts ≡ before.halts)
EndsSettled batch (Some NoMemory) before after =
    CommitsOrPutsBack false refused.NoMemory batch before.book after.book × (after.halts ≡ true)
EndsSettled batch (Some why) before after = ⊥

-- the region in hand is settled
pub record SettlesRegion (hand : Option Batch) (why : Option Why) (before after : Desk) : Type 0 where
  pub batch : Batch
  pub in_hand : hand ≡ Some batch
  pub ends : EndsSettled batch why before after
  pub keeps : KeepsWorkers before after

-- takes from sinks lead from the first book to this one, if the workers take
pub data TakesOn (takers : Takers) (first : Book) : Book → Type 0 where
  no_take : TakesOn takers first first
  one_take_more : (before after : Book) (wanted : Option ℕ) (sink : ℕ) (item : ℤ) → takers ≡ Workers wanted
      → TakesOn takers first before → Takes sink (Some item) before after → TakesOn takers first after

-- after a region was settled, a worker ends if there is a reason for that; else it takes from the sinks, if the workers
-- take, and if it ends then, there is a reason too
abbrev pub GoesOnAfterRegion : (most : ℕ) → Option Why → NextMove → (between after : Desk) → Type 0
GoesOnAfterRegion most (Some why) then between after = (then ≡ next.End why) × (after ≡ between)
GoesOnAfterRegion most None then between after =
    TakesOn between.takers between.book after.book × (after ≡ with_book after.book between) × EndsFor after most then

-- a worker is back from its region: this is settled, and the worker goes on after that
pub record ComesBackFromRegion (most : ℕ) (hand : Option Batch) (then : NextMove) (before after : Desk) : Type 0 where
  pub why : Option Why
  pub between : Desk
  pub settles : SettlesRegion hand why before between
  pub goes_on : GoesOnAfterRegion most why then between after
