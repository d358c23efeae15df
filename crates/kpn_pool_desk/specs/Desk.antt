-- What lies under the lock of a run, and what holds of it whenever the lock is free.
use Rattle.std.specs.Prelude.{◌≡◌, ◌≤◌, ◌<◌, ◌+◌, ◌-◌, ℕ, Bool, true, false, [], min, max, count_by, Option, Some, None}
use Rattle.std.specs.Int.{div_ceil}
use Rattle.kpn_net.specs.Tables.{Tables}
use Rattle.kpn_history.specs.declared.keeping.Keeping.{Keeping}
use Rattle.kpn_history.specs.Ends.{IsSettled}
use Rattle.kpn_history.specs.Views.{is_ready}
use Rattle.kpn_book.specs.Book.{Book}
use Rattle.kpn_book.specs.Kept.{IsBook}
use Rattle.kpn_book.specs.Remembering.{Remembers}
use Rattle.kpn_pool_desk.specs.declared.phases.NextMove.{NextMove}
use Rattle.kpn_pool_desk.specs.declared.phases.NextMove.TheVariants as next
use Rattle.kpn_pool_desk.specs.declared.seat.Why.{Why}
use Rattle.kpn_pool_desk.specs.declared.seat.Why.TheVariants.{Halted, Settled, Limit}
use Rattle.kpn_pool_desk.specs.declared.taking.Takers.{Takers}
use Rattle.kpn_pool_desk.specs.declared.taking.Takers.TheVariants.{Seats}

-- the book of the run, the total of the ledger in which commits are counted, the mark that the workers have to end, how
-- many workers there are, how many of them have not ended, and who takes what comes to the sinks
pub record Desk : Type 0 where
  pub book : Book
  pub total : ℕ
  pub halts : Bool
  pub workers : ℕ
  pub working : ℕ
  pub takers : Takers

-- a desk of the run of a network by this many workers: the book is one of this network, and keeps what it was told to
-- keep, and the total is the number of its commits
pub record IsDesk (t : Tables) (count : ℕ) (keeping : Keeping) (d : Desk) : Type 0 where
  pub network : d.book.tables ≡ t
  pub book : IsBook d.book
  pub remembers : Remembers keeping d.book
  pub counted : d.total ≡ d.book.commits
  pub workers : d.workers ≡ count

-- a desk of a run in which nothing has happened yet, with all its workers
pub record IsOpened (d : Desk) : Type 0 where
  pub nothing : d.book.history ≡ []
  pub on : d.halts ≡ false
  pub all : d.working ≡ d.workers
  pub takers : d.takers ≡ Seats

-- ---- what a worker claims

-- how many processes are ready
abbrev pub ready_in : Book → ℕ
ready_in b = count_by is_ready b.schedule.states

-- how many processes a worker claims of this many that are ready
abbrev pub share_of : (workers ready : ℕ) → ℕ
share_of workers ready = min (div_ceil ready workers) 8

-- how many of the ready processes one of this many workers claims
abbrev pub share_in : (workers : ℕ) → Book → ℕ
share_in workers b = share_of (max workers 1) (ready_in b)

-- ---- what changes it

-- the book becomes this one, and nothing else changes
abbrev pub with_book : Book → Desk → Desk
with_book book d = record d { book = book }

-- the book becomes this one with one commit more
abbrev pub with_commit : Book → Desk → Desk
with_commit book d = record d { book = book; total = d.total + 1 }

-- the book becomes this one, with this many commits in all
abbrev pub with_total : Book → (total : ℕ) → Desk → Desk
with_total book total d = record d { book = book; total = total }

-- these take what comes to the sinks
abbrev pub taken_by : Takers → Desk → Desk
taken_by takers d = record d { takers = takers }

-- the workers have to end
abbrev pub halted : Desk → Desk
halted d = record d { halts = true }

-- one worker more has ended
abbrev pub without_worker : Desk → Desk
without_worker d = record d { working = d.working - 1 }

-- who takes, how many workers there are and how many have not ended stay as they are
pub record KeepsWorkers (before after : Desk) : Type 0 where
  pub takers : after.takers ≡ before.takers
  pub workers : after.workers ≡ before.workers
  pub working : after.working ≡ before.working

-- ---- why a worker ends

-- the run goes on: the workers do not have to end, and something can still happen
pub record IsOngoing (d : Desk) : Type 0 where
  pub on : d.halts ≡ false
  pub unsettled : ¬ IsSettled d.book.tables d.book.history

-- why a worker ends instead of a claim, where this many commits are allowed: it has to; else the run is settled;
-- else the commits have reached that number
abbrev pub IsReason : Desk → (most : ℕ) → Option Why → Type 0
IsReason d most (Some Halted) = d.halts ≡ true
IsReason d most (Some Settled) = (d.halts ≡ false) × IsSettled d.book.tables d.book.history
IsReason d most (Some Limit) = IsOngoing d × (most ≤ d.book.commits)
IsReason d most (Some why) = ⊥
IsReason d most None = IsOngoing d × (d.book.commits < most)

-- what a worker does next, where this many commits are allowed: it ends exactly if there is a reason, and for that
abbrev pub EndsFor : Desk → (most : ℕ) → NextMove → Type 0
EndsFor d most (next.End why) = IsReason d most (Some why)
EndsFor d most other = IsReason d most None
