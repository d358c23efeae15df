-- What a worker knows of its own work.
use Rattle.std.specs.Prelude.{◌≡◌, ◌<◌, ℕ, List, length, slice_get, Option, Some, None}
use Rattle.kpn_pool_desk.specs.declared.seat.Why.{Why}

-- its number, why it ended if it did, and how many commits it made
pub record Seat : Type 0 where
  pub number : ℕ
  pub why : Option Why
  pub commits : ℕ

-- a worker that has not worked yet
abbrev pub new_seat : ℕ → Seat
new_seat number = record { number = number; why = None; commits = 0 }

-- the worker has ended, for this reason
abbrev pub ended : Why → Seat → Seat
ended why s = record s { why = Some why }

abbrev pub with_commits : ℕ → Seat → Seat
with_commits commits s = record s { commits = commits }

-- one seat for each of this many workers, in order of number
pub record AreNewSeats (workers : ℕ) (seats : List Seat) : Type 0 where
  pub count : length seats ≡ workers
  pub each : (i : ℕ) → i < workers → slice_get seats i ≡ Some (new_seat i)
