-- What processes wait for, and cycles of waiting processes. The rule is this project's own, after Geilen and Basten
-- 2003: each process waits on one channel, which has one other end, so it waits for at most one process.
use Rattle.std.specs.Prelude.{◌≡◌, ℕ, ◌<◌, ◌≤◌, ◌⊎◌, List, [], ◌∷◌, length, Option, Some, None, Contains, slice_index_or}
use Rattle.std.specs.List.{filter_map, range_with_len}
use Rattle.kpn_net.specs.declared.wait.Wait.{Wait}
use Rattle.kpn_net.specs.declared.wait.Wait.TheVariants.{Nobody, Empty, Full}
use Rattle.kpn_net.specs.declared.tables.End.{End}
use Rattle.kpn_net.specs.declared.tables.End.TheVariants.{Process, Source, Sink}
use Rattle.kpn_net.specs.Tables.{Tables, writer_of, reader_of}

-- the wait of a process in a wait table
abbrev pub wait_at : List Wait → ℕ → Wait
wait_at waits p = slice_index_or waits p Nobody

-- process p waits on a channel of its own: on an empty one that it reads, or on a full one that it writes
abbrev pub IsOwnWait : Tables → (p : ℕ) → Wait → Type 0
IsOwnWait t p Nobody = Unit {0}
IsOwnWait t p (Empty c) = reader_of t c ≡ Process p
IsOwnWait t p (Full c) = writer_of t c ≡ Process p

-- a wait for each process, on a channel of its own
pub record AreWaits (t : Tables) (waits : List Wait) : Type 0 where
  pub one_each : length waits ≡ length t.instances
  pub own : (p : ℕ) → p < length t.instances → IsOwnWait t p (wait_at waits p)

-- ---- cycles of waiting processes

-- the process at an end of a channel, if there is one
abbrev pub process_at : End → Option ℕ
process_at (Process p) = Some p
process_at Source = None
process_at Sink = None

-- the process that a wait is for: on an empty channel its writer, on a full one its reader, if that is a process
abbrev pub awaited : Tables → Wait → Option ℕ
awaited t Nobody = None
awaited t (Empty c) = process_at (writer_of t c)
awaited t (Full c) = process_at (reader_of t c)

-- the channel that the process waits on as full
abbrev pub full_channel : Wait → Option ℕ
full_channel Nobody = None
full_channel (Empty c) = None
full_channel (Full c) = Some c

-- one process waits for another
pub record WaitsFor (t : Tables) (waits : List Wait) (p q : ℕ) : Type 0 where
  pub awaited : awaited t (wait_at waits p) ≡ Some q

-- p waits for the first of these, each of them for the next, and the last of all for q
abbrev pub WaitInTurn : Tables → List Wait → (p : ℕ) → List ℕ → (q : ℕ) → Type 0
WaitInTurn t waits p [] q = WaitsFor t waits p q
WaitInTurn t waits p (r ∷ rest) q = WaitsFor t waits p r × WaitInTurn t waits r rest q

-- no two are the same
abbrev pub AreDistinct : List ℕ → Type 0
AreDistinct [] = Unit {0}
AreDistinct (p ∷ rest) = (¬ Contains rest p) × AreDistinct rest

-- a cycle through p: distinct processes, p first and then the others, each of which waits for the next, and the last
-- for p
pub record IsCycle (t : Tables) (waits : List Wait) (p : ℕ) (others : List ℕ) : Type 0 where
  pub distinct : AreDistinct (p ∷ others)
  pub in_turn : WaitInTurn t waits p others p

-- the full channels of a cycle: those on which its members wait as full
abbrev pub full_channels : List Wait → List ℕ → List ℕ
full_channels waits members = filter_map (λ p. full_channel (wait_at waits p)) members

-- the channels on which processes wait as full
abbrev pub awaited_as_full : Tables → List Wait → List ℕ
awaited_as_full t waits = full_channels waits (range_with_len 0 (length t.instances))

-- the smallest of these channels: the one of least capacity, on a tie that of least number
pub record IsSmallest (cap : ℕ → ℕ) (channels : List ℕ) (c : ℕ) : Type 0 where
  pub among : Contains channels c
  pub least : (d : ℕ) → Contains channels d → (cap c < cap d) ⊎ ((cap c ≡ cap d) × (c ≤ d))

-- a search for the smallest of these channels finds this: the smallest, or none if there are no channels
abbrev pub FindsSmallest : (cap : ℕ → ℕ) → (channels : List ℕ) → Option ℕ → Type 0
FindsSmallest cap channels None = channels ≡ []
FindsSmallest cap channels (Some c) = IsSmallest cap channels c
