-- How many items a channel has to hold for its puts to have these ticks.
use Rattle.std.specs.Prelude.{ℕ, ◌+◌, ◌-◌, max, nat_lt, List, [], ◌∷◌, drop, length, take_while}
use Rattle.kpn_ticks.specs.Ticks.{Clocks, written_of, read_of}

-- how many of these reads, in order, have ticks before this one
abbrev pub reads_before : (tick : ℕ) → (reads : List ℕ) → ℕ
reads_before tick reads = length (take_while (λ read. nat_lt read tick) reads)

-- the most items that lie unread, with those that lie there at first. Each put adds one, and before it the reads of
-- earlier ticks have made room
abbrev pub most_held : (held : ℕ) → (written reads : List ℕ) → ℕ
most_held held [] reads = 0
most_held held (tick ∷ written) reads =
    let gone = reads_before tick reads in
    let now = held + 1 - gone in
    max now (most_held now written (drop gone reads))

-- the capacity with which the puts on a channel have the ticks that they have
abbrev pub capacity_needed : Clocks → (c : ℕ) → ℕ
capacity_needed s c = max (most_held 0 (written_of s c) (read_of s c)) 1
