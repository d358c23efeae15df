-- Kahn's iteration and the least solution of a network. In Kahn 1974 the streams of a network are the least solution of
-- its processes' equations. It is the limit of repeated rounds from empty streams.
use Rattle.std.specs.Prelude.{◌≡◌, ℕ, zero, suc, true, false, if◌then◌else◌, nat_eq, ℤ, List, [], ◌∷◌, map, take, count_by, slice_index, slice_index_or, slice_get, Some, ◌<◌}
use Rattle.kpn_lang.specs.declared.talk.Said.{Said}
use Rattle.kpn_lang.specs.declared.talk.Said.TheVariants.{Got, Put}
use Rattle.kpn_lang.specs.Prefix.{IsPrefix}
use Rattle.kpn_net.specs.declared.tables.End.{End}
use Rattle.kpn_net.specs.declared.tables.End.TheVariants.{Process, Source, Sink}
use Rattle.kpn_net.specs.Tables.{Tables, channel_at, is_source, writer_of}
use Rattle.kpn_net.specs.Faults.{channel_numbers}
use Rattle.kpn_net.specs.Process.{Family, out_of}

-- what an end writes on a channel when the processes run on a family: a process puts its items, the caller none
abbrev pub written_by : Tables → (n : ℕ) → Family → (c : ℕ) → End → List ℤ
written_by t n X c (Process p) = out_of t p n X c
written_by t n X c Source = []
written_by t n X c Sink = []

-- the given list on a source, else the other one
abbrev pub given_or : Tables → Family → Family → Family
given_or t given other c = if is_source (channel_at t c) then given c else other c

-- round 0: the given lists on sources and the empty list elsewhere
abbrev pub first_round : Tables → Family → Family
first_round t given = given_or t given (λ c. [])

-- the next round: the given lists on sources and on each other channel what its writer puts there on the round before
abbrev pub next_round : Tables → Family → (n : ℕ) → Family → Family
next_round t given n X = given_or t given (λ c. written_by t n X c (writer_of t c))

-- round k, if each loop that a process enters has n turns
abbrev pub round : Tables → Family → (n k : ℕ) → Family
round t given n zero = first_round t given
round t given n (suc k) = next_round t given n (round t given n k)

-- the n-th iterate: round n with n turns
abbrev pub iterate : Tables → Family → (n : ℕ) → Family
iterate t given n = round t given n n

-- on each source, the given list is a prefix of the other given list
pub record IsPrefixOnSources (t : Tables) (given more : Family) : Type 0 where
  pub each : (c : ℕ) → is_source (channel_at t c) ≡ true → IsPrefix (given c) (more c)

-- the same lists are given on the sources
pub record AgreeOnSources (t : Tables) (given other : Family) : Type 0 where
  pub each : (c : ℕ) → is_source (channel_at t c) ≡ true → given c ≡ other c

-- ---- the least solution for the given lists

-- the list is a prefix of the least solution at a channel
pub record IsBelowLeast (t : Tables) (given : Family) (c : ℕ) (xs : List ℤ) : Type 0 where
  pub turns : ℕ
  pub below : IsPrefix xs (iterate t given turns c)

-- the list is the least solution at a channel
pub record IsLeast (t : Tables) (given : Family) (c : ℕ) (xs : List ℤ) : Type 0 where
  pub below : IsBelowLeast t given c xs
  pub above : (n : ℕ) → IsPrefix (iterate t given n c) xs

-- the family has the given lists on the sources; on each other channel it contains what its writer puts there on the
-- family itself, with any number of turns
pub record IsClosed (t : Tables) (given : Family) (X : Family) : Type 0 where
  pub fed : (c : ℕ) → is_source (channel_at t c) ≡ true → X c ≡ given c
  pub contains : (n c : ℕ) → is_source (channel_at t c) ≡ false → IsPrefix (written_by t n X c (writer_of t c)) (X c)

-- ---- lists of lists

-- how many sources there are
abbrev pub sources : Tables → ℕ
sources t = count_by is_source t.channels

-- a list for each source, in order of channel number, as a family; before the list of a source come as many lists as
-- there are sources before it
abbrev pub given_by : Tables → List (List ℤ) → Family
given_by t lists c = slice_index_or lists (count_by is_source (take c t.channels)) []

-- the lists of a family, in order of channel number
abbrev pub lists_of : Tables → Family → List (List ℤ)
lists_of t X = map X (channel_numbers t)

-- ---- scaffolding: what the code's loop over a talk keeps

-- the items that a talk puts on a channel, if these are the channels at its out ports
abbrev pub put_on : (outs : List ℕ) → List Said → (c : ℕ) → List ℤ
put_on outs [] c = []
put_on outs (Got port v ∷ talk) c = put_on outs talk c
put_on outs (Put port v ∷ talk) c =
    if nat_eq (slice_index outs port) c then v ∷ put_on outs talk c else put_on outs talk c

-- each item is put at an out port below this number
abbrev pub NamesOutsBelow : ℕ → List Said → Type 0
NamesOutsBelow outs talk = (k : ℕ) (port : ℕ) (v : ℤ) → slice_get talk k ≡ Some (Put port v) → port < outs
