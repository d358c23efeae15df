-- The ring of a channel: the unread items, in places of which some are free.
use Rattle.std.specs.Prelude.{◌≡◌, ℕ, ◌<◌, ◌≤◌, ◌+◌, ◌*◌, ℤ, Bool, true, false, nat_lt, List, ◌++◌, length, drop, max, Option, Some, None, ⊤}
use Rattle.std.specs.Option.{unwrap_or}
use Rattle.circular_buffer.specs.Buffer.{Buffer, buffer}
use Rattle.kpn_chan.specs.declared.chunks.Chunks.{Chunks}
use Rattle.kpn_chan.specs.declared.channel.TheConstants.{FIRST_PLACES}
use Rattle.kpn_chan.specs.Chunks.{all_of, IsChunks, HasNext}

-- one more item fits, as it always does if there is no ring
abbrev pub has_place : Option (Buffer ℤ) → Bool
has_place None = true
has_place (Some ring) = nat_lt (length ring.items) ring.capacity

-- the ring has the items of the journal that are not read
abbrev pub HoldsUnread : {A : Type 0} → Chunks A → (read : ℕ) → Option (Buffer ℤ) → Type 0
HoldsUnread journal read None = ⊤
HoldsUnread journal read (Some ring) = ring.items ≡ drop read (all_of journal)

-- for how many unread items there was made room: for what fills the channel, if it was ever made roomy
abbrev pub made_for : (is_wide : Bool) → (capacity : Option ℕ) → ℕ
made_for false capacity = 0
made_for true capacity = unwrap_or capacity 0

-- no more items are unread than the most so far, and there is memory for some items and at most twice the most or those
-- for which there was made room
abbrev pub IsWithin : Option (Buffer ℤ) → (most made : ℕ) → Type 0
IsWithin None most made = ⊤
IsWithin (Some ring) most made = (length ring.items ≤ most) × (ring.capacity ≤ FIRST_PLACES + 2 * max most made)

-- there are places for as many unread items as fill the channel
abbrev pub HasPlaces : Option (Buffer ℤ) → (capacity : Option ℕ) → Type 0
HasPlaces None capacity = ⊤
HasPlaces (Some ring) capacity = unwrap_or capacity 0 ≤ ring.capacity

-- this many items may leave a ring, and these enter it after the others
abbrev pub MayPass : (taken : ℕ) → List ℤ → Option (Buffer ℤ) → Type 0
MayPass taken items None = ⊤
MayPass taken items (Some ring) =
    (taken ≤ length ring.items + length items)
    × (0 < length items → length ring.items + length items ≤ ring.capacity + taken)

-- a ring once they have
abbrev pub passed_through : (taken : ℕ) → List ℤ → Option (Buffer ℤ) → Option (Buffer ℤ)
passed_through taken items None = None
passed_through taken items (Some ring) = Some (buffer (drop taken (ring.items ++ items)) ring.capacity)

-- items can be joined without memory
pub record IsRoomy {A : Type 0} (journal : Chunks A) (ring : Option (Buffer ℤ)) (capacity : Option ℕ) : Type 0 where
  pub next : journal.keeps ≡ true → HasNext journal
  pub places : HasPlaces ring capacity

-- how a channel is laid out in memory
pub record IsLaidOut {A : Type 0} (journal : Chunks A) (read : ℕ) (ring : Option (Buffer ℤ)) (capacity : Option ℕ)
    (most : ℕ) (is_roomy is_wide : Bool) : Type 0 where
  pub chunks : IsChunks journal
  pub place : read ≤ length (all_of journal)
  pub unread : HoldsUnread journal read ring
  pub within : IsWithin ring most (made_for is_wide capacity)
  pub roomy : is_roomy ≡ true → IsRoomy journal ring capacity
