-- A channel as contracts see it: a journal of every item that was put, of which the first ones were read. No change
-- fixes whether the next item is reserved: only a put may end a reservation, and the storage decides whether one comes
-- about. So each change takes, as an argument, whether an item is reserved after it.
use Rattle.std.specs.Prelude.{◌≡◌, ℕ, ◌+◌, ℤ, Bool, true, false, not, ◌&&◌, ◌||◌, nat_le, nat_eq, if◌then◌else◌, List, [], ◌∷◌, ◌++◌, length, take, drop, Option, Some, None, is_some, slice_get, IsSomeAnd, max, ◌<◌, ◌≤◌}
use Rattle.kpn_limits.specs.declared.TheConstants.{MAX_CAPACITY}
use Rattle.kpn_chan.specs.declared.chunks.TheConstants.{CHUNK, MOST_GONE}

pub record ChannelState : Type 0 where
  -- every item that was put, oldest first
  pub journal : List ℤ
  -- how many of them were read
  pub read : ℕ
  -- how many unread items fill the channel; none for a source
  pub capacity : Option ℕ
  -- whether the reader is gone
  pub is_retired : Bool
  -- whether the next item is sure of its room in memory
  pub is_reserved : Bool
  -- whether the journal is kept in memory
  pub is_kept : Bool
  -- the most items that were ever unread while the reader was there
  pub most : ℕ
  -- whether items can be joined without memory: there are places for as many unread items as fill the channel, and, if
  -- the journal is kept, for a chunk of items more. A source has no such places for unread items
  pub is_roomy : Bool
  -- whether it was ever made roomy: then there may be places for more items than were ever unread
  pub is_wide : Bool

-- the items that were read
abbrev pub already_read : ChannelState → List ℤ
already_read c = take c.read c.journal

-- the unread items, oldest first
abbrev pub unread : ChannelState → List ℤ
unread c = drop c.read c.journal

-- whether this many unread items fill a channel of this capacity
abbrev pub fills : ℕ → Option ℕ → Bool
fills count None = false
fills count (Some capacity) = nat_le capacity count

-- whether a writer has to wait: the reader is there, and the unread items have reached the capacity
abbrev pub is_channel_full : ChannelState → Bool
is_channel_full c = not c.is_retired && fills (length (unread c)) c.capacity

-- the item that a read returns: the oldest unread one, and none once the reader is gone
abbrev pub next_item : ChannelState → Option ℤ
next_item c = if c.is_retired then None else slice_get (unread c) 0

-- the item that a read returns after this many others
abbrev pub item_after : ℕ → ChannelState → Option ℤ
item_after k c = if c.is_retired then None else slice_get (unread c) k

-- the items that a reader may get: the unread ones, and none once the reader is gone
abbrev pub readable : ChannelState → List ℤ
readable c = if c.is_retired then [] else unread c

-- a channel on which nothing has happened yet
abbrev pub opened : Option ℕ → Bool → ChannelState
opened capacity reserved =
    record {
      journal = [];
      read = 0;
      capacity = capacity;
      is_retired = false;
      is_reserved = reserved;
      is_kept = true;
      most = 0;
      is_roomy = false;
      is_wide = false;
    }

-- the same channel, whose journal is kept only if this says so
abbrev pub opened_as : (keeps : Bool) → Option ℕ → Bool → ChannelState
opened_as keeps capacity reserved = record (opened capacity reserved) { is_kept = keeps }

-- the journal, if it is kept
abbrev pub kept_journal : ChannelState → List ℤ
kept_journal c = if c.is_kept then c.journal else []

-- the channel with room for its next item
abbrev pub with_room : ChannelState → ChannelState
with_room c = record c { is_reserved = true }

-- the most items that were ever unread once one more is put
abbrev pub most_after_put : ChannelState → ℕ
most_after_put c = if c.is_retired then c.most else max c.most (length (unread c) + 1)

-- the most items that were ever unread once these are put, of which there is at most one
abbrev pub most_after : List ℤ → ChannelState → ℕ
most_after [] c = c.most
most_after (item ∷ rest) c = most_after_put c

-- the channel after a put
abbrev pub after_put : ℤ → Bool → ChannelState → ChannelState
after_put item reserved c =
    record c { journal = c.journal ++ item ∷ []; is_reserved = reserved; most = most_after_put c }

-- the channel after a read that returned this
abbrev pub after_get : Option ℤ → Bool → ChannelState → ChannelState
after_get None reserved c = record c { is_reserved = reserved }
after_get (Some item) reserved c = record c { read = c.read + 1; is_reserved = reserved }

-- the channel whose reader is gone
abbrev pub retired : Bool → ChannelState → ChannelState
retired reserved c = record c { is_retired = true; is_reserved = reserved }

-- the channel has a capacity, which is below the greatest possible one
abbrev pub MayGrow : ChannelState → Type 0
MayGrow c = IsSomeAnd c.capacity (λ capacity. capacity < MAX_CAPACITY)

abbrev pub one_more : Option ℕ → Option ℕ
one_more None = None
one_more (Some capacity) = Some (capacity + 1)

-- the channel with a capacity larger by one
abbrev pub grown_by_one : Bool → ChannelState → ChannelState
grown_by_one reserved c = record c { capacity = one_more c.capacity; is_reserved = reserved; is_roomy = false }

-- the channel has a capacity below this one, which is at most the greatest possible one
abbrev pub MayGrowTo : (larger : ℕ) → ChannelState → Type 0
MayGrowTo larger c = IsSomeAnd c.capacity (λ capacity. capacity < larger) × (larger ≤ MAX_CAPACITY)

-- the channel with this capacity
abbrev pub grown_to : (larger : ℕ) → Bool → ChannelState → ChannelState
grown_to larger reserved c = record c { capacity = Some larger; is_reserved = reserved; is_roomy = false }

-- the channel with room for items that are joined to it
abbrev pub roomy : Bool → ChannelState → ChannelState
roomy reserved c = record c { is_reserved = reserved; is_roomy = true; is_wide = true }

-- the same channel, whose next item is reserved if this says so
abbrev pub with_reserved : Bool → ChannelState → ChannelState
with_reserved reserved c = record c { is_reserved = reserved }

-- whether this many items can be joined without memory; to a source none can, while its reader is there
abbrev pub has_places_for : ℕ → ChannelState → Bool
has_places_for count c =
    nat_eq count 0
    || (c.is_roomy
    && ((c.is_retired || is_some c.capacity) && (nat_le count CHUNK && nat_le (length c.journal + count) MOST_GONE)))

-- `taken` items may be counted as read and these be put, at once, if no more than `most` were unread meanwhile. There
-- are places for the items, and what is read was put. If the reader is there, what is unread is within the capacity
pub record MayJoin (taken : ℕ) (items : List ℤ) (most : ℕ) (c : ChannelState) : Type 0 where
  pub places : has_places_for (length items) c ≡ true
  pub written : c.read + taken ≤ length c.journal + length items
  pub within : c.is_retired ≡ false → 0 < length items → (capacity : ℕ) → c.capacity ≡ Some capacity
      → length (unread c) + length items ≤ capacity + taken
  pub seen : c.is_retired ≡ false → length (unread c) + length items ≤ max c.most most + taken

-- the most items that were ever unread, with those of a batch
abbrev pub most_with_batch : (most : ℕ) → ChannelState → ℕ
most_with_batch most c = if c.is_retired then c.most else max c.most most

-- the channel once this many items more are read, and these are put
abbrev pub batch_joined : (taken : ℕ) → List ℤ → (most : ℕ) → (reserved is_roomy : Bool) → ChannelState → ChannelState
batch_joined taken items most reserved is_roomy c =
    record c {
      journal = c.journal ++ items;
      read = c.read + taken;
      is_reserved = reserved;
      most = most_with_batch most c;
      is_roomy = is_roomy;
    }
