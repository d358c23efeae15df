-- What a region of a network knows while it runs by itself: the frames of its processes, and of each channel the items
-- that it was handed and those that it has put.
use Rattle.std.specs.Prelude.{◌≡◌, ℕ, ◌+◌, ◌<◌, max, ℤ, Bool, true, false, IsTrue, List, [], ◌∷◌, ◌++◌, length, take, drop, Option, Some, slice_get, slice_index_or, slice_set}
use Rattle.kpn_net.specs.Tables.{Tables, program_of}
use Rattle.kpn_step.specs.declared.stop.Stop.{Stop}
use Rattle.kpn_step.specs.Frame.{Frame, fits}
use Rattle.kpn_step.specs.Stops.{IsAdvance, advanced_of}
use Rattle.kpn_history.specs.declared.event.Event.{Event}
use Rattle.kpn_history.specs.declared.event.Event.TheVariants.{Get, Put, Take}
use Rattle.kpn_machine.specs.Machine.{no_frame}
use Rattle.kpn_machine.specs.Changes.{PassesRead, PassesWrite}

-- ---- a side

-- a channel, as far as the region sees it
pub record SideState : Type 0 where
  -- the items that were claimed, oldest first, and then those that the region has put
  pub items : List ℤ
  -- how many of them were claimed
  pub claimed : ℕ
  -- how many of them were taken
  pub taken : ℕ
  -- how many may be there that are not taken
  pub room : ℕ
  -- whether it is a sink that the region empties
  pub is_drained : Bool
  -- the most items that were there and not taken when the region had put one; 0 if it has put none
  pub most : ℕ

-- a channel of which the region sees nothing
abbrev pub no_side : SideState
no_side = record { items = []; claimed = 0; taken = 0; room = 0; is_drained = false; most = 0 }

-- a channel as it was claimed
abbrev pub claimed_with : List ℤ → (room : ℕ) → (is_drained : Bool) → SideState
claimed_with items room is_drained =
    record { items = items; claimed = length items; taken = 0; room = room; is_drained = is_drained; most = 0 }

-- the items that are there and not taken, oldest first
abbrev pub untaken : SideState → List ℤ
untaken s = drop s.taken s.items

-- the item that is taken next
abbrev pub next_of : SideState → Option ℤ
next_of s = slice_get s.items s.taken

-- one item more is taken
abbrev pub with_next_taken : SideState → SideState
with_next_taken s = record s { taken = s.taken + 1 }

-- one item more is put
abbrev pub with_item_put : ℤ → SideState → SideState
with_item_put v s = record s { items = s.items ++ v ∷ []; most = max s.most (length (untaken s) + 1) }

-- the channel when it was claimed
abbrev pub as_claimed : SideState → SideState
as_claimed s = record s { items = take s.claimed s.items; taken = 0; most = 0 }

-- ---- a local state

-- which processes are in the region, the frame of each process, and each channel; of what is not in the region the
-- state says nothing
pub record Local : Type 0 where
  pub within : List Bool
  pub frames : List Frame
  pub sides : List SideState

abbrev pub is_in_region : Local → (p : ℕ) → Bool
is_in_region s p = slice_index_or s.within p false

abbrev pub frame_at : Local → (p : ℕ) → Frame
frame_at s p = slice_index_or s.frames p no_frame

abbrev pub side_at : Local → (c : ℕ) → SideState
side_at s c = slice_index_or s.sides c no_side

abbrev pub with_local_frame : (p : ℕ) → Frame → Local → Local
with_local_frame p f s = record s { frames = slice_set s.frames p f }

abbrev pub with_side : (c : ℕ) → SideState → Local → Local
with_side c side s = record s { sides = slice_set s.sides c side }

-- it has an entry for each process and for each channel of the network, and the frames are frames of their programs
pub record IsLocal (t : Tables) (s : Local) : Type 0 where
  pub within : length s.within ≡ length t.instances
  pub frames : length s.frames ≡ length t.instances
  pub sides : length s.sides ≡ length t.channels
  pub fit : (p : ℕ) → p < length t.instances → IsTrue (fits (program_of t p) (frame_at s p))

-- ---- what changes it

-- process p goes on from its frame by steps between its events
pub record Advances (t : Tables) (before after : Local) : Type 0 where
  pub process : ℕ
  pub within : is_in_region before process ≡ true
  pub to : Frame
  pub steps : ℕ
  pub stop : Stop
  pub advance : IsAdvance (advanced_of (program_of t process) (frame_at before process) to steps stop)
  pub there : after ≡ with_local_frame process to before

-- process p, which is at a read from channel c, takes the next item there, which is v, and goes past the read with it
pub record RegionGets (t : Tables) (p c : ℕ) (v : ℤ) (before after : Local) : Type 0 where
  pub within : is_in_region before p ≡ true
  pub channel : c < length before.sides
  pub item : next_of (side_at before c) ≡ Some v
  pub to : Frame
  pub passes : PassesRead t p c v (frame_at before p) to
  pub there : after ≡ with_local_frame p to (with_side c (with_next_taken (side_at before c)) before)

-- process p, which is at a write of v to channel c, where there is room, puts it there and goes past the write
pub record RegionPuts (t : Tables) (p c : ℕ) (v : ℤ) (before after : Local) : Type 0 where
  pub within : is_in_region before p ≡ true
  pub channel : c < length before.sides
  pub room : length (untaken (side_at before c)) < (side_at before c).room
  pub to : Frame
  pub passes : PassesWrite t p c v (frame_at before p) to
  pub there : after ≡ with_local_frame p to (with_side c (with_item_put v (side_at before c)) before)

-- the caller takes the next item of channel c, which is v and a sink that the region empties
pub record RegionTakes (c : ℕ) (v : ℤ) (before after : Local) : Type 0 where
  pub channel : c < length before.sides
  pub drained : (side_at before c).is_drained ≡ true
  pub item : next_of (side_at before c) ≡ Some v
  pub there : after ≡ with_side c (with_next_taken (side_at before c)) before

-- the event changes the first state into the second
abbrev pub LocalStep : Tables → Event → (before after : Local) → Type 0
LocalStep t (Get p c v) before after = RegionGets t p c v before after
LocalStep t (Put p c v) before after = RegionPuts t p c v before after
LocalStep t (Take c v) before after = RegionTakes c v before after
LocalStep t event before after = ⊥

-- these events lead from the first state to this one, with steps of the processes between them
pub data Plays (t : Tables) (first : Local) : List Event → Local → Type 0 where
  no_event : Plays t first [] first
  steps_on : {events : List Event} (before after : Local) → Plays t first events before
      → Advances t before after → Plays t first events after
  one_event_more : {events : List Event} (before after : Local) (event : Event) → Plays t first events before
      → LocalStep t event before after → Plays t first (events ++ event ∷ []) after
