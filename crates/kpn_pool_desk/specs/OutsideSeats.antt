-- What a seat that feeds a source, or takes from a sink, knows of its own calls.
use Rattle.std.specs.Prelude.{◌≡◌, ◌≢◌, ◌⊎◌, ◌<◌, ℕ, zero, suc, ℤ, Bool, true, false, List, [], ◌∷◌, ◌++◌, length, map, take, drop, slice_get, slice_set, Option, Some, None, IsTrue}
use Rattle.std.specs.List.{filter, remove, All}
use Rattle.kpn_lang.specs.Prefix.{IsPrefix}
use Rattle.kpn_net.specs.declared.tables.ChannelSpec.{ChannelSpec}
use Rattle.kpn_net.specs.Tables.{Tables, channel_at, is_sink}
use Rattle.kpn_net.specs.Faults.{channel_numbers}
use Rattle.kpn_chan.specs.Channel.{unread}
use Rattle.kpn_chan.specs.declared.unread.Unread.{Unread}
use Rattle.kpn_chan.specs.declared.unread.Unread.TheVariants as unread_as
use Rattle.kpn_history.specs.declared.event.Event.{Event}
use Rattle.kpn_history.specs.declared.event.Event.TheVariants as event
use Rattle.kpn_machine.specs.Machine.{channel_in, AreKept}
use Rattle.kpn_book.specs.Book.{Book}
use Rattle.kpn_book.specs.Appending.{AllHappen}
use Rattle.kpn_book.specs.Refusals.{RefusesTake}
use Rattle.kpn_pool_desk.specs.declared.outside_seats.SnapFault.{SnapFault}
use Rattle.kpn_pool_desk.specs.declared.outside_seats.SnapFault.TheVariants as snap_fault
use Rattle.kpn_pool_desk.specs.declared.outside_seats.SnapFault.TheVariants.{Foreign, Forgotten}
use Rattle.kpn_book.specs.declared.answers.Refused.{Refused}
use Rattle.kpn_book.specs.declared.answers.Refused.TheVariants.{NoMemory, NoSuchEnd, SourceClosed, Full, SinkLeft}

-- ---- a seat

-- the number of the channel, the items that were fed or taken, in order, and how many of them, from the first one on,
-- the seat has forgotten
pub record EndSeat : Type 0 where
  pub channel : ℕ
  pub items : List ℤ
  pub forgotten : ℕ

-- nothing was fed or taken yet
abbrev pub new_end : ℕ → EndSeat
new_end channel = record { channel = channel; items = []; forgotten = 0 }

-- one for each channel of a network that is a source, or a sink, in order of number
abbrev pub new_ends : (ChannelSpec → Bool) → Tables → List EndSeat
new_ends is_end t = filter (λ s. is_end (channel_at t s.channel)) (map new_end (channel_numbers t))

-- one item more
abbrev pub with_new_item : ℤ → EndSeat → EndSeat
with_new_item item s = record s { items = s.items ++ item ∷ [] }

-- the item that was taken, if one was
abbrev pub with_taken : Option ℤ → EndSeat → EndSeat
with_taken None s = s
with_taken (Some item) s = with_new_item item s

-- the items that the seat can still tell: all of them, if it was never told to forget
abbrev pub kept_by : EndSeat → List ℤ
kept_by s = drop s.forgotten s.items

-- the seat has forgotten all its items
abbrev pub forgetful : EndSeat → EndSeat
forgetful s = record s { forgotten = length s.items }

-- the seat of this channel is one of these, and the others stay in their order
pub record GivesSeat (channel : ℕ) (seat : EndSeat) (before after : List EndSeat) : Type 0 where
  pub is : seat.channel ≡ channel
  pub place : ℕ
  pub there : slice_get before place ≡ Some seat
  pub others : after ≡ remove before place

-- none of these seats is that of this channel
abbrev pub HasNoSeat : (channel : ℕ) → List EndSeat → Type 0
HasNoSeat channel seats = All (λ seat. seat.channel ≢ channel) seats

-- ---- many items in one call

-- The items that the seat has more than before are recorded in the book, each by its event, in order. `follow` says
-- that these events follow in the book: nothing else happens there, or nothing but the growths that are owed.
pub record AreRecorded (follow : List Event → Book → Book → Type 0) (event_of : ℕ → ℤ → Event) (before after : EndSeat)
    (b b_after : Book) : Type 0 where
  pub more : List ℤ
  pub items : after.items ≡ before.items ++ more
  pub events : follow (map (event_of before.channel) more) b b_after

-- the seat has the first ones of these items more than before, and the next one is refused
pub record FeedsUntil (items : List ℤ) (before after : EndSeat) (refuses : ℤ → Type 0) : Type 0 where
  pub count : ℕ
  pub fed : after.items ≡ before.items ++ take count items
  pub item : ℤ
  pub next : slice_get items count ≡ Some item
  pub refused : refuses item

-- the same channel, and the items that the seat had, perhaps followed by more; it has forgotten no more of them
pub record TakesMore (before after : EndSeat) : Type 0 where
  pub channel : after.channel ≡ before.channel
  pub items : IsPrefix before.items after.items
  pub forgotten : after.forgotten ≡ before.forgotten

-- the items that the seat has more than before were the first unread ones of its sink; it has forgotten no more of them
pub record TakesFirst (before after : EndSeat) (b b_after : Book) : Type 0 where
  pub channel : after.channel ≡ before.channel
  pub forgotten : after.forgotten ≡ before.forgotten
  pub recorded : AreRecorded AllHappen event.Take before after b b_after
  pub first : unread (channel_in b.machine before.channel)
      ≡ recorded.more ++ unread (channel_in b_after.machine before.channel)

-- the same seats, each with the items that it had and perhaps more
abbrev pub HaveTaken : (before after : List EndSeat) → Type 0
HaveTaken [] [] = Unit {0}
HaveTaken (x ∷ xs) (y ∷ ys) = TakesMore x y × HaveTaken xs ys
HaveTaken xs ys = ⊥

-- the seat took all that was unread at its sink
pub record TakesAll (before after : EndSeat) (b b_after : Book) : Type 0 where
  pub first : TakesFirst before after b b_after
  pub none_left : unread (channel_in b_after.machine before.channel) ≡ []

-- the first `count` of these seats, in order, took all that was unread at their sinks, and nothing else has happened
abbrev pub TakeInTurn : (count : ℕ) → (before after : List EndSeat) → Book → Book → Type 0
TakeInTurn zero before after b b_after = (after ≡ before) × (b_after ≡ b)
TakeInTurn (suc count) (x ∷ xs) (y ∷ ys) b b_after =
    (between : Book) × TakesAll x y b between × TakeInTurn count xs ys between b_after
TakeInTurn (suc count) xs ys b b_after = ⊥

-- the first `count` did, and the take from the next one is refused for this cause, which has taken what it could
pub record TakeUntil (before after : List EndSeat) (b b_after : Book) (cause : Refused) : Type 0 where
  pub count : ℕ
  pub seats : List EndSeat
  pub between : Book
  pub turns : TakeInTurn count before seats b between
  pub seat : EndSeat
  pub there : slice_get seats count ≡ Some seat
  pub taken : EndSeat
  pub first : TakesFirst seat taken between b_after
  pub refused : RefusesTake seat.channel b_after cause
  pub after_is : after ≡ slice_set seats count taken

-- each of these seats is that of a sink of the network
abbrev pub AreSinks : Tables → List EndSeat → Type 0
AreSinks t seats = All (λ (seat : EndSeat). is_sink (channel_at t seat.channel) ≡ true) seats

-- ---- why a call of the outside may be refused, whatever has happened: `is_there` says whether the network has a
-- source, or a sink, with its number

-- feeding this item to a source
abbrev pub MayRefuseFeed : (is_there : Bool) → ℤ → Refused → Type 0
MayRefuseFeed is_there item NoSuchEnd = is_there ≡ false
MayRefuseFeed is_there item SourceClosed = is_there ≡ true
MayRefuseFeed is_there item (Full v) = (is_there ≡ true) × (v ≡ item)
MayRefuseFeed is_there item NoMemory = is_there ≡ true
MayRefuseFeed is_there item other = ⊥

-- closing a source, or leaving a sink
abbrev pub MayRefuseEnd : (is_there : Bool) → Refused → Type 0
MayRefuseEnd is_there NoSuchEnd = is_there ≡ false
MayRefuseEnd is_there NoMemory = is_there ≡ true
MayRefuseEnd is_there other = ⊥

-- taking from a sink
abbrev pub MayRefuseTake : (is_there : Bool) → Refused → Type 0
MayRefuseTake is_there NoSuchEnd = is_there ≡ false
MayRefuseTake is_there SinkLeft = is_there ≡ true
MayRefuseTake is_there NoMemory = is_there ≡ true
MayRefuseTake is_there other = ⊥

-- taking from the sinks of these seats, one after the other: the take from one of them is refused
pub record MayRefuseTakes (t : Tables) (seats : List EndSeat) (cause : Refused) : Type 0 where
  pub place : ℕ
  pub seat : EndSeat
  pub there : slice_get seats place ≡ Some seat
  pub refused : MayRefuseTake (is_sink (channel_at t seat.channel)) cause

-- the journal of the channel of a seat is kept, and begins with what the seat fed
abbrev pub HasFed : EndSeat → Book → Type 0
HasFed seat b =
    let channel = channel_in b.machine seat.channel in
    IsTrue channel.is_kept × IsPrefix seat.items channel.journal

-- a snapshot for a seat that has fed these items to a source: if the seat is of another run, it has fed something, or
-- has no such source
abbrev pub MayRefuseSnapshot : (is_there : Bool) → (fed : List ℤ) → SnapFault → Type 0
MayRefuseSnapshot is_there fed Foreign = is_there ≡ true → fed ≢ []
MayRefuseSnapshot is_there fed Forgotten = is_there ≡ true
MayRefuseSnapshot is_there fed snap_fault.NoMemory = is_there ≡ true

-- the fault of a snapshot for which a run can't be read for this reason
abbrev pub fault_of : Unread → SnapFault
fault_of unread_as.Forgotten = Forgotten
fault_of unread_as.NoMemory = snap_fault.NoMemory

-- the seat has forgotten something, or the journal of a channel is not kept
abbrev pub IsForgotten : EndSeat → Book → Type 0
IsForgotten seat b = (0 < seat.forgotten) ⊎ (¬ AreKept b.machine)
