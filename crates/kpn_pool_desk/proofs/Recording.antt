-- The items that a seat feeds or takes in one call, and the events that record them in the book.
use Rattle.kpn_pool_desk.proofs.Common.{◌≡◌, ℕ, zero, suc, ◌+◌, ◌<◌, ◌≤◌, true, false, ℤ, pos, List, [], ◌∷◌, ◌++◌, length, map, take, drop, get_or, Option, Some, None, is_some, refl, sym, ap, ◌∙◌, subst, arith, append-nil, slice_get, slice_set, false≢true, append_assoc, map-append, slice_get-get_or, Tables, sink_there, ChannelState, next_item, unread, Event, channel_in, Book, Appends, AppendsAll, IsGrowthOwed, AllHappen, Takes, Desk, EndSeat, with_new_item, with_taken, AreRecorded, FeedsUntil, TakesFirst, TakesAll, TakeInTurn}
use Rattle.kpn_chan.proofs.Reading.{given, drop-given}
use Rattle.kpn_history.specs.declared.event.Event.TheVariants as event
use Rattle.kpn_history.proofs.OneMore.{item_here}

-- ---- some items, and then more

appends_more : (es fs : List Event) (a b c : Book) → AppendsAll es a b → AppendsAll fs b c → AppendsAll (es ++ fs) a c
appends_more [] fs a b c first rest = subst (λ x. AppendsAll fs x c) first rest
appends_more (e ∷ es) fs a b c first rest = (first.0, first.1, appends_more es fs first.0 b c first.2 rest)

happen_more : (es fs : List Event) (a b c : Book) → AllHappen es a b → AllHappen fs b c → AllHappen (es ++ fs) a c
happen_more [] fs a b c first rest = subst (λ x. AllHappen fs x c) first rest
happen_more (e ∷ es) fs a b c first rest = (first.0, first.1, happen_more es fs first.0 b c first.2 rest)

-- the same of events that follow, if some and then more are all
module _ (follow : List Event → Book → Book → Type 0)
    (more : (es fs : List Event) (a b c : Book) → follow es a b → follow fs b c → follow (es ++ fs) a c) where
  events_more : (event_of : ℕ → ℤ → Event) (m n : ℕ) (xs ys : List ℤ) (a b c : Book) → n ≡ m
      → follow (map (event_of m) xs) a b → follow (map (event_of n) ys) b c → follow (map (event_of m) (xs ++ ys)) a c
  events_more event_of m n xs ys a b c same first rest =
      subst (λ es. follow es a c) (sym (map-append (event_of m) xs ys))
      (more (map (event_of m) xs) (map (event_of m) ys) a b c first
      (subst (λ k. follow (map (event_of k) ys) b c) same rest))

items_more : (r s t : EndSeat) (xs ys : List ℤ) → s.items ≡ r.items ++ xs → t.items ≡ s.items ++ ys
    → t.items ≡ r.items ++ (xs ++ ys)
items_more r s t xs ys first rest = rest ∙ ap (λ zs. zs ++ ys) first ∙ append_assoc r.items xs ys

-- if a call is refused, the seat and the desk are as before
pub as_before : (P : EndSeat → Book → Type 0) (s t : EndSeat) (d e : Desk) → t ≡ s → e ≡ d → P s d.book → P t e.book
as_before P s t d e seat desk holds =
    subst (λ x. P x e.book) (sym seat) (subst (λ (x : Desk). P s x.book) (sym desk) holds)

-- ---- what is fed

-- one item more
pub fed_then : (r s t : EndSeat) (a b c : Book) (v : ℤ) → s.channel ≡ r.channel → t ≡ with_new_item v s
    → AreRecorded AppendsAll event.Feed r s a b → Appends (event.Feed s.channel v) b c
    → AreRecorded AppendsAll event.Feed r t a c
fed_then r s t a b c v same is so_far feeds = record {
  more = so_far.more ++ v ∷ [];
  items = items_more r s t so_far.more (v ∷ []) so_far.items (ap (λ (e : EndSeat). e.items) is);
  events =
      events_more AppendsAll appends_more event.Feed r.channel s.channel so_far.more (v ∷ []) a b c same so_far.events
      (c, feeds, refl);
}

-- the next item is refused, for a cause that depends on the channel, the item and the book
pub fed_until : (items : List ℤ) (r s t : EndSeat) (k : ℕ) (v : ℤ) (refuses : ℕ → ℤ → Book → Type 0) (d e : Desk)
    → k < length items → v ≡ get_or items k (pos 0) → s.channel ≡ r.channel → s.items ≡ r.items ++ take k items → t ≡ s
    → e ≡ d → refuses s.channel v d.book → FeedsUntil items r t (λ item. refuses r.channel item e.book)
fed_until items r s t k v refuses d e there is channel so_far seat desk refused = record {
  count = k;
  fed = ap (λ (x : EndSeat). x.items) seat ∙ so_far;
  item = v;
  next = slice_get-get_or items k (pos 0) there ∙ ap Some (sym is);
  refused =
      subst (λ n. refuses n v e.book) channel (subst (λ (x : Desk). refuses s.channel v x.book) (sym desk) refused);
}

-- ---- what is taken

-- an item that is taken was the first unread one
taken_first : (c : ℕ) (v : ℤ) (a b : Book) → c < length a.tables.channels
    → next_item (channel_in a.machine c) ≡ Some v → Appends (event.Take c v) a b
    → unread (channel_in a.machine c) ≡ v ∷ unread (channel_in b.machine c)
taken_first c v a b there next appends =
    let was : ChannelState = channel_in a.machine c in
    let is : ChannelState = channel_in b.machine c in
    let after = appends.machine.channels c there in
    let one = ap length (item_here c v) in
    let read = after.read in
    let more : is.read ≡ was.read + 1 = omega arith in
    let journal : is.journal ≡ was.journal = after.journal ∙ append-nil was.journal in
    drop-given was.journal was.read v (given was.is_retired (slice_get (unread was) 0) v next)
    ∙ ap (λ xs. v ∷ xs)
    (ap (λ n. drop n was.journal) (sym more) ∙ ap (λ xs. drop is.read xs) (sym journal))

-- a growth leaves what is unread as it is
still_unread : (t : Tables) (H : List Event) (c : ℕ) (growth : List Event) (a b : Book) → IsGrowthOwed t H growth
    → c < length a.tables.channels → AppendsAll growth a b
    → unread (channel_in b.machine c) ≡ unread (channel_in a.machine c)
still_unread t H c [] a b owed there none = ap (λ (x : Book). unread (channel_in x.machine c)) none
still_unread t H c (event.Grow p d n ∷ []) a b owed there grows =
    let was : ChannelState = channel_in a.machine c in
    let is : ChannelState = channel_in grows.0.machine c in
    let after = grows.1.machine.channels c there in
    let read = after.read in
    let same : is.read ≡ was.read = omega arith in
    let journal : is.journal ≡ was.journal = after.journal ∙ append-nil was.journal in
    ap (λ (x : Book). unread (channel_in x.machine c)) grows.2
    ∙ ap (λ n. drop n is.journal) same ∙ ap (λ xs. drop was.read xs) journal
still_unread t H c growth a b owed there grows = absurd owed

-- what is taken was the first unread item
first_unread : (c : ℕ) (v : ℤ) (a b : Book) → Takes c (Some v) a b
    → unread (channel_in a.machine c) ≡ v ∷ unread (channel_in b.machine c)
first_unread c v a b takes =
    let there = sink_there a.tables c takes.sink.sink in
    let happens = takes.takes.1 in
    let between : Book = happens.appends.0 in
    let first = happens.appends.1 in
    let still_there : c < length between.tables.channels =
    subst (λ (t : Tables). c < length t.channels) (sym first.tables) there in
    let rest =
    still_unread a.tables (a.history ++ event.Take c v ∷ []) c happens.growth between b happens.owed still_there
    happens.appends.2 in
    taken_first c v a between there takes.takes.0 first ∙ ap (λ xs. v ∷ xs) (sym rest)

pub none_taken : (s : EndSeat) (b : Book) → TakesFirst s s b b
none_taken s b = record {
  channel = refl;
  forgotten = refl;
  recorded = record { more = []; items = sym (append-nil s.items); events = refl };
  first = refl;
}

pub taken_once : (item : Option ℤ) (s t : EndSeat) (a b : Book) → t ≡ with_taken item s → Takes s.channel item a b
    → TakesFirst s t a b
taken_once None s t a b is takes =
    subst (λ x. TakesFirst s x a b) (sym is) (subst (λ x. TakesFirst s s a x) (sym takes.takes.1) (none_taken s a))
taken_once (Some v) s t a b is takes = record {
  channel = ap (λ (e : EndSeat). e.channel) is;
  forgotten = ap (λ (e : EndSeat). e.forgotten) is;
  recorded = record {
    more = v ∷ [];
    items = ap (λ (e : EndSeat). e.items) is;
    events = (b, takes.takes.1, refl);
  };
  first = first_unread s.channel v a b takes;
}

pub taken_then : (r s t : EndSeat) (a b c : Book) → TakesFirst r s a b → TakesFirst s t b c → TakesFirst r t a c
taken_then r s t a b c first rest =
    let xs : List ℤ = first.recorded.more in
    let ys : List ℤ = rest.recorded.more in
    record {
      channel = rest.channel ∙ first.channel;
      forgotten = rest.forgotten ∙ first.forgotten;
      recorded = record {
        more = first.recorded.more ++ rest.recorded.more;
        items = items_more r s t xs ys first.recorded.items rest.recorded.items;
        events =
            events_more AllHappen happen_more event.Take r.channel s.channel xs ys a b c first.channel
            first.recorded.events
            rest.recorded.events;
      };
      first =
          first.first
          ∙ ap (λ zs. xs ++ zs)
          (subst (λ n. unread (channel_in b.machine n) ≡ ys ++ unread (channel_in c.machine n))
          first.channel rest.first)
          ∙ sym (append_assoc xs ys (unread (channel_in c.machine r.channel)));
    }

-- one call more, which takes an item or finds none
pub takes_on : (item : Option ℤ) (r s t : EndSeat) (a b c : Book) → TakesFirst r s a b → t ≡ with_taken item s
    → Takes s.channel item b c → TakesFirst r t a c
takes_on item r s t a b c so_far is takes = taken_then r s t a b c so_far (taken_once item s t b c is takes)

-- if an item was taken, less is left of the channel
pub less_left : (item : Option ℤ) (c : ℕ) (a b : Book) → Takes c item a b → is_some item ≡ true
    → length (unread (channel_in b.machine c)) < length (unread (channel_in a.machine c))
less_left (Some v) c a b takes some = let long = ap length (first_unread c v a b takes) in omega arith
less_left None c a b takes some = absurd (false≢true some)

-- the same, whatever seat names the channel
pub taken_less : (item : Option ℤ) (s t : EndSeat) (a b : Book) → t ≡ with_taken item s → Takes s.channel item a b
    → is_some item ≡ true
    → length (unread (channel_in b.machine t.channel)) < length (unread (channel_in a.machine s.channel))
taken_less item s t a b is takes some =
    subst (λ n. length (unread (channel_in b.machine n)) < length (unread (channel_in a.machine s.channel)))
    (sym (taken_once item s t a b is takes).channel) (less_left item s.channel a b takes some)

-- if none was taken, none is left
pub taken_last : (item : Option ℤ) (r s : EndSeat) (a b : Book) → s.channel ≡ r.channel → Takes s.channel item a b
    → is_some item ≡ false → unread (channel_in b.machine r.channel) ≡ []
taken_last None r s a b channel takes none =
    subst (λ n. unread (channel_in b.machine n) ≡ []) channel
    (ap (λ (x : Book). unread (channel_in x.machine s.channel)) takes.takes.1 ∙ takes.takes.0)
taken_last (Some v) r s a b channel takes none = absurd (false≢true (sym none))

-- nothing is left: all that was unread was taken
pub took_all : (r t : EndSeat) (a b : Book) → TakesFirst r t a b → unread (channel_in b.machine r.channel) ≡ []
    → t.items ≡ r.items ++ unread (channel_in a.machine r.channel)
took_all r t a b takes none =
    takes.recorded.items
    ∙ ap (λ xs. r.items ++ xs)
    (sym (takes.first ∙ ap (λ xs. takes.recorded.more ++ xs) none ∙ append-nil takes.recorded.more))

-- ---- many seats in turn

-- one seat more has taken all
turn_next : (i : ℕ) (before seats : List EndSeat) (s d : EndSeat) (b c e : Book) → i < length seats
    → TakeInTurn i before seats b c → TakesAll (get_or seats i d) s c e
    → TakeInTurn (suc i) before (slice_set seats i s) b e
turn_next zero before [] s d b c e below so_far all = absurd (omega (arith, below))
turn_next zero before (y ∷ ys) s d b c e below so_far all =
    subst (λ xs. TakeInTurn (suc zero) xs (s ∷ ys) b e) so_far.0
    (e, subst (λ x. TakesAll y s x e) so_far.1 all, (refl, refl))
turn_next (suc i) [] seats s d b c e below so_far all = absurd so_far
turn_next (suc i) (x ∷ xs) [] s d b c e below so_far all = absurd so_far
turn_next (suc i) (x ∷ xs) (y ∷ ys) s d b c e below so_far all =
    (so_far.0, so_far.1, turn_next i xs ys s d so_far.0 c e (omega (arith, below)) so_far.2 all)

pub turn_more : (i : ℕ) (before seats : List EndSeat) (s d : EndSeat) (b c e : Book) → i < length seats
    → TakeInTurn i before seats b c → TakesAll (get_or seats i d) s c e
    → TakeInTurn (i + 1) before (slice_set seats i s) b e
turn_more i before seats s d b c e below so_far all =
    let next : suc i ≡ i + 1 = omega arith in
    subst (λ n. TakeInTurn n before (slice_set seats i s) b e) next
    (turn_next i before seats s d b c e below so_far all)

-- no more seats than there are
pub turned_within : (i : ℕ) (before seats : List EndSeat) (b c : Book) → TakeInTurn i before seats b c
    → i ≤ length before
turned_within zero before seats b c so_far = omega arith
turned_within (suc i) [] seats b c so_far = absurd so_far
turned_within (suc i) (x ∷ xs) [] b c so_far = absurd so_far
turned_within (suc i) (x ∷ xs) (y ∷ ys) b c so_far =
    let rest = turned_within i xs ys so_far.0 c so_far.2 in
    omega (arith, rest)
