-- The seats of the outside, channel by channel, and item by item.
use Rattle.kpn_pool_desk.proofs.Common.{◌≡◌, ◌≢◌, ℕ, ◌+◌, ◌<◌, ◌≤◌, true, false, ℤ, pos, Bool, cond, List, [], ◌∷◌, ◌++◌, length, map, take, drop, get_or, zero, suc, refl, sym, ap, ◌∙◌, subst, arith, nat_lt, slice_set, ltb-false, take_more, take_all, append_assoc, All-more, slice_get-get_or, All, filter, range_with_len, Desk, with_book, Tables, channel_at, is_sink, Refused, EndSeat, kept_by, new_end, with_new_item, HasNoSeat, TakesMore, HaveTaken, AreSinks, MayRefuseTake, MayRefuseTakes, IsPrefix-refl, IsPrefix-trans}
use Rattle.std.proofs.lemmas.List.FromFn.{filter_of_map_range_with_len_more}

-- one channel more is looked at
pub one_more : (p : EndSeat → Bool) (c : ℕ) (seats now : List EndSeat)
    → seats ≡ filter p (map new_end (range_with_len 0 c))
    → now ≡ seats ++ cond (p (new_end c)) (new_end c ∷ []) []
    → now ≡ filter p (map new_end (range_with_len 0 (c + 1)))
one_more p c seats now before more =
    more ∙ ap (λ xs. xs ++ cond (p (new_end c)) (new_end c ∷ []) []) before
    ∙ sym (filter_of_map_range_with_len_more p new_end 0 c c (omega arith))

-- ---- one item more is fed

pub fed_more : (before s now : EndSeat) (items : List ℤ) (k : ℕ) (v : ℤ) → s.channel ≡ before.channel
    → s.items ≡ before.items ++ take k items → k < length items → v ≡ get_or items k (pos 0) → now ≡ with_new_item v s
    → (now.channel ≡ before.channel) × (now.items ≡ before.items ++ take (k + 1) items)
fed_more before s now items k v channel so_far there is fed = (
  ap (λ (e : EndSeat). e.channel) fed ∙ channel,
  ap (λ (e : EndSeat). e.items) fed ∙ ap (λ xs. xs ++ v ∷ []) so_far
      ∙ append_assoc before.items (take k items) (v ∷ [])
      ∙ ap (λ xs. before.items ++ xs)
      (ap (λ x. take k items ++ x ∷ []) is ∙ sym (take_more items k (pos 0) there)),
)

-- a desk whose book changes again
pub still_with_book : (a b d : Desk) → b ≡ with_book b.book a → d ≡ with_book d.book b → d ≡ with_book d.book a
still_with_book a b d first then = then ∙ ap (with_book d.book) first

-- ---- a seat that has forgotten nothing

zero_of : (n : ℕ) → nat_lt 0 n ≡ false → n ≡ 0
zero_of n none = let most = ltb-false 0 n none in omega (arith, most)

pub kept_all : (seat : EndSeat) → nat_lt 0 seat.forgotten ≡ false → kept_by seat ≡ seat.items
kept_all seat none = ap (λ n. drop n seat.items) (zero_of seat.forgotten none)

-- ---- many seats

pub takes_more : (a b c : EndSeat) → TakesMore a b → TakesMore b c → TakesMore a c
takes_more a b c first rest = record {
  channel = rest.channel ∙ first.channel;
  items = IsPrefix-trans a.items b.items c.items first.items rest.items;
  forgotten = rest.forgotten ∙ first.forgotten;
}

-- nothing is taken yet
pub none_taken : (seats : List EndSeat) → HaveTaken seats seats
none_taken [] = tt
none_taken (s ∷ seats) = (record { channel = refl; items = IsPrefix-refl s.items; forgotten = refl }, none_taken seats)

-- one seat takes more
pub taken_at : (before seats : List EndSeat) (i : ℕ) (s d : EndSeat) → i < length seats → HaveTaken before seats
    → TakesMore (get_or seats i d) s → HaveTaken before (slice_set seats i s)
taken_at [] (t ∷ seats) i s d below so_far more = absurd so_far
taken_at (b ∷ before) [] i s d below so_far more = absurd so_far
taken_at [] [] i s d below so_far more = absurd (omega (arith, below))
taken_at (b ∷ before) (t ∷ seats) zero s d below so_far more = (takes_more b t s so_far.0 more, so_far.1)
taken_at (b ∷ before) (t ∷ seats) (suc i) s d below so_far more =
    (so_far.0, taken_at before seats i s d (omega (arith, below)) so_far.1 more)

-- a seat that is looked at has the channel that it had
pub same_channel : (before seats : List EndSeat) (i : ℕ) (d : EndSeat) → i < length seats → HaveTaken before seats
    → (i < length before) × ((get_or seats i d).channel ≡ (get_or before i d).channel)
same_channel [] (t ∷ seats) i d below so_far = absurd so_far
same_channel (b ∷ before) [] i d below so_far = absurd so_far
same_channel [] [] i d below so_far = absurd (omega (arith, below))
same_channel (b ∷ before) (t ∷ seats) zero d below so_far = (omega arith, so_far.0.channel)
same_channel (b ∷ before) (t ∷ seats) (suc i) d below so_far =
    let rest = same_channel before seats i d (omega (arith, below)) so_far.1 in
    let there = rest.0 in
    (omega (arith, there), rest.1)

-- one seat more is that of a sink
pub sink_more : (t : Tables) (before seats : List EndSeat) (i : ℕ) (d : EndSeat) → i < length seats
    → HaveTaken before seats → AreSinks t (take i before)
    → is_sink (channel_at t (get_or seats i d).channel) ≡ true → AreSinks t (take (i + 1) before)
sink_more t before seats i d below so_far sinks sink =
    let same = same_channel before seats i d below so_far in
    All-more (λ (e : EndSeat). is_sink (channel_at t e.channel) ≡ true) before i d same.0 sinks
    (subst (λ n. is_sink (channel_at t n) ≡ true) same.1 sink)

pub same_count : (before seats : List EndSeat) → HaveTaken before seats → length before ≡ length seats
same_count [] [] so_far = refl
same_count [] (t ∷ seats) so_far = absurd so_far
same_count (b ∷ before) [] so_far = absurd so_far
same_count (b ∷ before) (t ∷ seats) so_far = ap suc (same_count before seats so_far.1)

-- all of them are
pub all_sinks : (t : Tables) (before seats : List EndSeat) (n : ℕ) → HaveTaken before seats → length seats ≤ n
    → AreSinks t (take n before) → AreSinks t before
all_sinks t before seats n so_far all sinks =
    let same = same_count before seats so_far in
    subst (AreSinks t) (take_all n before (omega (arith, same, all))) sinks

-- the take from one of them is refused
pub refused_at : (t : Tables) (before seats : List EndSeat) (i : ℕ) (d : EndSeat) (cause : Refused) → i < length seats
    → HaveTaken before seats → MayRefuseTake (is_sink (channel_at t (get_or seats i d).channel)) cause
    → MayRefuseTakes t before cause
refused_at t before seats i d cause below so_far refused =
    let same = same_channel before seats i d below so_far in
    record {
      place = i;
      seat = get_or before i d;
      there = slice_get-get_or before i d same.0;
      refused =
          subst (λ n. MayRefuseTake (is_sink (channel_at t n)) cause) same.1 refused;
    }

-- ---- a seat that is found by its channel

-- one seat more is not that of this channel
pub none_more : (channel : ℕ) (seats : List EndSeat) (i : ℕ) (seat : EndSeat) → i < length seats
    → seat ≡ get_or seats i seat → seat.channel ≢ channel
    → All (λ (e : EndSeat). e.channel ≢ channel) (take i seats)
    → All (λ (e : EndSeat). e.channel ≢ channel) (take (i + 1) seats)
none_more channel seats i seat below at other so_far =
    All-more (λ (e : EndSeat). e.channel ≢ channel) seats i seat below so_far
    (subst (λ (e : EndSeat). e.channel ≢ channel) at other)

-- none of them is
pub none_there : (channel : ℕ) (seats : List EndSeat) (n : ℕ) → length seats ≤ n
    → All (λ (e : EndSeat). e.channel ≢ channel) (take n seats) → HasNoSeat channel seats
none_there channel seats n all none =
    subst (All (λ (e : EndSeat). e.channel ≢ channel)) (take_all n seats all) none
