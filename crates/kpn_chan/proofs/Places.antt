-- Where the items of a list in chunks are.
use Rattle.std.specs.Prelude.{◌≡◌, ℕ, zero, suc, ◌+◌, ◌-◌, ◌*◌, ◌/◌, ◌%◌, ◌<◌, ◌≤◌, ℤ, ◌||◌, ◌&&◌, Bool, true, false, IsTrue, cond, is_some, List, [], ◌∷◌, ◌++◌, length, take, drop, get_or, slice_get, min, max, Option, Some, None, Result, Ok, Err, IsOk, OnOk, Vec, ◌^◌, refl}
use Rattle.kpn_chan.proofs.Common.{unwrap_or, is_none, Decides, arith, sym, ap, ◌∙◌, subst, inl, inr, eqb, leb, length-drop, drop-append-add, take-append_seam, take-length, drop-length, cases_lt, and_parts, or_cases, eqb-true, leb-true, false≢true, length-append, drop-append-le, append_assoc, append-nil, take-append-drop, drop-drop, slice_get_within, AreFull, IsChunks, IsCounted, HasNext, HasPlacesFor, items_of, all_of, ChannelState, after_put, batch_joined, has_places_for, MayJoin, IsLaidOut, IsRoomy, made_for, HasPlaces, MayPass, passed_through, MOST_GONE, MAX_CHUNKS, Buffer, buffer, CHUNK}
use Rattle.std.specs.List.{flat_map}
use Rattle.circular_buffer.proofs.Places.{slice_get-drop}
use Rattle.kpn_chan.specs.declared.chunks.Chunks.{Chunks}
use Rattle.kpn_chan.specs.declared.channel.TheConstants.{FIRST_PLACES}

-- the first item stays if others are put after it
first_stays : (xs ys : List ℤ) → 0 < length xs → slice_get (xs ++ ys) 0 ≡ slice_get xs 0
first_stays [] ys some = absurd omega (arith, some)
first_stays (x ∷ xs) ys some = refl

-- a list that goes on begins with what it goes on from
begins_with : (l piece rest : List ℤ) → l ≡ piece ++ rest → piece ≡ take (length piece) l
begins_with l piece rest is = sym (ap (λ l. take (length piece) l) is ∙ take-append_seam piece rest)

-- how the item at a place is found, if it is known what comes from some place on
found_at : (l piece rest : List ℤ) (place o : ℕ) → o < length piece → drop place l ≡ drop o piece ++ rest
    → slice_get piece o ≡ slice_get l place
found_at l piece rest place o within lies =
    let some : 0 < length (drop o piece) = omega (arith, within, length-drop o piece) in
    sym (slice_get-drop o piece 0 o (omega arith))
    ∙ sym (first_stays (drop o piece) rest some)
    ∙ ap (λ l. slice_get l 0) (sym lies)
    ∙ slice_get-drop place l 0 place (omega arith)

module _ {A : Type 0} where
  abbrev items : Vec ℤ A → List ℤ
  items v = v.items

  abbrev all : List (Vec ℤ A) → List ℤ
  all chunks = flat_map items chunks

  first_full : (x : Vec ℤ A) (xs : List (Vec ℤ A)) → AreFull (x ∷ xs) → length x.items ≡ CHUNK
  first_full x xs full = full 0 x (omega arith)

  rest_full : (x : Vec ℤ A) (xs : List (Vec ℤ A)) → AreFull (x ∷ xs) → AreFull xs
  rest_full x xs full k d below = full (suc k) d (omega (arith, below))

  pub length-full : (xs : List (Vec ℤ A)) → AreFull xs → length (all xs) ≡ length xs * CHUNK
  length-full [] full = refl
  length-full (x ∷ xs) full =
      let here = first_full x xs full in
      let more = length-full xs (rest_full x xs full) in
      length-append x.items (all xs) ∙ (omega (arith, here, more))

  -- past k chunks and o items of the next one
  pub drop-chunk : (xs : List (Vec ℤ A)) → AreFull xs → (k o : ℕ) (d : Vec ℤ A) (ys : List ℤ)
      → k < length xs → o ≤ CHUNK
      → (rest : List ℤ) × (drop (k * CHUNK + o) (all xs ++ ys) ≡ drop o (get_or xs k d).items ++ rest)
  drop-chunk [] full k o d ys below within = absurd omega (arith, below)
  drop-chunk (x ∷ xs) full zero o d ys below within =
      let here = first_full x xs full in
      let past : 0 * CHUNK + o ≡ o = omega arith in (
        all xs ++ ys,
        ap (λ n. drop n ((x.items ++ all xs) ++ ys)) past
            ∙ ap (λ l. drop o l) (append_assoc x.items (all xs) ys)
            ∙ drop-append-le o x.items (all xs ++ ys) (omega (arith, here, within)),
      )
  drop-chunk (x ∷ xs) full (suc k) o d ys below within =
      let here = first_full x xs full in
      let more = drop-chunk xs (rest_full x xs full) k o d ys (omega (arith, below)) within in
      let past : suc k * CHUNK + o ≡ length x.items + (k * CHUNK + o) = omega (arith, here) in (
        more.0,
        ap (λ n. drop n ((x.items ++ all xs) ++ ys)) past
            ∙ ap (λ l. drop (length x.items + (k * CHUNK + o)) l) (append_assoc x.items (all xs) ys)
            ∙ drop-append-add x.items (all xs ++ ys) (k * CHUNK + o) ∙ more.1,
      )

  -- past all full chunks
  pub drop-last : (xs : List (Vec ℤ A)) → AreFull xs → (place : ℕ) (ys : List ℤ) → length xs * CHUNK ≤ place
      → drop place (all xs ++ ys) ≡ drop (place - length xs * CHUNK) ys
  drop-last xs full place ys past =
      let long = length-full xs full in
      let is : place ≡ length (all xs) + (place - length xs * CHUNK) = omega (arith, long, past) in
      ap (λ n. drop n (all xs ++ ys)) is ∙ drop-append-add (all xs) ys (place - length xs * CHUNK)

  -- how many items there are, by the numbers that the code has
  pub count_of : (xs : List (Vec ℤ A)) (ys : List ℤ) → AreFull xs
      → length (all xs ++ ys) ≡ length xs * CHUNK + length ys
  count_of xs ys full =
      let long = length-full xs full in
      length-append (all xs) ys ∙ (omega (arith, long))

  -- the item at a place among the full chunks
  pub at_chunk : (xs : List (Vec ℤ A)) (ys : List ℤ) → AreFull xs → (place : ℕ) (d : Vec ℤ A)
      → place / CHUNK < length xs
      → slice_get (get_or xs (place / CHUNK) d).items (place % CHUNK) ≡ slice_get (all xs ++ ys) place
  at_chunk xs ys full place d below =
      let chunk = (get_or xs (place / CHUNK) d).items in
      let there : place % CHUNK < length chunk = omega (arith, full (place / CHUNK) d below) in
      let is : place ≡ place / CHUNK * CHUNK + place % CHUNK = omega arith in
      let lies = drop-chunk xs full (place / CHUNK) (place % CHUNK) d ys below (omega arith) in
      found_at (all xs ++ ys) chunk lies.0 place (place % CHUNK) there (ap (λ n. drop n (all xs ++ ys)) is ∙ lies.1)

  -- the item at a place after them
  pub at_last : (xs : List (Vec ℤ A)) (ys : List ℤ) → AreFull xs → (place : ℕ) → length xs * CHUNK ≤ place
      → slice_get ys (place - length xs * CHUNK) ≡ slice_get (all xs ++ ys) place
  at_last xs ys full place past =
      let o = place - length xs * CHUNK in
      sym (slice_get-drop o ys 0 o (omega arith))
      ∙ ap (λ l. slice_get l 0) (sym (drop-last xs full place ys past))
      ∙ slice_get-drop place (all xs ++ ys) 0 place (omega arith)

  -- the items from a place among the full chunks to the end of its chunk
  pub chunk_piece : (xs : List (Vec ℤ A)) (ys : List ℤ) → AreFull xs → (place : ℕ) (d : Vec ℤ A)
      → place / CHUNK < length xs
      → let piece = drop (place % CHUNK) (get_or xs (place / CHUNK) d).items in
      piece ≡ take (length piece) (drop place (all xs ++ ys))
  chunk_piece xs ys full place d below =
      let is : place ≡ place / CHUNK * CHUNK + place % CHUNK = omega arith in
      let lies = drop-chunk xs full (place / CHUNK) (place % CHUNK) d ys below (omega arith) in
      begins_with _ _ lies.0 (ap (λ n. drop n (all xs ++ ys)) is ∙ lies.1)

  -- those from a place after them
  pub last_piece : (xs : List (Vec ℤ A)) (ys : List ℤ) → AreFull xs → (place : ℕ) → length xs * CHUNK ≤ place
      → let piece = drop (place - length xs * CHUNK) ys in
      piece ≡ take (length piece) (drop place (all xs ++ ys))
  last_piece xs ys full place past =
      let piece = drop (place - length xs * CHUNK) ys in
      begins_with (drop place (all xs ++ ys)) piece [] (drop-last xs full place ys past ∙ sym (append-nil piece))

-- a list of the first items, with the first items of what comes after it, is again a list of the first items
pub copied_more : (l xs piece : List ℤ) (m : ℕ) → xs ≡ take (length xs) l
    → piece ≡ take (length piece) (drop (length xs) l)
    → xs ++ take m piece ≡ take (length (xs ++ take m piece)) l
copied_more l xs piece m is next =
    let left = drop (length xs) l in
    let rest = drop (length piece) left in
    begins_with l (xs ++ take m piece) (drop m piece ++ rest)
    (sym (take-append-drop (length xs) l)
    ∙ ap (λ h. h ++ left) (sym is)
    ∙ ap (λ t. xs ++ t) (sym (take-append-drop (length piece) left))
    ∙ ap (λ h. xs ++ (h ++ rest)) (sym next)
    ∙ ap (λ h. xs ++ (h ++ rest)) (sym (take-append-drop m piece))
    ∙ ap (λ t. xs ++ t) (append_assoc (take m piece) (drop m piece) rest)
    ∙ sym (append_assoc xs (take m piece) (drop m piece ++ rest)))

-- the items of a channel's chunks can be counted
pub counted : {A : Type 0} (c : Chunks A) → IsChunks c → IsCounted c
counted c is =
    let many = count_of c.full.items c.last.items is.full in
    record { full = is.full; count = omega (arith, many, is.few, is.last, c.last.ok) }

-- and all that were ever put
pub bounded : {A : Type 0} (c : Chunks A) → IsChunks c → length (all_of c) < 2 ^ 64
bounded c is =
    let many = count_of c.full.items c.last.items is.full in
    let all = length-append c.past.items (items_of c) in
    omega (arith, all, many, is.few, is.last, is.count, is.bound, c.last.ok)

-- and a chunk more
pub bounded_with_chunk : {A : Type 0} (c : Chunks A) → IsChunks c → length (all_of c) + CHUNK < 2 ^ 64
bounded_with_chunk c is =
    let many = count_of c.full.items c.last.items is.full in
    let all = length-append c.past.items (items_of c) in
    omega (arith, all, many, is.few, is.last, is.count, is.bound, c.last.ok)

-- if items go on past the last chunk and can be counted, there may be one more full chunk
pub one_more_chunk : {A : Type 0} (c : Chunks A) → IsChunks c → (n : ℕ) → CHUNK < length c.last.items + n
    → length (all_of c) + n ≤ MOST_GONE → length c.full.items + 1 ≤ MAX_CHUNKS
one_more_chunk c is n past bound =
    let many = count_of c.full.items c.last.items is.full in
    let all = length-append c.past.items (items_of c) in
    omega (arith, all, many, past, bound)

-- what is in memory is all, if it is kept
pub all_kept : {A : Type 0} (c : Chunks A) → IsChunks c → c.keeps ≡ true → all_of c ≡ items_of c
all_kept c is keeps = ap (λ (l : List ℤ). l ++ items_of c) (is.kept keeps)

-- an item that leaves the ring is the next one of the journal
pub passed : {A : Type 0} (journal : Chunks A) (read most : ℕ) (capacity : Option ℕ) (is_roomy is_wide : Bool)
    (before after : Buffer ℤ) (item : ℤ)
    → IsLaidOut journal read (Some before) capacity most is_roomy is_wide → slice_get before.items 0 ≡ Some item
    → after.items ≡ drop 1 before.items → after.capacity ≡ before.capacity
    → IsLaidOut journal (read + 1) (Some after) capacity most is_roomy is_wide × (read + 1 < 2 ^ 64)
passed journal read most capacity is_roomy is_wide before after item is given rest same =
    let all = all_of journal in
    let some : 0 < length before.items = slice_get_within before.items 0 item given in
    let left : length before.items ≡ length all - read =
    ap (λ (l : List ℤ). length l) is.unread ∙ length-drop read all in
    let next : read + 1 ≤ length all = omega (arith, some, left) in
    let unread : after.items ≡ drop (read + 1) all =
    rest ∙ ap (λ (l : List ℤ). drop 1 l) is.unread ∙ drop-drop 1 read all in (
      record {
        chunks = is.chunks;
        place = next;
        unread = unread;
        within = (
          omega (arith, is.within.0, ap (λ (l : List ℤ). length l) rest, length-drop 1 before.items),
          subst (λ n. n ≤ FIRST_PLACES + 2 * max most (made_for is_wide capacity)) (sym same) is.within.1,
        );
        roomy = λ is_so.
            let room = is.roomy is_so in
            record { next = room.next; places = subst (λ n. unwrap_or capacity 0 ≤ n) (sym same) room.places };
      },
      omega (arith, next, bounded journal is.chunks),
    )

module _ {A : Type 0} (journal after : Chunks A) (read : ℕ) (capacity : Option ℕ) (most : ℕ) (is_roomy is_wide : Bool)
    (item : ℤ) (chunks : IsChunks after) (items : all_of after ≡ all_of journal ++ item ∷ [])
    (keeps : after.keeps ≡ journal.keeps) (next : HasNext journal → HasNext after) where
  longer : length (all_of after) ≡ length (all_of journal) + 1
  longer = ap (λ (l : List ℤ). length l) items ∙ length-append (all_of journal) (item ∷ [])

  -- an item is put on the journal and into the ring
  pub put_in_ring : (ring filled : Buffer ℤ) (most_then : ℕ)
      → IsLaidOut journal read (Some ring) capacity most is_roomy is_wide
      → filled ≡ buffer (ring.items ++ item ∷ []) ring.capacity → most_then ≡ max most (length filled.items)
      → IsLaidOut after read (Some filled) capacity most_then is_roomy is_wide
  put_in_ring ring filled most_then is made most_is =
      let long = longer in
      let place = is.place in
      let few = is.within.1 in
      let same : filled.capacity ≡ ring.capacity = ap (λ (b : Buffer ℤ). b.capacity) made in
      record {
        chunks = chunks;
        place = omega (arith, long, place);
        unread =
            ap (λ (b : Buffer ℤ). b.items) made
            ∙ ap (λ (l : List ℤ). l ++ item ∷ []) is.unread
            ∙ sym (drop-append-le read (all_of journal) (item ∷ []) place)
            ∙ ap (λ (l : List ℤ). drop read l) (sym items);
        within = (omega (arith, most_is), omega (arith, few, same, most_is));
        roomy = λ is_so.
            let room = is.roomy is_so in
            record {
              next = λ kept. next (room.next (sym keeps ∙ kept));
              places = subst (λ n. unwrap_or capacity 0 ≤ n) (sym same) room.places;
            };
      }

  -- or on the journal of a channel whose reader is gone
  pub put_on_retired : IsLaidOut journal read None capacity most is_roomy is_wide
      → IsLaidOut after read None capacity most is_roomy is_wide
  put_on_retired is =
      let long = longer in
      let place = is.place in
      record {
        chunks = chunks;
        place = omega (arith, long, place);
        unread = tt;
        within = tt;
        roomy = λ is_so.
            record { next = λ kept. next ((is.roomy is_so).next (sym keeps ∙ kept)); places = tt };
      }

-- all of them enter
pub all_enter : (len cap n taken gone kept count rest : ℕ) → gone ≡ min taken len → kept ≡ len - gone
    → rest ≡ n - (taken - gone) → count ≡ min rest (cap - kept) → taken ≤ len + n
    → (0 < n → len + n ≤ cap + taken) → count ≡ rest
all_enter len cap n taken gone kept count rest is left behind counted few fits =
    elim (cases_lt 0 n) [
      | inl some ↦ let enough = fits some in omega (arith, is, left, behind, counted, few, enough)
      | inr none ↦ omega (arith, behind, counted, none)
    ]

-- what stays in a ring once this many items have left it and others have entered, and those that did both did neither
pub passes_through : (xs ys : List ℤ) (taken gone count : ℕ) → gone ≡ min taken (length xs)
    → count ≡ length (drop (taken - gone) ys)
    → drop (length xs - (length xs - gone)) xs ++ take count (drop (taken - gone) ys) ≡ drop taken (xs ++ ys)
passes_through xs ys taken gone count is all =
    let few : gone ≤ length xs = omega (arith, is) in
    let left : length xs - (length xs - gone) ≡ gone = omega (arith, few) in
    let rest = drop (taken - gone) ys in
    let whole : take count rest ≡ rest = ap (λ n. take n rest) all ∙ take-length rest in
    ap (λ n. drop n xs ++ take count rest) left
    ∙ ap (λ (l : List ℤ). drop gone xs ++ l) whole
    ∙ elim (cases_lt (length xs) taken) [
      | inr within ↦
          let same : gone ≡ taken = omega (arith, is, within) in
          let none : taken - gone ≡ 0 = omega (arith, same) in
          ap (λ n. drop n xs ++ rest) same
          ∙ ap (λ n. drop taken xs ++ drop n ys) none
          ∙ sym (drop-append-le taken xs ys within)
      | inl past ↦
          let same : gone ≡ length xs = omega (arith, is, past) in
          let more : taken ≡ length xs + (taken - gone) = omega (arith, same, past) in
          ap (λ n. drop n xs ++ rest) same
          ∙ ap (λ (l : List ℤ). l ++ rest) (drop-length xs)
          ∙ sym (ap (λ n. drop n (xs ++ ys)) more ∙ drop-append-add xs ys (taken - gone))
    ]

-- what holds if a call succeeds
pub on_ok : {T E P : Type 0} (r : Result T E) → IsOk r → OnOk r P → P
on_ok (Ok x) is h = h
on_ok (Err e) is h = absurd (false≢true is)

-- what contracts see of a channel
abbrev pub seen_so : List ℤ → (read : ℕ) → (capacity : Option ℕ) → (gone reserved keeps : Bool) → (most : ℕ)
    → (is_roomy is_wide : Bool) → ChannelState
seen_so journal read capacity gone reserved keeps most is_roomy is_wide =
    record {
      journal = journal;
      read = read;
      capacity = capacity;
      is_retired = gone;
      is_reserved = reserved;
      is_kept = keeps;
      most = most;
      is_roomy = is_roomy;
      is_wide = is_wide;
    }

module _ (before after : List ℤ) (read : ℕ) (capacity : Option ℕ) (was keeps : Bool) (most : ℕ) (is_roomy is_wide : Bool)
    (same : keeps ≡ was) where
  module _ (item : ℤ) (is : after ≡ before ++ item ∷ []) (left_so reserved : Bool) where
    pub seen_put : (ring filled : Buffer ℤ) (most_then : ℕ) → ring.items ≡ drop read before
        → filled ≡ buffer (ring.items ++ item ∷ []) ring.capacity → most_then ≡ max most (length filled.items)
        → seen_so after read capacity false reserved keeps most_then is_roomy is_wide
        ≡ after_put item reserved (seen_so before read capacity false left_so was most is_roomy is_wide)
    seen_put ring filled most_then unread made most_is =
        let m : most_then ≡ max most (length (drop read before) + 1) =
        most_is
        ∙ ap (λ (b : Buffer ℤ). max most (length b.items)) made
        ∙ ap (max most) (length-append ring.items (item ∷ []) ∙ ap (λ (l : List ℤ). length l + 1) unread) in
        ap (λ l. seen_so l read capacity false reserved keeps most_then is_roomy is_wide) is
        ∙ ap (λ k. seen_so (before ++ item ∷ []) read capacity false reserved k most_then is_roomy is_wide) same
        ∙ ap (λ n. seen_so (before ++ item ∷ []) read capacity false reserved was n is_roomy is_wide) m

    pub seen_put_on_retired : seen_so after read capacity true reserved keeps most is_roomy is_wide
        ≡ after_put item reserved (seen_so before read capacity true left_so was most is_roomy is_wide)
    seen_put_on_retired =
        ap (λ l. seen_so l read capacity true reserved keeps most is_roomy is_wide) is
        ∙ ap (λ k. seen_so (before ++ item ∷ []) read capacity true reserved k most is_roomy is_wide) same

  pub seen_joined : (taken : ℕ) (items : List ℤ) (seen : ℕ) → after ≡ before ++ items
      → (left_so reserved ready : Bool) (ring filled : Option (Buffer ℤ)) (most_then : ℕ)
      → filled ≡ passed_through taken items ring → most_then ≡ cond (is_none ring) most (max most seen)
      → seen_so after (read + taken) capacity (is_none filled) reserved keeps most_then ready is_wide
      ≡ batch_joined taken items seen reserved ready
      (seen_so before read capacity (is_none ring) left_so was most is_roomy is_wide)
  seen_joined taken items seen is left_so reserved ready ring filled most_then passed most_is =
      let gone : is_none filled ≡ is_none ring = ap is_none passed ∙ still_gone ring in
      ap (λ l. seen_so l (read + taken) capacity (is_none filled) reserved keeps most_then ready is_wide) is
      ∙ ap (λ k. seen_so (before ++ items) (read + taken) capacity (is_none filled) reserved k most_then ready is_wide) same
      ∙ ap (λ n. seen_so (before ++ items) (read + taken) capacity (is_none filled) reserved was n ready is_wide) most_is
      ∙ ap (λ b. seen_so (before ++ items) (read + taken) capacity b reserved was
      (cond (is_none ring) most (max most seen)) ready is_wide) gone
    where
      still_gone : (r : Option (Buffer ℤ)) → is_none (passed_through taken items r) ≡ is_none r
      still_gone None = refl
      still_gone (Some r) = refl

-- what a channel has that has places for some items
pub record PlacesAre (n : ℕ) (c : ChannelState) : Type 0 where
  pub roomy : c.is_roomy ≡ true
  pub ring : (c.is_retired || is_some c.capacity) ≡ true
  pub few : n ≤ CHUNK
  pub bound : length c.journal + n ≤ MOST_GONE

pub places_are : (n : ℕ) (c : ChannelState) → has_places_for n c ≡ true → 0 < n → PlacesAre n c
places_are n c is some =
    elim (or_cases (eqb n 0) _ is) [
      | inl none ↦ absurd (let no = eqb-true n 0 none in omega (arith, no, some))
      | inr rest ↦
          let first = and_parts c.is_roomy _ rest in
          let second = and_parts (c.is_retired || is_some c.capacity) _ first.1 in
          let third = and_parts (leb n CHUNK) _ second.1 in
          record {
            roomy = first.0;
            ring = second.0;
            few = leb-true n CHUNK third.0;
            bound = leb-true (length c.journal + n) MOST_GONE third.1;
          }
    ]

-- a channel of some capacity keeps it
is_some_of : (o : Option ℕ) → is_some o ≡ true → (n : ℕ) × (o ≡ Some n)
is_some_of None is = absurd cc
is_some_of (Some n) is = (n, refl)

module _ {A : Type 0} (journal : Chunks A) (read : ℕ) (capacity : Option ℕ) (most : ℕ) (is_roomy is_wide : Bool) where
  abbrev seen_as : Option (Buffer ℤ) → (reserved : Bool) → ChannelState
  seen_as ring reserved =
      record {
        journal = all_of journal;
        read = read;
        capacity = capacity;
        is_retired = is_none ring;
        is_reserved = reserved;
        is_kept = journal.keeps;
        most = most;
        is_roomy = is_roomy;
        is_wide = is_wide;
      }

  module _ (taken : ℕ) (items : List ℤ) (seen : ℕ) (reserved : Bool) where
    pub may_pass : (ring : Option (Buffer ℤ)) → IsLaidOut journal read ring capacity most is_roomy is_wide
        → MayJoin taken items seen (seen_as ring reserved) → MayPass taken items ring
    may_pass None is may = tt
    may_pass (Some ring) is may =
        let left : length ring.items ≡ length (all_of journal) - read =
        ap (λ (l : List ℤ). length l) is.unread ∙ length-drop read (all_of journal) in
        let written = may.written in
        let place = is.place in (
          omega (arith, left, written, place),
          λ some.
              let are = places_are (length items) (seen_as (Some ring) reserved) may.places some in
              let cap = is_some_of capacity are.ring in
              let fits = may.within refl some cap.0 cap.1 in
              let unread : length (drop read (all_of journal)) ≡ length ring.items =
              sym (ap (λ (l : List ℤ). length l) is.unread) in
              let places : cap.0 ≤ ring.capacity =
              subst (λ o. unwrap_or o 0 ≤ ring.capacity) cap.1 (is.roomy are.roomy).places in
              omega (arith, fits, unread, places),
        )

    pub may_append : (ring : Option (Buffer ℤ)) → IsLaidOut journal read ring capacity most is_roomy is_wide
        → MayJoin taken items seen (seen_as ring reserved) → 0 < length items
        → HasPlacesFor (length items) journal
    may_append ring is may some =
        let are = places_are (length items) (seen_as ring reserved) may.places some in
        record { next = (is.roomy are.roomy).next; few = are.few; bound = are.bound }

    module _ (after : Chunks A) (chunks : IsChunks after) (all : all_of after ≡ all_of journal ++ items)
        (keeps : after.keeps ≡ journal.keeps) (ready : Bool) (next : IsTrue ready → HasNext journal → HasNext after)
      where
        written_then : read + taken ≤ length (all_of journal) + length items → read + taken ≤ length (all_of after)
        written_then written =
            let long : length (all_of after) ≡ length (all_of journal) + length items =
            ap (λ (l : List ℤ). length l) all ∙ length-append (all_of journal) items in
            omega (arith, long, written)

        room_then : (ring filled : Option (Buffer ℤ)) → (HasPlaces ring capacity → HasPlaces filled capacity)
            → IsLaidOut journal read ring capacity most is_roomy is_wide → (is_roomy && ready) ≡ true
            → IsRoomy after filled capacity
        room_then ring filled places is both =
            let parts = and_parts is_roomy ready both in
            let room = is.roomy parts.0 in
            record { next = λ kept. next parts.1 (room.next (sym keeps ∙ kept)); places = places room.places }

        pub joined_laid_out : (ring : Option (Buffer ℤ)) → IsLaidOut journal read ring capacity most is_roomy is_wide
            → MayJoin taken items seen (seen_as ring reserved)
            → IsLaidOut after (read + taken) (passed_through taken items ring) capacity
            (cond (is_none ring) most (max most seen)) (is_roomy && ready) is_wide
        joined_laid_out None is may =
            record {
              chunks = chunks;
              place = written_then may.written;
              unread = tt;
              within = tt;
              roomy = room_then None None (λ h. h) is;
            }
        joined_laid_out (Some ring) is may =
            let filled : Buffer ℤ = buffer (drop taken (ring.items ++ items)) ring.capacity in
            let bound = may.seen refl in
            let few = is.within.1 in
            let unread : length (drop read (all_of journal)) ≡ length ring.items =
            sym (ap (λ (l : List ℤ). length l) is.unread) in
            let long : length (drop taken (ring.items ++ items)) ≡ length ring.items + length items - taken =
            length-drop taken (ring.items ++ items) ∙ ap (λ n. n - taken) (length-append ring.items items) in
            record {
              chunks = chunks;
              place = written_then may.written;
              unread =
                  ap (λ (l : List ℤ). drop taken (l ++ items)) is.unread
                  ∙ ap (drop taken) (sym (drop-append-le read (all_of journal) items is.place))
                  ∙ drop-drop taken read (all_of journal ++ items)
                  ∙ ap (λ (l : List ℤ). drop (read + taken) l) (sym all);
              within = (omega (arith, long, bound, unread), omega (arith, few));
              roomy = room_then (Some ring) (Some filled) (λ h. h) is;
            }

    -- what is read then can be counted
    pub read_then : (ring : Option (Buffer ℤ)) → IsLaidOut journal read ring capacity most is_roomy is_wide
        → MayJoin taken items seen (seen_as ring reserved) → read + taken < 2 ^ 64
    read_then ring is may =
        let written = may.written in
        let all = bounded journal is.chunks in
        elim (cases_lt 0 (length items)) [
          | inl some ↦
              let bound = (may_append ring is may some).bound in omega (arith, written, bound)
          | inr none ↦ omega (arith, written, none, all)
        ]

-- a list begins with another if it has the items of the other at their places
pub begins_by_places : (xs l : List ℤ) → ((k : ℕ) → k < length xs → slice_get l k ≡ slice_get xs k)
    → xs ≡ take (length xs) l
begins_by_places [] l same = refl
begins_by_places (x ∷ xs) [] same = absurd (let at = same 0 (omega arith) in cc)
begins_by_places (x ∷ xs) (y ∷ l) same =
    let at = same 0 (omega arith) in
    let first : x ≡ y = cc in
    let rest = begins_by_places xs l (λ k below. same (suc k) (omega (arith, below))) in
    ap (λ z. z ∷ xs) first ∙ ap (λ t. y ∷ t) rest

-- and only if
pub at_place_of_beginning : (xs l : List ℤ) → xs ≡ take (length xs) l → (k : ℕ) → k < length xs
    → slice_get l k ≡ slice_get xs k
at_place_of_beginning [] l is k below = absurd (omega (arith, below))
at_place_of_beginning (x ∷ xs) [] is k below = absurd cc
at_place_of_beginning (x ∷ xs) (y ∷ l) is zero below = let same : x ≡ y = cc in ap Some (sym same)
at_place_of_beginning (x ∷ xs) (y ∷ l) is (suc k) below =
    let rest : xs ≡ take (length xs) l = cc in
    at_place_of_beginning xs l rest k (omega (arith, below))

-- two tests of one fact give the same answer
pub tests_agree : {P : Type 0} (r t : Bool) → Decides r P → Decides t P → r ≡ t
tests_agree true t first second = sym (second.1 (first.0 refl))
tests_agree false true first second = first.1 (second.0 refl)
tests_agree false false first second = refl
