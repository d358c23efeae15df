-- What the events of a legal history show makes up its clocks.
use Rattle.kpn_ticks.proofs.Common.{◌≡◌, ℕ, ◌+◌, ◌<◌, Bool, cond, eqb, List, [], ◌∷◌, ◌++◌, length, set, get_or, refl, sym, ap, ◌∙◌, subst, inl, inr, fold, flat_map, eqb_tells, append_assoc, append-nil, length-append, length-set, length-replicate, get_or-set_same, get_or-set_other, IsPrefix, IsPrefix-append, rest_of_prefix, Tables, Event, Get, Put, Feed, Take, Grow, HasNumbers, Legal, Legal-last, by_events, Clocks, latest_of, written_of, read_of, item_there, get_tick, put_tick, with_tick, clocks_with_event, start, clocks_after, seen_from, tick_in, ticks_of}
use Rattle.kpn_ticks.proofs.Counting.{all_alike}
use Rattle.kpn_ticks.proofs.Exchanging.{fold_along}

-- ---- what any events show

abbrev pub seen : {A : Type 0} (see : Clocks → Event → List A) (t : Tables) (b : Bool) (H : List Event) → List A
seen see t b H = seen_from see t (start t b) H

seen_along : {A : Type 0} (see : Clocks → Event → List A) (t : Tables) (s : Clocks) (B more : List Event)
    → seen_from see t s (B ++ more) ≡ seen_from see t s B ++ seen_from see t (fold (clocks_with_event t) s B) more
seen_along see t s [] more = refl
seen_along see t s (e ∷ B) more =
    ap (λ xs. see s e ++ xs) (seen_along see t (clocks_with_event t s e) B more)
    ∙ sym (append_assoc (see s e) (seen_from see t (clocks_with_event t s e) B)
    (seen_from see t (fold (clocks_with_event t) (clocks_with_event t s e) B) more))

pub seen_push : {A : Type 0} (see : Clocks → Event → List A) (t : Tables) (b : Bool) (B : List Event) (e : Event)
    → seen see t b (B ++ e ∷ []) ≡ seen see t b B ++ see (clocks_after t b B) e
seen_push see t b B e =
    seen_along see t (start t b) B (e ∷ [])
    ∙ ap (λ xs. seen see t b B ++ xs) (append-nil (see (clocks_after t b B) e))

pub seen_grows : {A : Type 0} (see : Clocks → Event → List A) (t : Tables) (b : Bool) (B H : List Event)
    → IsPrefix B H → IsPrefix (seen see t b B) (seen see t b H)
seen_grows see t b B H begins =
    let rest = rest_of_prefix B H begins in
    subst (λ X. IsPrefix (seen see t b B) (seen see t b X)) rest.1
    (subst (λ ys. IsPrefix (seen see t b B) ys) (sym (seen_along see t (start t b) B rest.0))
    (IsPrefix-append (seen see t b B) (seen_from see t (clocks_after t b B) rest.0)))

pub seen_length : {A C : Type 0} (see : Clocks → Event → List A) (say : Event → List C)
    → ((s : Clocks) (e : Event) → length (see s e) ≡ length (say e)) → (t : Tables) (s : Clocks) (H : List Event)
    → length (seen_from see t s H) ≡ length (flat_map say H)
seen_length see say same t s [] = refl
seen_length see say same t s (e ∷ H) =
    length-append (see s e) (seen_from see t (clocks_with_event t s e) H)
    ∙ ap (λ n. n + length (seen_from see t (clocks_with_event t s e) H)) (same s e)
    ∙ ap (λ n. length (say e) + n) (seen_length see say same t (clocks_with_event t s e) H)
    ∙ sym (length-append (say e) (flat_map say H))

-- ---- the clocks

pub clocks_push : (t : Tables) (b : Bool) (B : List Event) (e : Event)
    → clocks_after t b (B ++ e ∷ []) ≡ clocks_with_event t (clocks_after t b B) e
clocks_push t b B e = fold_along t (start t b) B (e ∷ [])

-- each process and each channel has a place
pub record HasPlaces (t : Tables) (s : Clocks) : Type 0 where
  pub latest : length s.latest ≡ length t.instances
  pub written : length s.written ≡ length t.channels
  pub read : length s.read ≡ length t.channels

after_has : (t : Tables) (s : Clocks) (e : Event) → HasPlaces t s → HasPlaces t (clocks_with_event t s e)
after_has t s (Get p c v) has =
    record {
      latest = length-set s.latest p (get_tick s p c) ∙ has.latest;
      written = has.written;
      read = length-set s.read c (get_or s.read c [] ++ get_tick s p c ∷ []) ∙ has.read;
    }
after_has t s (Put p c v) has =
    record {
      latest = length-set s.latest p (put_tick t s p c) ∙ has.latest;
      written = length-set s.written c (get_or s.written c [] ++ put_tick t s p c ∷ []) ∙ has.written;
      read = has.read;
    }
after_has t s (Feed c v) has =
    record {
      latest = has.latest;
      written = length-set s.written c (get_or s.written c [] ++ 0 ∷ []) ∙ has.written;
      read = has.read;
    }
after_has t s (Take c v) has =
    record {
      latest = has.latest;
      written = has.written;
      read = length-set s.read c (get_or s.read c [] ++ item_there s c ∷ []) ∙ has.read;
    }
after_has t s (Grow p c n) has = record { latest = has.latest; written = has.written; read = has.read }
after_has t s e has = has

all_have : (t : Tables) (H : List Event) (s : Clocks) → HasPlaces t s → HasPlaces t (fold (clocks_with_event t) s H)
all_have t [] s has = has
all_have t (e ∷ H) s has = all_have t H (clocks_with_event t s e) (after_has t s e has)

pub have_places : (t : Tables) (b : Bool) (H : List Event) → HasPlaces t (clocks_after t b H)
have_places t b H =
    all_have t H (start t b)
    (record {
      latest = length-replicate (length t.instances) 0;
      written = length-replicate (length t.channels) [];
      read = length-replicate (length t.channels) [];
    })

-- ---- the ticks at which items were written and read

with_tick_at : (lists : List (List ℕ)) (d tick c : ℕ) → d < length lists
    → get_or (with_tick lists d tick) c [] ≡ get_or lists c [] ++ cond (eqb d c) (tick ∷ []) []
with_tick_at lists d tick c below =
    elim (eqb_tells d c) [
      | inl same ↦
          subst (λ x. get_or (with_tick lists d tick) x [] ≡ get_or lists x [] ++ tick ∷ []) same.1
          (get_or-set_same lists d (get_or lists d [] ++ tick ∷ []) [] below)
          ∙ ap (λ x. get_or lists c [] ++ cond x (tick ∷ []) []) (sym same.0)
      | inr differ ↦
          get_or-set_other lists d c (get_or lists d [] ++ tick ∷ []) [] (λ is. differ.1 (sym is))
          ∙ sym (append-nil (get_or lists c []))
          ∙ ap (λ x. get_or lists c [] ++ cond x (tick ∷ []) []) (sym differ.0)
    ]

-- the ticks of the items that an event writes on a channel
abbrev pub wrote : Tables → (c : ℕ) → Clocks → Event → List ℕ
wrote t c s (Put p d v) = cond (eqb d c) (put_tick t s p d ∷ []) []
wrote t c s (Feed d v) = cond (eqb d c) (0 ∷ []) []
wrote t c s event = []

-- the ticks of the items that an event reads from a channel
abbrev pub took : Tables → (c : ℕ) → Clocks → Event → List ℕ
took t c s (Get p d v) = cond (eqb d c) (get_tick s p d ∷ []) []
took t c s (Take d v) = cond (eqb d c) (item_there s d ∷ []) []
took t c s event = []

pub written_then : (t : Tables) (s : Clocks) (e : Event) → HasPlaces t s → HasNumbers t e → (c : ℕ)
    → written_of (clocks_with_event t s e) c ≡ written_of s c ++ wrote t c s e
written_then t s (Put p d v) has numbers c =
    with_tick_at s.written d (put_tick t s p d) c (subst (λ n. d < n) (sym has.written) numbers.1)
written_then t s (Feed d v) has numbers c =
    with_tick_at s.written d 0 c (subst (λ n. d < n) (sym has.written) numbers)
written_then t s event has numbers c = sym (append-nil (written_of s c))

pub read_then : (t : Tables) (s : Clocks) (e : Event) → HasPlaces t s → HasNumbers t e → (c : ℕ)
    → read_of (clocks_with_event t s e) c ≡ read_of s c ++ took t c s e
read_then t s (Get p d v) has numbers c =
    with_tick_at s.read d (get_tick s p d) c (subst (λ n. d < n) (sym has.read) numbers.1)
read_then t s (Take d v) has numbers c =
    with_tick_at s.read d (item_there s d) c (subst (λ n. d < n) (sym has.read) numbers)
read_then t s event has numbers c = sym (append-nil (read_of s c))

pub written_seen : (t : Tables) (b : Bool) (c : ℕ) (H : List Event) → Legal t H
    → written_of (clocks_after t b H) c ≡ seen (wrote t c) t b H
written_seen t b c =
    by_events t (λ H. written_of (clocks_after t b H) c ≡ seen (wrote t c) t b H)
    (all_alike [] (length t.channels) c)
    (λ B e legal h.
    ap (λ s. written_of s c) (clocks_push t b B e)
    ∙ written_then t (clocks_after t b B) e (have_places t b B) (Legal-last t B e legal).numbers c
    ∙ ap (λ xs. xs ++ wrote t c (clocks_after t b B) e) h
    ∙ sym (seen_push (wrote t c) t b B e))

pub read_seen : (t : Tables) (b : Bool) (c : ℕ) (H : List Event) → Legal t H
    → read_of (clocks_after t b H) c ≡ seen (took t c) t b H
read_seen t b c =
    by_events t (λ H. read_of (clocks_after t b H) c ≡ seen (took t c) t b H)
    (all_alike [] (length t.channels) c)
    (λ B e legal h.
    ap (λ s. read_of s c) (clocks_push t b B e)
    ∙ read_then t (clocks_after t b B) e (have_places t b B) (Legal-last t B e legal).numbers c
    ∙ ap (λ xs. xs ++ took t c (clocks_after t b B) e) h
    ∙ sym (seen_push (took t c) t b B e))

-- ---- the tick of the latest get or put

abbrev pub last_tick : (tick : ℕ) → List ℕ → ℕ
last_tick tick [] = tick
last_tick tick (x ∷ xs) = last_tick x xs

last_along : (tick : ℕ) (xs ys : List ℕ) → last_tick tick (xs ++ ys) ≡ last_tick (last_tick tick xs) ys
last_along tick [] ys = refl
last_along tick (x ∷ xs) ys = last_along x xs ys

set_at : (xs : List ℕ) (q tick p : ℕ) → q < length xs
    → get_or (set xs q tick) p 0 ≡ last_tick (get_or xs p 0) (cond (eqb q p) (tick ∷ []) [])
set_at xs q tick p below =
    elim (eqb_tells q p) [
      | inl same ↦
          subst (λ x. get_or (set xs q tick) x 0 ≡ tick) same.1 (get_or-set_same xs q tick 0 below)
          ∙ ap (λ x. last_tick (get_or xs p 0) (cond x (tick ∷ []) [])) (sym same.0)
      | inr differ ↦
          get_or-set_other xs q p tick 0 (λ is. differ.1 (sym is))
          ∙ ap (λ x. last_tick (get_or xs p 0) (cond x (tick ∷ []) [])) (sym differ.0)
    ]

pub latest_then : (t : Tables) (s : Clocks) (e : Event) → HasPlaces t s → HasNumbers t e → (p : ℕ)
    → latest_of (clocks_with_event t s e) p ≡ last_tick (latest_of s p) (tick_in t p s e)
latest_then t s (Get q c v) has numbers p =
    set_at s.latest q (get_tick s q c) p (subst (λ n. q < n) (sym has.latest) numbers.0)
latest_then t s (Put q c v) has numbers p =
    set_at s.latest q (put_tick t s q c) p (subst (λ n. q < n) (sym has.latest) numbers.0)
latest_then t s event has numbers p = refl

pub latest_seen : (t : Tables) (b : Bool) (p : ℕ) (H : List Event) → Legal t H
    → latest_of (clocks_after t b H) p ≡ last_tick 0 (ticks_of t b H p)
latest_seen t b p =
    by_events t (λ H. latest_of (clocks_after t b H) p ≡ last_tick 0 (ticks_of t b H p))
    (all_alike 0 (length t.instances) p)
    (λ B e legal h.
    ap (λ s. latest_of s p) (clocks_push t b B e)
    ∙ latest_then t (clocks_after t b B) e (have_places t b B) (Legal-last t B e legal).numbers p
    ∙ ap (λ n. last_tick n (tick_in t p (clocks_after t b B) e)) h
    ∙ sym (last_along 0 (ticks_of t b B p) (tick_in t p (clocks_after t b B) e))
    ∙ ap (last_tick 0) (sym (seen_push (tick_in t p) t b B e)))
