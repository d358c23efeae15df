-- What one more event changes, and that a legal history with it is legal if and only if these facts hold.
use Rattle.std.proofs.Common.{◌≡◌, ◌↔◌, ℕ, suc, ◌+◌, ◌-◌, ◌<◌, ◌≤◌, Bool, true, false, not, ◌||◌, ℤ, cond, eqb, eq-eqb, List, [], ◌∷◌, ◌++◌, length, drop, count_by, Option, Some, None, refl, sym, ap, ◌∙◌, subst, inl, inr, arith, length-drop, length-append, option_map}
use Rattle.kpn_history.proofs.Common.{list_any-append, cases_eq, both_ways, false_from_ne_true, false≢true, not-true, and_parts, and_cases, leb-true, leb-false, ne_eqb, or_parts, not_from_false, Said, IsPrefix, End, Process, Source, Sink, ChannelSpec, Tables, channel_at, is_source, capacity, reader_of, Family, IsFamilyPrefix, ProcessCanSay, talk_on, Event, Get, Put, Feed, Take, said_in, talk_of, is_end_of, has_ended, written_in, read_in, written_on, read_on, unread_on, is_leave_of, is_left, lives, reader_lives, is_growth_of, after_growths, capacity_after, reaches, is_full, IsConsistent, MayFollow, Legal, IsOldest, KeepsConsistent, IsPrefix-trans, IsPrefix-same, length_of_prefix, talk_on-grows}
use Rattle.kpn_lang.specs.declared.talk.Said.TheVariants as said
use Rattle.kpn_net.specs.declared.tables.ChannelSpec.TheVariants as channel
use Rattle.kpn_history.proofs.Events.{flat_map-same, talk_of-push, written_on-push, written_on-grows, written_on-same, read_on-push, read_on-grows, read_on-same}
use Rattle.kpn_history.proofs.Legality.{Legal-push, Legal-before, Legal-last, Legal-consistent}
use Rattle.kpn_history.proofs.Ownership.{CanSay-last, said_by}
use Rattle.kpn_history.proofs.Journals.{none_elsewhere}
use Rattle.kpn_history.proofs.Capacities.{capacity_after-same, smaller_before}

-- ---- any lists

-- one item more of a list that is begun
pub one_item_more : (xs ys rest : List ℤ) (v : ℤ) → IsPrefix xs ys → drop (length xs) ys ≡ v ∷ rest
    → IsPrefix (xs ++ v ∷ []) ys
one_item_more [] [] rest v p e = absurd cc
one_item_more [] (y ∷ ys) rest v p e = (cc, tt)
one_item_more (x ∷ xs) [] rest v p e = absurd p
one_item_more (x ∷ xs) (y ∷ ys) rest v p e = (p.0, one_item_more xs ys rest v p.1 e)

pub item_behind : (xs ys : List ℤ) (v : ℤ) → IsPrefix (xs ++ v ∷ []) ys
    → drop (length xs) ys ≡ v ∷ drop (suc (length xs)) ys
item_behind [] [] v p = absurd p
item_behind [] (y ∷ ys) v p = let e = p.0 in cc
item_behind (x ∷ xs) [] v p = absurd p
item_behind (x ∷ xs) (y ∷ ys) v p = item_behind xs ys v p.1

or-false : (b : Bool) → (b || (false || false)) ≡ b
or-false true = refl
or-false false = refl

-- ---- what a process can say on longer lists

pub CanSay-grows : (t : Tables) (p : ℕ) (X Y : Family) (talk : List Said) → IsFamilyPrefix X Y → ProcessCanSay t p X talk
    → ProcessCanSay t p Y talk
CanSay-grows t p X Y talk b h =
    record {
      turns = h.turns;
      said =
          IsPrefix-trans talk (talk_on t p h.turns X) (talk_on t p h.turns Y) h.said
          (talk_on-grows t p h.turns h.turns (omega arith) X Y b);
    }

-- ---- which ends live, and capacities

has_ended-before : (B : List Event) (e : Event) (p : ℕ) → has_ended (B ++ e ∷ []) p ≡ false → has_ended B p ≡ false
has_ended-before B e p h = (or_parts (has_ended B p) _ (sym (list_any-append (is_end_of p) B (e ∷ [])) ∙ h)).0

is_left-before : (B : List Event) (e : Event) (c : ℕ) → is_left (B ++ e ∷ []) c ≡ false → is_left B c ≡ false
is_left-before B e c h = (or_parts (is_left B c) _ (sym (list_any-append (is_leave_of c) B (e ∷ [])) ∙ h)).0

lives-before : (B : List Event) (e : Event) (c : ℕ) (end : End) → lives (B ++ e ∷ []) c end ≡ true
    → lives B c end ≡ true
lives-before B e c (Process p) h = not_from_false _ (has_ended-before B e p (not-true _ h))
lives-before B e c Source h = h
lives-before B e c Sink h = not_from_false _ (is_left-before B e c (not-true _ h))

pub reader_lives-before : (t : Tables) (B : List Event) (e : Event) (c : ℕ) → reader_lives t (B ++ e ∷ []) c ≡ true
    → reader_lives t B c ≡ true
reader_lives-before t B e c h = lives-before B e c (reader_of t c) h

-- ---- what is unread

pub unread_length : (H : List Event) (c : ℕ) → length (unread_on H c) ≡ length (written_on H c) - length (read_on H c)
unread_length H c = length-drop (length (read_on H c)) (written_on H c)

pub unread_length-push : (B : List Event) (e : Event) (c : ℕ)
    → length (unread_on (B ++ e ∷ []) c)
    ≡ (length (written_on B c) + length (written_in c e)) - (length (read_on B c) + length (read_in c e))
unread_length-push B e c =
    let whole = unread_length (B ++ e ∷ []) c in
    let written = ap length (written_on-push B e c) ∙ length-append (written_on B c) (written_in c e) in
    let read = ap length (read_on-push B e c) ∙ length-append (read_on B c) (read_in c e) in
    omega arith

-- ---- what a process said

silent : (t : Tables) (B : List Event) (e : Event) (q : ℕ) → said_in q e ≡ [] → ProcessCanSay t q (read_on B) (talk_of B q)
    → ProcessCanSay t q (read_on (B ++ e ∷ [])) (talk_of (B ++ e ∷ []) q)
silent t B e q none h =
    subst (ProcessCanSay t q (read_on (B ++ e ∷ []))) (sym (flat_map-same (said_in q) B e none))
    (CanSay-grows t q (read_on B) (read_on (B ++ e ∷ [])) (talk_of B q) (read_on-grows B e) h)

speaks : (t : Tables) (B : List Event) (e : Event) (q : ℕ) (spoken : Said) → said_in q e ≡ spoken ∷ []
    → ProcessCanSay t q (read_on (B ++ e ∷ [])) (talk_of B q ++ spoken ∷ [])
    → ProcessCanSay t q (read_on (B ++ e ∷ [])) (talk_of (B ++ e ∷ []) q)
speaks t B e q spoken is h =
    subst (ProcessCanSay t q (read_on (B ++ e ∷ []))) (ap (λ xs. talk_of B q ++ xs) (sym is) ∙ sym (talk_of-push B e q)) h

said_elsewhere : (p q : ℕ) (spoken : Said) → (p ≡ q → ⊥) → cond (eqb p q) (spoken ∷ []) [] ≡ []
said_elsewhere p q spoken differ = ap (λ b. cond b (spoken ∷ []) []) (ne_eqb p q differ)

said_more : (t : Tables) (B : List Event) (e : Event) → IsConsistent t B → KeepsConsistent t B e → (q : ℕ)
    → q < length t.instances → ProcessCanSay t q (read_on (B ++ e ∷ [])) (talk_of (B ++ e ∷ []) q)
said_more t B (Get p c v) s w q below =
    elim (cases_eq p q) [
      | inl same ↦
          subst (λ x. ProcessCanSay t x (read_on (B ++ Get p c v ∷ [])) (talk_of (B ++ Get p c v ∷ []) x)) same
          (speaks t B (Get p c v) p (said.Got c v) (said_by p p (said.Got c v) refl) w.1)
      | inr differ ↦ silent t B (Get p c v) q (said_elsewhere p q (said.Got c v) differ) (s.said q below)
    ]
said_more t B (Put p c v) s w q below =
    elim (cases_eq p q) [
      | inl same ↦
          subst (λ x. ProcessCanSay t x (read_on (B ++ Put p c v ∷ [])) (talk_of (B ++ Put p c v ∷ []) x)) same
          (speaks t B (Put p c v) p (said.Put c v) (said_by p p (said.Put c v) refl)
          (CanSay-grows t p (read_on B) (read_on (B ++ Put p c v ∷ [])) _ (read_on-grows B (Put p c v)) w.1))
      | inr differ ↦ silent t B (Put p c v) q (said_elsewhere p q (said.Put c v) differ) (s.said q below)
    ]
said_more t B event s w q below = silent t B event q refl (s.said q below)

-- ---- what was read begins what was written

keeps_order : (B : List Event) (e : Event) (c : ℕ) → read_in c e ≡ [] → IsPrefix (read_on B c) (written_on B c)
    → IsPrefix (read_on (B ++ e ∷ []) c) (written_on (B ++ e ∷ []) c)
keeps_order B e c none h =
    subst (λ xs. IsPrefix xs (written_on (B ++ e ∷ []) c)) (sym (read_on-same B e c none))
    (IsPrefix-trans (read_on B c) (written_on B c) (written_on (B ++ e ∷ []) c) h (written_on-grows B e c))

takes_oldest : (B : List Event) (e : Event) (c : ℕ) (v : ℤ) → read_in c e ≡ v ∷ [] → IsOldest B c v
    → IsPrefix (read_on B c) (written_on B c) → IsPrefix (read_on (B ++ e ∷ []) c) (written_on (B ++ e ∷ []) c)
takes_oldest B e c v is oldest h =
    subst (λ xs. IsPrefix xs (written_on (B ++ e ∷ []) c))
    (ap (λ xs. read_on B c ++ xs) (sym is) ∙ sym (read_on-push B e c))
    (IsPrefix-trans (read_on B c ++ v ∷ []) (written_on B c) (written_on (B ++ e ∷ []) c)
    (one_item_more (read_on B c) (written_on B c) oldest.rest v h oldest.first)
    (written_on-grows B e c))

pub item_here : (c : ℕ) (v : ℤ) → cond (eqb c c) (v ∷ []) [] ≡ v ∷ []
item_here c v = ap (λ b. cond b (v ∷ []) []) (eq-eqb c c refl)

in_order_more : (t : Tables) (B : List Event) (e : Event) → IsConsistent t B → KeepsConsistent t B e → (c : ℕ)
    → c < length t.channels → IsPrefix (read_on (B ++ e ∷ []) c) (written_on (B ++ e ∷ []) c)
in_order_more t B (Get p d v) s w c below =
    elim (cases_eq d c) [
      | inl same ↦
          takes_oldest B (Get p d v) c v (ap (λ x. cond (eqb x c) (v ∷ []) []) same ∙ item_here c v)
          (subst (λ x. IsOldest B x v) same w.0) (s.in_order c below)
      | inr differ ↦ keeps_order B (Get p d v) c (none_elsewhere d c v differ) (s.in_order c below)
    ]
in_order_more t B (Take d v) s w c below =
    elim (cases_eq d c) [
      | inl same ↦
          takes_oldest B (Take d v) c v (ap (λ x. cond (eqb x c) (v ∷ []) []) same ∙ item_here c v)
          (subst (λ x. IsOldest B x v) same w) (s.in_order c below)
      | inr differ ↦ keeps_order B (Take d v) c (none_elsewhere d c v differ) (s.in_order c below)
    ]
in_order_more t B event s w c below = keeps_order B event c refl (s.in_order c below)

-- ---- within capacity

-- no more is unread than the capacity
abbrev pub IsWithin : Tables → List Event → (c : ℕ) → Type 0
IsWithin t H c =
    reader_lives t H c ≡ true → (cap : ℕ) → capacity_after t H c ≡ Some cap → length (unread_on H c) ≤ cap

writes_none : (t : Tables) (B : List Event) (e : Event) → MayFollow t B e → (c : ℕ) → written_in c e ≡ []
    → IsWithin t B c → IsWithin t (B ++ e ∷ []) c
writes_none t B e f c none h alive cap is =
    let s = smaller_before t B e f c cap is in
    let was : length (unread_on B c) ≤ s.before = h (reader_lives-before t B e c alive) s.before s.is in
    let at_most = s.at_most in
    let before = unread_length B c in
    let after = unread_length-push B e c in
    let nothing = ap length none in
    omega arith

one_at_most : (b : Bool) (v : ℤ) → length (cond b (v ∷ []) []) ≤ 1
one_at_most true v = omega arith
one_at_most false v = omega arith

-- a channel that is not full, of which the reader lives, has room
has_room : (t : Tables) (B : List Event) (c cap : ℕ) → is_full t B c ≡ false → reader_lives t B c ≡ true
    → capacity_after t B c ≡ Some cap → length (unread_on B c) < cap
has_room t B c cap room_left alive is =
    leb-false cap (length (unread_on B c))
    (elim (and_cases (reader_lives t B c) (reaches (capacity_after t B c) (length (unread_on B c))) room_left) [
      | inl gone ↦ absurd (both_ways (reader_lives t B c) gone alive)
      | inr below ↦ ap (λ o. reaches o (length (unread_on B c))) (sym is) ∙ below
    ])

finds_room : (t : Tables) (B : List Event) (e : Event) → MayFollow t B e → (c : ℕ) → length (written_in c e) ≤ 1
    → is_full t B c ≡ false → IsWithin t (B ++ e ∷ []) c
finds_room t B e f c one room_left alive cap is =
    let s = smaller_before t B e f c cap is in
    let at_most = s.at_most in
    let room = has_room t B c s.before room_left (reader_lives-before t B e c alive) s.is in
    let before = unread_length B c in
    let after = unread_length-push B e c in
    omega arith

source_has_no_capacity : (channel : ChannelSpec) (cap : ℕ) (later : ℕ → ℕ) → is_source channel ≡ true
    → option_map later (capacity channel) ≡ Some cap → ⊥
source_has_no_capacity (channel.Inner n) cap later source is = false≢true source
source_has_no_capacity channel.Source cap later source is = absurd cc
source_has_no_capacity (channel.Sink n) cap later source is = false≢true source

fed_source : (t : Tables) (H : List Event) (c : ℕ) → is_source (channel_at t c) ≡ true → IsWithin t H c
fed_source t H c source alive cap is =
    absurd (source_has_no_capacity (channel_at t c) cap (after_growths t (count_by (is_growth_of c) H)) source is)

within_more : (t : Tables) (B : List Event) (e : Event) → IsConsistent t B → MayFollow t B e → KeepsConsistent t B e
    → (c : ℕ) → c < length t.channels → IsWithin t (B ++ e ∷ []) c
within_more t B (Put p d v) s f w c below =
    elim (cases_eq d c) [
      | inl same ↦ finds_room t B (Put p d v) f c (one_at_most (eqb d c) v)
          (subst (λ x. is_full t B x ≡ false) same w.0)
      | inr differ ↦ writes_none t B (Put p d v) f c (none_elsewhere d c v differ) (s.within c below)
    ]
within_more t B (Feed d v) s f w c below =
    elim (cases_eq d c) [
      | inl same ↦ fed_source t (B ++ Feed d v ∷ []) c
          (subst (λ x. is_source (channel_at t x) ≡ true) same f.due.source)
      | inr differ ↦ writes_none t B (Feed d v) f c (none_elsewhere d c v differ) (s.within c below)
    ]
within_more t B event s f w c below = writes_none t B event f c refl (s.within c below)

pub IsConsistent-more : (t : Tables) (B : List Event) (e : Event) → IsConsistent t B → MayFollow t B e
    → KeepsConsistent t B e → IsConsistent t (B ++ e ∷ [])
IsConsistent-more t B e s f w =
    record { said = said_more t B e s w; in_order = in_order_more t B e s w; within = within_more t B e s f w }

-- ---- the converse

-- an item that is read in a legal history is the oldest unread one
was_oldest : (t : Tables) (B : List Event) (e : Event) (c : ℕ) (v : ℤ) → c < length t.channels
    → IsConsistent t (B ++ e ∷ []) → read_in c e ≡ v ∷ [] → written_in c e ≡ [] → IsOldest B c v
was_oldest t B e c v below s is none =
    record {
      rest = _;
      first = item_behind (read_on B c) (written_on B c) v
          (subst (λ xs. IsPrefix xs (written_on B c)) (read_on-push B e c ∙ ap (λ xs. read_on B c ++ xs) is)
          (subst (λ xs. IsPrefix (read_on (B ++ e ∷ []) c) xs) (written_on-same B e c none) (s.in_order c below)));
    }

-- an event that ends nobody and is no leave leaves the reader as it is
pub reader_lives-same : (t : Tables) (B : List Event) (e : Event) (c : ℕ) → ((p : ℕ) → is_end_of p e ≡ false)
    → is_leave_of c e ≡ false → reader_lives t (B ++ e ∷ []) c ≡ reader_lives t B c
reader_lives-same t B e c none stays = by_end (reader_of t c)
  where
    by_end : (end : End) → lives (B ++ e ∷ []) c end ≡ lives B c end
    by_end (Process q) =
        ap not
        (list_any-append (is_end_of q) B (e ∷ []) ∙ ap (λ b. has_ended B q || (b || false)) (none q)
        ∙ or-false (has_ended B q))
    by_end Source = refl
    by_end Sink =
        ap not
        (list_any-append (is_leave_of c) B (e ∷ []) ∙ ap (λ b. is_left B c || (b || false)) stays
        ∙ or-false (is_left B c))

-- a put in a legal history found room
found_room : (t : Tables) (B : List Event) (p c : ℕ) (v : ℤ) → c < length t.channels → IsConsistent t B
    → IsConsistent t (B ++ Put p c v ∷ []) → is_full t B c ≡ false
found_room t B p c v below before s = false_from_ne_true (is_full t B c) clash
  where
    over : (o : Option ℕ) → capacity_after t B c ≡ o → reaches o (length (unread_on B c)) ≡ true
        → reader_lives t B c ≡ true → ⊥
    over None was full alive = false≢true full
    over (Some cap) was full alive =
        let within =
        s.within c below (reader_lives-same t B (Put p c v) c (λ q. refl) refl ∙ alive) cap
        (capacity_after-same t B (Put p c v) c refl ∙ was) in
        let reached = leb-true cap (length (unread_on B c)) full in
        let order = length_of_prefix (read_on B c) (written_on B c) (before.in_order c below) in
        let was_unread = unread_length B c in
        let is_unread = unread_length-push B (Put p c v) c in
        let one = ap length (item_here c v) in
        omega arith

    clash : is_full t B c ≡ true → ⊥
    clash full =
        let both = and_parts (reader_lives t B c) (reaches (capacity_after t B c) (length (unread_on B c))) full in
        over (capacity_after t B c) refl both.1 both.0

pub KeepsConsistent-last : (t : Tables) (B : List Event) (e : Event) → Legal t (B ++ e ∷ []) → KeepsConsistent t B e
KeepsConsistent-last t B (Get p c v) legal =
    let n = (Legal-last t B (Get p c v) legal).numbers in (
      was_oldest t B (Get p c v) c v n.1 (Legal-consistent t (B ++ Get p c v ∷ []) legal) (item_here c v) refl,
      CanSay-last t B (Get p c v) legal p n.0 (said.Got c v) (said_by p p (said.Got c v) refl),
    )
KeepsConsistent-last t B (Put p c v) legal =
    let n = (Legal-last t B (Put p c v) legal).numbers in (
      found_room t B p c v n.1 (Legal-consistent t B (Legal-before t B (Put p c v) legal))
          (Legal-consistent t (B ++ Put p c v ∷ []) legal),
      CanSay-grows t p (read_on (B ++ Put p c v ∷ [])) (read_on B) (talk_of B p ++ said.Put c v ∷ [])
          (λ d. IsPrefix-same _ _ (read_on-same B (Put p c v) d refl))
          (CanSay-last t B (Put p c v) legal p n.0 (said.Put c v) (said_by p p (said.Put c v) refl)),
    )
KeepsConsistent-last t B (Take c v) legal =
    was_oldest t B (Take c v) c v (Legal-last t B (Take c v) legal).numbers
    (Legal-consistent t (B ++ Take c v ∷ []) legal) (item_here c v) refl
KeepsConsistent-last t B event legal = tt

-- one more event, exactly
pub Legal-exactly : (t : Tables) (B : List Event) (e : Event)
    → Legal t (B ++ e ∷ []) ↔ (Legal t B × MayFollow t B e × KeepsConsistent t B e)
Legal-exactly t B e = (
  λ legal. (Legal-before t B e legal, Legal-last t B e legal, KeepsConsistent-last t B e legal),
  λ h. Legal-push t B e h.0 h.1 (IsConsistent-more t B e (Legal-consistent t B h.0) h.1 h.2),
)
