-- The history of the whole shows the journals, the reads and the talks that the parts have, so it has all that Kahn's
-- theorem needs.
use Rattle.kpn_parts.proofs.Common.{◌≡◌, ℕ, ◌<◌, ◌≤◌, true, false, Bool, ℤ, cond, eqb, eq-eqb, List, [], ◌∷◌, ◌++◌, length, map, refl, sym, ap, ◌∙◌, subst, inl, inr, arith, flat_map, cases_Bool, cases_eq, cases_lt, ne_eqb, both_ways, append-nil, map-append, Said, IsPrefix, IsPrefix-refl, IsPrefix-trans, IsPrefix-same, Tables, channel_at, is_source, is_sink, IsNetwork, IsFamilyPrefix, AgreeOnIns, ProcessCanSay, talk_on, map-prefix, CanSay-own_ins, Reads-below, Writes-below, source_there, sink_there, Event, said_in, talk_of, written_in, read_in, written_on, read_on, Legal-consistent, Owns, AreOwn, AreOwn-append, none_elsewhere, reads_begin_writes, IsSpoken, reads_if_contained, PartEvent, Part, whole_process, whole_channel, part_at, IsCut, IsCutSource, events_of_part, in_whole, is_of_whole, counted, whole_event, whole_history, IsSent, AreLegal, IsJoined}
use Rattle.kpn_lang.specs.declared.talk.Said.TheVariants as said
use Rattle.kpn_history.specs.declared.event.Event.TheVariants.{Get, Put, WaitEmpty, WaitFull, Ended, Feed, Close, Take, Leave, Grow}
use Rattle.kpn_parts.proofs.Renaming.{said_in_whole, seen_by, talk_same, reads_in_whole, writes_in_whole}
use Rattle.kpn_parts.proofs.Ends.{part_of, by_process, ReadsIn, by_reader, written_once, read_once, feeds_in, writes_in, takes_in, reads_in_there, no_cut_sink, is_read}
use Rattle.kpn_parts.proofs.Orders.{whole_history-push, owns_last, by_legal, seen}

-- ---- numbers and lists

-- numbers are the same if others are
same_numbers : (a b x y : ℕ) → (a ≡ b → x ≡ y) → (x ≡ y → a ≡ b) → eqb a b ≡ eqb x y
same_numbers a b x y there back =
    elim (cases_eq x y) [
      | inl same ↦ eq-eqb a b (back same) ∙ sym (eq-eqb x y same)
      | inr differ ↦ ne_eqb a b (λ e. differ (there e)) ∙ sym (ne_eqb x y differ)
    ]

map_one : {A B : Type 0} (f : A → B) (b : Bool) (x : A) → cond b (f x ∷ []) [] ≡ map f (cond b (x ∷ []) [])
map_one f true x = refl
map_one f false x = refl

pub map-flat_map : {X A B : Type 0} (f : A → B) (g : X → List A) (xs : List X)
    → flat_map (λ x. map f (g x)) xs ≡ map f (flat_map g xs)
map-flat_map f g [] = refl
map-flat_map f g (x ∷ xs) =
    ap (λ ys. map f (g x) ++ ys) (map-flat_map f g xs) ∙ sym (map-append f (g x) (flat_map g xs))

-- ---- nothing is read from a channel that is not there

read_in-outside : (t : Tables) → IsNetwork t → (c : ℕ) → length t.channels ≤ c → (e : Event) → Owns t e
    → read_in c e ≡ []
read_in-outside t network c past (Get p d v) o =
    none_elsewhere d c v (λ e. let below = Reads-below t network p d o in absurd omega (arith, e, below, past))
read_in-outside t network c past (Take d v) o =
    none_elsewhere d c v (λ e. let below = sink_there t d o in absurd omega (arith, e, below, past))
read_in-outside t network c past event o = refl

read_on-outside : (t : Tables) → IsNetwork t → (c : ℕ) → length t.channels ≤ c → (H : List Event) → AreOwn t H
    → read_on H c ≡ []
read_on-outside t network c past [] own = refl
read_on-outside t network c past (e ∷ H) own =
    ap (λ xs. xs ++ read_on H c) (read_in-outside t network c past e own.0)
    ∙ read_on-outside t network c past H own.1

-- ---- events that count in the whole

module _ {X : Type 0} (t : Tables) (f : Event → List X) where
  pub counts_none : (e : Event) → f e ≡ [] → flat_map f (counted t e) ≡ []
  counts_none e none = which (is_of_whole t e)
    where
      which : (b : Bool) → flat_map f (cond b (e ∷ []) []) ≡ []
      which true = append-nil (f e) ∙ none
      which false = refl

  pub counts_all : (e : Event) → is_of_whole t e ≡ true → flat_map f (counted t e) ≡ f e
  counts_all e is = ap (λ b. flat_map f (cond b (e ∷ []) [])) is ∙ append-nil (f e)

  pub dropped : (e : Event) → is_of_whole t e ≡ false → flat_map f (counted t e) ≡ []
  dropped e is = ap (λ b. flat_map f (cond b (e ∷ []) [])) is

module _ (t : Tables) (network : IsNetwork t) (cut : List Part) (is : IsCut t cut) where
  -- ---- numbers in a part and in the whole

  same_channel : (r c d : ℕ) → c < length (part_at cut r).tables.channels
      → d < length (part_at cut r).tables.channels
      → eqb (whole_channel (part_at cut r) d) (whole_channel (part_at cut r) c) ≡ eqb d c
  same_channel r c d below there =
      same_numbers _ _ d c (λ e. (part_of t cut is r).distinct d c there below e)
      (λ e. ap (whole_channel (part_at cut r)) e)

  pub same_process : (r p q : ℕ) → p < length (part_at cut r).tables.instances
      → q < length (part_at cut r).tables.instances
      → eqb (whole_process (part_at cut r) q) (whole_process (part_at cut r) p) ≡ eqb q p
  same_process r p q below there =
      same_numbers _ _ q p (λ e. (is.once r r q p there below e).1) (λ e. ap (whole_process (part_at cut r)) e)

  pub other_process : (r s p q : ℕ) → (s ≡ r → ⊥) → p < length (part_at cut r).tables.instances
      → q < length (part_at cut s).tables.instances
      → eqb (whole_process (part_at cut s) q) (whole_process (part_at cut r) p) ≡ false
  other_process r s p q differ below there =
      ne_eqb _ _ (λ e. differ (is.once s r q p there below e).0)

  same_item : (r c d : ℕ) (v : ℤ) → c < length (part_at cut r).tables.channels
      → d < length (part_at cut r).tables.channels
      → cond (eqb (whole_channel (part_at cut r) d) (whole_channel (part_at cut r) c)) (v ∷ []) []
      ≡ cond (eqb d c) (v ∷ []) []
  same_item r c d v below there = ap (λ b. cond b (v ∷ []) []) (same_channel r c d below there)

  -- ---- journals

  module _ (r c : ℕ) (below : c < length (part_at cut r).tables.channels)
      (whole : IsCutSource t (part_at cut r) c → ⊥) where
    written_here : (e : Event) → Owns (part_at cut r).tables e
        → flat_map (written_in (whole_channel (part_at cut r) c)) (counted t (in_whole (part_at cut r) e))
        ≡ written_in c e
    written_here (Put p d v) o =
        counts_all t (written_in (whole_channel (part_at cut r) c)) (in_whole (part_at cut r) (Put p d v)) refl
        ∙ same_item r c d v below (Writes-below (part_at cut r).tables (part_of t cut is r).network p d o)
    written_here (Feed d v) o =
        elim (cases_Bool (is_source (channel_at t (whole_channel (part_at cut r) d)))) [
          | inl source ↦
              counts_all t (written_in (whole_channel (part_at cut r) c)) (in_whole (part_at cut r) (Feed d v)) source
              ∙ same_item r c d v below (source_there (part_at cut r).tables d o)
          | inr other ↦
              dropped t (written_in (whole_channel (part_at cut r) c)) (in_whole (part_at cut r) (Feed d v)) other
              ∙ sym
              (none_elsewhere d c v
              (λ e. whole (subst (IsCutSource t (part_at cut r)) e (record { source = o; cut = other }))))
        ]
    written_here event o =
        counts_none t (written_in (whole_channel (part_at cut r) c)) (in_whole (part_at cut r) event) refl

    written_elsewhere : (s : ℕ) (e : Event) → (s ≡ r → ⊥) → Owns (part_at cut s).tables e
        → flat_map (written_in (whole_channel (part_at cut r) c)) (counted t (in_whole (part_at cut s) e)) ≡ []
    written_elsewhere s (Put p d v) differ o =
        counts_none t (written_in (whole_channel (part_at cut r) c)) (in_whole (part_at cut s) (Put p d v))
        (none_elsewhere _ _ v
        (λ e. differ
        (written_once t network cut is s r d c (by_process p o) (writes_in t network cut is r c below whole) e)))
    written_elsewhere s (Feed d v) differ o =
        elim (cases_Bool (is_source (channel_at t (whole_channel (part_at cut s) d)))) [
          | inl source ↦
              counts_none t (written_in (whole_channel (part_at cut r) c)) (in_whole (part_at cut s) (Feed d v))
              (none_elsewhere _ _ v
              (λ e. differ
              (written_once t network cut is s r d c (feeds_in t network cut is s d o source)
              (writes_in t network cut is r c below whole) e)))
          | inr other ↦
              dropped t (written_in (whole_channel (part_at cut r) c)) (in_whole (part_at cut s) (Feed d v)) other
        ]
    written_elsewhere s event differ o =
        counts_none t (written_in (whole_channel (part_at cut r) c)) (in_whole (part_at cut s) event) refl

    -- the journal of a channel that is no cut source is that of the whole
    pub journal_same : (order : List PartEvent) → AreLegal cut order
        → written_on (whole_history t cut order) (whole_channel (part_at cut r) c) ≡ written_on (events_of_part r order) c
    journal_same =
        seen t network cut is r (written_in (whole_channel (part_at cut r) c)) (written_in c)
        (λ e same o.
        ap (λ s. flat_map (written_in (whole_channel (part_at cut r) c)) (counted t (in_whole (part_at cut s) e.event)))
        same
        ∙ written_here e.event o)
        (λ e differ o. written_elsewhere e.part e.event differ o)

  -- the journal that a part has of a channel begins that of the whole
  pub journal_begins : (r c : ℕ) → c < length (part_at cut r).tables.channels → (order : List PartEvent)
      → IsJoined t cut order → IsSent t cut order r c
  journal_begins r c below order joined =
      elim (cases_Bool (is_source (channel_at (part_at cut r).tables c))) [
        | inl source ↦ elim (cases_Bool (is_source (channel_at t (whole_channel (part_at cut r) c)))) [
          | inl outside ↦
              same
              (λ whole. both_ways (is_source (channel_at t (whole_channel (part_at cut r) c))) whole.cut outside)
          | inr other ↦ joined.sent order (IsPrefix-refl order) r c (record { source = source; cut = other })
        ]
        | inr inner ↦
            same
            (λ whole. both_ways (is_source (channel_at (part_at cut r).tables c)) inner whole.source)
      ]
    where
      same : (IsCutSource t (part_at cut r) c → ⊥) → IsSent t cut order r c
      same whole = IsPrefix-same _ _ (sym (journal_same r c below whole order joined.legal))

  -- ---- what was read

  module _ (r c : ℕ) (reads : ReadsIn t network cut is r c) where
    read_here : (e : Event) → Owns (part_at cut r).tables e
        → flat_map (read_in (whole_channel (part_at cut r) c)) (counted t (in_whole (part_at cut r) e))
        ≡ read_in c e
    read_here (Get p d v) o =
        counts_all t (read_in (whole_channel (part_at cut r) c)) (in_whole (part_at cut r) (Get p d v)) refl
        ∙ same_item r c d v (reads_in_there t network cut is r c reads)
        (Reads-below (part_at cut r).tables (part_of t cut is r).network p d o)
    read_here (Take d v) o =
        elim (cases_Bool (is_sink (channel_at t (whole_channel (part_at cut r) d)))) [
          | inl sink ↦
              counts_all t (read_in (whole_channel (part_at cut r) c)) (in_whole (part_at cut r) (Take d v)) sink
              ∙ same_item r c d v (reads_in_there t network cut is r c reads)
              (sink_there (part_at cut r).tables d o)
          | inr other ↦
              dropped t (read_in (whole_channel (part_at cut r) c)) (in_whole (part_at cut r) (Take d v)) other
              ∙ sym
              (none_elsewhere d c v
              (λ e. no_cut_sink t network cut is r c reads
              (subst (λ x. is_sink (channel_at (part_at cut r).tables x) ≡ true) e o)
              (subst (λ x. is_sink (channel_at t (whole_channel (part_at cut r) x)) ≡ false) e other)))
        ]
    read_here event o =
        counts_none t (read_in (whole_channel (part_at cut r) c)) (in_whole (part_at cut r) event) refl

    read_elsewhere : (s : ℕ) (e : Event) → (s ≡ r → ⊥) → Owns (part_at cut s).tables e
        → flat_map (read_in (whole_channel (part_at cut r) c)) (counted t (in_whole (part_at cut s) e)) ≡ []
    read_elsewhere s (Get p d v) differ o =
        counts_none t (read_in (whole_channel (part_at cut r) c)) (in_whole (part_at cut s) (Get p d v))
        (none_elsewhere _ _ v
        (λ e. differ (read_once t network cut is s r d c (by_reader p o) reads e)))
    read_elsewhere s (Take d v) differ o =
        elim (cases_Bool (is_sink (channel_at t (whole_channel (part_at cut s) d)))) [
          | inl sink ↦
              counts_none t (read_in (whole_channel (part_at cut r) c)) (in_whole (part_at cut s) (Take d v))
              (none_elsewhere _ _ v
              (λ e. differ (read_once t network cut is s r d c (takes_in t network cut is s d o sink) reads e)))
          | inr other ↦
              dropped t (read_in (whole_channel (part_at cut r) c)) (in_whole (part_at cut s) (Take d v)) other
        ]
    read_elsewhere s event differ o =
        counts_none t (read_in (whole_channel (part_at cut r) c)) (in_whole (part_at cut s) event) refl

    -- what was read from a channel where it is read
    pub read_same : (order : List PartEvent) → AreLegal cut order
        → read_on (whole_history t cut order) (whole_channel (part_at cut r) c) ≡ read_on (events_of_part r order) c
    read_same =
        seen t network cut is r (read_in (whole_channel (part_at cut r) c)) (read_in c)
        (λ e same o.
        ap (λ s. flat_map (read_in (whole_channel (part_at cut r) c)) (counted t (in_whole (part_at cut s) e.event)))
        same
        ∙ read_here e.event o)
        (λ e differ o. read_elsewhere e.part e.event differ o)

  -- ---- what a process said

  module _ (r p : ℕ) (below : p < length (part_at cut r).tables.instances) where
    said_one : (q : ℕ) (spoken : Said) → q < length (part_at cut r).tables.instances
        → cond (eqb (whole_process (part_at cut r) q) (whole_process (part_at cut r) p))
        (said_in_whole (part_at cut r) spoken ∷ []) []
        ≡ map (said_in_whole (part_at cut r)) (cond (eqb q p) (spoken ∷ []) [])
    said_one q spoken there =
        ap (λ b. cond b (said_in_whole (part_at cut r) spoken ∷ []) []) (same_process r p q below there)
        ∙ map_one (said_in_whole (part_at cut r)) (eqb q p) spoken

    said_here : (e : Event) → Owns (part_at cut r).tables e
        → flat_map (said_in (whole_process (part_at cut r) p)) (counted t (in_whole (part_at cut r) e))
        ≡ map (said_in_whole (part_at cut r)) (said_in p e)
    said_here (Get q d v) o =
        counts_all t (said_in (whole_process (part_at cut r) p)) (in_whole (part_at cut r) (Get q d v)) refl
        ∙ said_one q (said.Got d v) o.process
    said_here (Put q d v) o =
        counts_all t (said_in (whole_process (part_at cut r) p)) (in_whole (part_at cut r) (Put q d v)) refl
        ∙ said_one q (said.Put d v) o.process
    said_here event o =
        counts_none t (said_in (whole_process (part_at cut r) p)) (in_whole (part_at cut r) event) refl

    said_elsewhere : (s : ℕ) (e : Event) → (s ≡ r → ⊥) → Owns (part_at cut s).tables e
        → flat_map (said_in (whole_process (part_at cut r) p)) (counted t (in_whole (part_at cut s) e)) ≡ []
    said_elsewhere s (Get q d v) differ o =
        counts_none t (said_in (whole_process (part_at cut r) p)) (in_whole (part_at cut s) (Get q d v))
        (ap (λ b. cond b (said.Got (whole_channel (part_at cut s) d) v ∷ []) [])
        (other_process r s p q differ below o.process))
    said_elsewhere s (Put q d v) differ o =
        counts_none t (said_in (whole_process (part_at cut r) p)) (in_whole (part_at cut s) (Put q d v))
        (ap (λ b. cond b (said.Put (whole_channel (part_at cut s) d) v ∷ []) [])
        (other_process r s p q differ below o.process))
    said_elsewhere s event differ o =
        counts_none t (said_in (whole_process (part_at cut r) p)) (in_whole (part_at cut s) event) refl

    -- a process said in the whole what it said in its part
    pub talk_of_same : (order : List PartEvent) → AreLegal cut order
        → talk_of (whole_history t cut order) (whole_process (part_at cut r) p)
        ≡ map (said_in_whole (part_at cut r)) (talk_of (events_of_part r order) p)
    talk_of_same order legal =
        seen t network cut is r (said_in (whole_process (part_at cut r) p))
        (λ e. map (said_in_whole (part_at cut r)) (said_in p e))
        (λ e same o.
        ap
        (λ s. flat_map (said_in (whole_process (part_at cut r) p)) (counted t (in_whole (part_at cut s) e.event)))
        same
        ∙ said_here e.event o)
        (λ e differ o. said_elsewhere e.part e.event differ o) order legal
        ∙ map-flat_map (said_in_whole (part_at cut r)) (said_in p) (events_of_part r order)

  -- ---- each event belongs to whatever made it

  own_if_counted : (e : Event) → (is_of_whole t e ≡ true → Owns t e) → AreOwn t (counted t e)
  own_if_counted e own = which (is_of_whole t e) refl
    where
      which : (b : Bool) → is_of_whole t e ≡ b → AreOwn t (cond b (e ∷ []) [])
      which true f = (own f, tt)
      which false f = tt

  pub own_in_whole : (r : ℕ) (e : Event) → Owns (part_at cut r).tables e
      → is_of_whole t (in_whole (part_at cut r) e) ≡ true → Owns t (in_whole (part_at cut r) e)
  own_in_whole r (Get p c v) o f = reads_in_whole t (part_at cut r) (part_of t cut is r) p o.process c o
  own_in_whole r (Put p c v) o f = writes_in_whole t (part_at cut r) (part_of t cut is r) p o.process c o
  own_in_whole r (WaitEmpty p c) o f = reads_in_whole t (part_at cut r) (part_of t cut is r) p o.process c o
  own_in_whole r (WaitFull p c) o f = writes_in_whole t (part_at cut r) (part_of t cut is r) p o.process c o
  own_in_whole r (Ended p how) o f = ((part_of t cut is r).processes p o).there
  own_in_whole r (Feed c v) o f = f
  own_in_whole r (Close c) o f = f
  own_in_whole r (Take c v) o f = f
  own_in_whole r (Leave c) o f = f
  own_in_whole r (Grow p c n) o f = ((part_of t cut is r).processes p o).there

  pub own_events : (order : List PartEvent) → AreLegal cut order → AreOwn t (whole_history t cut order)
  own_events =
      by_legal t network cut is (λ order. AreOwn t (whole_history t cut order))
      (λ B e legal h.
      subst (AreOwn t) (sym (whole_history-push t network cut is B e))
      (AreOwn-append t (whole_history t cut B) (whole_event t cut e) h
      (own_if_counted (in_whole (part_at cut e.part) e.event)
      (own_in_whole e.part e.event (owns_last t network cut is B e legal)))))
      tt

  -- ---- the history of the whole has all that Kahn's theorem needs

  -- what a process of a part read is what the whole read
  read_on_ins : (r p : ℕ) → p < length (part_at cut r).tables.instances → (order : List PartEvent)
      → IsJoined t cut order
      → AgreeOnIns (part_at cut r).tables p (read_on (events_of_part r order))
      (seen_by (part_at cut r) (read_on (whole_history t cut order)))
  read_on_ins r p below order joined =
      record {
        each = λ c h.
            sym
            (read_same r c (by_reader p (reads_if_contained (part_at cut r).tables p below c h)) order joined.legal);
      }

  said_in_part : (r p : ℕ) → p < length (part_at cut r).tables.instances → (order : List PartEvent)
      → IsJoined t cut order
      → ProcessCanSay t (whole_process (part_at cut r) p) (read_on (whole_history t cut order))
      (talk_of (whole_history t cut order) (whole_process (part_at cut r) p))
  said_in_part r p below order joined =
      let part = part_at cut r in
      let W = whole_history t cut order in
      let k =
      CanSay-own_ins part.tables p (read_on (events_of_part r order)) (seen_by part (read_on W))
      (read_on_ins r p below order joined) (talk_of (events_of_part r order) p)
      ((Legal-consistent part.tables (events_of_part r order) (joined.legal r)).said p below) in
      record {
        turns = k.turns;
        said =
            IsPrefix-trans (talk_of W (whole_process part p))
            (map (said_in_whole part) (talk_of (events_of_part r order) p))
            (talk_on t (whole_process part p) k.turns (read_on W))
            (IsPrefix-same _ _ (talk_of_same r p below order joined.legal))
            (IsPrefix-trans (map (said_in_whole part) (talk_of (events_of_part r order) p))
            (map (said_in_whole part) (talk_on part.tables p k.turns (seen_by part (read_on W))))
            (talk_on t (whole_process part p) k.turns (read_on W))
            (map-prefix (said_in_whole part) _ _ k.said)
            (IsPrefix-same _ _ (sym (talk_same t part (part_of t cut is r) p below k.turns (read_on W)))));
      }

  in_order : (order : List PartEvent) → IsJoined t cut order
      → IsFamilyPrefix (read_on (whole_history t cut order)) (written_on (whole_history t cut order))
  in_order order joined x =
      elim (cases_lt x (length t.channels)) [
        | inl below ↦
            let at = is_read t network cut is x below in
            let part = part_at cut at.part in
            let c = at.channel in
            let W = whole_history t cut order in
            let H = events_of_part at.part order in
            subst (λ y. IsPrefix (read_on W y) (written_on W y)) at.same
            (IsPrefix-trans (read_on W (whole_channel part c)) (read_on H c) (written_on W (whole_channel part c))
            (IsPrefix-same _ _ (read_same at.part c at.reads order joined.legal))
            (IsPrefix-trans (read_on H c) (written_on H c) (written_on W (whole_channel part c))
            (reads_begin_writes part.tables H (joined.legal at.part) c)
            (journal_begins at.part c (reads_in_there t network cut is at.part c at.reads) order joined)))
        | inr past ↦
            subst (λ xs. IsPrefix xs (written_on (whole_history t cut order) x))
            (sym
            (read_on-outside t network x past (whole_history t cut order) (own_events order joined.legal)))
            tt
      ]

  pub is_spoken : (order : List PartEvent) → IsJoined t cut order → IsSpoken t (whole_history t cut order)
  is_spoken order joined =
      record {
        said = λ p below.
            let home = is.home p below in
            subst
            (λ q. ProcessCanSay t q (read_on (whole_history t cut order)) (talk_of (whole_history t cut order) q)) home.is
            (said_in_part home.part home.process home.there order joined);
        in_order = in_order order joined;
        own = own_events order joined.legal;
      }
