-- A process that can say no more in its part can say no more in the whole.
use Rattle.kpn_parts.proofs.Common.{◌≡◌, ℕ, ◌<◌, true, false, Bool, cond, eqb, ◌||◌, List, [], ◌∷◌, ◌++◌, length, map, Option, Some, None, refl, sym, ap, ◌∙◌, subst, inl, inr, flat_map, filter, list_any, last_or, option_map, cases_Bool, cases_lt, both_ways, IsPrefix, IsPrefix-refl, IsPrefix-trans, IsPrefix-same, End, Process, Source, Sink, Tables, instance_at, channel_at, is_sink, reader_of, IsNetwork, Family, IsFamilyPrefix, AgreeOnIns, at_channel, talk_on, map-prefix, ran_on-own_ins, Reads, reader_of-Reads, Reads-reader_of, sink-reader_of, reader_of-sink, reader_is_no_source, Event, is_of, talk_of, last_event, is_end_of, has_ended, read_on, Owns, read_on-outside, reads_if_contained, HasSaidAll, HasSaidAll-ended, IsStarved, IsStarved-last, SaysAll, PartEvent, Part, whole_process, whole_channel, part_at, IsCut, events_of_part, in_whole, counted, whole_history, AreLegal, IsJoined}
use Rattle.kpn_history.specs.declared.event.Event.TheVariants.{Get, Put, WaitEmpty, WaitFull, Ended}
use Rattle.kpn_parts.proofs.Renaming.{said_in_whole, seen_by, talk_same, reads_in_whole}
use Rattle.kpn_parts.proofs.Ends.{part_of, by_reader}
use Rattle.kpn_parts.proofs.Orders.{seen}
use Rattle.kpn_parts.proofs.Whole.{counts_all, counts_none, same_process, other_process, read_same, talk_of_same, is_spoken}

-- ---- lists

abbrev one_if : {X : Type 0} → (X → Bool) → X → List X
one_if q x = cond (q x) (x ∷ []) []

filter-flat : {X : Type 0} (q : X → Bool) (xs : List X) → flat_map (one_if q) xs ≡ filter q xs
filter-flat q [] = refl
filter-flat q (x ∷ xs) = which (q x) ∙ ap (λ ys. cond (q x) (x ∷ ys) ys) (filter-flat q xs)
  where
    which : (b : Bool) → cond b (x ∷ []) [] ++ flat_map (one_if q) xs
        ≡ cond b (x ∷ flat_map (one_if q) xs) (flat_map (one_if q) xs)
    which true = refl
    which false = refl

map-filter-flat : {X Y : Type 0} (f : X → Y) (q : X → Bool) (xs : List X)
    → flat_map (λ x. cond (q x) (f x ∷ []) []) xs ≡ map f (filter q xs)
map-filter-flat f q [] = refl
map-filter-flat f q (x ∷ xs) = which (q x) (map-filter-flat f q xs)
  where
    which : (b : Bool) → flat_map (λ y. cond (q y) (f y ∷ []) []) xs ≡ map f (filter q xs)
        → cond b (f x ∷ []) [] ++ flat_map (λ y. cond (q y) (f y ∷ []) []) xs
        ≡ map f (cond b (x ∷ filter q xs) (filter q xs))
    which true rest = ap (λ ys. f x ∷ ys) rest
    which false rest = rest

last_or-map : {X Y : Type 0} (f : X → Y) (o : Option X) (xs : List X)
    → last_or (option_map f o) (map f xs) ≡ option_map f (last_or o xs)
last_or-map f o [] = refl
last_or-map f o (x ∷ xs) = last_or-map f (Some x) xs

-- a mark for each element that passes
abbrev mark_if : {X : Type 0} → (X → Bool) → X → List (Unit {0})
mark_if q x = cond (q x) (tt ∷ []) []

abbrev is_some_mark : List (Unit {0}) → Bool
is_some_mark [] = false
is_some_mark (mark ∷ marks) = true

any-marks : {X : Type 0} (q : X → Bool) (xs : List X) → list_any q xs ≡ is_some_mark (flat_map (mark_if q) xs)
any-marks q [] = refl
any-marks q (x ∷ xs) = which (q x) (any-marks q xs)
  where
    which : (b : Bool) → list_any q xs ≡ is_some_mark (flat_map (mark_if q) xs)
        → (b || list_any q xs) ≡ is_some_mark (cond b (tt ∷ []) [] ++ flat_map (mark_if q) xs)
    which true rest = refl
    which false rest = rest

module _ (t : Tables) (network : IsNetwork t) (cut : List Part) (is : IsCut t cut) where
  module _ (r p : ℕ) (below : p < length (part_at cut r).tables.instances) where
    -- ---- the events of a process

    own_one : (q : ℕ) (e : Event) → q < length (part_at cut r).tables.instances
        → cond (eqb (whole_process (part_at cut r) q) (whole_process (part_at cut r) p))
        (in_whole (part_at cut r) e ∷ []) []
        ≡ cond (eqb q p) (in_whole (part_at cut r) e ∷ []) []
    own_one q e there =
        ap (λ b. cond b (in_whole (part_at cut r) e ∷ []) []) (same_process t network cut is r p q below there)

    own_here : (e : Event) → Owns (part_at cut r).tables e
        → flat_map (one_if (is_of (whole_process (part_at cut r) p))) (counted t (in_whole (part_at cut r) e))
        ≡ cond (is_of p e) (in_whole (part_at cut r) e ∷ []) []
    own_here (Get q d v) o =
        counts_all t (one_if (is_of (whole_process (part_at cut r) p))) (in_whole (part_at cut r) (Get q d v)) refl
        ∙ own_one q (Get q d v) o.process
    own_here (Put q d v) o =
        counts_all t (one_if (is_of (whole_process (part_at cut r) p))) (in_whole (part_at cut r) (Put q d v)) refl
        ∙ own_one q (Put q d v) o.process
    own_here (WaitEmpty q d) o =
        counts_all t (one_if (is_of (whole_process (part_at cut r) p))) (in_whole (part_at cut r) (WaitEmpty q d)) refl
        ∙ own_one q (WaitEmpty q d) o.process
    own_here (WaitFull q d) o =
        counts_all t (one_if (is_of (whole_process (part_at cut r) p))) (in_whole (part_at cut r) (WaitFull q d)) refl
        ∙ own_one q (WaitFull q d) o.process
    own_here (Ended q how) o =
        counts_all t (one_if (is_of (whole_process (part_at cut r) p))) (in_whole (part_at cut r) (Ended q how)) refl
        ∙ own_one q (Ended q how) o
    own_here event o =
        counts_none t (one_if (is_of (whole_process (part_at cut r) p))) (in_whole (part_at cut r) event) refl

    none_if : (b : Bool) (e : Event) → b ≡ false → cond b (e ∷ []) [] ≡ []
    none_if b e f = ap (λ x. cond x (e ∷ []) []) f

    own_elsewhere : (s : ℕ) (e : Event) → (s ≡ r → ⊥) → Owns (part_at cut s).tables e
        → flat_map (one_if (is_of (whole_process (part_at cut r) p))) (counted t (in_whole (part_at cut s) e)) ≡ []
    own_elsewhere s (Get q d v) differ o =
        counts_none t (one_if (is_of (whole_process (part_at cut r) p))) (in_whole (part_at cut s) (Get q d v))
        (none_if _ (in_whole (part_at cut s) (Get q d v))
        (other_process t network cut is r s p q differ below o.process))
    own_elsewhere s (Put q d v) differ o =
        counts_none t (one_if (is_of (whole_process (part_at cut r) p))) (in_whole (part_at cut s) (Put q d v))
        (none_if _ (in_whole (part_at cut s) (Put q d v))
        (other_process t network cut is r s p q differ below o.process))
    own_elsewhere s (WaitEmpty q d) differ o =
        counts_none t (one_if (is_of (whole_process (part_at cut r) p))) (in_whole (part_at cut s) (WaitEmpty q d))
        (none_if _ (in_whole (part_at cut s) (WaitEmpty q d))
        (other_process t network cut is r s p q differ below o.process))
    own_elsewhere s (WaitFull q d) differ o =
        counts_none t (one_if (is_of (whole_process (part_at cut r) p))) (in_whole (part_at cut s) (WaitFull q d))
        (none_if _ (in_whole (part_at cut s) (WaitFull q d))
        (other_process t network cut is r s p q differ below o.process))
    own_elsewhere s (Ended q how) differ o =
        counts_none t (one_if (is_of (whole_process (part_at cut r) p))) (in_whole (part_at cut s) (Ended q how))
        (none_if _ (in_whole (part_at cut s) (Ended q how)) (other_process t network cut is r s p q differ below o))
    own_elsewhere s event differ o =
        counts_none t (one_if (is_of (whole_process (part_at cut r) p))) (in_whole (part_at cut s) event) refl

    own_same : (order : List PartEvent) → AreLegal cut order
        → filter (is_of (whole_process (part_at cut r) p)) (whole_history t cut order)
        ≡ map (in_whole (part_at cut r)) (filter (is_of p) (events_of_part r order))
    own_same order legal =
        sym (filter-flat (is_of (whole_process (part_at cut r) p)) (whole_history t cut order))
        ∙ seen t network cut is r (one_if (is_of (whole_process (part_at cut r) p)))
        (λ e. cond (is_of p e) (in_whole (part_at cut r) e ∷ []) [])
        (λ e same o.
        ap
        (λ s.
        flat_map (one_if (is_of (whole_process (part_at cut r) p))) (counted t (in_whole (part_at cut s) e.event)))
        same
        ∙ own_here e.event o)
        (λ e differ o. own_elsewhere e.part e.event differ o) order legal
        ∙ map-filter-flat (in_whole (part_at cut r)) (is_of p) (events_of_part r order)

    -- the last event of a process is that of its part
    pub last_same : (order : List PartEvent) → AreLegal cut order
        → last_event (whole_history t cut order) (whole_process (part_at cut r) p)
        ≡ option_map (in_whole (part_at cut r)) (last_event (events_of_part r order) p)
    last_same order legal =
        ap (last_or None) (own_same order legal)
        ∙ last_or-map (in_whole (part_at cut r)) None (filter (is_of p) (events_of_part r order))

    -- ---- ends

    ends_here : (e : Event) → Owns (part_at cut r).tables e
        → flat_map (mark_if (is_end_of (whole_process (part_at cut r) p))) (counted t (in_whole (part_at cut r) e))
        ≡ mark_if (is_end_of p) e
    ends_here (Ended q how) o =
        counts_all t (mark_if (is_end_of (whole_process (part_at cut r) p))) (in_whole (part_at cut r) (Ended q how))
        refl
        ∙ ap (λ b. cond b (tt ∷ []) []) (same_process t network cut is r p q below o)
    ends_here event o =
        counts_none t (mark_if (is_end_of (whole_process (part_at cut r) p))) (in_whole (part_at cut r) event) refl

    ends_elsewhere : (s : ℕ) (e : Event) → (s ≡ r → ⊥) → Owns (part_at cut s).tables e
        → flat_map (mark_if (is_end_of (whole_process (part_at cut r) p))) (counted t (in_whole (part_at cut s) e)) ≡ []
    ends_elsewhere s (Ended q how) differ o =
        counts_none t (mark_if (is_end_of (whole_process (part_at cut r) p))) (in_whole (part_at cut s) (Ended q how))
        (ap (λ b. cond b (tt ∷ []) []) (other_process t network cut is r s p q differ below o))
    ends_elsewhere s event differ o =
        counts_none t (mark_if (is_end_of (whole_process (part_at cut r) p))) (in_whole (part_at cut s) event) refl

    pub ended_same : (order : List PartEvent) → AreLegal cut order
        → has_ended (whole_history t cut order) (whole_process (part_at cut r) p) ≡ has_ended (events_of_part r order) p
    ended_same order legal =
        any-marks (is_end_of (whole_process (part_at cut r) p)) (whole_history t cut order)
        ∙ ap is_some_mark
        (seen t network cut is r (mark_if (is_end_of (whole_process (part_at cut r) p))) (mark_if (is_end_of p))
        (λ e same o.
        ap
        (λ s.
        flat_map (mark_if (is_end_of (whole_process (part_at cut r) p)))
        (counted t (in_whole (part_at cut s) e.event)))
        same
        ∙ ends_here e.event o)
        (λ e differ o. ends_elsewhere e.part e.event differ o) order legal)
        ∙ sym (any-marks (is_end_of p) (events_of_part r order))

    -- ---- what more a process could say

    module _ (order : List PartEvent) (joined : IsJoined t cut order) (Y : Family)
        (longer : IsFamilyPrefix (read_on (whole_history t cut order)) Y) where
      -- the lists that the process reads, and what was taken from the sinks of its part
      abbrev lists : Family
      lists c =
          cond (is_sink (channel_at (part_at cut r).tables c)) (read_on (events_of_part r order) c)
          (seen_by (part_at cut r) Y c)

      lists_at : (c : ℕ) → is_sink (channel_at (part_at cut r).tables c) ≡ false
          → lists c ≡ Y (whole_channel (part_at cut r) c)
      lists_at c inner = ap (λ b. cond b (read_on (events_of_part r order) c) (seen_by (part_at cut r) Y c)) inner

      lists_longer : IsFamilyPrefix (read_on (events_of_part r order)) lists
      lists_longer c = which (is_sink (channel_at (part_at cut r).tables c)) refl
        where
          u : Tables
          u = (part_at cut r).tables

          by_end : (end : End) → reader_of u c ≡ end → c < length u.channels → is_sink (channel_at u c) ≡ false
              → IsPrefix (read_on (events_of_part r order) c) (Y (whole_channel (part_at cut r) c))
          by_end (Process q) e there inner =
              IsPrefix-trans _ (read_on (whole_history t cut order) (whole_channel (part_at cut r) c)) _
              (IsPrefix-same _ _
              (sym (read_same t network cut is r c (by_reader q (Reads-reader_of u q c e)) order joined.legal)))
              (longer (whole_channel (part_at cut r) c))
          by_end Source e there inner = absurd (reader_is_no_source u (part_of t cut is r).network c there e)
          by_end Sink e there inner = absurd (both_ways _ inner (sink-reader_of u c e))

          which : (b : Bool) → is_sink (channel_at u c) ≡ b
              → IsPrefix (read_on (events_of_part r order) c)
              (cond b (read_on (events_of_part r order) c) (Y (whole_channel (part_at cut r) c)))
          which true e = IsPrefix-refl (read_on (events_of_part r order) c)
          which false e =
              elim (cases_lt c (length u.channels)) [
                | inl there ↦ by_end (reader_of u c) refl there e
                | inr past ↦
                    subst (λ xs. IsPrefix xs (Y (whole_channel (part_at cut r) c)))
                    (sym (read_on-outside u c past (events_of_part r order) (joined.legal r))) tt
              ]

      no_sink_of : (c : ℕ) → Reads (part_at cut r).tables p c → is_sink (channel_at (part_at cut r).tables c) ≡ false
      no_sink_of c reads =
          elim (cases_Bool (is_sink (channel_at (part_at cut r).tables c))) [
            | inl sink ↦
                let a = reader_of-sink (part_at cut r).tables c sink in
                let b = reader_of-Reads (part_at cut r).tables (part_of t cut is r).network p c reads in absurd cc
            | inr inner ↦ inner
          ]

      lists_agree : AgreeOnIns (part_at cut r).tables p lists (seen_by (part_at cut r) Y)
      lists_agree =
          record {
            each = λ c h. lists_at c (no_sink_of c (reads_if_contained (part_at cut r).tables p below c h));
          }

      -- what bounds the talk in the part bounds it in the whole
      bounded : (n : ℕ)
          → IsPrefix (talk_on (part_at cut r).tables p n lists) (talk_of (events_of_part r order) p)
          → IsPrefix (talk_on t (whole_process (part_at cut r) p) n Y)
          (talk_of (whole_history t cut order) (whole_process (part_at cut r) p))
      bounded n h =
          let part = part_at cut r in
          IsPrefix-trans _ (map (said_in_whole part) (talk_on part.tables p n lists)) _
          (IsPrefix-same _ _
          (talk_same t part (part_of t cut is r) p below n Y
          ∙ ap (λ ran. map (said_in_whole part) (map (at_channel (instance_at part.tables p)) ran.talk))
          (sym (ran_on-own_ins part.tables p n lists (seen_by part Y) lists_agree))))
          (IsPrefix-trans _ (map (said_in_whole part) (talk_of (events_of_part r order) p)) _
          (map-prefix (said_in_whole part) _ _ h)
          (IsPrefix-same _ _ (sym (talk_of_same t network cut is r p below order joined.legal))))

    ended_in_part : (order : List PartEvent) → IsJoined t cut order → has_ended (events_of_part r order) p ≡ true
        → HasSaidAll t (whole_history t cut order) (whole_process (part_at cut r) p)
    ended_in_part order joined ended =
        record {
          whole = λ n Y longer.
              bounded order joined Y longer n
              ((HasSaidAll-ended (part_at cut r).tables p (events_of_part r order) (joined.legal r) ended).whole n
              (lists order joined Y longer) (lists_longer order joined Y longer));
        }

    starved_in_part : (order : List PartEvent) → IsJoined t cut order → (q c : ℕ)
        → last_event (events_of_part r order) p ≡ Some (WaitEmpty q c)
        → IsStarved t (whole_history t cut order) (whole_process (part_at cut r) p) (whole_channel (part_at cut r) c)
    starved_in_part order joined q c last =
        let u = (part_at cut r).tables in
        let h =
        IsStarved-last u (part_of t cut is r).network p (events_of_part r order) (joined.legal r) q c last in
        record {
          reads = reads_in_whole t (part_at cut r) (part_of t cut is r) p below c h.reads;
          whole = λ n Y longer same.
              bounded order joined Y longer n
              (h.whole n (lists order joined Y longer) (lists_longer order joined Y longer)
              (lists_at order joined Y longer c (no_sink_of order joined Y longer c h.reads)
              ∙ same ∙ read_same t network cut is r c (by_reader p h.reads) order joined.legal));
        }

    -- ---- a wait of the whole is one of the part

    record WaitsBehind (event : Event) (c : ℕ) : Type 0 where
      process : ℕ
      channel : ℕ
      same : event ≡ WaitEmpty process channel
      is_there : whole_channel (part_at cut r) channel ≡ c

    wait_behind : (q c : ℕ) (event : Event) → in_whole (part_at cut r) event ≡ WaitEmpty q c → WaitsBehind event c
    wait_behind q c (WaitEmpty x d) e = record { process = x; channel = d; same = refl; is_there = cc }
    wait_behind q c event e = absurd cc

    last_behind : (order : List PartEvent) → IsJoined t cut order → (q c : ℕ) (last : Option Event)
        → last_event (events_of_part r order) p ≡ last
        → option_map (in_whole (part_at cut r)) last ≡ Some (WaitEmpty q c)
        → IsStarved t (whole_history t cut order) (whole_process (part_at cut r) p) c
    last_behind order joined q c None l e = absurd cc
    last_behind order joined q c (Some event) l e =
        let w = wait_behind q c event cc in
        subst (IsStarved t (whole_history t cut order) (whole_process (part_at cut r) p)) w.is_there
        (starved_in_part order joined w.process w.channel (l ∙ ap (λ x. Some x) w.same))

    starved_in_whole : (order : List PartEvent) → IsJoined t cut order → (q c : ℕ)
        → last_event (whole_history t cut order) (whole_process (part_at cut r) p) ≡ Some (WaitEmpty q c)
        → IsStarved t (whole_history t cut order) (whole_process (part_at cut r) p) c
    starved_in_whole order joined q c e =
        last_behind order joined q c (last_event (events_of_part r order) p) refl (sym (last_same order joined.legal) ∙ e)

  pub says_all : (order : List PartEvent) → IsJoined t cut order → SaysAll t (whole_history t cut order)
  says_all order joined =
      let W = whole_history t cut order in
      record {
        spoken = is_spoken t network cut is order joined;
        ended = λ p below ended.
            let home = is.home p below in
            let q = whole_process (part_at cut home.part) home.process in
            subst (HasSaidAll t W) home.is
            (ended_in_part home.part home.process home.there order joined
            (sym (ended_same home.part home.process home.there order joined.legal)
            ∙ subst (λ x. has_ended W x ≡ true) (sym home.is) ended));
        starved = λ p q c below last.
            let home = is.home p below in
            subst (λ x. IsStarved t W x c) home.is
            (starved_in_whole home.part home.process home.there order joined q c
            (subst (λ x. last_event W x ≡ Some (WaitEmpty q c)) (sym home.is) last));
      }
