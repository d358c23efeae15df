-- From the answers of the devices to the lists of the sources and the sinks.
use Rattle.std.proofs.Common.{◌≡◌, ◌≢◌, ℕ, ◌≤◌, Bool, true, false, cond, eqb, ◌||◌, ℤ, List, [], ◌∷◌, ◌++◌, length, length-append, Option, Some, None, Result, Ok, Err, refl, sym, ap, ◌∙◌, subst, inl, inr, append-nil, append_assoc, arith}
use Rattle.kpn_stream.proofs.Common.{same_from_push, cases_eq, eq-eqb, ne_eqb, eqb-true, both_ways, false≢true, or_right, IsPrefix, IsPrefix-refl, IsPrefix-trans, IsPrefix-from_rest, IsPrefix-same, same_from_prefix, prefix_of_push, Tables, channel_at, is_source, is_sink, IsNetwork, Event, written_in, written_on, read_in, read_on, unread_on, is_closed, is_close_of, is_left, is_closed-next, written_on-push, written_on-same, read_on-push, read_on-same, no_source, no_sink, none_elsewhere, reads_begin_writes, unread_length, SourceFault, SinkFault, is_of_source, is_of_sink, MayRead, MayReadItem, Fed, at_first, by_others, by_look, by_item, by_end, by_fault, by_no_memory, HasGiven, Served, none_yet, meanwhile, took, took_not, took_in_vain, flushed, flushed_not, left, left_not, had_enough, had_enough_not, IsSinkTaken, Gave, nothing_given, gave, told_end, gave_not, any_looked, another_gave, WasGiven, GivesList, GiveInTurn, Took, nothing_taken, took_item, took_none, another_took, any_flushed, WasTaken}
use Rattle.kpn_net.specs.Process.{Family}
use Rattle.kpn_net.specs.Iteration.{iterate, IsBelowLeast, IsLeast}
use Rattle.kpn_net.proofs.Networks.{sink_there}
use Rattle.kpn_history.specs.declared.event.Event.TheVariants as event
use Rattle.kpn_history.specs.Legal.{Legal, MayFeed}
use Rattle.kpn_history.specs.Complete.{IsComplete, IsFedFrom}
use Rattle.kpn_history.proofs.Kahn.{below_least}
use Rattle.kpn_history.proofs.Complete.{least_if_complete}
use Rattle.kpn_history.proofs.Legality.{Legal-before}
use Rattle.kpn_history.proofs.Ownership.{IsOwn-last}
use Rattle.kpn_book.specs.Outcomes.{IsEnough}
use Rattle.kpn_stream.specs.declared.faults.SourceFault.TheVariants as source_fault
use Rattle.kpn_stream.specs.declared.faults.SinkFault.TheVariants as sink_fault
use Rattle.kpn_stream.proofs.Going.{closed_same}

-- ---- what events leave as it is

-- an item that an event writes or reads here
item_here : (c : ℕ) (v : ℤ) → cond (eqb c c) (v ∷ []) [] ≡ v ∷ []
item_here c v = ap (λ b. cond b (v ∷ []) []) (eq-eqb c c refl)

module _ (t : Tables) (network : IsNetwork t) (B : List Event) where
  -- an event of others writes nothing on a source
  unfed : (e : Event) → Legal t (B ++ e ∷ []) → is_of_source e ≡ false → (c : ℕ) → is_source (channel_at t c) ≡ true
      → written_on (B ++ e ∷ []) c ≡ written_on B c
  unfed e legal other c source = written_on-same B e c (nothing e legal other)
    where
      nothing : (e : Event) → Legal t (B ++ e ∷ []) → is_of_source e ≡ false → written_in c e ≡ []
      nothing (event.Put p d v) legal other =
          none_elsewhere d c v
          (λ same. no_source t d c p (IsOwn-last t network B (event.Put p d v) legal) source (sym same))
      nothing (event.Feed d v) legal other = absurd (false≢true (sym other))
      nothing e legal other = refl

  -- and reads nothing from a sink
  untaken : (e : Event) → Legal t (B ++ e ∷ []) → is_of_sink e ≡ false → (c : ℕ) → is_sink (channel_at t c) ≡ true
      → read_on (B ++ e ∷ []) c ≡ read_on B c
  untaken e legal other c sink = read_on-same B e c (nothing e legal other)
    where
      nothing : (e : Event) → Legal t (B ++ e ∷ []) → is_of_sink e ≡ false → read_in c e ≡ []
      nothing (event.Get p d v) legal other =
          none_elsewhere d c v
          (λ same. no_sink t d c p (IsOwn-last t network B (event.Get p d v) legal) sink (sym same))
      nothing (event.Take d v) legal other = absurd (false≢true (sym other))
      nothing e legal other = refl

-- ---- the sources

module _ {S : Type 0} (gives : S → ℕ → Result (Option ℤ) SourceFault → S → Type 0) (looks : S → ℕ → S → Type 0)
    (first : S) (t : Tables) where
  -- each source was fed what its device gave
  abbrev pub GaveAll : List Event → S → Type 0
  GaveAll H now =
      (c : ℕ) → is_source (channel_at t c) ≡ true → Gave gives looks first c (written_on H c) (is_closed H c) now

  moved : (now : S) (c : ℕ) (xs ys : List ℤ) (b d : Bool) → ys ≡ xs → d ≡ b → Gave gives looks first c xs b now
      → Gave gives looks first c ys d now
  moved now c xs ys b d same as_before is =
      subst (λ zs. Gave gives looks first c zs d now) (sym same)
      (subst (λ x. Gave gives looks first c xs x now) (sym as_before) is)

  or_nothing : (b : Bool) → (b || false) ≡ b
  or_nothing true = refl
  or_nothing false = refl

  -- a source that may be read is open
  at_open : (H : List Event) (c d : ℕ) (before : S) → MayFeed t H c → is_source (channel_at t d) ≡ true → d ≡ c
      → GaveAll H before → Gave gives looks first c (written_on H c) false before
  at_open H c d before may source same all =
      subst (λ b. Gave gives looks first c (written_on H c) b before) may.not_closed
      (subst (λ x. Gave gives looks first x (written_on H x) (is_closed H x) before) same (all d source))

  feeds : (H : List Event) (c : ℕ) (v : ℤ) (before now : S) → MayFeed t H c → gives before c (Ok (Some v)) now
      → GaveAll H before → GaveAll (H ++ event.Feed c v ∷ []) now
  feeds H c v before now may answer all d source =
      let closed = is_closed-next H (event.Feed c v) d ∙ or_nothing (is_closed H d) in
      elim (cases_eq d c) [
        | inl same ↦
            moved now d (written_on H c ++ v ∷ []) (written_on (H ++ event.Feed c v ∷ []) d) false
            (is_closed (H ++ event.Feed c v ∷ []) d)
            (ap (written_on (H ++ event.Feed c v ∷ [])) same ∙ written_on-push H (event.Feed c v) c
            ∙ ap (λ xs. written_on H c ++ xs) (item_here c v))
            (closed ∙ ap (is_closed H) same ∙ may.not_closed)
            (subst (λ x. Gave gives looks first x (written_on H c ++ v ∷ []) false now) (sym same)
            (gave (written_on H c) v before now (at_open H c d before may source same all) answer))
        | inr other ↦
            let away : c ≡ d → ⊥ = λ same. other (sym same) in
            moved now d (written_on H d) (written_on (H ++ event.Feed c v ∷ []) d) (is_closed H d)
            (is_closed (H ++ event.Feed c v ∷ []) d)
            (written_on-same H (event.Feed c v) d (none_elsewhere c d v away)) closed
            (another_gave (written_on H d) (is_closed H d) c (Ok (Some v)) before now (all d source) away answer)
      ]

  closes : (H : List Event) (c : ℕ) (before now : S) → MayFeed t H c → gives before c (Ok None) now
      → GaveAll H before → GaveAll (H ++ event.Close c ∷ []) now
  closes H c before now may answer all d source =
      let written = written_on-same H (event.Close c) d refl in
      elim (cases_eq d c) [
        | inl same ↦
            moved now d (written_on H c) (written_on (H ++ event.Close c ∷ []) d) true
            (is_closed (H ++ event.Close c ∷ []) d) (written ∙ ap (written_on H) same)
            (ap (is_closed (H ++ event.Close c ∷ [])) same ∙ is_closed-next H (event.Close c) c
            ∙ or_right (is_closed H c) (is_close_of c (event.Close c)) (eq-eqb c c refl))
            (subst (λ x. Gave gives looks first x (written_on H c) true now) (sym same)
            (told_end (written_on H c) before now (at_open H c d before may source same all) answer))
        | inr other ↦
            let away : c ≡ d → ⊥ = λ same. other (sym same) in
            moved now d (written_on H d) (written_on (H ++ event.Close c ∷ []) d) (is_closed H d)
            (is_closed (H ++ event.Close c ∷ []) d) written
            (is_closed-next H (event.Close c) d ∙ ap (λ b. is_closed H d || b) (ne_eqb c d away)
            ∙ or_nothing (is_closed H d))
            (another_gave (written_on H d) (is_closed H d) c (Ok None) before now (all d source) away answer)
      ]

  fails : (H : List Event) (c : ℕ) (fault : SourceFault) (before now : S) → gives before c (Err fault) now
      → GaveAll H before → GaveAll H now
  fails H c fault before now answer all d source =
      elim (cases_eq d c) [
        | inl same ↦
            gave_not (written_on H d) (is_closed H d) fault before now (all d source)
            (subst (λ x. gives before x (Err fault) now) (sym same) answer)
        | inr other ↦
            another_gave (written_on H d) (is_closed H d) c (Err fault) before now (all d source)
            (λ same. other (sym same)) answer
      ]

  gave_so_far : IsNetwork t → {H : List Event} {failed : Option (ℕ × SourceFault)} {now : S}
      → Fed t gives looks first H failed now → Legal t H → failed ≡ None → GaveAll H now
  gave_so_far network at_first legal well = λ c source. nothing_given
  gave_so_far network (by_others H e failed now so_far other) legal well = λ c source.
      moved now c (written_on H c) (written_on (H ++ e ∷ []) c) (is_closed H c) (is_closed (H ++ e ∷ []) c)
      (unfed t network H e legal other c source) (closed_same H e c other)
      (gave_so_far network so_far (Legal-before t H e legal) well c source)
  gave_so_far network (by_look H d before now so_far look) legal well = λ c source.
      any_looked (written_on H c) (is_closed H c) d before now (gave_so_far network so_far legal refl c source) look
  gave_so_far network (by_item H c v before now so_far may answer) legal well =
      feeds H c v before now (legal.follows H (event.Feed c v) (IsPrefix-refl (H ++ event.Feed c v ∷ []))).due answer
      (gave_so_far network so_far (Legal-before t H (event.Feed c v) legal) refl)
  gave_so_far network (by_end H c before now so_far may answer) legal well =
      closes H c before now may.may_feed answer (gave_so_far network so_far (Legal-before t H (event.Close c) legal) refl)
  gave_so_far network (by_fault H c fault before now so_far may answer) legal well = absurd cc
  gave_so_far network (by_no_memory H c given before now so_far may answer) legal well = absurd cc

  -- what was given stays given, whatever others do
  still_given : IsNetwork t → (H : List Event) (e : Event) → Legal t (H ++ e ∷ []) → is_of_source e ≡ false
      → (failed : Option (ℕ × SourceFault)) (now : S) (c : ℕ) → is_source (channel_at t c) ≡ true
      → WasGiven gives looks first c H failed now → WasGiven gives looks first c (H ++ e ∷ []) failed now
  still_given network H e legal other failed now c source given =
      let written = unfed t network H e legal other c source in
      let closed = closed_same H e c other in
      elim given [
        | inl all ↦
            inl (moved now c (written_on H c) (written_on (H ++ e ∷ []) c) (is_closed H c) (is_closed (H ++ e ∷ []) c)
            written closed all)
        | inr vain ↦
            inr (record {
              no_memory = vain.no_memory;
              before = vain.before;
              given = vain.given;
              fed = moved vain.before c (written_on H c) (written_on (H ++ e ∷ []) c) (is_closed H c)
                  (is_closed (H ++ e ∷ []) c) written closed vain.fed;
              last = vain.last;
            })
      ]

  unfed_last : (H : List Event) (c : ℕ) (given : Option ℤ) (before now : S) → gives before c (Ok given) now
      → GaveAll H before → (d : ℕ) → is_source (channel_at t d) ≡ true
      → WasGiven gives looks first d H (Some (c, source_fault.NoMemory)) now
  unfed_last H c given before now answer all d source =
      elim (cases_eq d c) [
        | inl same ↦
            inr (record {
              no_memory = ap (λ x. Some (x, source_fault.NoMemory)) (sym same);
              before = before;
              given = given;
              fed = all d source;
              last = subst (λ x. gives before x (Ok given) now) (sym same) answer;
            })
        | inr other ↦
            inl (another_gave (written_on H d) (is_closed H d) c (Ok given) before now (all d source)
            (λ same. other (sym same)) answer)
      ]

  pub gave_all : IsNetwork t → {H : List Event} {failed : Option (ℕ × SourceFault)} {now : S}
      → Fed t gives looks first H failed now → Legal t H → (c : ℕ) → is_source (channel_at t c) ≡ true
      → WasGiven gives looks first c H failed now
  gave_all network at_first legal c source = inl nothing_given
  gave_all network (by_others H e failed now so_far other) legal c source =
      still_given network H e legal other failed now c source
      (gave_all network so_far (Legal-before t H e legal) c source)
  gave_all network (by_look H d before now so_far look) legal c source =
      inl (gave_so_far network (by_look H d before now so_far look) legal refl c source)
  gave_all network (by_item H d v before now so_far may answer) legal c source =
      inl (gave_so_far network (by_item H d v before now so_far may answer) legal refl c source)
  gave_all network (by_end H d before now so_far may answer) legal c source =
      inl (gave_so_far network (by_end H d before now so_far may answer) legal refl c source)
  gave_all network (by_fault H d fault before now so_far may answer) legal c source =
      inl (fails H d fault before now answer (gave_so_far network so_far legal refl) c source)
  gave_all network (by_no_memory H d given before now so_far may answer) legal c source =
      unfed_last H d given before now answer (gave_so_far network so_far legal refl) c source

  -- what was fed begins the list
  listed : (H : List Event) (now : S) (failed : Option (ℕ × SourceFault)) (c : ℕ) (list : List ℤ)
      → GivesList gives looks first c list → WasGiven gives looks first c H failed now
      → IsPrefix (written_on H c) list × (is_closed H c ≡ true → written_on H c ≡ list)
  listed H now failed c list lists given =
      elim given [
        | inl all ↦ lists (written_on H c) (is_closed H c) now all
        | inr vain ↦ lists (written_on H c) (is_closed H c) vain.before vain.fed
      ]

  pub fed_from : IsNetwork t → (H : List Event) → Legal t H → (now : S) (failed : Option (ℕ × SourceFault))
      → Fed t gives looks first H failed now → (given : Family)
      → ((c : ℕ) → is_source (channel_at t c) ≡ true → GivesList gives looks first c (given c)) → IsFedFrom t H given
  fed_from network H legal now failed so_far given lists = record {
    begun = record {
      each = λ c source.
          subst (λ b. IsPrefix (cond b (written_on H c) []) (given c)) (sym source)
          (listed H now failed c (given c) (lists c source) (gave_all network so_far legal c source)).0;
    };
    whole = λ c source closed.
        (listed H now failed c (given c) (lists c source) (gave_all network so_far legal c source)).1 closed;
  }

-- ---- lists that come in turn

module _ {S : Type 0} (gives : S → ℕ → Result (Option ℤ) SourceFault → S → Type 0) (looks : S → ℕ → S → Type 0)
    (ahead : S → ℕ → List ℤ) (turns : GiveInTurn gives looks ahead) (first : S) (c : ℕ) where
  Rest : List ℤ → Bool → S → Type 0
  Rest xs false now = xs ++ ahead now c ≡ ahead first c
  Rest xs true now = xs ≡ ahead first c

  -- what is ahead stays
  rest_stays : (xs : List ℤ) (ended : Bool) (before now : S) → ahead now c ≡ ahead before c → Rest xs ended before
      → Rest xs ended now
  unfolding Rest
  rest_stays xs false before now same is = ap (λ ys. xs ++ ys) same ∙ is
  rest_stays xs true before now same is = is

  rest_is : {xs : List ℤ} {ended : Bool} {now : S} → Gave gives looks first c xs ended now → Rest xs ended now
  unfolding Rest
  rest_is nothing_given = refl
  rest_is (gave xs v before now so_far answer) =
      append_assoc xs (v ∷ []) (ahead now c) ∙ ap (λ ys. xs ++ ys) (sym (turns.item before now c v answer))
      ∙ rest_is so_far
  rest_is (told_end xs before now so_far answer) =
      sym (append-nil xs) ∙ ap (λ ys. xs ++ ys) (sym (turns.end before now c answer)) ∙ rest_is so_far
  rest_is (gave_not xs ended fault before now so_far answer) =
      rest_stays xs ended before now (turns.fault before now c fault answer) (rest_is so_far)
  rest_is (any_looked xs ended d before now so_far look) =
      rest_stays xs ended before now (turns.look before now c d look) (rest_is so_far)
  rest_is (another_gave xs ended d answer before now so_far other gives_d) =
      rest_stays xs ended before now (turns.others before now c d answer gives_d other) (rest_is so_far)

  pub gives_ahead : GivesList gives looks first c (ahead first c)
  unfolding Rest
  gives_ahead xs ended now so_far = by ended (rest_is so_far)
    where
      by : (ended : Bool) → Rest xs ended now
          → IsPrefix xs (ahead first c) × (ended ≡ true → xs ≡ ahead first c)
      by false is = (IsPrefix-from_rest xs (ahead now c) (ahead first c) is, λ e. absurd (false≢true e))
      by true is = (IsPrefix-same xs (ahead first c) is, λ _. is)

-- ---- no read ahead of need

-- what an event of a source needs
abbrev pub DueNow : Tables → List Event → Event → Type 0
DueNow t B (event.Feed c v) = MayReadItem t B c
DueNow t B (event.Close c) = MayRead t B c
DueNow t B e = Unit {0}

module _ {S : Type 0} (gives : S → ℕ → Result (Option ℤ) SourceFault → S → Type 0) (looks : S → ℕ → S → Type 0)
    (first : S) (t : Tables) where
  -- the last event, or one before it
  last_or_before : (B H : List Event) (e f : Event) → IsPrefix (B ++ e ∷ []) (H ++ f ∷ []) → DueNow t H f
      → (IsPrefix (B ++ e ∷ []) H → DueNow t B e) → DueNow t B e
  last_or_before B H e f begins due before =
      elim (prefix_of_push (B ++ e ∷ []) H f begins) [
        | inl earlier ↦ before earlier
        | inr last ↦
            let same = same_from_push B H e f last in
            subst (λ X. DueNow t X e) (sym same.0) (subst (DueNow t H) (sym same.1) due)
      ]

  due_for_others : (H : List Event) (e : Event) → is_of_source e ≡ false → DueNow t H e
  due_for_others H (event.Feed c v) other = absurd (false≢true (sym other))
  due_for_others H (event.Close c) other = absurd (false≢true (sym other))
  due_for_others H e other = tt

  none_begun : (B : List Event) (e : Event) → IsPrefix (B ++ e ∷ []) [] → ⊥
  none_begun [] e begins = begins
  none_begun (f ∷ B) e begins = begins

  pub was_due : {H : List Event} {failed : Option (ℕ × SourceFault)} {now : S} → Fed t gives looks first H failed now
      → (B : List Event) (e : Event) → IsPrefix (B ++ e ∷ []) H → DueNow t B e
  was_due at_first B e begins = absurd (none_begun B e begins)
  was_due (by_others H f failed now so_far other) B e begins =
      last_or_before B H e f begins (due_for_others H f other) (was_due so_far B e)
  was_due (by_look H c before now so_far look) B e begins = was_due so_far B e begins
  was_due (by_item H c v before now so_far may answer) B e begins =
      last_or_before B H e (event.Feed c v) begins may (was_due so_far B e)
  was_due (by_end H c before now so_far may answer) B e begins =
      last_or_before B H e (event.Close c) begins may (was_due so_far B e)
  was_due (by_fault H c fault before now so_far may answer) B e begins = was_due so_far B e begins
  was_due (by_no_memory H c given before now so_far may answer) B e begins = was_due so_far B e begins

  pub fed_when_due : {H : List Event} {failed : Option (ℕ × SourceFault)} {now : S}
      → Fed t gives looks first H failed now
      → (B : List Event) (c : ℕ) (v : ℤ) → IsPrefix (B ++ event.Feed c v ∷ []) H → MayReadItem t B c
  fed_when_due so_far B c v begins = was_due so_far B (event.Feed c v) begins

  pub closed_when_due : {H : List Event} {failed : Option (ℕ × SourceFault)} {now : S}
      → Fed t gives looks first H failed now → (B : List Event) (c : ℕ) → IsPrefix (B ++ event.Close c ∷ []) H
      → MayRead t B c
  closed_when_due so_far B c begins = was_due so_far B (event.Close c) begins

-- ---- the sinks

no_failure : (c : ℕ) → ◌≡◌ {A = Option (ℕ × SinkFault)} None (Some (c, sink_fault.NoMemory)) → ⊥
no_failure c e = cc

abbrev is_gone : Option (ℕ × SinkFault) → Bool
is_gone (Some (c, sink_fault.Gone)) = true
is_gone failed = false

gone_only : (d c : ℕ)
    → ◌≡◌ {A = Option (ℕ × SinkFault)} (Some (d, sink_fault.Gone)) (Some (c, sink_fault.NoMemory)) → ⊥
gone_only d c e = false≢true (sym (ap is_gone e))

module _ {K : Type 0} (takes : K → ℕ → ℤ → Result (Unit {0}) SinkFault → K → Type 0)
    (flushes : K → ℕ → Result (Unit {0}) SinkFault → K → Type 0) (t : Tables) (network : IsNetwork t)
    (first : K) where
  -- the device of each sink took what was taken from the sink
  abbrev pub TookAll : List Event → K → Type 0
  TookAll H now = (c : ℕ) → is_sink (channel_at t c) ≡ true → Took takes flushes first c (read_on H c) now

  same_read : (now : K) (G H : List Event) (c : ℕ) → read_on G c ≡ read_on H c
      → Took takes flushes first c (read_on H c) now → Took takes flushes first c (read_on G c) now
  same_read now G H c same = subst (λ xs. Took takes flushes first c xs now) (sym same)

  takes_one : (H : List Event) (c : ℕ) (v : ℤ) (before now : K) → takes before c v (Ok tt) now → TookAll H before
      → TookAll (H ++ event.Take c v ∷ []) now
  takes_one H c v before now answer all d sink =
      elim (cases_eq d c) [
        | inl same ↦
            subst (λ x. Took takes flushes first x (read_on (H ++ event.Take c v ∷ []) x) now) (sym same)
            (subst (λ xs. Took takes flushes first c xs now)
            (sym (read_on-push H (event.Take c v) c ∙ ap (λ xs. read_on H c ++ xs) (item_here c v)))
            (took_item (read_on H c) v before now
            (subst (λ x. Took takes flushes first x (read_on H x) before) same (all d sink)) answer))
        | inr other ↦
            let away : c ≡ d → ⊥ = λ same. other (sym same) in
            same_read now (H ++ event.Take c v ∷ []) H d
            (read_on-same H (event.Take c v) d (none_elsewhere c d v away))
            (another_took (read_on H d) c v (Ok tt) before now (all d sink) away answer)
      ]

  takes_none : (H : List Event) (c : ℕ) (v : ℤ) (fault : SinkFault) (before now : K)
      → takes before c v (Err fault) now → TookAll H before → TookAll H now
  takes_none H c v fault before now answer all d sink =
      elim (cases_eq d c) [
        | inl same ↦
            took_none (read_on H d) v fault before now (all d sink)
            (subst (λ x. takes before x v (Err fault) now) (sym same) answer)
        | inr other ↦
            another_took (read_on H d) c v (Err fault) before now (all d sink) (λ same. other (sym same)) answer
      ]

  left_sink : (H : List Event) (c : ℕ) (now : K) → TookAll H now → TookAll (H ++ event.Leave c ∷ []) now
  left_sink H c now all d sink =
      same_read now (H ++ event.Leave c ∷ []) H d (read_on-same H (event.Leave c) d refl) (all d sink)

  -- no device has failed, or nobody reads what it hands on
  took_so_far : {wanted : Option ℕ} {H : List Event} {failed : Option (ℕ × SinkFault)} {now : K}
      → Served takes flushes wanted first H failed now → Legal t H
      → ((c : ℕ) → failed ≡ Some (c, sink_fault.NoMemory) → ⊥) → TookAll H now
  took_so_far none_yet legal well = λ c sink. nothing_taken
  took_so_far (meanwhile H e failed now so_far other) legal well = λ c sink.
      same_read now (H ++ e ∷ []) H c (untaken t network H e legal other c sink)
      (took_so_far so_far (Legal-before t H e legal) well c sink)
  took_so_far (took H c v before now so_far few answer) legal well =
      takes_one H c v before now answer
      (took_so_far so_far (Legal-before t H (event.Take c v) legal) no_failure)
  took_so_far (took_not H c v fault before now so_far few answer) legal well =
      takes_none H c v fault before now answer (took_so_far so_far legal no_failure)
  took_so_far (took_in_vain H c v before now so_far few answer) legal well = absurd (well c refl)
  took_so_far (flushed H c before now so_far answer) legal well = λ d sink.
      any_flushed (read_on H d) c (Ok tt) before now (took_so_far so_far legal no_failure d sink) answer
  took_so_far (flushed_not H c fault before now so_far answer) legal well = λ d sink.
      any_flushed (read_on H d) c (Err fault) before now (took_so_far so_far legal no_failure d sink) answer
  took_so_far (left H c now so_far) legal well =
      left_sink H c now (took_so_far so_far (Legal-before t H (event.Leave c) legal) (gone_only c))
  took_so_far (left_not H c now so_far) legal well = absurd (well c refl)
  took_so_far (had_enough H c before now so_far enough answer) legal well =
      left_sink H c now
      (λ d sink.
      any_flushed (read_on H d) c (Ok tt) before now
      (took_so_far so_far (Legal-before t H (event.Leave c) legal) no_failure d sink) answer)
  took_so_far (had_enough_not H c before now so_far enough answer) legal well = absurd (well c refl)

  -- what was taken stays taken, whatever others do
  still_taken : (H : List Event) (e : Event) → Legal t (H ++ e ∷ []) → is_of_sink e ≡ false
      → (failed : Option (ℕ × SinkFault)) (now : K) (c : ℕ) → is_sink (channel_at t c) ≡ true
      → WasTaken takes flushes first c H failed now → WasTaken takes flushes first c (H ++ e ∷ []) failed now
  still_taken H e legal other failed now c sink taken =
      let same = untaken t network H e legal other c sink in
      elim taken [
        | inl all ↦ inl (same_read now (H ++ e ∷ []) H c same all)
        | inr vain ↦
            inr (record {
              no_memory = vain.no_memory;
              before = vain.before;
              item = vain.item;
              taken = same_read vain.before (H ++ e ∷ []) H c same vain.taken;
              last = vain.last;
            })
      ]

  untaken_last : (H : List Event) (c : ℕ) (v : ℤ) (before now : K) → takes before c v (Ok tt) now → TookAll H before
      → (d : ℕ) → is_sink (channel_at t d) ≡ true
      → WasTaken takes flushes first d H (Some (c, sink_fault.NoMemory)) now
  untaken_last H c v before now answer all d sink =
      elim (cases_eq d c) [
        | inl same ↦
            inr (record {
              no_memory = ap (λ x. Some (x, sink_fault.NoMemory)) (sym same);
              before = before;
              item = v;
              taken = all d sink;
              last = subst (λ x. takes before x v (Ok tt) now) (sym same) answer;
            })
        | inr other ↦
            inl
            (another_took (read_on H d) c v (Ok tt) before now (all d sink) (λ same. other (sym same)) answer)
      ]

  pub took_all : {wanted : Option ℕ} {H : List Event} {failed : Option (ℕ × SinkFault)} {now : K}
      → Served takes flushes wanted first H failed now → Legal t H → (c : ℕ) → is_sink (channel_at t c) ≡ true
      → WasTaken takes flushes first c H failed now
  took_all (meanwhile H e failed now so_far other) legal c sink =
      still_taken H e legal other failed now c sink (took_all so_far (Legal-before t H e legal) c sink)
  took_all (took_in_vain H d v before now so_far few answer) legal c sink =
      untaken_last H d v before now answer (took_so_far so_far legal no_failure) c sink
  took_all none_yet legal c sink = inl nothing_taken
  took_all (took H d v before now so_far few answer) legal c sink =
      inl (took_so_far (took H d v before now so_far few answer) legal no_failure c sink)
  took_all (took_not H d v fault before now so_far few answer) legal c sink =
      inl
      (takes_none H d v fault before now answer (took_so_far so_far legal no_failure) c sink)
  took_all (flushed H d before now so_far answer) legal c sink =
      inl (took_so_far (flushed H d before now so_far answer) legal no_failure c sink)
  took_all (flushed_not H d fault before now so_far answer) legal c sink =
      inl
      (any_flushed (read_on H c) d (Err fault) before now (took_so_far so_far legal no_failure c sink) answer)
  took_all (left H d now so_far) legal c sink =
      inl (took_so_far (left H d now so_far) legal no_failure c sink)
  took_all (left_not H d now so_far) legal c sink = inl (took_so_far so_far legal (gone_only d) c sink)
  took_all (had_enough H d before now so_far enough answer) legal c sink =
      inl (took_so_far (had_enough H d before now so_far enough answer) legal no_failure c sink)
  took_all (had_enough_not H d before now so_far enough answer) legal c sink =
      inl
      (any_flushed (read_on H c) d (Ok tt) before now (took_so_far so_far legal no_failure c sink) answer)

  -- ---- no more than is wanted

  one_more : (items : ℕ) (H : List Event) (c : ℕ) (v : ℤ) → (HasGiven (Some items) H c → ⊥) → (d : ℕ)
      → length (read_on H d) ≤ items → length (read_on (H ++ event.Take c v ∷ []) d) ≤ items
  one_more items H c v few d most =
      elim (cases_eq d c) [
        | inl same ↦
            let here =
            ap length (read_on-push H (event.Take c v) c ∙ ap (λ xs. read_on H c ++ xs) (item_here c v)) in
            let one = length-append (read_on H c) (v ∷ []) in
            let less : length (read_on H c) ≤ items = subst (λ x. length (read_on H x) ≤ items) same most in
            let other : items ≢ length (read_on H c) = λ e. few (ap Some e) in
            subst (λ x. length (read_on (H ++ event.Take c v ∷ []) x) ≤ items) (sym same) (omega arith)
        | inr other ↦
            let long =
            ap length
            (read_on-same H (event.Take c v) d (none_elsewhere c d v (λ same. other (sym same)))) in
            omega arith
      ]

  pub at_most : (items : ℕ) {H : List Event} {failed : Option (ℕ × SinkFault)} {now : K}
      → Served takes flushes (Some items) first H failed now → Legal t H → (d : ℕ) → is_sink (channel_at t d) ≡ true
      → length (read_on H d) ≤ items
  at_most items none_yet legal d sink = omega arith
  at_most items (meanwhile H e failed now served other) legal d sink =
      let long = ap length (untaken t network H e legal other d sink) in
      let most = at_most items served (Legal-before t H e legal) d sink in
      omega arith
  at_most items (took H c v before now served few answer) legal d sink =
      one_more items H c v few d (at_most items served (Legal-before t H (event.Take c v) legal) d sink)
  at_most items (took_not H c v fault before now served few answer) legal d sink = at_most items served legal d sink
  at_most items (took_in_vain H c v before now served few answer) legal d sink = at_most items served legal d sink
  at_most items (flushed H c before now served answer) legal d sink = at_most items served legal d sink
  at_most items (flushed_not H c fault before now served answer) legal d sink = at_most items served legal d sink
  at_most items (left H c now served) legal d sink =
      let long = ap length (read_on-same H (event.Leave c) d refl) in
      let most = at_most items served (Legal-before t H (event.Leave c) legal) d sink in
      omega arith
  at_most items (left_not H c now served) legal d sink = at_most items served legal d sink
  at_most items (had_enough_not H c before now served enough answer) legal d sink = at_most items served legal d sink
  at_most items (had_enough H c before now served enough answer) legal d sink =
      let long = ap length (read_on-same H (event.Leave c) d refl) in
      let most = at_most items served (Legal-before t H (event.Leave c) legal) d sink in
      omega arith

  pub exactly : (items : ℕ) (H : List Event) → Legal t H → (now : K) (failed : Option (ℕ × SinkFault))
      → Served takes flushes (Some items) first H failed now → (wanted : Option ℕ) → wanted ≡ Some items
      → IsEnough t H wanted → (c : ℕ) → is_sink (channel_at t c) ≡ true → length (read_on H c) ≡ items
  exactly items H legal now failed served wanted same enough c sink =
      let all = subst (IsEnough t H) same enough in
      let least = all c (sink_there t c sink) sink in
      let most = at_most items served legal c sink in
      omega arith

-- ---- the least solution

module _ (t : Tables) (network : IsNetwork t) (H : List Event) (legal : Legal t H) (given : Family)
    (from : IsFedFrom t H given) (c : ℕ) where
  pub taken_below : IsBelowLeast t given c (read_on H c)
  taken_below =
      let is = below_least t network H legal given from.begun c in
      record {
        turns = is.turns;
        below = IsPrefix-trans (read_on H c) (written_on H c) (iterate t given is.turns c)
            (reads_begin_writes t H legal c) is.below;
      }

  pub taken_whole : IsComplete t H c → IsSinkTaken H c → is_left H c ≡ false → IsLeast t given c (read_on H c)
  taken_whole complete taken not_left =
      elim taken [
        | inl empty ↦
            let none = eqb-true (length (unread_on H c)) 0 empty in
            let long = unread_length H c in
            let all : length (written_on H c) ≤ length (read_on H c) = omega arith in
            subst (IsLeast t given c)
            (sym (same_from_prefix (read_on H c) (written_on H c) (reads_begin_writes t H legal c) all))
            (least_if_complete t network H legal given from c complete)
        | inr gone ↦ absurd (both_ways (is_left H c) not_left gone)
      ]
