-- What the output of one sink was put, by the calls for it and for others.
use Rattle.std.proofs.Common.{◌≡◌, ◌≢◌, ℕ, ◌<◌, Bool, true, false, ◌||◌, ℤ, List, [], ◌∷◌, ◌++◌, length, get_or, slice_set, IsSome, Option, Some, None, Result, Ok, Err, refl, sym, ap, ◌∙◌, subst, inl, inr, arith}
use Rattle.kpn_stream_devices.proofs.Common.{Appends, Keeps, append_known, Appends-nil, Appends-trans, Appends-kept, cases_eq, eq-eqb, false≢true, length-set, Tables, channel_at, is_sink, IsNetwork, Event, read_in, read_on, Legal, flat_map-push, read_on-push, read_on-same, no_sink, none_elsewhere, Legal-before, item_here, IsOwn-last, SinkFault, is_of_sink, Served, none_yet, meanwhile, took, took_not, flushed, flushed_not, took_in_vain, left, left_not, had_enough, had_enough_not, OutputFormat, SinkOutput, SinkOutputs, text_of, HasOwnDevice, IsServed, text_of_all, OutputRel, OutputsDo, OutputsTake, OutputsFlush, Takes, Flushes}
use Rattle.kpn_history.specs.declared.event.Event.TheVariants as event
use Rattle.kpn_history.proofs.AfterEvent.{is_left-next}
use Rattle.kpn_stream.specs.declared.faults.SinkFault.TheVariants as sink_fault
use Rattle.kpn_stream_devices.proofs.Firsts.{IsFirst, holds_still, first_found, first_stays, found_mine, found_other}
use Rattle.kpn_stream_devices.proofs.Firsts.{found_none, found_within, was_here, stays_here}
use Rattle.kpn_stream_devices.specs.SinkOutputs.{WritesOnly, by_output, by_none, device_holds, output_of, was_put}

abbrev pub channel_of : {G : Type 0} → SinkOutput G → ℕ
channel_of output = output.channel

module _ {O G : Type 0} (holds : O → Option (List ℕ)) (holds_in : G → Option (List ℕ)) (c i : ℕ) where
  -- output i is that of sink c, and has its own device
  pub record IsMine (outputs : List (SinkOutput G)) : Type 0 where
    pub first : IsFirst channel_of c i outputs
    pub own : HasOwnDevice outputs i

  -- the file of an output is there still
  file_stays : (standard written : O) (file after : Option G) → WritesOnly standard written file after → IsSome file
      → IsSome after
  file_stays standard written None after only some = absurd (false≢true some)
  file_stays standard written (Some file) None only some = absurd only
  file_stays standard written (Some file) (Some after) only some = refl

  -- what an output with a file was put does not depend on standard output
  apart : (standard written : O) (o : SinkOutput G) → IsSome o.file
      → was_put holds holds_in written o ≡ was_put holds holds_in standard o
  apart standard written o some =
      ap (λ held. append_known held o.bytes.items) (same o.file some)
    where
      same : (file : Option G) → IsSome file
          → device_holds holds holds_in written file ≡ device_holds holds holds_in standard file
      same None some = absurd (false≢true some)
      same (Some file) some = refl

  -- a call that changes an output leaves it the output of its sink
  changed : (os : List (SinkOutput G)) (j : ℕ) (o w : SinkOutput G) → j < length os → get_or os j o ≡ o
      → w.channel ≡ o.channel → (IsSome o.file → IsSome w.file) → IsMine os → IsMine (slice_set os j w)
  changed os j o w below at channel file m = record {
    first = first_stays channel_of c i os j o w below at channel m.first;
    own = elim m.own [
      | inl some ↦
          inl (λ d. holds_still (λ
          (x : SinkOutput G). IsSome x.file) os j o w below at file i d m.first.within (some d))
      | inr others ↦
          inr (λ k d inside other.
          let there : k < length os = omega (arith, length-set os j w, inside) in
          holds_still (λ (x : SinkOutput G). IsSome x.file) os j o w below at file k d there (others k d there other))
    ];
  }

  -- how output i writes items
  abbrev pub format_at : SinkOutput G → SinkOutputs O G → OutputFormat
  format_at d x = (get_or x.each.now.items i d).format

  module _ (Does : OutputRel O G) (before : SinkOutputs O G) (answer : Result (Unit {0}) SinkFault)
      (after : SinkOutputs O G) (m : IsMine before.each.now.items) where
    stays_mine : (d : SinkOutput G) (s : ℕ) → OutputsDo Does before s answer after
        → IsMine after.each.now.items × (format_at d after ≡ format_at d before)
    stays_mine d s (by_output j o w found at channel format only does each ghost lent) =
        let os = before.each.now.items in
        let below = found_within channel_of os s j o found in (
          subst IsMine (sym each)
              (changed os j o w below at channel
              (file_stays before.standard.now after.standard.now o.file w.file only) m),
          ap (λ (xs : List (SinkOutput G)). (get_or xs i d).format) each
              ∙ holds_still (λ (x : SinkOutput G). x.format ≡ format_at d before) os j o w below at (λ is. format
              ∙ is) i d
              m.first.within refl,
        )
    stays_mine d s (by_none found is same) =
        subst (λ (x : SinkOutputs O G). IsMine x.each.now.items
        × (format_at d x ≡ format_at d before)) (sym same) (m, refl)

    -- a call for sink c is one for output i
    own_call : (d : SinkOutput G) → OutputsDo Does before c answer after → (o : SinkOutput G) × (w : SinkOutput G)
        × (get_or before.each.now.items i d ≡ o) × (get_or after.each.now.items i d ≡ w)
        × Does before.standard.now o after.standard.now w
    own_call d (by_output j o w found at channel format only does each ghost lent) =
        let os = before.each.now.items in
        let here = was_here os after.each.now.items i j o w d (found_mine channel_of c i os j o m.first found)
        (found_within channel_of os c j o found) at each in
        (o, w, here.0, here.1, does)
    own_call d (by_none found is same) = absurd (found_none channel_of c i before.each.now.items d m.first found)

    -- a call for another sink changes nothing of it
    other_call : (s : ℕ) → s ≢ c → (d : SinkOutput G) → OutputsDo Does before s answer after
        → was_put holds holds_in after.standard.now (get_or after.each.now.items i d)
        ≡ was_put holds holds_in before.standard.now (get_or before.each.now.items i d)
    other_call s other d (by_output j o w found at channel format only does each ghost lent) =
        let os = before.each.now.items in
        let away : i ≢ j = found_other channel_of c i os s j o m.first other found in
        let file : o.file ≡ None → IsSome (get_or os i d).file = λ none. elim m.own [
          | inl some ↦ some d
          | inr others ↦
              absurd
              (false≢true
              (subst IsSome none
              (subst (λ (x : SinkOutput G). IsSome x.file) at
              (others j o (found_within channel_of os s j o found) (λ same. away (sym same))))))
        ] in
        ap (λ (x : SinkOutput G). was_put holds holds_in after.standard.now x)
        (stays_here os after.each.now.items i j w d away each)
        ∙ standing o.file w.file only (get_or os i d) file
      where
        standing : (file late : Option G) → WritesOnly before.standard.now after.standard.now file late →
            (x : SinkOutput G)
            → (file ≡ None → IsSome x.file)
            → was_put holds holds_in after.standard.now x ≡ was_put holds holds_in before.standard.now x
        standing None None only x some = apart before.standard.now after.standard.now x (some refl)
        standing None (Some late) only x some = absurd only
        standing (Some file) None only x some = absurd only
        standing (Some file) (Some late) only x some = ap (λ st. was_put holds holds_in st x) only
    other_call s other d (by_none found is same) =
        ap (λ (x : SinkOutputs O G). was_put holds holds_in x.standard.now (get_or x.each.now.items i d)) same

  -- ---- all calls

  module _ (t : Tables) (network : IsNetwork t) (first : SinkOutputs O G) (d : SinkOutput G)
      (sink : is_sink (channel_at t c) ≡ true) where
    -- what the output was put
    abbrev put_then : SinkOutputs O G → Option (List ℕ)
    put_then x = was_put holds holds_in x.standard.now (get_or x.each.now.items i d)

    -- it is the text of what was taken, and the output is still that of the sink
    abbrev pub IsPut : List Event → SinkOutputs O G → Type 0
    IsPut H now =
        (IsMine now.each.now.items × (format_at d now ≡ format_at d first))
        × Appends (put_then first) (put_then now) (text_of_all (format_at d first) (read_on H c))

    -- the same items, and the same bytes
    by_same : (later H : List Event) (before now : SinkOutputs O G) → read_on later c ≡ read_on H c
        → put_then now ≡ put_then before → IsMine now.each.now.items × (format_at d now ≡ format_at d before)
        → IsPut H before
        → IsPut later now
    by_same later H before now reads puts kept put = (
      (kept.0, kept.1 ∙ put.0.1),
      subst (λ x. Appends (put_then first) x (text_of_all (format_at d first) (read_on later c))) (sym puts)
          (subst (λ xs. Appends (put_then first) (put_then before) (text_of_all (format_at d first) xs)) (sym reads) put.1),
    )

    -- an item more
    by_item : (H : List Event) (v : ℤ) (before now : SinkOutputs O G)
        → OutputsTake holds holds_in before c v (Ok tt) now
        → IsPut H before → IsPut (H ++ event.Take c v ∷ []) now
    by_item H v before now answer put =
        let Does = Takes holds holds_in v (Ok tt) in
        let kept = stays_mine Does before (Ok tt) now put.0.0 d c answer in
        let r = own_call Does before (Ok tt) now put.0.0 d answer in
        let more : Appends (put_then before) (put_then now) (text_of (format_at d first) v) =
        subst (λ (f : OutputFormat). Appends (put_then before) (put_then now) (text_of f v)) put.0.1
        (subst
        (λ (x : SinkOutput G). Appends (was_put holds holds_in before.standard.now x) (put_then now) (text_of x.format v))
        (sym r.2)
        (subst
        (λ (x : SinkOutput G).
        Appends (was_put holds holds_in before.standard.now r.0) (was_put holds holds_in now.standard.now x)
        (text_of r.0.format v)) (sym r.3) r.4.0.1)) in (
          (kept.0, kept.1 ∙ put.0.1),
          subst (λ xs. Appends (put_then first) (put_then now) xs)
              (sym
              (ap (text_of_all (format_at d first))
              (read_on-push H (event.Take c v) c ∙ ap (λ xs. read_on H c ++ xs) (item_here c v))
              ∙ flat_map-push (text_of (format_at d first)) (read_on H c) v))
              (Appends-trans (put_then first) (put_then before) (put_then now) _ _ put.1 more),
        )

    -- what was kept is handed on
    pub by_flush : (H : List Event) (before now : SinkOutputs O G) → OutputsFlush holds holds_in before c (Ok tt) now
        → IsPut H before → IsPut H now
    by_flush H before now answer put =
        let Does = Flushes holds holds_in (Ok tt) in
        let kept = stays_mine Does before (Ok tt) now put.0.0 d c answer in
        let r = own_call Does before (Ok tt) now put.0.0 d answer in
        let same : Keeps (put_then before) (put_then now) =
        subst (λ (x : SinkOutput G). Keeps (was_put holds holds_in before.standard.now x) (put_then now)) (sym r.2)
        (subst
        (λ (x : SinkOutput G).
        Keeps (was_put holds holds_in before.standard.now r.0) (was_put holds holds_in now.standard.now x)) (sym r.3)
        r.4.1) in (
          (kept.0, kept.1 ∙ put.0.1),
          Appends-kept (put_then first) (put_then before) (put_then now) _ put.1 same,
        )

    -- a call for another sink
    pub by_other : (Does : OutputRel O G) (later H : List Event) (s : ℕ)
        (answer : Result (Unit {0}) SinkFault) (before now : SinkOutputs O G) → s ≢ c → read_on later c ≡ read_on H c
        → OutputsDo Does before s answer now → IsPut H before → IsPut later now
    by_other Does later H s answer before now other reads does put =
        by_same later H before now reads (other_call Does before answer now put.0.0 s other d does)
        (stays_mine Does before answer now put.0.0 d s does) put

    -- from sink c nothing was taken by an event of others
    untaken : (B : List Event) (e : Event) → Legal t (B ++ e ∷ []) → is_of_sink e ≡ false
        → read_on (B ++ e ∷ []) c ≡ read_on B c
    untaken B e legal other = read_on-same B e c (nothing e legal other)
      where
        nothing : (e : Event) → Legal t (B ++ e ∷ []) → is_of_sink e ≡ false → read_in c e ≡ []
        nothing (event.Get p b v) legal other =
            none_elsewhere b c v
            (λ same. no_sink t b c p (IsOwn-last t network B (event.Get p b v) legal) sink (sym same))
        nothing (event.Take b v) legal other = absurd (false≢true (sym other))
        nothing e legal other = refl

    not_left : (x y : Bool) → (x || y) ≡ false → (x ≡ false) × (y ≡ false)
    not_left true y is = absurd (false≢true (sym is))
    not_left false y is = (refl, is)

    -- it was served before, too
    before_event : (H : List Event) (e : Event) (failed some : Option (ℕ × SinkFault))
        → ((fault : SinkFault) → some ≢ Some (c, fault)) → IsServed (H ++ e ∷ []) failed c → IsServed H some c
    before_event H e failed some works served = record {
      stays = (not_left _ _ (sym (is_left-next H e c) ∙ served.stays)).0;
      works = works;
    }

    unfailed : (fault : SinkFault) → ◌≢◌ {A = Option (ℕ × SinkFault)} None (Some (c, fault))
    unfailed fault e = cc

    sink_in : Option (ℕ × SinkFault) → ℕ
    sink_in (Some one) = one.0
    sink_in None = c

    -- whose device has failed is another
    another : (s : ℕ) (fault : SinkFault) (H : List Event) → IsServed H (Some (s, fault)) c → s ≢ c
    another s fault H served same = served.works fault (ap (λ (n : ℕ). Some (n, fault)) same)

    failed_other : (s : ℕ) (was : SinkFault) → s ≢ c → (fault : SinkFault)
        → ◌≢◌ {A = Option (ℕ × SinkFault)} (Some (s, was)) (Some (c, fault))
    unfolding sink_in
    failed_other s was other fault e = other (ap sink_in e)

    -- and so is one that was left
    another_left : (s : ℕ) (H : List Event) (failed : Option (ℕ × SinkFault))
        → IsServed (H ++ event.Leave s ∷ []) failed c → s ≢ c
    another_left s H failed served same =
        false≢true
        (sym (not_left _ _ (sym (is_left-next H (event.Leave s) c) ∙ served.stays)).1 ∙ eq-eqb s c same)

    pub put_so_far : {wanted : Option ℕ} {H : List Event} {failed : Option (ℕ × SinkFault)} {now : SinkOutputs O G}
        → Served (OutputsTake holds holds_in) (OutputsFlush holds holds_in) wanted first H failed now
        → IsMine first.each.now.items → Legal t H → IsServed H failed c → IsPut H now
    put_so_far none_yet m legal served = ((m, refl), Appends-nil (put_then first))
    put_so_far (meanwhile H e failed now so_far other) m legal served =
        let put = put_so_far so_far m (Legal-before t H e legal) (before_event H e failed failed served.works served) in
        by_same (H ++ e ∷ []) H now now (untaken H e legal other) refl (put.0.0, refl) put
    put_so_far (took H s v before now so_far few answer) m legal served =
        let put = put_so_far so_far m (Legal-before t H (event.Take s v) legal)
        (before_event H (event.Take s v) None None unfailed served) in
        elim (cases_eq s c) [
          | inl same ↦
              subst (λ (n : ℕ). IsPut (H ++ event.Take n v ∷ []) now) (sym same)
              (by_item H v before now
              (subst (λ (n : ℕ). OutputsTake holds holds_in before n v (Ok tt) now) same answer) put)
          | inr other ↦
              by_other (Takes holds holds_in v (Ok tt)) (H ++ event.Take s v ∷ []) H s (Ok tt) before now other
              (read_on-same H (event.Take s v) c (none_elsewhere s c v other)) answer put
        ]
    put_so_far (took_not H s v fault before now so_far few answer) m legal served =
        by_other (Takes holds holds_in v (Err fault)) H H s (Err fault) before now (another s fault H served) refl
        answer
        (put_so_far so_far m legal (record { stays = served.stays; works = unfailed }))
    put_so_far (took_in_vain H s v before now so_far few answer) m legal served =
        by_other (Takes holds holds_in v (Ok tt)) H H s (Ok tt) before now (another s sink_fault.NoMemory H served) refl
        answer (put_so_far so_far m legal (record { stays = served.stays; works = unfailed }))
    put_so_far (flushed H s before now so_far answer) m legal served =
        let put = put_so_far so_far m legal served in
        elim (cases_eq s c) [
          | inl same ↦
              by_flush H before now
              (subst (λ (n : ℕ). OutputsFlush holds holds_in before n (Ok tt) now) same answer) put
          | inr other ↦
              by_other (Flushes holds holds_in (Ok tt)) H H s (Ok tt) before now other refl answer put
        ]
    put_so_far (flushed_not H s fault before now so_far answer) m legal served =
        by_other (Flushes holds holds_in (Err fault)) H H s (Err fault) before now (another s fault H served) refl
        answer
        (put_so_far so_far m legal (record { stays = served.stays; works = unfailed }))
    put_so_far (left H s now so_far) m legal served =
        let other = another_left s H None served in
        let put = put_so_far so_far m (Legal-before t H (event.Leave s) legal)
        (before_event H (event.Leave s) None (Some (s, sink_fault.Gone)) (failed_other s sink_fault.Gone other)
        served) in
        by_same (H ++ event.Leave s ∷ []) H now now (read_on-same H (event.Leave s) c refl) refl (put.0.0, refl) put
    put_so_far (left_not H s now so_far) m legal served =
        put_so_far so_far m legal
        (record {
          stays = served.stays;
          works = failed_other s sink_fault.Gone (another s sink_fault.NoMemory H served);
        })
    put_so_far (had_enough H s before now so_far enough answer) m legal served =
        by_other (Flushes holds holds_in (Ok tt)) (H ++ event.Leave s ∷ []) H s (Ok tt) before now
        (another_left s H None served) (read_on-same H (event.Leave s) c refl) answer
        (put_so_far so_far m (Legal-before t H (event.Leave s) legal)
        (before_event H (event.Leave s) None None unfailed served))
    put_so_far (had_enough_not H s before now so_far enough answer) m legal served =
        by_other (Flushes holds holds_in (Ok tt)) H H s (Ok tt) before now (another s sink_fault.NoMemory H served) refl
        answer (put_so_far so_far m legal (record { stays = served.stays; works = unfailed }))

pub all_put : {O G : Type 0} (holds : O → Option (List ℕ)) (holds_in : G → Option (List ℕ)) (t : Tables)
    → (network : IsNetwork t) → (first : SinkOutputs O G) (c i : ℕ) (d : SinkOutput G)
    → (sink : is_sink (channel_at t c) ≡ true)
    → output_of first.each.now.items c ≡ Some i → HasOwnDevice first.each.now.items i → {wanted : Option ℕ}
    → {H : List Event} → {failed : Option (ℕ × SinkFault)} → {now : SinkOutputs O G}
    → Served (OutputsTake holds holds_in) (OutputsFlush holds holds_in) wanted first H failed now → Legal t H
    → IsServed H failed c → IsPut holds holds_in c i t network first d sink H now
all_put holds holds_in t network first c i d sink found own served legal stays =
    put_so_far holds holds_in c i t network first d sink served
    (record { first = first_found channel_of c i first.each.now.items found; own = own }) legal stays
