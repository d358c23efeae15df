-- The last calls of a stream flush its sinks: what the output of one was put has gone out then.
use Rattle.std.proofs.Common.{◌≡◌, ◌≢◌, ◌⊎◌, ℕ, zero, suc, ◌||◌, Bool, true, false, List, [], ◌∷◌, ◌++◌, get_or, flat_map, Contains, arith, Option, Some, None, Result, Ok, Err, refl, sym, ap, ◌∙◌, subst, inl, inr, append-nil}
use Rattle.kpn_stream_devices.proofs.Common.{Appends, append_known, list_any, cases_eq, eq-eqb, false≢true, flat_map-append, Tables, channel_at, is_sink, IsNetwork, Event, read_in, read_on, is_left, is_leave_of, SinkFault, is_no_growth, NoneIs, IsFlushed, AreFlushed, AreFlushedLast, Legal, SinkOutput, SinkOutputs, HasOwnDevice, IsServed, text_of_all, device_holds, output_of, was_put}
use Rattle.std.proofs.lemmas.List.Folds.{list_any-append}
use Rattle.kpn_history.specs.declared.event.Event.TheVariants as event
use Rattle.kpn_stream.specs.declared.faults.SinkFault.TheVariants as sink_fault
use Rattle.kpn_stream.specs.Ending.{end_numbers}
use Rattle.kpn_stream_devices.specs.SinkOutputs.{OutputsTake, OutputsFlush, Flushes, by_output, by_none}
use Rattle.kpn_stream_devices.proofs.Firsts.{found_mine, found_other, found_none, found_within, was_here, stays_here}
use Rattle.kpn_stream_devices.proofs.Putting.{channel_of, IsMine, IsPut, by_flush, by_other, all_put}

-- ---- what comes after a history

-- an event after it takes and leaves nothing
is_still : (c : ℕ) (e : Event) → is_no_growth e ≡ false → (is_leave_of c e ≡ false) × (read_in c e ≡ [])
is_still c (event.Get p d v) other = absurd (false≢true (sym other))
is_still c (event.Put p d v) other = absurd (false≢true (sym other))
is_still c (event.WaitEmpty p d) other = absurd (false≢true (sym other))
is_still c (event.WaitFull p d) other = absurd (false≢true (sym other))
is_still c (event.Ended p how) other = absurd (false≢true (sym other))
is_still c (event.Feed d v) other = absurd (false≢true (sym other))
is_still c (event.Close d) other = absurd (false≢true (sym other))
is_still c (event.Take d v) other = absurd (false≢true (sym other))
is_still c (event.Leave d) other = absurd (false≢true (sym other))
is_still c (event.Grow p d n) grows = (refl, refl)

still_all : (c : ℕ) (es : List Event) → NoneIs is_no_growth es
    → (list_any (is_leave_of c) es ≡ false) × (flat_map (read_in c) es ≡ [])
still_all c [] none = (refl, refl)
still_all c (e ∷ es) none =
    let one = is_still c e none.0 in
    let rest = still_all c es none.1 in (
      ap (λ b. b || list_any (is_leave_of c) es) one.0 ∙ rest.0,
      ap (λ xs. xs ++ flat_map (read_in c) es) one.1 ∙ rest.1,
    )

-- a sink was left, and a channel may have grown
module _ (c s : ℕ) (H growth : List Event) (none : NoneIs is_no_growth growth) where
  read_same : read_on (H ++ event.Leave s ∷ growth) c ≡ read_on H c
  read_same =
      flat_map-append (read_in c) H (event.Leave s ∷ growth)
      ∙ ap (λ xs. read_on H c ++ xs) (still_all c growth none).1 ∙ append-nil (read_on H c)

  left_then : is_left (H ++ event.Leave s ∷ growth) c ≡ (is_left H c || is_leave_of c (event.Leave s))
  left_then =
      list_any-append (is_leave_of c) H (event.Leave s ∷ growth)
      ∙ ap (λ b. is_left H c || (is_leave_of c (event.Leave s) || b)) (still_all c growth none).0
      ∙ ap (λ b. is_left H c || b) (or_none (is_leave_of c (event.Leave s)))
    where
      or_none : (b : Bool) → (b || false) ≡ b
      or_none true = refl
      or_none false = refl

neither : (x y : Bool) → (x || y) ≡ false → (x ≡ false) × (y ≡ false)
neither true y is = absurd (false≢true (sym is))
neither false y is = (refl, is)

-- a sink that was not left after a flush was not left before
open_before : {K : Type 0} (flushes : K → ℕ → Result (Unit {0}) SinkFault → K → Type 0) (c s : ℕ) (H later : List Event)
    (k now : K) → IsFlushed flushes s H k later now → is_left later c ≡ false → is_left H c ≡ false
open_before flushes c s H later k now (inl (left, same, is)) stays = subst (λ G. is_left G c ≡ false) same stays
open_before flushes c s H later k now (inr (inl (done, same))) stays = subst (λ G. is_left G c ≡ false) same stays
open_before flushes c s H later k now (inr (inr (gone, growth, none, same))) stays =
    (neither _ _ (sym (left_then c s H growth none) ∙ subst (λ G. is_left G c ≡ false) same stays)).0

open_all : {K : Type 0} (flushes : K → ℕ → Result (Unit {0}) SinkFault → K → Type 0) (c : ℕ) (sinks : List ℕ)
    (H later : List Event) (k now : K) → AreFlushed flushes sinks H k later now → is_left later c ≡ false
    → is_left H c ≡ false
open_all flushes c [] H later k now flushed stays = subst (λ G. is_left G c ≡ false) flushed.0 stays
open_all flushes c (s ∷ sinks) H later k now flushed stays =
    open_before flushes c s H flushed.0 k flushed.1 flushed.2
    (open_all flushes c sinks flushed.0 later flushed.1 now flushed.3 stays)

module _ {O G : Type 0} (holds : O → Option (List ℕ)) (holds_in : G → Option (List ℕ)) (t : Tables)
    (network : IsNetwork t) (first : SinkOutputs O G) (c i : ℕ) (d : SinkOutput G)
    (sink : is_sink (channel_at t c) ≡ true) where
  abbrev Flush : SinkOutputs O G → ℕ → Result (Unit {0}) SinkFault → SinkOutputs O G → Type 0
  Flush = OutputsFlush holds holds_in

  abbrev Put : List Event → SinkOutputs O G → Type 0
  Put H x = IsPut holds holds_in c i t network first d sink H x

  -- what the output keeps
  abbrev kept : SinkOutputs O G → List ℕ
  kept x = (get_or x.each.now.items i d).bytes.items

  -- a flush of sink c leaves nothing there, and one of another sink what there was
  own_keeps : (before : SinkOutputs O G) (answer : Result (Unit {0}) SinkFault) (after : SinkOutputs O G)
      → IsMine holds holds_in c i before.each.now.items → Flush before c answer after → kept after ≡ []
  own_keeps before answer after m (by_none found is same) =
      absurd (found_none channel_of c i before.each.now.items d m.first found)
  own_keeps before answer after m (by_output j o w found at channel format only does each ghost lent) =
      let os = before.each.now.items in
      let here = was_here os after.each.now.items i j o w d (found_mine channel_of c i os j o m.first found)
      (found_within channel_of os c j o found) at each in
      ap (λ (x : SinkOutput G). x.bytes.items) here.1 ∙ nothing answer does
    where
      nothing : (answer : Result (Unit {0}) SinkFault)
          → Flushes holds holds_in answer before.standard.now o after.standard.now w → w.bytes.items ≡ []
      nothing (Ok done) does = does.0
      nothing (Err fault) does = does.0

  other_keeps : (before : SinkOutputs O G) (s : ℕ) (answer : Result (Unit {0}) SinkFault) (after : SinkOutputs O G)
      → IsMine holds holds_in c i before.each.now.items → s ≢ c → Flush before s answer after → kept after ≡ kept before
  other_keeps before s answer after m other (by_none found is same) = ap kept same
  other_keeps before s answer after m other (by_output j o w found at channel format only does each ghost lent) =
      let os = before.each.now.items in
      ap (λ (x : SinkOutput G). x.bytes.items)
      (stays_here os after.each.now.items i j w d (found_other channel_of c i os s j o m.first other found) each)

  -- one flush
  put_then : (s : ℕ) (H later : List Event) (k now : SinkOutputs O G) → IsFlushed Flush s H k later now
      → is_left later c ≡ false → Put H k → Put later now
  put_then s H later k now (inl (left, same, is)) stays put =
      subst (λ (x : SinkOutputs O G). Put later x) (sym is) (subst (λ E. Put E k) (sym same) put)
  put_then s H later k now (inr (inl (done, same))) stays put =
      subst (λ E. Put E now) (sym same)
      (elim (cases_eq s c) [
        | inl here ↦
            by_flush holds holds_in c i t network first d sink H k now
            (subst (λ (n : ℕ). Flush k n (Ok tt) now) here done) put
        | inr other ↦
            by_other holds holds_in c i t network first d sink (Flushes holds holds_in (Ok tt)) H H s (Ok tt) k now
            other refl done put
      ])
  put_then s H later k now (inr (inr (gone, growth, none, same))) stays put =
      let other : s ≢ c = λ here.
      false≢true
      (sym (neither _ _ (sym (left_then c s H growth none) ∙ subst (λ E. is_left E c ≡ false) same stays)).1
      ∙ eq-eqb s c here) in
      subst (λ E. Put E now) (sym same)
      (by_other holds holds_in c i t network first d sink (Flushes holds holds_in (Err sink_fault.Gone))
      (H ++ event.Leave s ∷ growth) H s (Err sink_fault.Gone) k now other (read_same c s H growth none) gone put)

  -- what the output keeps after one flush, if it kept nothing before, or if it is the one that is flushed
  empty_then : (s : ℕ) (H later : List Event) (k now : SinkOutputs O G) → IsFlushed Flush s H k later now
      → is_left later c ≡ false → Put H k → (s ≡ c) ⊎ (kept k ≡ []) → kept now ≡ []
  empty_then s H later k now (inl (left, same, is)) stays put which =
      ap kept is ∙ elim which [
        | inl here ↦
            absurd
            (false≢true
            (sym (subst (λ E. is_left E c ≡ false) same stays) ∙ subst (λ (n : ℕ). is_left H n ≡ true) here left))
        | inr none ↦ none
      ]
  empty_then s H later k now (inr (inl (done, same))) stays put which = elim (cases_eq s c) [
    | inl here ↦ own_keeps k (Ok tt) now put.0.0 (subst (λ (n : ℕ). Flush k n (Ok tt) now) here done)
    | inr other ↦
        other_keeps k s (Ok tt) now put.0.0 other done
        ∙ elim which [
          | inl here ↦ absurd (other here)
          | inr none ↦ none
        ]
  ]
  empty_then s H later k now (inr (inr (gone, growth, none, same))) stays put which = elim (cases_eq s c) [
    | inl here ↦
        own_keeps k (Err sink_fault.Gone) now put.0.0
        (subst (λ (n : ℕ). Flush k n (Err sink_fault.Gone) now) here gone)
    | inr other ↦
        other_keeps k s (Err sink_fault.Gone) now put.0.0 other gone
        ∙ elim which [
          | inl here ↦ absurd (other here)
          | inr none ↦ none
        ]
  ]

  -- all flushes
  all_flushed : (sinks : List ℕ) (H later : List Event) (k now : SinkOutputs O G) → AreFlushed Flush sinks H k later now
      → is_left later c ≡ false → Put H k → Contains sinks c ⊎ (kept k ≡ []) → Put later now × (kept now ≡ [])
  all_flushed [] H later k now flushed stays put which = (
    subst (λ (x : SinkOutputs O G). Put later x) (sym flushed.1) (subst (λ E. Put E k) (sym flushed.0) put),
    ap kept flushed.1 ∙ elim which [
      | inl (n, below, at) ↦ absurd (omega (arith, below))
      | inr none ↦ none
    ],
  )
  all_flushed (s ∷ sinks) H later k now flushed stays put which =
      let left_open = open_all Flush c sinks flushed.0 later flushed.1 now flushed.3 stays in
      let next = put_then s H flushed.0 k flushed.1 flushed.2 left_open put in
      all_flushed sinks flushed.0 later flushed.1 now flushed.3 stays next
      (elim which [
        | inl there ↦ elim (first_or_rest s sinks there) [
          | inl here ↦ inr (empty_then s H flushed.0 k flushed.1 flushed.2 left_open put (inl here))
          | inr rest ↦ inl rest
        ]
        | inr none ↦ inr (empty_then s H flushed.0 k flushed.1 flushed.2 left_open put (inr none))
      ])
    where
      first_or_rest : (s : ℕ) (sinks : List ℕ) → Contains (s ∷ sinks) c → (s ≡ c) ⊎ Contains sinks c
      first_or_rest s sinks (zero, below, at) = inl at
      first_or_rest s sinks (suc n, below, at) = inr (n, omega (arith, below), at)

  -- what was put is in the device
  held : (H : List Event) (now : SinkOutputs O G) → Put H now → kept now ≡ []
      → Appends (was_put holds holds_in first.standard.now (get_or first.each.now.items i d))
      (device_holds holds holds_in now.standard.now (get_or now.each.now.items i d).file)
      (text_of_all (get_or first.each.now.items i d).format (read_on H c))
  held H now put none =
      subst
      (λ (bytes : Option (List ℕ)).
      Appends (was_put holds holds_in first.standard.now (get_or first.each.now.items i d)) bytes
      (text_of_all (get_or first.each.now.items i d).format (read_on H c)))
      (ap (append_known (device_holds holds holds_in now.standard.now (get_or now.each.now.items i d).file)) none
      ∙ none_more (device_holds holds holds_in now.standard.now (get_or now.each.now.items i d).file)) put.1
    where
      none_more : (known : Option (List ℕ)) → append_known known [] ≡ known
      none_more None = refl
      none_more (Some xs) = ap Some (append-nil xs)

pub all_out : {O G : Type 0} (holds : O → Option (List ℕ)) (holds_in : G → Option (List ℕ)) (t : Tables)
    (network : IsNetwork t) (first now : SinkOutputs O G) (c i : ℕ) (d : SinkOutput G)
    (sink : is_sink (channel_at t c) ≡ true) → output_of first.each.now.items c ≡ Some i
    → HasOwnDevice first.each.now.items i → (wanted : Option ℕ) (H : List Event)
    → (last : AreFlushedLast (OutputsTake holds holds_in) (OutputsFlush holds holds_in) wanted t [] first H now)
    → Legal t last.before → Contains (end_numbers is_sink t) c → is_left H c ≡ false
    → Appends (was_put holds holds_in first.standard.now (get_or first.each.now.items i d))
    (device_holds holds holds_in now.standard.now (get_or now.each.now.items i d).file)
    (text_of_all (get_or first.each.now.items i d).format (read_on H c))
all_out holds holds_in t network first now c i d sink found own wanted H last legal there stays =
    let served : IsServed last.before None c = record {
      stays =
          open_all (OutputsFlush holds holds_in) c (end_numbers is_sink t) last.before H last.then now last.last stays;
      works = λ fault e. cc;
    } in
    let put = all_put holds holds_in t network first c i d sink found own last.served legal served in
    let done =
    all_flushed holds holds_in t network first c i d sink (end_numbers is_sink t) last.before H last.then now last.last
    stays put (inl there) in
    held holds holds_in t network first c i d sink H now done.0 done.1
