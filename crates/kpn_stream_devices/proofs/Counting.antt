-- The lines or samples of one input are counted by the calls for its source.
use Rattle.std.proofs.Common.{◌≡◌, ◌≢◌, ℕ, suc, ◌+◌, true, false, ℤ, List, [], ◌∷◌, ◌++◌, length, length-append, get_or, Option, Some, None, Result, Ok, Err, refl, sym, ap, ◌∙◌, subst, inl, inr, arith}
use Rattle.kpn_stream_devices.proofs.Common.{cases_eq, false≢true, Tables, channel_at, is_source, IsNetwork, Event, written_in, written_on, Legal, written_on-push, written_on-same, no_source, none_elsewhere, Legal-before, item_here, IsOwn-last, SourceFault, is_of_source, Fed, at_first, by_others, by_look, by_item, by_end, by_fault, by_no_memory, SourceInput, SourceInputs, Window, CountsUsed, fresh, one_after, used_after}
use Rattle.kpn_history.specs.declared.event.Event.TheVariants as event
use Rattle.kpn_stream.specs.declared.faults.SourceFault.TheVariants.{Read, BadItem, CutSample, BadHead, NoMemory}
use Rattle.kpn_stream_devices.specs.SourceInputs.{InputsGive, InputsLook, by_input, by_none, at_input, at_none, input_of}
use Rattle.kpn_stream_devices.proofs.Firsts.{IsFirst, first_found, first_stays, found_mine, found_other, found_none}
use Rattle.kpn_stream_devices.proofs.Firsts.{found_within, was_here, stays_here}

abbrev channel_of : {F : Type 0} → SourceInput F → ℕ
channel_of input = input.channel

module _ {I F : Type 0} (left : I → Option (List ℕ)) (left_in : F → Option (List ℕ)) (c i : ℕ) where
  -- input i is that of source c
  abbrev IsMine : List (SourceInput F) → Type 0
  IsMine inputs = IsFirst channel_of c i inputs

  module _ (d : SourceInput F) where
    -- how many of the input were used
    abbrev used_of : SourceInputs I F → ℕ
    used_of x = (get_or x.each.now.items i d).window.used

    -- a call or a look leaves it the input of its source
    gives_keeps : (before : SourceInputs I F) (s : ℕ) (answer : Result (Option ℤ) SourceFault)
        (after : SourceInputs I F)
        → IsMine before.each.now.items → InputsGive left left_in before s answer after → IsMine after.each.now.items
    gives_keeps before s answer after m (by_input j x y found at given each ghost lent) =
        subst IsMine (sym each)
        (first_stays channel_of c i before.each.now.items j x y
        (found_within channel_of before.each.now.items s j x found) at given.channel m)
    gives_keeps before s answer after m (by_none found is same) =
        subst (λ (x : SourceInputs I F). IsMine x.each.now.items) (sym same) m

    looks_keeps : (before : SourceInputs I F) (s : ℕ) (after : SourceInputs I F) → IsMine before.each.now.items
        → InputsLook left left_in before s after → IsMine after.each.now.items
    looks_keeps before s after m (at_input j x y found at looks each ghost lent) =
        subst IsMine (sym each)
        (first_stays channel_of c i before.each.now.items j x y
        (found_within channel_of before.each.now.items s j x found) at looks.channel m)
    looks_keeps before s after m (at_none found same) =
        subst (λ (x : SourceInputs I F). IsMine x.each.now.items) (sym same) m

    -- a call for source c counts
    gives_mine : (before : SourceInputs I F) (answer : Result (Option ℤ) SourceFault) (after : SourceInputs I F)
        → IsMine before.each.now.items → InputsGive left left_in before c answer after
        → CountsUsed answer (used_of before) (used_of after)
    gives_mine before answer after m (by_input j x y found at given each ghost lent) =
        let xs = before.each.now.items in
        let here = was_here xs after.each.now.items i j x y d (found_mine channel_of c i xs j x m found)
        (found_within channel_of xs c j x found) at each in
        subst (λ (z : SourceInput F). CountsUsed answer z.window.used (used_of after)) (sym here.0)
        (subst (λ (z : SourceInput F). CountsUsed answer x.window.used z.window.used) (sym here.1) given.counted)
    gives_mine before answer after m (by_none found is same) =
        absurd (found_none channel_of c i before.each.now.items d m found)

    -- one for another source counts nothing here
    gives_other : (before : SourceInputs I F) (s : ℕ) (answer : Result (Option ℤ) SourceFault)
        (after : SourceInputs I F)
        → IsMine before.each.now.items → s ≢ c → InputsGive left left_in before s answer after
        → used_of after ≡ used_of before
    gives_other before s answer after m other (by_input j x y found at given each ghost lent) =
        ap (λ (z : SourceInput F). z.window.used)
        (stays_here before.each.now.items after.each.now.items i j y d
        (found_other channel_of c i before.each.now.items s j x m other found) each)
    gives_other before s answer after m other (by_none found is same) = ap used_of same

    -- and no look counts
    looks_any : (before : SourceInputs I F) (s : ℕ) (after : SourceInputs I F) → IsMine before.each.now.items
        → InputsLook left left_in before s after → used_of after ≡ used_of before
    looks_any before s after m (at_none found same) = ap used_of same
    looks_any before s after m (at_input j x y found at looks each ghost lent) =
        let xs = before.each.now.items in
        elim (cases_eq s c) [
          | inl same ↦
              let there = subst (λ (n : ℕ). input_of xs n ≡ Some j) same found in
              let here = was_here xs after.each.now.items i j x y d (found_mine channel_of c i xs j x m there)
              (found_within channel_of xs s j x found) at each in
              ap (λ (z : SourceInput F). z.window.used) here.1 ∙ looks.used
              ∙ sym (ap (λ (z : SourceInput F). z.window.used) here.0)
          | inr other ↦
              ap (λ (z : SourceInput F). z.window.used)
              (stays_here xs after.each.now.items i j y d (found_other channel_of c i xs s j x m other found) each)
        ]

    module _ (t : Tables) (network : IsNetwork t) (first : SourceInputs I F)
        (source : is_source (channel_at t c) ≡ true)
        (is_first : IsMine first.each.now.items) (new : used_of first ≡ 0) where
      -- as many were used as items were fed
      abbrev HasCounted : List Event → SourceInputs I F → Type 0
      HasCounted H now =
          IsMine now.each.now.items × (used_of now ≡ used_after (length (written_on H c)))

      -- an event of others feeds nothing to source c
      unfed : (B : List Event) (e : Event) → Legal t (B ++ e ∷ []) → is_of_source e ≡ false
          → written_on (B ++ e ∷ []) c ≡ written_on B c
      unfed B e legal other = written_on-same B e c (nothing e legal other)
        where
          nothing : (e : Event) → Legal t (B ++ e ∷ []) → is_of_source e ≡ false → written_in c e ≡ []
          nothing (event.Put p b v) legal other =
              none_elsewhere b c v
              (λ same. no_source t b c p (IsOwn-last t network B (event.Put p b v) legal) source (sym same))
          nothing (event.Feed b v) legal other = absurd (false≢true (sym other))
          nothing e legal other = refl

      -- the count stays, and so do the items
      counted_same : (later H : List Event) (before now : SourceInputs I F) → written_on later c ≡ written_on H c
          → used_of now ≡ used_of before → IsMine now.each.now.items → HasCounted H before → HasCounted later now
      counted_same later H before now same stays kept counted = (
        kept,
        stays ∙ counted.1 ∙ ap (λ (xs : List ℤ). used_after (length xs)) (sym same),
      )

      -- an answer that is no item counts nothing
      counts_none : (H : List Event) (s : ℕ) (before now : SourceInputs I F) → HasCounted H before
          → InputsGive left left_in before s (Ok None) now → used_of now ≡ used_of before
      counts_none H s before now counted gave =
          elim (cases_eq s c) [
            | inl same ↦
                gives_mine before (Ok None) now counted.0
                (subst (λ (n : ℕ). InputsGive left left_in before n (Ok None) now) same gave)
            | inr other ↦ gives_other before s (Ok None) now counted.0 other gave
          ]

      -- an item is one more
      counts_one : (H : List Event) (v : ℤ) (before now : SourceInputs I F) → HasCounted H before
          → InputsGive left left_in before c (Ok (Some v)) now → HasCounted (H ++ event.Feed c v ∷ []) now
      counts_one H v before now counted gave =
          let kept = gives_keeps before c (Ok (Some v)) now counted.0 gave in
          let one : used_of now ≡ one_after (used_of before) =
          gives_mine before (Ok (Some v)) now counted.0 gave in
          let items : written_on (H ++ event.Feed c v ∷ []) c ≡ written_on H c ++ v ∷ [] =
          written_on-push H (event.Feed c v) c ∙ ap (λ xs. written_on H c ++ xs) (item_here c v) in
          let count : length (written_on (H ++ event.Feed c v ∷ []) c) ≡ suc (length (written_on H c)) =
          omega (arith, ap length items, length-append (written_on H c) (v ∷ [])) in
          (kept, one ∙ ap one_after counted.1 ∙ sym (ap used_after count))

      counted_so_far : {H : List Event} {failed : Option (ℕ × SourceFault)} {now : SourceInputs I F}
          → Fed t (InputsGive left left_in) (InputsLook left left_in) first H failed now → Legal t H → failed ≡ None
          → HasCounted H now
      counted_so_far at_first legal none = (is_first, new)
      counted_so_far (by_others H e failed now fed other) legal none =
          let counted = counted_so_far fed (Legal-before t H e legal) none in
          counted_same (H ++ e ∷ []) H now now (unfed H e legal other) refl counted.0 counted
      counted_so_far (by_look H s before now fed looked) legal none =
          let counted = counted_so_far fed legal refl in
          counted_same H H before now refl (looks_any before s now counted.0 looked)
          (looks_keeps before s now counted.0 looked) counted
      counted_so_far (by_item H s v before now fed may gave) legal none =
          let counted = counted_so_far fed (Legal-before t H (event.Feed s v) legal) refl in
          elim (cases_eq s c) [
            | inl same ↦
                subst (λ (n : ℕ). HasCounted (H ++ event.Feed n v ∷ []) now) (sym same)
                (counts_one H v before now counted
                (subst (λ (n : ℕ). InputsGive left left_in before n (Ok (Some v)) now) same gave))
            | inr other ↦
                counted_same (H ++ event.Feed s v ∷ []) H before now
                (written_on-same H (event.Feed s v) c (none_elsewhere s c v other))
                (gives_other before s (Ok (Some v)) now counted.0 other gave)
                (gives_keeps before s (Ok (Some v)) now counted.0 gave) counted
          ]
      counted_so_far (by_end H s before now fed may gave) legal none =
          let counted = counted_so_far fed (Legal-before t H (event.Close s) legal) refl in
          counted_same (H ++ event.Close s ∷ []) H before now (written_on-same H (event.Close s) c refl)
          (counts_none H s before now counted gave) (gives_keeps before s (Ok None) now counted.0 gave) counted
      counted_so_far (by_fault H s fault before now fed may gave) legal none = cc
      counted_so_far (by_no_memory H s given before now fed may gave) legal none = cc

      -- which source has told which line or sample as bad
      abbrev told : Option (ℕ × SourceFault) → Option (ℕ × ℕ)
      told (Some (s, BadItem line)) = Some (s, line)
      told failed = None

      abbrev source_in : Option (ℕ × ℕ) → ℕ
      source_in (Some one) = one.0
      source_in None = 0

      abbrev line_in : Option (ℕ × ℕ) → ℕ
      line_in (Some one) = one.1
      line_in None = 0

      by_bad : (s line : ℕ) (fault : SourceFault) → told (Some (s, fault)) ≡ Some (c, line)
          → (s ≡ c) × (fault ≡ BadItem line)
      by_bad s line Read is = cc
      by_bad s line (BadItem other) is = (ap source_in is, ap BadItem (ap line_in is))
      by_bad s line CutSample is = cc
      by_bad s line (BadHead at) is = cc
      by_bad s line NoMemory is = cc

      bad_so_far : {H : List Event} {failed : Option (ℕ × SourceFault)} {now : SourceInputs I F} (line : ℕ)
          → Fed t (InputsGive left left_in) (InputsLook left left_in) first H failed now → Legal t H
          → told failed ≡ Some (c, line) → line ≡ used_after (length (written_on H c) + 1)
      bad_so_far line at_first legal is = cc
      bad_so_far line (by_others H e failed now fed other) legal is =
          bad_so_far line fed (Legal-before t H e legal) is
          ∙ ap (λ (xs : List ℤ). used_after (length xs + 1)) (sym (unfed H e legal other))
      bad_so_far line (by_look H s before now fed looked) legal is = cc
      bad_so_far line (by_item H s v before now fed may gave) legal is = cc
      bad_so_far line (by_end H s before now fed may gave) legal is = cc
      bad_so_far line (by_fault H s fault before now fed may gave) legal is =
          let bad = by_bad s line fault is in
          let counted = counted_so_far fed legal refl in
          let mine : InputsGive left left_in before c (Err (BadItem line)) now =
          subst (λ (n : ℕ). InputsGive left left_in before n (Err (BadItem line)) now) bad.0
          (subst (λ f. InputsGive left left_in before s (Err f) now) bad.1 gave) in
          let number : line ≡ one_after (used_of before) =
          gives_mine before (Err (BadItem line)) now counted.0 mine in
          let next : suc (length (written_on H c)) ≡ length (written_on H c) + 1 = omega arith in
          number ∙ ap one_after counted.1 ∙ ap used_after next
      bad_so_far line (by_no_memory H s given before now fed may gave) legal is = cc

pub bad_line : {I F : Type 0} (left : I → Option (List ℕ)) (left_in : F → Option (List ℕ)) (t : Tables)
    (network : IsNetwork t) (c i : ℕ) (first : SourceInputs I F) (d : SourceInput F) → is_source (channel_at t c) ≡ true
    → input_of first.each.now.items c ≡ Some i
    → (get_or first.each.now.items i d).window ≡ fresh → {H : List Event} → {line : ℕ} → {now : SourceInputs I F}
    → Fed t (InputsGive left left_in) (InputsLook left left_in) first H (Some (c, BadItem line)) now → Legal t H
    → line ≡ used_after (length (written_on H c) + 1)
bad_line left left_in t network c i first d source found new {line = line} fed legal =
    bad_so_far left left_in c i d t network first source (first_found channel_of c i first.each.now.items found)
    (ap (λ (w : Window). w.used) new) line fed legal refl
