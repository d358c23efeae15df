-- What the order of all calls says of a source that never has anything at hand: it is fed and closed only where each
-- process has ended or waits.
use Rattle.std.proofs.Common.{◌≡◌, ℕ, Bool, false, ℤ, List, [], ◌∷◌, ◌++◌, Option, Some, None, Result, Ok, Err, sym, subst, inl, inr, append-nil, append_assoc}
use Rattle.kpn_stream.proofs.Common.{false≢true, same_from_push, IsPrefix, prefix_of_push, Tables, Event, HaveStopped, SourceFault, SinkFault, is_of_source, is_elsewhere, is_no_growth, NoneIs, IsFlushed, AreFlushed, answered, IsAnswered, Called, at_start, by_process, by_sinks, looked, read_at_once, waited_for}
use Rattle.kpn_history.specs.declared.event.Event.TheVariants as event
use Rattle.kpn_stream.proofs.Going.{elsewhere_no_source, outside_no_source, growth_no_source}

-- what an event of a source needs
abbrev pub AtRest : Tables → List Event → Event → Type 0
AtRest t B (event.Feed c v) = HaveStopped t B
AtRest t B (event.Close c) = HaveStopped t B
AtRest t B e = Unit {0}

-- it was so at each event
abbrev pub WasAtRest : Tables → List Event → Type 0
WasAtRest t H = (B : List Event) (e : Event) → IsPrefix (B ++ e ∷ []) H → AtRest t B e

module _ (t : Tables) where
  none_begun : (B : List Event) (e : Event) → IsPrefix (B ++ e ∷ []) [] → ⊥
  none_begun [] e begins = begins
  none_begun (f ∷ B) e begins = begins

  one_more : (H : List Event) (e : Event) → WasAtRest t H → AtRest t H e → WasAtRest t (H ++ e ∷ [])
  one_more H e was here B f begins =
      elim (prefix_of_push (B ++ f ∷ []) H e begins) [
        | inl earlier ↦ was B f earlier
        | inr last ↦
            let same = same_from_push B H f e last in
            subst (λ X. AtRest t X f) (sym same.0) (subst (AtRest t H) (sym same.1) here)
      ]

  for_others : (H : List Event) (e : Event) → is_of_source e ≡ false → AtRest t H e
  for_others H (event.Feed c v) other = absurd (false≢true (sym other))
  for_others H (event.Close c) other = absurd (false≢true (sym other))
  for_others H e other = tt

  along : (kind : Event → Bool) → ((e : Event) → kind e ≡ false → is_of_source e ≡ false) → (es H : List Event)
      → NoneIs kind es → WasAtRest t H → WasAtRest t (H ++ es)
  along kind weaker [] H none was = subst (WasAtRest t) (sym (append-nil H)) was
  along kind weaker (e ∷ es) H none was =
      subst (WasAtRest t) (append_assoc H (e ∷ []) es)
      (along kind weaker es (H ++ e ∷ []) none.1 (one_more H e was (for_others H e (weaker e none.0))))

  module _ {K : Type 0} (flushes : K → ℕ → Result (Unit {0}) SinkFault → K → Type 0) where
    flushed_one : (c : ℕ) (H : List Event) (k : K) (later : List Event) (now : K)
        → IsFlushed flushes c H k later now → WasAtRest t H → WasAtRest t later
    flushed_one c H k later now is was =
        elim is [
          | inl gone ↦ subst (WasAtRest t) (sym gone.1) was
          | inr (inl on) ↦ subst (WasAtRest t) (sym on.1) was
          | inr (inr left) ↦
              subst (WasAtRest t) (sym left.3)
              (subst (WasAtRest t) (append_assoc H (event.Leave c ∷ []) left.1)
              (along is_no_growth growth_no_source left.1 (H ++ event.Leave c ∷ []) left.2
              (one_more H (event.Leave c) was tt)))
        ]

    flushed_all : (xs : List ℕ) (H : List Event) (k : K) (later : List Event) (now : K)
        → AreFlushed flushes xs H k later now → WasAtRest t H → WasAtRest t later
    flushed_all [] H k later now is was = subst (WasAtRest t) (sym is.0) was
    flushed_all (c ∷ xs) H k later now is was =
        flushed_all xs is.0 is.1 later now is.3 (flushed_one c H k is.0 is.1 is.2 was)

  answers_rest : (H events : List Event) (c : ℕ) (answer : Result (Option ℤ) SourceFault) → IsAnswered c answer events
      → HaveStopped t H → WasAtRest t H → WasAtRest t (H ++ events)
  answers_rest H events c answer follows stopped was =
      elim follows [
        | inl event ↦ subst (λ es. WasAtRest t (H ++ es)) (sym event) (by answer)
        | inr nothing ↦
            subst (λ es. WasAtRest t (H ++ es)) (sym nothing) (subst (WasAtRest t) (sym (append-nil H)) was)
      ]
    where
      by : (answer : Result (Option ℤ) SourceFault) → WasAtRest t (H ++ answered c answer)
      by (Ok (Some v)) = one_more H (event.Feed c v) was stopped
      by (Ok None) = one_more H (event.Close c) was stopped
      by (Err fault) = subst (WasAtRest t) (sym (append-nil H)) was

  module _ {S K : Type 0} (gives : S → ℕ → Result (Option ℤ) SourceFault → S → Type 0) (looks : S → ℕ → S → Type 0)
      (at_hand : S → ℕ → Type 0) (takes : K → ℕ → ℤ → Result (Unit {0}) SinkFault → K → Type 0)
      (flushes : K → ℕ → Result (Unit {0}) SinkFault → K → Type 0) (wanted : Option ℕ) (s : S) (k : K)
      (never : (r : S) (c : ℕ) → at_hand r c → ⊥) where
    pub was_at_rest : {H : List Event} {r : S} {j : K} → Called t gives looks at_hand takes flushes wanted s k H r j
        → WasAtRest t H
    was_at_rest at_start = λ B e begins. absurd (none_begun B e begins)
    was_at_rest (by_process H e r j called inner) =
        one_more H e (was_at_rest called) (for_others H e (outside_no_source e inner))
    was_at_rest (by_sinks H events failed r j now called served none) =
        along is_elsewhere elsewhere_no_source events H none (was_at_rest called)
    was_at_rest (looked H c r now j called look) = was_at_rest called
    was_at_rest (read_at_once H events c answer r now j called hand gave follows) = absurd (never r c hand)
    was_at_rest (waited_for H later events c answer r u now j i called all stopped around gave follows) =
        answers_rest later events c answer follows stopped
        (flushed_all flushes _ H j later i all (was_at_rest called))
