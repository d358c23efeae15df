-- What is told of the end of a stream of which nothing has failed.
use Rattle.kpn_command_stream.proofs.Common.{◌≡◌, ℕ, List, [], ◌∷◌, Option, Some, None, Result, Ok, Err, refl, sym, subst, StreamEnding, Refusal, IsLineTold, Lost, SinkEnd, ending_fault, first_status, lost_fault, summary_fault, trace_fault, IsSummaryMade, IsSummaryOf, IsSummaryTold, IsTextTold, end_fault}
use Rattle.std.specs.Global.{Vec}
use Rattle.std.specs.Prelude.{Bool, true, false, IfOk}

none_of : (first later : Option ℕ) → first_status first later ≡ None → (first ≡ None) × (later ≡ None)
none_of None later none = (refl, none)
none_of (Some status) later none = absurd cc

pub record NothingFailed (ending : StreamEnding) (lost : List Lost) (stored : Result (Unit {0}) Refusal)
    (is_told : Bool) : Type 0 where
  pub devices : first_status (ending_fault ending) (lost_fault lost) ≡ None
  pub at_end : ending_fault ending ≡ None
  pub no_loss : lost_fault lost ≡ None
  pub trace : trace_fault stored ≡ None
  pub summary : summary_fault is_told ≡ None

pub nothing_failed : (ending : StreamEnding) (lost : List Lost) (stored : Result (Unit {0}) Refusal) (is_told : Bool)
    → end_fault ending lost stored is_told ≡ None → NothingFailed ending lost stored is_told
nothing_failed ending lost stored is_told none =
    let both = none_of (first_status (ending_fault ending) (lost_fault lost))
    (first_status (trace_fault stored) (summary_fault is_told)) none in
    let first = none_of (ending_fault ending) (lost_fault lost) both.0 in
    let later = none_of (trace_fault stored) (summary_fault is_told) both.1 in
    record { devices = both.0; at_end = first.0; no_loss = first.1; trace = later.0; summary = later.1 }

pub none_lost : (lost : List Lost) → lost_fault lost ≡ None → lost ≡ []
none_lost [] none = refl
none_lost (one ∷ others) none = absurd cc

pub is_true : (is_told : Bool) → summary_fault is_told ≡ None → is_told ≡ true
is_true true none = refl
is_true false none = absurd cc

-- the summary was made with these ends, and was told
pub text_told : {E T X : Type 0} (tells : E → Option (List ℕ)) (bytes : T → List ℕ) (ends : Result (Vec SinkEnd) X)
    (made : Result T X) (summary : List SinkEnd → List ℕ) (err told : E) → IsSummaryOf bytes summary ends made
    → IsTextTold bytes made (tells err) (tells told) → IsSummaryMade tells false ends summary err told
text_told tells bytes (Ok ends) (Ok text) summary err told of is =
    subst (λ (line : List ℕ). IsLineTold (tells err) (tells told) line) of is
text_told tells bytes (Err none) (Ok text) summary err told of is = absurd of
text_told tells bytes ends (Err none) summary err told of is = absurd is

-- the summary was told, and nothing else after it
pub made_told : {E X : Type 0} (tells : E → Option (List ℕ)) (quiet : Bool) (ends : Result (Vec SinkEnd) X)
    (summary : List SinkEnd → List ℕ) (sinks : List SinkEnd) (err told last : E) → last ≡ told
    → IfOk ends (λ ends. ends.items ≡ sinks) → IsSummaryMade tells quiet ends summary err told
    → IsSummaryTold tells quiet (summary sinks) err last
made_told tells true ends summary sinks err told last silent same made =
    subst (λ e. e ≡ err) (sym silent) made
made_told tells false (Ok ends) summary sinks err told last silent same made =
    subst (λ e. IsLineTold (tells err) (tells e) (summary sinks)) (sym silent)
    (subst (λ (items : List SinkEnd). IsLineTold (tells err) (tells told) (summary items)) same made)
made_told tells false (Err none) summary sinks err told last silent same made = absurd made
