-- Outputs that are apart, one more at a time, and outputs that are refused.
use Rattle.kpn_command_base.proofs.Common.{◌≡◌, ◌<◌, ◌+◌, ℕ, suc, List, Bor, [], ◌∷◌, ◌++◌, All, Option, Some, map, length, get_or, take, drop, refl, inl, inr, sym, ap, subst, ◌∙◌, drop-cons, All-push, RunRequest, Refusal, TraceWord, SinkWord, Output, NoMemory, Loads, Aliases, IsRefusalOfRunInputs, name_in, FileWords, words_of, IsApart, AreTwoOutputs, AreNamesApart, AreOutputsApart, trace_name, outputs_of, MayMeet, IsRefusalOfOutput, IsRefusalOfSome, HasInputs, IsUnready, IsUnprepared}
use Rattle.std.proofs.lemmas.List.{take-append-drop, take_more, map-append}
use Rattle.std.proofs.lemmas.List.Quantifiers.{all_pairs_push}

abbrev pub now : Bor (List ℕ) → List ℕ
now word = word.now

-- what holds of the words so far holds of one more
pub one_more : (P : Bor (List ℕ) → Type 0) (words : List (Bor (List ℕ))) (i : ℕ) (word : Bor (List ℕ))
    → i < length words → All P (take i words) → P (get_or words i word) → All P (take (i + 1) words)
one_more P words i word below before more =
    subst (λ ws. All P ws) (sym (take_more words i word below))
    (All-push P (take i words) (get_or words i word) before more)

module _ (asked : FileWords) where
  -- one more output
  pub apart_more : (outputs : List (List ℕ)) (name : List ℕ) → AreNamesApart asked outputs → IsApart asked name
      → All (λ other. AreTwoOutputs other name) outputs → AreNamesApart asked (outputs ++ name ∷ [])
  apart_more outputs name apart is new = record {
    no_inputs = All-push (IsApart asked) outputs name apart.no_inputs is;
    each_other = all_pairs_push AreTwoOutputs outputs name apart.each_other new;
  }

module _ (may_alias : Aliases) (asked : FileWords) where
  -- one of these outputs is refused
  pub some_refused : {O : Type 0} (name : O → List ℕ) (sinks : List O) (i : ℕ) (d : O)
      (earlier outputs : List (List ℕ)) → i < length sinks → outputs ≡ earlier ++ map name (take i sinks)
      → (given refusal : Refusal)
      → IsRefusalOfOutput may_alias asked outputs (name (get_or sinks i d)) given refusal
      → IsRefusalOfSome may_alias asked earlier (map name sinks) given refusal
  some_refused name sinks i d earlier outputs below are given refusal (inr no_memory) = inr no_memory
  some_refused name sinks i d earlier outputs below are given refusal (inl h) = inl (
    h.0,
    record {
      before = map name (take i sinks);
      name = name (get_or sinks i d);
      after = map name (drop (suc i) sinks);
      order =
          ap (map name) (sym (take-append-drop i sinks))
          ∙ map-append name (take i sinks) (drop i sinks)
          ∙ ap (λ xs. map name (take i sinks) ++ map name xs) (drop-cons sinks i d below);
      meets = subst (λ os. MayMeet may_alias asked os (name (get_or sinks i d))) are h.1;
    },
  )

  -- the trace is refused
  pub trace_refused : (trace : Option (List ℕ)) (name : List ℕ) → Some name ≡ trace
      → (outputs : List (List ℕ)) → outputs ≡ [] → (given refusal : Refusal)
      → IsRefusalOfOutput may_alias asked outputs name given refusal
      → IsRefusalOfSome may_alias asked [] (trace_name trace) given refusal
  trace_refused trace name is outputs none given refusal (inr no_memory) = inr no_memory
  trace_refused trace name is outputs none given refusal (inl h) =
      subst (λ t. IsRefusalOfSome may_alias asked [] (trace_name t) given refusal) is (inl (
        h.0,
        record {
          before = [];
          name = name;
          after = [];
          order = refl;
          meets = subst (λ os. MayMeet may_alias asked os name) none h.1;
        },
      ))

module _ (may_alias : Aliases) (request : RunRequest) where
  -- the inputs can't be loaded
  pub unloaded : (may_give : Loads) → AreOutputsApart request → (refusal : Refusal)
      → IsRefusalOfRunInputs may_give request.file request.sources (map name_in request.sinks) refusal
      → IsUnprepared may_give may_alias request refusal
  unloaded may_give apart TraceWord cause = absurd cause
  unloaded may_give apart SinkWord cause = absurd cause
  unloaded may_give apart (Output fault) cause = absurd cause
  unloaded may_give apart NoMemory cause = tt
  unloaded may_give apart other cause = (apart, cause)

  -- an output can't be stored
  pub unready : (may_give : Loads) → AreOutputsApart request → (outputs : ℕ) → outputs ≡ length (outputs_of (words_of request))
      → HasInputs may_give request → (refusal : Refusal) → IsUnready outputs refusal
      → IsUnprepared may_give may_alias request refusal
  unready may_give apart outputs are inputs (Output fault) h = (apart, inputs, subst (λ n. 0 < n) are h)
  unready may_give apart outputs are inputs other h = absurd h
