-- Each refusal of a stage is a refusal of the inputs.
use Rattle.kpn_command_base.proofs.Common.{◌≡◌, ◌⊎◌, ℕ, List, [], map, All, Ok, inl, inr, sym, subst, Document, Refusal, Input, Description, Names, NoMemory, SourceWord, Sources, Sinks, IsDescribed, IsRefusalOfDescription, HasEquals, name_in, file_in, sources_named, sinks_named, IsRefusalOfWords, IsRefusalOfNames, IsRefusalOfItems, AreRefusedNames, AreRefusedSinks, IsRefusalOfInputs, IsRefusalOfRunInputs, Loads}
use Rattle.kpn_command_base.specs.declared.option_fault.OptionFault.{OptionFault}

module _ (may_give : Loads) (file : List ℕ) (words names : List (List ℕ)) where
  pub words_refused : (refusal : Refusal) → IsRefusalOfWords SourceWord words refusal
      → IsRefusalOfRunInputs may_give file words names refusal
  words_refused refusal (inl h) = subst (IsRefusalOfRunInputs may_give file words names) (sym h.0) h.1
  words_refused refusal (inr no_memory) = subst (IsRefusalOfRunInputs may_give file words names) (sym no_memory) tt

  module _ (cut : All HasEquals words) where
    pub description_refused : (refusal : Refusal) → IsRefusalOfDescription may_give file refusal
        → IsRefusalOfRunInputs may_give file words names refusal
    description_refused (Input fault) h = (cut, inl h)
    description_refused (Description fault) h = (cut, h)
    description_refused other h = absurd h

    module _ (d : Document) (described : IsDescribed may_give file d) where
      pub names_refused : (refusal : Refusal) → IsRefusalOfNames Sources d (map name_in words) refusal
          → IsRefusalOfRunInputs may_give file words names refusal
      names_refused (Names fault) h =
          (cut, inl (record { document = d; described = described; refused = h }))
      names_refused NoMemory h = h
      names_refused other h = absurd h

      module _ (named : List ℕ) (are : sources_named d (map name_in words) ≡ Ok named) where
        pub sinks_refused : (refusal : Refusal) → IsRefusalOfNames Sinks d names refusal
            → IsRefusalOfRunInputs may_give file words names refusal
        sinks_refused (Names fault) h =
            (cut, inr (record { document = d; described = described; named = named; are_sources = are; refused = h }))
        sinks_refused NoMemory h = h
        sinks_refused other h = absurd h

        pub items_refused : (sinks : List ℕ) → sinks_named d names ≡ Ok sinks → (refusal : Refusal)
            → IsRefusalOfItems may_give (map file_in words) refusal
            → IsRefusalOfRunInputs may_give file words names refusal
        items_refused sinks are_sinks (Input fault) h = (
          cut,
          inr (record {
            document = d;
            described = described;
            named = named;
            are_sources = are;
            sinks = sinks;
            are_sinks = are_sinks;
            refused = h;
          }),
        )
        items_refused sinks are_sinks NoMemory h = h
        items_refused sinks are_sinks other h = absurd h

module _ (may_give : Loads) (file : List ℕ) (words : List (List ℕ)) where
  -- no name of a sink is refused if there is none
  pub of_sources : (fault : OptionFault)
      → AreRefusedNames may_give file words fault ⊎ AreRefusedSinks may_give file words [] fault
      → AreRefusedNames may_give file words fault
  of_sources fault (inl refused) = refused
  of_sources fault (inr refused) = let clash = refused.refused in absurd cc

  pub without_sinks : (refusal : Refusal) → IsRefusalOfRunInputs may_give file words [] refusal
      → IsRefusalOfInputs may_give file words refusal
  without_sinks (Names fault) h = (h.0, of_sources fault h.1)
  without_sinks (Input fault) h = h
  without_sinks other h = h
