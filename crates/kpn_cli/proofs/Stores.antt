-- Files that are stored, one more at a time.
use Rattle.std.proofs.Common.{◌≡◌, ◌<◌, ◌+◌, ℕ, suc, List, [], ◌∷◌, ◌++◌, map, length, get_or, take, drop, Result, Ok, Err, refl, sym, ap, subst, ◌∙◌, drop-cons}
use Rattle.std.specs.Result.{OnErr}
use Rattle.std.proofs.lemmas.List.{take-append-drop, map-append, map_more}
use Rattle.kpn_shelf.specs.Shelf.{Loads, KeepsOthers}
use Rattle.kpn_command_base.specs.Conclusion.{StoredFile}
use Rattle.kpn_command_base.specs.Stored.{IsStored}
use Rattle.kpn_cli.specs.Concludes.{AreStored, IsCutShort}

module _ {S : Type 0} (may_give : S → Loads) where
  stored_push : (files : List StoredFile) (file : StoredFile) (shelf between kept : S)
      → AreStored may_give files shelf between → IsStored may_give file between kept
      → AreStored may_give (files ++ file ∷ []) shelf kept
  stored_push [] file shelf between kept are is =
      (kept, subst (λ s. IsStored may_give file s kept) are is, refl)
  stored_push (first ∷ files) file shelf between kept are is =
      (are.0, are.1, stored_push files file are.0 between kept are.2 is)

  module _ {F : Type 0} (stored_as : F → StoredFile) (files : List F) (i : ℕ) (file : F) (below : i < length files)
      (at : file ≡ get_or files i file) (shelf between kept : S)
      (before : AreStored may_give (map stored_as (take i files)) shelf between) where
    pub stored_more : IsStored may_give (stored_as file) between kept
        → AreStored may_give (map stored_as (take (i + 1) files)) shelf kept
    stored_more stored =
        subst (λ fs. AreStored may_give fs shelf kept)
        (ap (λ (f : F). map stored_as (take i files) ++ stored_as f ∷ []) at
        ∙ sym (map_more stored_as files i file below))
        (stored_push (map stored_as (take i files)) (stored_as file) shelf between kept before stored)

    pub cut_here : KeepsOthers (may_give between) (may_give kept) (stored_as file).name
        → IsCutShort may_give (map stored_as files) shelf kept
    cut_here others = record {
      before = map stored_as (take i files);
      file = stored_as file;
      after = map stored_as (drop (suc i) files);
      order =
          ap (map stored_as) (sym (take-append-drop i files))
          ∙ map-append stored_as (take i files) (drop i files)
          ∙ ap (λ xs. map stored_as (take i files) ++ map stored_as xs) (drop-cons files i file below)
          ∙ ap (λ (f : F). map stored_as (take i files) ++ stored_as f ∷ map stored_as (drop (suc i) files)) (sym at);
      between = between;
      stored = before;
      others = others;
    }

-- what holds holds if there is an error
pub if_error : {T E : Type 0} {P : Type 0} (result : Result T E) → P → OnErr result P
if_error (Ok value) holds = tt
if_error (Err error) holds = holds
