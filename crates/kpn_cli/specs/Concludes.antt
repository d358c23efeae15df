-- What becomes of what a command answers: files are stored and a text goes out, or a refusal is reported.
use Rattle.std.specs.Prelude.{◌≡◌, ℕ, List, [], ◌∷◌, ◌++◌, Option, Result, Ok, Err}
use Rattle.std.specs.Io.KnownBytes.{Appends}
use Rattle.kpn_text_items.specs.declared.fault.WriteFault.{WriteFault}
use Rattle.kpn_text_items.specs.declared.fault.WriteFault.TheVariants.{Write}
use Rattle.kpn_command_base.specs.declared.refusal.Refusal.{Refusal}
use Rattle.kpn_command_base.specs.declared.refusal.Refusal.TheVariants.{Output}
use Rattle.kpn_command_base.specs.Refusal.{status_of, refusal_line}
use Rattle.kpn_command_base.specs.Told.{IsLineTold}
use Rattle.kpn_shelf.specs.Shelf.{Loads, KeepsOthers}
use Rattle.kpn_command_base.specs.declared.conclusion.Conclusion.{Conclusion}
use Rattle.kpn_command_base.specs.Conclusion.{StoredFile, files_in}
use Rattle.kpn_command_base.specs.Stored.{IsStored}

-- ---- how files are stored

-- these files are stored one after the other
abbrev pub AreStored : {S : Type 0} → (may_give : S → Loads) → List StoredFile → (shelf kept : S) → Type 0
AreStored may_give [] shelf kept = kept ≡ shelf
AreStored {S} may_give (file ∷ files) shelf kept =
    (between : S) × IsStored may_give file shelf between × AreStored may_give files between kept

-- The shelf did not take one of these files. Those before it are stored, and files of other names are as they were
-- then.
pub record IsCutShort {S : Type 0} (may_give : S → Loads) (files : List StoredFile) (shelf kept : S) : Type 0 where
  pub before : List StoredFile
  pub file : StoredFile
  pub after : List StoredFile
  pub order : files ≡ before ++ file ∷ after
  pub between : S
  pub stored : AreStored may_give before shelf between
  pub others : KeepsOthers (may_give between) (may_give kept) file.name

-- ---- what becomes of an answer

-- a refusal is reported: the place for faults gets its line, as far as it takes it, and the status is that of the
-- refusal
abbrev pub IsRefusalReported : {E : Type 0} → (holds : E → Option (List ℕ)) → Refusal → (err told : E) (status : ℕ)
    → Type 0
IsRefusalReported holds refusal err told status =
    IsLineTold (holds err) (holds told) (refusal_line refusal ++ 10 ∷ []) × (status ≡ status_of refusal)

-- A conclusion is carried out. Given are the shelf, the output and the place for faults, each as it was and as it is
-- afterwards, and the status.
pub data IsCarriedOut {S O E : Type 0} (may_give : S → Loads) (contents : O → Option (List ℕ))
    (holds : E → Option (List ℕ)) (made : Conclusion) (shelf kept : S) (out written : O) (err told : E)
    (status : ℕ) : Type 0 where
  -- the files are stored, then the text goes out whole, and nothing is reported
  whole : AreStored may_give (files_in made) shelf kept → Appends (contents out) (contents written) made.text.items →
      told ≡ err → status ≡ made.status →
      IsCarriedOut may_give contents holds made shelf kept out written err told status
  -- the files are stored, and the text can't be written whole
  unwritten : AreStored may_give (files_in made) shelf kept → IsRefusalReported holds (Output Write) err told status →
      IsCarriedOut may_give contents holds made shelf kept out written err told status
  -- a file can't be stored, and nothing goes out
  cut_short : (fault : WriteFault) → IsCutShort may_give (files_in made) shelf kept → written ≡ out →
      IsRefusalReported holds (Output fault) err told status →
      IsCarriedOut may_give contents holds made shelf kept out written err told status

-- A conclusion is carried out. A refusal is reported, no file is stored, and nothing goes out.
abbrev pub Concludes : {S O E : Type 0} → (may_give : S → Loads) (contents : O → Option (List ℕ))
    (holds : E → Option (List ℕ)) → Result Conclusion Refusal → (shelf kept : S) (out written : O) (err told : E)
    (status : ℕ) → Type 0
Concludes may_give contents holds (Ok made) shelf kept out written err told status =
    IsCarriedOut may_give contents holds made shelf kept out written err told status
Concludes may_give contents holds (Err refusal) shelf kept out written err told status =
    (kept ≡ shelf) × (written ≡ out) × IsRefusalReported holds refusal err told status
