-- What a command comes to: a text, a status and files to store.
use Rattle.std.specs.Prelude.{◌≡◌, ℕ, List, [], map}
use Rattle.std.specs.String.{string_bytes}
use Rattle.kpn_command_base.specs.declared.conclusion.OutputFile.{OutputFile}
use Rattle.kpn_command_base.specs.declared.conclusion.Conclusion.{Conclusion}

-- a file that is stored
pub record StoredFile : Type 0 where
  pub name : List ℕ
  pub bytes : List ℕ

abbrev pub stored_as : OutputFile → StoredFile
stored_as file = record { name = string_bytes file.name; bytes = file.bytes.items }

-- the files that a conclusion stores, in their order
abbrev pub files_in : Conclusion → List StoredFile
files_in made = map stored_as made.files.items

-- it has such a text under such a status, and stores no file
abbrev pub TellsOnly : (IsRight : (text : List ℕ) → (status : ℕ) → Type 0) → Conclusion → Type 0
TellsOnly IsRight made = IsRight made.text.items made.status × (made.files.items ≡ [])

-- the same, under status 0
abbrev pub Succeeds : (IsRight : (text : List ℕ) → Type 0) → Conclusion → Type 0
Succeeds IsRight made = IsRight made.text.items × (made.status ≡ 0) × (made.files.items ≡ [])
