-- What is added to a text.
use Rattle.std.specs.Prelude.{◌≡◌, ℕ, List, ◌++◌, Result, OnOk, String, string_bytes}

-- if the call succeeded, the bytes stand after the text as it was
abbrev pub Adds : {T E Z : Type 0} → Result T E → (old new : String Z) → List ℕ → Type 0
Adds result old new bytes = OnOk result (string_bytes new ≡ string_bytes old ++ bytes)
