-- How a long text goes out while it is made: a first part of it was sent, and the rest is kept.
use Rattle.std.specs.Prelude.{◌≡◌, ⊤, ℕ, List, ◌++◌, Option, Result, OnOk, String, string_bytes}
use Rattle.std.specs.Io.KnownBytes.{Appends}
use Rattle.kpn_text_items.specs.declared.fault.WriteFault.TheVariants.{Write}
use Rattle.kpn_command_base.specs.declared.refusal.Refusal.{Refusal}
use Rattle.kpn_command_base.specs.declared.refusal.Refusal.TheVariants.{Output, NoMemory}

-- what was sent between two moments, and the text that is kept, are the whole
pub record IsSentWhole (before after : Option (List ℕ)) (text whole : List ℕ) : Type 0 where
  pub sent : List ℕ
  pub grows : Appends before after sent
  pub kept : sent ++ text ≡ whole

-- if the call succeeded, the bytes stand after the text as it was, of which a first part may have been sent
abbrev pub Sends : {W T E Z : Type 0} → (contents : W → Option (List ℕ)) → Result T E → (out sent : W)
    (old new : String Z) → List ℕ → Type 0
Sends contents result out sent old new bytes =
    OnOk result (IsSentWhole (contents out) (contents sent) (string_bytes new) (string_bytes old ++ bytes))

-- the text may have gone out in part: memory ran out, or the output takes no more
abbrev pub IsUnsent : Refusal → Type 0
IsUnsent (Output fault) = fault ≡ Write
IsUnsent NoMemory = ⊤
IsUnsent refusal = ⊥
