-- What is put to the front of a slice.
use Rattle.std.specs.Prelude.{◌≡◌, ◌⊎◌, ◌<◌, ℕ, Bool, true, false, List, ◌++◌, length, drop}

-- if it fits, it stands at the front, and the rest is as before; else all is as before
abbrev pub PutsIfFits : {A : Type 0} → (fits : Bool) → List A → (before after : List A) → Type 0
PutsIfFits true told before after = after ≡ told ++ drop (length told) before
PutsIfFits false told before after = (length before < length told) × (after ≡ before)

-- a list is put to the front of a slice if it fits, and its length is told. The number says whether it fits
pub record PutsToFront {A : Type 0} (list : List A) (code told : ℕ) (room kept : List A) : Type 0 where
  pub long : told ≡ length list
  pub puts : ((code ≡ 0) × PutsIfFits true list room kept) ⊎ ((code ≡ 61) × PutsIfFits false list room kept)
