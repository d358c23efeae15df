-- What is wrong with a name, and chains of steps: the first step that finds something wrong decides.
use Rattle.std.specs.Prelude.{◌≡◌, List, [], ◌∷◌, Result, Ok, Err}
use Rattle.kpn_text_tokens.specs.Results.{◌>>=◌}
use Rattle.kpn_text_names.specs.declared.fault.NameFault.{NameFault}
use Rattle.kpn_text_names.specs.declared.fault.NameFault.TheVariants as fault

-- a name is not known at its use, or is already in its table
pub data NameError : Type 0 where
  unknown : NameError
  double : NameError

-- one step for each item of a list, in order
unfoldable pub each : {S X : Type 0} → (S → X → Result S NameError) → S → List X → Result S NameError
each step s [] = Ok s
each step s (x ∷ xs) = step s x >>= λ t. each step t xs

-- a call failed for this cause, or memory ran out
abbrev pub ResolvingFails : {B : Type 0} → NameFault → Result B NameError → Type 0
ResolvingFails fault.NoMemory r = Unit {0}
ResolvingFails (fault.UnknownName at) r = r ≡ Err unknown
ResolvingFails (fault.DoubleName at) r = r ≡ Err double

-- what a call returned, seen by a view, is this, unless memory ran out
abbrev pub ResolvingGives : {A B : Type 0} → (A → B) → Result A NameFault → Result B NameError → Type 0
ResolvingGives view (Ok x) r = r ≡ Ok (view x)
ResolvingGives view (Err e) r = ResolvingFails e r
