-- What a call that expands tokens returns.
use Rattle.std.specs.Prelude.{◌≡◌, List, [], ◌∷◌, Result, Ok, Err}
use Rattle.kpn_text_tokens.specs.declared.tokens.Lexeme.{Lexeme}
use Rattle.kpn_text_tokens.specs.Results.{◌>>=◌}
use Rattle.kpn_text_expand.specs.declared.fault.ExpandFault.{ExpandFault}
use Rattle.kpn_text_expand.specs.declared.fault.ExpandFault.TheVariants as fault

-- a call failed with this fault, or memory ran out
abbrev pub Fails : {B : Type 0} → ExpandFault → Result B ExpandFault → Type 0
Fails fault.NoMemory r = Unit {0}
Fails (fault.Grammar at) r = r ≡ Err (fault.Grammar at)
Fails (fault.Token at) r = r ≡ Err (fault.Token at)
Fails (fault.UnknownName at) r = r ≡ Err (fault.UnknownName at)

-- what a call returned, seen by a view, is this, unless memory ran out
abbrev pub Yields : {A B : Type 0} → (A → B) → Result A ExpandFault → Result B ExpandFault → Type 0
Yields view (Ok x) r = r ≡ Ok (view x)
Yields view (Err e) r = Fails e r

-- tokens go by one after the other, until one is wrong
unfoldable pub each : {S : Type 0} → (S → Lexeme → Result S ExpandFault) → S → List Lexeme → Result S ExpandFault
each step s [] = Ok s
each step s (l ∷ ls) = step s l >>= λ t. each step t ls
