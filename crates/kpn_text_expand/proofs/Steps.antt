-- Tokens from a place on: what the next one makes of what has gone by.
use Rattle.std.proofs.Common.{◌≡◌, ℕ, suc, ◌+◌, ◌<◌, ◌≤◌, List, length, drop, get_or, Result, Ok, refl, add-one}
use Rattle.std.proofs.Math.Seq.{drop-cons}
use Rattle.std.proofs.lemmas.List.{drop_all}
use Rattle.kpn_text_expand.proofs.Common.{Lexeme, ExpandFault}
use Rattle.kpn_text_tokens.specs.Results.{and_then}
use Rattle.kpn_text_expand.specs.declared.fault.ExpandFault.TheVariants as fault
use Rattle.kpn_text_expand.specs.Results.{Fails, each}

-- a step that failed decides
fails_first : {A B : Type 0} (e : ExpandFault) (r : Result A ExpandFault) (f : A → Result B ExpandFault) → Fails e r
    → Fails e (and_then r f)
unfolding and_then
fails_first fault.NoMemory r f h = tt
fails_first (fault.Grammar at) r f h = rw h refl
fails_first (fault.Token at) r f h = rw h refl
fails_first (fault.UnknownName at) r f h = rw h refl

module _ {S : Type 0} (step : S → Lexeme → Result S ExpandFault) (s : S) (xs : List Lexeme) (i : ℕ) where
  pub ends : length xs ≤ i → each step s (drop i xs) ≡ Ok s
  unfolding each
  ends h = rw (drop_all i xs h) refl

  pub goes : (d x : Lexeme) (t : S) → i < length xs → get_or xs i d ≡ x → step s x ≡ Ok t
      → each step s (drop i xs) ≡ each step t (drop (i + 1) xs)
  unfolding each and_then
  goes d x t h is e = rw (add-one, drop-cons xs i d h, is, e) refl

  pub fails : (d x : Lexeme) (e : ExpandFault) → i < length xs → get_or xs i d ≡ x → Fails e (step s x)
      → Fails e (each step s (drop i xs))
  unfolding each
  fails d x e h is w =
      rw (drop-cons xs i d h, is) (fails_first e (step s x) (λ t. each step t (drop (suc i) xs)) w)
