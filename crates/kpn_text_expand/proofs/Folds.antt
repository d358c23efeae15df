-- Tokens that go by one after the other.
use Rattle.kpn_text_expand.proofs.Common.{◌≡◌, List, [], ◌∷◌, ◌++◌, sym, ap, ◌∙◌, append_assoc, append-nil, AllByRecursion, fold, Lexeme, Token, kinds}

-- each token stays
module _ {S : Type 0} (step : S → Lexeme → S) (seen : S → List Lexeme) (Goes : S → List Lexeme → Type 0)
    (one : (s : S) (l : Lexeme) (ls : List Lexeme) → Goes s (l ∷ ls)
    → (seen (step s l) ≡ seen s ++ l ∷ []) × Goes (step s l) ls) where
  pub all_seen : (s : S) (ls : List Lexeme) → Goes s ls
      → (seen (fold step s ls) ≡ seen s ++ ls) × Goes (fold step s ls) []
  all_seen s [] goes = (sym (append-nil (seen s)), goes)
  all_seen s (l ∷ ls) goes =
      let here = one s l ls goes in
      let rest = all_seen (step s l) ls here.1 in
      (rest.0 ∙ ap (λ ms. ms ++ ls) here.0 ∙ append_assoc (seen s) (l ∷ []) ls, rest.1)

-- each token keeps what holds of the state
module _ {S : Type 0} (step : S → Lexeme → S) (Holds : S → Type 0) (Can : Token → Type 0)
    (one : (s : S) (l : Lexeme) → Holds s → Can l.token → Holds (step s l)) where
  pub all_hold : (s : S) (ls : List Lexeme) → Holds s → AllByRecursion Can (kinds ls) → Holds (fold step s ls)
  all_hold s [] holds can = holds
  all_hold s (l ∷ ls) holds can = all_hold (step s l) ls (one s l holds can.0) can.1
