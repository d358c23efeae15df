-- Tokens without a read into a cell stay.
use Rattle.kpn_text_expand.proofs.Common.{◌≡◌, ℕ, true, List, [], ◌∷◌, ◌++◌, refl, sym, ◌∙◌, fold, Lexeme, Token, kinds, ArePlain, IsPlain}
use Rattle.kpn_text_tokens.specs.declared.tokens.Keyword.TheVariants as keyword
use Rattle.kpn_text_tokens.specs.declared.tokens.Mark.TheVariants as mark
use Rattle.kpn_text_tokens.specs.declared.tokens.Token.TheVariants as token
use Rattle.kpn_text_expand.specs.declared.cells.Cells.{Cells}
use Rattle.kpn_text_expand.specs.declared.cells.CellSpot.{CellSpot}
use Rattle.kpn_text_expand.specs.declared.cells.CellSpot.TheVariants as spot
use Rattle.kpn_text_expand.specs.Cells.{at_first, spot_behind, step, step_at, target_kept, token_passed, with_cells}
use Rattle.kpn_text_expand.specs.Plain.{no_cell_next, no_cell_read, not_indexed}
use Rattle.kpn_text_expand.proofs.Folds.{all_seen}

-- what is left, and a target that waits for the token after it
abbrev seen_at : CellSpot → (target ls : List Lexeme) → List Lexeme
seen_at spot.Target target ls = ls ++ target
seen_at _ target ls = ls

abbrev seen : Cells → List Lexeme
seen s = seen_at s.spot s.target s.left

-- no cell is read
abbrev Fine : CellSpot → List Token → Type 0
Fine spot.Word ts = no_cell_read ts ≡ true
Fine spot.Port ts = no_cell_next ts ≡ true
Fine spot.Target ts = not_indexed ts ≡ true
Fine (spot.Index n) ts = ⊥
Fine spot.Item ts = ⊥
Fine _ ts = Unit {0}

abbrev Goes : Cells → List Lexeme → Type 0
Goes s ls = Fine s.spot (kinds ls) × ArePlain (kinds ls)

-- a token has been added to these
abbrev Takes : List Lexeme → Lexeme → List Token → Cells → Type 0
Takes ls l ts s = (seen s ≡ ls ++ l ∷ []) × Fine s.spot ts

behind : (t : Token) (target ls : List Lexeme) (ts : List Token)
    → (seen_at (spot_behind t) target ls ≡ ls) × Fine (spot_behind t) ts
behind (token.Name x) target ls ts = (refl, tt)
behind (token.Number n) target ls ts = (refl, tt)
behind (token.Mark mark.Semicolon) target ls ts = (refl, tt)
behind (token.Mark mark.LeftBrace) target ls ts = (refl, tt)
behind (token.Mark mark.RightBrace) target ls ts = (refl, tt)
behind (token.Mark _) target ls ts = (refl, tt)
behind (token.Keyword k) target ls ts = (refl, tt)

passes : (l : Lexeme) (s : Cells) (ts : List Token) → Takes s.left l ts (token_passed l s)
passes l s ts = behind l.token s.target (s.left ++ l ∷ []) ts

takes : (p : CellSpot) (t : Token) (l : Lexeme) (s : Cells) (ts : List Token) → Fine p (t ∷ ts) → IsPlain t ts
    → Takes (seen_at p s.target s.left) l ts (step_at p t l s)
takes spot.Front (token.Keyword keyword.Read) l s ts fine plain = (refl, plain)
takes spot.Front (token.Keyword _) l s ts fine plain = passes l s ts
takes spot.Front (token.Name x) l s ts fine plain = passes l s ts
takes spot.Front (token.Number n) l s ts fine plain = passes l s ts
takes spot.Front (token.Mark m) l s ts fine plain = passes l s ts
takes spot.Inside t l s ts fine plain = passes l s ts
takes spot.Word (token.Name x) l s ts fine plain = (refl, fine)
takes spot.Word (token.Number n) l s ts fine plain = passes l s ts
takes spot.Word (token.Mark m) l s ts fine plain = passes l s ts
takes spot.Word (token.Keyword k) l s ts fine plain = passes l s ts
takes spot.Port (token.Name x) l s ts fine plain = (refl, fine)
takes spot.Port (token.Number n) l s ts fine plain = passes l s ts
takes spot.Port (token.Mark m) l s ts fine plain = passes l s ts
takes spot.Port (token.Keyword k) l s ts fine plain = passes l s ts
takes spot.Target (token.Mark mark.LeftBracket) l s ts fine plain = absurd cc
takes spot.Target (token.Mark _) l s ts fine plain = passes l (target_kept s) ts
takes spot.Target (token.Name x) l s ts fine plain = passes l (target_kept s) ts
takes spot.Target (token.Number n) l s ts fine plain = passes l (target_kept s) ts
takes spot.Target (token.Keyword k) l s ts fine plain = passes l (target_kept s) ts
takes (spot.Index n) t l s ts fine plain = absurd fine
takes spot.Item t l s ts fine plain = absurd fine

one : (s : Cells) (l : Lexeme) (ls : List Lexeme) → Goes s (l ∷ ls)
    → (seen (step s l) ≡ seen s ++ l ∷ []) × Goes (step s l) ls
one s l ls goes =
    let here = takes s.spot l.token l s (kinds ls) goes.0 goes.1.0 in
    (here.0, (here.1, goes.1.1))

-- no target waits after the last token
all_seen_at : (p : CellSpot) (target ls : List Lexeme) → Fine p [] → seen_at p target ls ≡ ls
all_seen_at spot.Front target ls fine = refl
all_seen_at spot.Inside target ls fine = refl
all_seen_at spot.Word target ls fine = refl
all_seen_at spot.Port target ls fine = refl
all_seen_at spot.Target target ls fine = absurd cc
all_seen_at (spot.Index n) target ls fine = absurd fine
all_seen_at spot.Item target ls fine = absurd fine

pub cells_kept : (ls : List Lexeme) → ArePlain (kinds ls) → with_cells ls ≡ ls
cells_kept ls are =
    let last = fold step (at_first ls) ls in
    let all = all_seen step seen Goes one (at_first ls) ls (tt, are) in
    sym (all_seen_at last.spot last.target last.left all.1.0) ∙ all.0
