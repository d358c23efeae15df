-- What reads into cells stand for can be spelled, if they can.
use Rattle.kpn_text_expand.proofs.Common.{ℕ, List, [], ◌∷◌, ◌++◌, codes, Option, Some, None, refl, Lexeme, Mark, Token, with_token}
use Rattle.std.specs.Prelude.{◌+◌, min}
use Rattle.kpn_text_tokens.specs.declared.tokens.Keyword.TheVariants as keyword
use Rattle.kpn_text_tokens.specs.declared.tokens.Mark.TheVariants as mark
use Rattle.kpn_text_tokens.specs.declared.tokens.Token.TheVariants as token
use Rattle.kpn_text_expand.specs.declared.cells.Cells.{Cells}
use Rattle.kpn_text_expand.specs.declared.cells.CellSpot.{CellSpot}
use Rattle.kpn_text_expand.specs.declared.cells.CellSpot.TheVariants as spot
use Rattle.kpn_text_expand.specs.declared.hidden.Hidden.TheVariants as hidden
use Rattle.kpn_text_expand.specs.Cells.{at_first, item_name, item_read_as, item_stored_as, refused, spot_in_index, step, step_at, target_kept, token_kept, with_cells}
use Rattle.kpn_text_expand.proofs.Can.{CanBe, Spelled, both_spelled, for_can, mark_can}
use Rattle.kpn_text_expand.proofs.Folds.{all_hold}
use Rattle.kpn_text_expand.proofs.HiddenNames.{CanIf, hidden_can}

record IsSound (s : Cells) : Type 0 where
  left : Spelled s.left
  target : Spelled s.target

item_can : (s : Cells) → CanIf (item_name s)
item_can s = hidden_can hidden.Item (min (s.taken + 1) 18446744073709551615)

adds : (t : Token) (at : ℕ) (s : Cells) → CanBe t → IsSound s → IsSound (record s { left = with_token t at s.left })
adds t at s can is = record { left = both_spelled s.left _ is.left (can, tt); target = is.target }

keeps : (l : Lexeme) (p : CellSpot) (s : Cells) → CanBe l.token → IsSound s → IsSound (token_kept l p s)
keeps l p s can is = record { left = both_spelled s.left (l ∷ []) is.left (can, tt); target = is.target }

keeps_target : (s : Cells) → IsSound s → IsSound (target_kept s)
keeps_target s is = record { left = both_spelled s.left s.target is.left is.target; target = is.target }

refuses : (l : Lexeme) (s : Cells) → CanBe l.token → IsSound s → IsSound (refused l s)
refuses l s can is = keeps l spot.Inside _ can (adds (token.Keyword keyword.For) l.start s for_can is)

reads : (o : Option (List ℕ)) (l : Lexeme) (s : Cells) → CanIf o → CanBe l.token → IsSound s
    → IsSound (item_read_as o l s)
reads (Some x) l s x_can can is =
    keeps l (spot.Index 0) _ can
    (keeps_target _ (adds (token.Mark mark.Semicolon) l.start _ (mark_can mark.Semicolon)
    (adds (token.Name x) l.start s x_can is)))
reads None l s x_can can is = refuses l _ can (keeps_target s is)

stores : (o : Option (List ℕ)) (l : Lexeme) (s : Cells) → CanIf o → CanBe l.token → IsSound s
    → IsSound (item_stored_as o l s)
stores (Some x) l s x_can can is =
    keeps l spot.Front _ can
    (adds (token.Name x) l.start _ x_can (adds (token.Mark mark.Assign) l.start s (mark_can mark.Assign) is))
stores None l s x_can can is = refuses l s can is

takes : (p : CellSpot) (t : Token) (l : Lexeme) (s : Cells) → CanBe l.token → IsSound s → IsSound (step_at p t l s)
takes spot.Front (token.Keyword keyword.Read) l s can is = keeps l spot.Word s can is
takes spot.Front (token.Keyword _) l s can is = keeps l _ s can is
takes spot.Front (token.Name x) l s can is = keeps l _ s can is
takes spot.Front (token.Number n) l s can is = keeps l _ s can is
takes spot.Front (token.Mark m) l s can is = keeps l _ s can is
takes spot.Inside t l s can is = keeps l _ s can is
takes spot.Word (token.Name x) l s can is = keeps l spot.Port s can is
takes spot.Word (token.Number n) l s can is = keeps l _ s can is
takes spot.Word (token.Mark m) l s can is = keeps l _ s can is
takes spot.Word (token.Keyword k) l s can is = keeps l _ s can is
takes spot.Port (token.Name x) l s can is = record { left = is.left; target = (can, tt) }
takes spot.Port (token.Number n) l s can is = keeps l _ s can is
takes spot.Port (token.Mark m) l s can is = keeps l _ s can is
takes spot.Port (token.Keyword k) l s can is = keeps l _ s can is
takes spot.Target (token.Mark mark.LeftBracket) l s can is = reads (item_name s) l s (item_can s) can is
takes spot.Target (token.Mark _) l s can is = keeps l _ (target_kept s) can (keeps_target s is)
takes spot.Target (token.Name x) l s can is = keeps l _ (target_kept s) can (keeps_target s is)
takes spot.Target (token.Number n) l s can is = keeps l _ (target_kept s) can (keeps_target s is)
takes spot.Target (token.Keyword k) l s can is = keeps l _ (target_kept s) can (keeps_target s is)
takes (spot.Index n) t l s can is = keeps l (spot_in_index t n) s can is
takes spot.Item (token.Mark mark.Semicolon) l s can is = stores (item_name s) l s (item_can s) can is
takes spot.Item (token.Mark _) l s can is = refuses l s can is
takes spot.Item (token.Name x) l s can is = refuses l s can is
takes spot.Item (token.Number n) l s can is = refuses l s can is
takes spot.Item (token.Keyword k) l s can is = refuses l s can is

one : (s : Cells) (l : Lexeme) → IsSound s → CanBe l.token → IsSound (step s l)
one s l is can = takes s.spot l.token l s can is

pub cells_spelled : (ls : List Lexeme) → Spelled ls → Spelled (with_cells ls)
cells_spelled ls all = (all_hold step IsSound CanBe one (at_first ls) ls (record { left = tt; target = tt }) all).left
