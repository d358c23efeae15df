-- What loops over a range stand for can be spelled, if they can.
use Rattle.std.proofs.Common.{zero, suc, ◌-◌, length}
use Rattle.kpn_text_expand.proofs.Common.{ℕ, List, [], ◌∷◌, ◌++◌, codes, take, Option, Some, None, refl, arith, cond_both, ◌==◌, Lexeme, Mark, Token}
use Rattle.std.specs.Prelude.{◌+◌, min, slice_get}
use Rattle.kpn_text_tokens.specs.declared.tokens.Keyword.TheVariants as keyword
use Rattle.kpn_text_tokens.specs.declared.tokens.Mark.TheVariants as mark
use Rattle.kpn_text_tokens.specs.declared.tokens.Token.TheVariants as token
use Rattle.kpn_text_expand.specs.declared.hidden.Hidden.TheVariants as hidden
use Rattle.kpn_text_expand.specs.declared.loops.Loops.{Loops}
use Rattle.kpn_text_expand.specs.declared.loops.LoopSpot.{LoopSpot}
use Rattle.kpn_text_expand.specs.declared.loops.LoopSpot.TheVariants as spot
use Rattle.kpn_text_expand.specs.Loops.{blocks_around, at_first, end_begun_as, end_name, counted_up, counted_if, body_begun_as, token_kept, name_if, name_said, token_passed, passed_by, refused, step, step_at, test_written, loop_variable, with_loops, one_added}
use Rattle.kpn_text_expand.proofs.Can.{CanBe, Spelled, both_spelled, for_can, mark_can, number_can}
use Rattle.kpn_text_expand.proofs.Folds.{all_hold}
use Rattle.kpn_text_expand.proofs.HiddenNames.{CanIf, hidden_can}

end_can : (s : Loops) → CanIf (end_name s)
end_can s = hidden_can hidden.End (min (s.taken + (length s.blocks - 1)) 18446744073709551615)

name_can : (t : Token) → CanBe t → CanIf (name_said t)
name_can (token.Name x) can = can
name_can (token.Number n) can = tt
name_can (token.Mark m) can = tt
name_can (token.Keyword k) can = tt

name_at_can : (bs : List Lexeme) (n : ℕ) → Spelled bs → CanIf (name_if (slice_get bs n))
name_at_can [] n all = tt
name_at_can (b ∷ bs) zero all = name_can b.token all.0
name_at_can (b ∷ bs) (suc n) all = name_at_can bs n all.1

variable_can : (bs : List Lexeme) → Spelled bs → CanIf (loop_variable bs)
variable_can bs all = name_at_can bs (length bs - 1) all

fewer : (n : ℕ) (bs : List Lexeme) → Spelled bs → Spelled (take n bs)
fewer zero bs all = tt
fewer (suc n) [] all = tt
fewer (suc n) (b ∷ bs) all = (all.0, fewer n bs all.1)

-- ---- states

record IsSound (s : Loops) : Type 0 where
  left : Spelled s.left
  blocks : Spelled s.blocks

adds : (t : Token) (at : ℕ) (s : Loops) → CanBe t → IsSound s → IsSound (one_added t at s)
adds t at s can is = record { left = both_spelled s.left _ is.left (can, tt); blocks = is.blocks }

marks : (m : Mark) (at : ℕ) (s : Loops) → IsSound s → IsSound (one_added (token.Mark m) at s)
marks m at s is = adds (token.Mark m) at s (mark_can m) is

keeps : (l : Lexeme) (p : LoopSpot) (s : Loops) → CanBe l.token → IsSound s → IsSound (token_kept l p s)
keeps l p s can is = record { left = both_spelled s.left (l ∷ []) is.left (can, tt); blocks = is.blocks }

pushes : (l : Lexeme) (s : Loops) → CanBe l.token → IsSound s → IsSound (record s { blocks = s.blocks ++ l ∷ [] })
pushes l s can is = record { left = is.left; blocks = both_spelled s.blocks (l ∷ []) is.blocks (can, tt) }

at_spot : (p : LoopSpot) (s : Loops) → IsSound s → IsSound (record s { spot = p })
at_spot p s is = record { left = is.left; blocks = is.blocks }

refuses : (l : Lexeme) (s : Loops) → CanBe l.token → IsSound s → IsSound (refused l s)
refuses l s can is =
    keeps l spot.Rest (one_added (token.Keyword keyword.For) l.start s) can
    (adds (token.Keyword keyword.For) l.start s for_can is)

counts : (x : List ℕ) (at : ℕ) (s : Loops) → CanBe (token.Name x) → IsSound s → IsSound (counted_up x at s)
counts x at s can is =
    marks mark.Semicolon at _
    (adds (token.Number 1) at _ (number_can 1 (omega arith))
    (marks mark.Plus at _ (adds (token.Name x) at _ can (marks mark.Assign at _ (adds (token.Name x) at s can is)))))

ends : (o : Option (List ℕ)) (at : ℕ) (s : Loops) → CanIf o → IsSound s → IsSound (counted_if o at s)
ends (Some x) at s can is = counts x at s can is
ends None at s can is = is

passes : (t : Token) (l : Lexeme) (s : Loops) → CanBe l.token → IsSound s → IsSound (passed_by t l s)
passes (token.Mark mark.LeftBrace) l s can is = keeps l spot.Front _ can (pushes l s can is)
passes (token.Mark mark.RightBrace) l s can is =
    keeps l spot.Front (counted_if (loop_variable s.blocks) l.start (record s { blocks = blocks_around s.blocks })) can
    (ends (loop_variable s.blocks) l.start (record s { blocks = blocks_around s.blocks }) (variable_can s.blocks is.blocks)
    (record { left = is.left; blocks = fewer (length s.blocks - 1) s.blocks is.blocks }))
passes (token.Mark mark.Semicolon) l s can is = keeps l spot.Front s can is
passes (token.Mark _) l s can is = keeps l spot.Inside s can is
passes (token.Keyword keyword.Network) l s can is = keeps l spot.Rest s can is
passes (token.Keyword _) l s can is = keeps l spot.Inside s can is
passes (token.Name x) l s can is = keeps l spot.Inside s can is
passes (token.Number n) l s can is = keeps l spot.Inside s can is

binds : (o : Option (List ℕ)) (l : Lexeme) (s : Loops) → CanIf o → CanBe l.token → IsSound s → IsSound (end_begun_as o l s)
binds (Some x) l s can l_can is =
    marks mark.Assign l.start _
    (adds (token.Name x) l.start _ can (marks mark.Semicolon l.start _ (at_spot spot.End s is)))
binds None l s can l_can is = refuses l s l_can is

tests : (x to : List ℕ) (at : ℕ) (s : Loops) → CanBe (token.Name x) → CanBe (token.Name to) → IsSound s
    → IsSound (test_written x to at s)
tests x to at s x_can to_can is =
    adds (token.Name to) at _ to_can
    (marks mark.Less at _ (adds (token.Name x) at _ x_can
    (adds (token.Keyword keyword.While) at _ (codes "while", (refl, refl)) (marks mark.Semicolon at s is))))

enters : (a b : Option (List ℕ)) (l : Lexeme) (s : Loops) → CanIf a → CanIf b → CanBe l.token → IsSound s
    → IsSound (body_begun_as a b l s)
enters (Some x) (Some to) l s a_can b_can can is = keeps l spot.Front _ can (tests x to l.start s a_can b_can is)
enters (Some x) None l s a_can b_can can is = refuses l s can is
enters None b l s a_can b_can can is = refuses l s can is

takes : (p : LoopSpot) (t : Token) (l : Lexeme) (s : Loops) → CanBe l.token → IsSound s → IsSound (step_at p t l s)
takes spot.Front (token.Keyword keyword.For) l s can is =
    cond_both (length s.blocks == 0) (token_passed l s) (record s { spot = spot.Word }) IsSound
    (λ e. passes l.token l s can is) (λ e. at_spot spot.Word s is)
takes spot.Front (token.Keyword _) l s can is = passes l.token l s can is
takes spot.Front (token.Name x) l s can is = passes l.token l s can is
takes spot.Front (token.Number n) l s can is = passes l.token l s can is
takes spot.Front (token.Mark m) l s can is = passes l.token l s can is
takes spot.Inside t l s can is = passes l.token l s can is
takes spot.Rest t l s can is = keeps l spot.Rest s can is
takes spot.Word (token.Name x) l s can is = keeps l spot.Variable _ can (pushes l s can is)
takes spot.Word (token.Number n) l s can is = refuses l s can is
takes spot.Word (token.Mark m) l s can is = refuses l s can is
takes spot.Word (token.Keyword k) l s can is = refuses l s can is
takes spot.Variable (token.Keyword keyword.In) l s can is = marks mark.Assign l.start _ (at_spot spot.First s is)
takes spot.Variable (token.Keyword _) l s can is = refuses l s can is
takes spot.Variable (token.Name x) l s can is = refuses l s can is
takes spot.Variable (token.Number n) l s can is = refuses l s can is
takes spot.Variable (token.Mark m) l s can is = refuses l s can is
takes spot.First (token.Mark mark.Range) l s can is = binds (end_name s) l s (end_can s) can is
takes spot.First (token.Mark mark.Semicolon) l s can is = refuses l s can is
takes spot.First (token.Mark _) l s can is = keeps l spot.First s can is
takes spot.First (token.Name x) l s can is = keeps l spot.First s can is
takes spot.First (token.Number n) l s can is = keeps l spot.First s can is
takes spot.First (token.Keyword k) l s can is = keeps l spot.First s can is
takes spot.End (token.Mark mark.LeftBrace) l s can is =
    enters (loop_variable s.blocks) (end_name s) l s (variable_can s.blocks is.blocks) (end_can s) can is
takes spot.End (token.Mark mark.Semicolon) l s can is = refuses l s can is
takes spot.End (token.Mark _) l s can is = keeps l spot.End s can is
takes spot.End (token.Name x) l s can is = keeps l spot.End s can is
takes spot.End (token.Number n) l s can is = keeps l spot.End s can is
takes spot.End (token.Keyword k) l s can is = keeps l spot.End s can is

one : (s : Loops) (l : Lexeme) → IsSound s → CanBe l.token → IsSound (step s l)
one s l is can = takes s.spot l.token l s can is

pub loops_spelled : (ls : List Lexeme) → Spelled ls → Spelled (with_loops ls)
loops_spelled ls all = (all_hold step IsSound CanBe one (at_first ls) ls (record { left = tt; blocks = tt }) all).left
