-- What the capacity of a network stands for can be spelled, if it can.
use Rattle.kpn_text_expand.proofs.Common.{List, [], ◌∷◌, Lexeme, Token, Capacities, HeadSpot, with_token}
use Rattle.kpn_text_tokens.specs.declared.tokens.Keyword.TheVariants as keyword
use Rattle.kpn_text_tokens.specs.declared.tokens.Mark.TheVariants as mark
use Rattle.kpn_text_tokens.specs.declared.tokens.Token.TheVariants as token
use Rattle.kpn_text_expand.specs.declared.capacities.HeadSpot.TheVariants as spot
use Rattle.kpn_text_expand.specs.Capacities.{at_first, entry_filled, token_kept, refused, step, step_at, with_capacities}
use Rattle.kpn_text_expand.proofs.Folds.{all_hold}
use Rattle.kpn_text_expand.proofs.Can.{CanBe, Spelled, both_spelled, cap_can, nothing_can}

record IsSound (s : Capacities) : Type 0 where
  left : Spelled s.left
  number : CanBe (token.Number s.number)

keeps : (l : Lexeme) (p : HeadSpot) (s : Capacities) → IsSound s → CanBe l.token → IsSound (token_kept l p s)
keeps l p s is can = record { left = both_spelled s.left (l ∷ []) is.left (can, tt); number = is.number }

capped : (l : Lexeme) (s : Capacities) → IsSound s → Spelled (with_token (token.Keyword keyword.Cap) l.start s.left)
capped l s is = both_spelled s.left _ is.left (cap_can, tt)

refuses : (l : Lexeme) (s : Capacities) → IsSound s → CanBe l.token → IsSound (refused l s)
refuses l s is can = keeps l spot.Elsewhere (record s { left = with_token (token.Keyword keyword.Cap) l.start s.left })
    (record { left = capped l s is; number = is.number }) can

fills : (l : Lexeme) (s : Capacities) → IsSound s → CanBe l.token → IsSound (entry_filled l s)
fills l s is can =
    keeps l spot.Entry
    (record s {
      left = with_token (token.Number s.number) l.start (with_token (token.Keyword keyword.Cap) l.start s.left);
    })
    (record {
      left = both_spelled (with_token (token.Keyword keyword.Cap) l.start s.left) _ (capped l s is) (is.number, tt);
      number = is.number;
    }) can

takes : (p : HeadSpot) (t : Token) (l : Lexeme) (s : Capacities) → IsSound s → CanBe l.token → CanBe t
    → IsSound (step_at p t l s)
takes spot.Head (token.Keyword keyword.Cap) l s is can t_can = record { left = is.left; number = is.number }
takes spot.Head (token.Keyword _) l s is can t_can = keeps l _ s is can
takes spot.Head (token.Mark m) l s is can t_can = keeps l _ s is can
takes spot.Head (token.Name x) l s is can t_can = keeps l _ s is can
takes spot.Head (token.Number n) l s is can t_can = keeps l _ s is can
takes spot.Word (token.Number n) l s is can t_can = record { left = is.left; number = t_can }
takes spot.Word (token.Mark m) l s is can t_can = refuses l s is can
takes spot.Word (token.Name x) l s is can t_can = refuses l s is can
takes spot.Word (token.Keyword k) l s is can t_can = refuses l s is can
takes spot.Amount (token.Mark mark.Semicolon) l s is can t_can = record { left = is.left; number = is.number }
takes spot.Amount (token.Mark _) l s is can t_can = refuses l s is can
takes spot.Amount (token.Name x) l s is can t_can = refuses l s is can
takes spot.Amount (token.Number k) l s is can t_can = refuses l s is can
takes spot.Amount (token.Keyword k) l s is can t_can = refuses l s is can
takes spot.Open (token.Mark mark.Semicolon) l s is can t_can = fills l s is can
takes spot.Open (token.Mark _) l s is can t_can = keeps l _ s is can
takes spot.Open (token.Name x) l s is can t_can = keeps l _ s is can
takes spot.Open (token.Number n) l s is can t_can = keeps l _ s is can
takes spot.Open (token.Keyword k) l s is can t_can = keeps l _ s is can
takes spot.Elsewhere t l s is can t_can = keeps l _ s is can
takes spot.Opening t l s is can t_can = keeps l _ s is can
takes spot.Setting t l s is can t_can = keeps l _ s is can
takes spot.Entry t l s is can t_can = keeps l _ s is can

one : (s : Capacities) (l : Lexeme) → IsSound s → CanBe l.token → IsSound (step s l)
one s l is can = takes s.spot l.token l s is can can

pub capacities_spelled : (ls : List Lexeme) → Spelled ls → Spelled (with_capacities ls)
capacities_spelled ls all =
    (all_hold step IsSound CanBe one at_first ls (record { left = tt; number = nothing_can }) all).left
