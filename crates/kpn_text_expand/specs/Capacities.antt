-- The capacity at the head of a network, `cap N;`. It goes to each channel and sink that has none.
use Rattle.std.specs.Prelude.{List, [], ◌∷◌, ◌++◌}
use Rattle.std.specs.List.{fold}
use Rattle.kpn_text_tokens.specs.declared.tokens.Keyword.TheVariants as keyword
use Rattle.kpn_text_tokens.specs.declared.tokens.Lexeme.{Lexeme}
use Rattle.kpn_text_tokens.specs.declared.tokens.Mark.TheVariants as mark
use Rattle.kpn_text_tokens.specs.declared.tokens.Token.{Token}
use Rattle.kpn_text_tokens.specs.declared.tokens.Token.TheVariants as token
use Rattle.kpn_text_expand.specs.declared.capacities.Capacities.{Capacities}
use Rattle.kpn_text_expand.specs.declared.capacities.HeadSpot.{HeadSpot}
use Rattle.kpn_text_expand.specs.declared.capacities.HeadSpot.TheVariants as spot
use Rattle.kpn_text_expand.specs.Constants.{with_token}

-- where the token after one that stays stands
abbrev pub spot_behind : HeadSpot → Token → HeadSpot
spot_behind spot.Elsewhere (token.Keyword keyword.Network) = spot.Opening
spot_behind spot.Opening (token.Mark mark.LeftBrace) = spot.Head
spot_behind spot.Head (token.Keyword keyword.Limit) = spot.Setting
spot_behind spot.Head (token.Keyword keyword.Policy) = spot.Setting
spot_behind spot.Head (token.Keyword keyword.Grow) = spot.Setting
spot_behind spot.Setting (token.Mark mark.Semicolon) = spot.Head
spot_behind spot.Setting _ = spot.Setting
spot_behind spot.Entry (token.Keyword keyword.Channel) = spot.Open
spot_behind spot.Entry (token.Keyword keyword.Sink) = spot.Open
spot_behind spot.Open (token.Keyword keyword.Cap) = spot.Entry
spot_behind spot.Entry _ = spot.Entry
spot_behind spot.Open _ = spot.Open
spot_behind _ _ = spot.Elsewhere

-- before the first token
abbrev pub at_first : Capacities
at_first = record { left = []; number = 0; spot = spot.Elsewhere }

-- a token that stays, after which the next one has this spot
abbrev pub token_kept : Lexeme → HeadSpot → Capacities → Capacities
token_kept l p s = record s { left = s.left ++ l ∷ []; spot = p }

-- a token after `cap` at the head that may not be there: the grammar refuses the word at its byte
abbrev pub refused : Lexeme → Capacities → Capacities
refused l s = token_kept l spot.Elsewhere (record s { left = with_token (token.Keyword keyword.Cap) l.start s.left })

-- the `;` of a channel or a sink without a capacity becomes `cap N;`
abbrev pub entry_filled : Lexeme → Capacities → Capacities
entry_filled l s = token_kept l spot.Entry (record s {
  left = with_token (token.Number s.number) l.start (with_token (token.Keyword keyword.Cap) l.start s.left);
})

abbrev pub step_at : HeadSpot → Token → Lexeme → Capacities → Capacities
step_at spot.Head (token.Keyword keyword.Cap) l s = record s { spot = spot.Word }
step_at spot.Word (token.Number n) l s = record s { number = n; spot = spot.Amount }
step_at spot.Amount (token.Mark mark.Semicolon) l s = record s { spot = spot.Entry }
step_at spot.Word _ l s = refused l s
step_at spot.Amount _ l s = refused l s
step_at spot.Open (token.Mark mark.Semicolon) l s = entry_filled l s
step_at p t l s = token_kept l (spot_behind p t) s

abbrev pub step : Capacities → Lexeme → Capacities
step s l = step_at s.spot l.token l s

-- the tokens with the capacity of their network
abbrev pub with_capacities : List Lexeme → List Lexeme
with_capacities ls = (fold step at_first ls).left
