-- Tokens that stand for themselves.
use Rattle.std.specs.Prelude.{◌≡◌, Bool, true, false, not, if◌then◌else◌, List, [], ◌∷◌}
use Rattle.kpn_text_tokens.specs.declared.tokens.Keyword.TheVariants as keyword
use Rattle.kpn_text_tokens.specs.declared.tokens.Mark.TheVariants as mark
use Rattle.kpn_text_tokens.specs.declared.tokens.Token.{Token}
use Rattle.kpn_text_tokens.specs.declared.tokens.Token.TheVariants as token
use Rattle.kpn_text_expand.specs.declared.capacities.HeadSpot.{HeadSpot}
use Rattle.kpn_text_expand.specs.declared.capacities.HeadSpot.TheVariants as spot
use Rattle.kpn_text_expand.specs.Capacities.{spot_behind}
use Rattle.kpn_text_expand.specs.Sums.{changes, is_assign}

-- the first of the tokens is no `=`
abbrev pub not_assigned : List Token → Bool
not_assigned [] = false
not_assigned (t ∷ ts) = not (is_assign t)

-- no capacity stands among the settings of a network from here on
abbrev pub capless : HeadSpot → List Token → Bool
capless p [] = true
capless spot.Opening (t ∷ ts) = capless (spot_behind spot.Opening t) ts
capless spot.Head (token.Keyword keyword.Cap ∷ ts) = false
capless spot.Head (t ∷ ts) = capless (spot_behind spot.Head t) ts
capless spot.Setting (t ∷ ts) = capless (spot_behind spot.Setting t) ts
capless _ _ = true

-- the first of the tokens is no `[`
abbrev pub not_indexed : List Token → Bool
not_indexed [] = false
not_indexed (token.Mark mark.LeftBracket ∷ ts) = false
not_indexed (t ∷ ts) = true

-- these tokens after the port of a read are no cell
abbrev pub no_cell_next : List Token → Bool
no_cell_next (token.Name x ∷ ts) = not_indexed ts
no_cell_next _ = true

-- these tokens after `read` are no read into a cell
abbrev pub no_cell_read : List Token → Bool
no_cell_read (token.Name x ∷ ts) = no_cell_next ts
no_cell_read _ = true

-- the token, which these follow, begins no short form
abbrev pub is_itself : Token → List Token → Bool
is_itself (token.Keyword keyword.Const) ts = false
is_itself (token.Keyword keyword.For) ts = false
is_itself (token.Keyword keyword.Read) ts = no_cell_read ts
is_itself (token.Keyword keyword.Network) ts = capless spot.Opening ts
is_itself (token.Mark m) ts = if changes m then not_assigned ts else true
is_itself _ ts = true

abbrev pub IsPlain : Token → List Token → Type 0
IsPlain t ts = is_itself t ts ≡ true

abbrev pub ArePlain : List Token → Type 0
ArePlain [] = Unit {0}
ArePlain (t ∷ ts) = IsPlain t ts × ArePlain ts
