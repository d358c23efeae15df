-- Constants. The tokens go by one after the other: a declaration is taken out, and each name of a constant after it is
-- replaced by its number.
use Rattle.std.specs.Prelude.{ℕ, ◌+◌, ◌-◌, ◌==◌, min, if◌then◌else◌, List, [], ◌∷◌, ◌++◌, Option, Some, None, Result, Ok, Err, option_map}
use Rattle.std.specs.List.{find}
use Rattle.std.specs.Str.{bytes_eq}
use Rattle.kpn_text_tokens.specs.declared.tokens.Keyword.TheVariants as keyword
use Rattle.kpn_text_tokens.specs.declared.tokens.Lexeme.{Lexeme}
use Rattle.kpn_text_tokens.specs.declared.tokens.Mark.TheVariants as mark
use Rattle.kpn_text_tokens.specs.declared.tokens.Token.{Token}
use Rattle.kpn_text_tokens.specs.declared.tokens.Token.TheVariants as token
use Rattle.kpn_text_tokens.specs.Results.{◌>>=◌}
use Rattle.kpn_text_grammar.specs.Syntax.{NameBytes}
use Rattle.kpn_text_expand.specs.declared.constants.Constants.{Constants}
use Rattle.kpn_text_expand.specs.declared.constants.ConstantPlace.{ConstantPlace}
use Rattle.kpn_text_expand.specs.declared.constants.ConstantPlace.TheVariants as place
use Rattle.kpn_text_expand.specs.declared.declaration.Constant.{Constant}
use Rattle.kpn_text_expand.specs.declared.declaration.Value.{Value}
use Rattle.kpn_text_expand.specs.declared.fault.ExpandFault.{ExpandFault}
use Rattle.kpn_text_expand.specs.declared.fault.ExpandFault.TheVariants as fault
use Rattle.kpn_text_expand.specs.Declaration.{declared}
use Rattle.kpn_text_expand.specs.Results.{each}

-- before the first token
abbrev pub at_first : Constants
at_first = record { left = []; shared = []; own = []; depth = 0; place = place.Inside; declaration = [] }

abbrev pub value_in : List Constant → NameBytes → Option Value
value_in cs x = option_map (λ c. c.value) (find (λ c. bytes_eq c.name x) cs)

abbrev pub own_or_shared : Option Value → Option Value → Option Value
own_or_shared (Some v) other = Some v
own_or_shared None other = other

-- the value of a token, if it is the name of a constant
abbrev pub value_of : Constants → Token → Option Value
value_of s (token.Name x) = own_or_shared (value_in s.own x) (value_in s.shared x)
value_of s _ = None

-- a token at a byte
abbrev pub lexeme : Token → ℕ → Lexeme
lexeme t at = record { token = t; start = at }

-- a token at a byte after these
abbrev pub with_token : Token → ℕ → List Lexeme → List Lexeme
with_token t at ls = ls ++ lexeme t at ∷ []

-- a number, with a `-` before it if it is below 0
abbrev pub value_tokens : Value → ℕ → List Lexeme
value_tokens v at =
    if v.is_negative
    then lexeme (token.Mark mark.Minus) at ∷ lexeme (token.Number v.size) at ∷ []
    else lexeme (token.Number v.size) at ∷ []

abbrev pub meant_as : Lexeme → Option Value → List Lexeme
meant_as l (Some v) = value_tokens v l.start
meant_as l None = l ∷ []

-- what stands for a token: its value, if it is the name of a constant, and else itself
abbrev pub meant : Constants → Lexeme → List Lexeme
meant s l = meant_as l (value_of s l.token)

-- one brace more, as far as 64 bits can count
abbrev pub one_brace_more : ℕ → ℕ
one_brace_more n = min (n + 1) 18446744073709551615

-- The place after a token. The last `}` ends what the constants inside it are known in.
abbrev pub gone_past : Token → Constants → Constants
gone_past (token.Mark mark.LeftBrace) s = record s { depth = one_brace_more s.depth; place = place.Front }
gone_past (token.Mark mark.RightBrace) s = record s {
  own = if s.depth - 1 == 0 then [] else s.own;
  depth = s.depth - 1;
  place = place.Front;
}
gone_past (token.Mark mark.Semicolon) s = record s { place = place.Front }
gone_past _ s = record s { place = place.Inside }

-- a token outside of a declaration
abbrev pub token_passed : Lexeme → Constants → Constants
token_passed l s = gone_past l.token (record s { left = s.left ++ meant s l })

-- a token of a declaration
abbrev pub token_kept : Lexeme → Constants → Constants
token_kept l s = record s { declaration = s.declaration ++ meant s l }

abbrev pub with_constant : Constants → Constant → Constants
with_constant s c =
    if s.depth == 0
    then record s { shared = s.shared ++ c ∷ []; declaration = []; place = place.Front }
    else record s { own = s.own ++ c ∷ []; declaration = []; place = place.Front }

-- the `;` after a declaration
abbrev pub with_declared : (stop : ℕ) → Constants → Result Constants ExpandFault
with_declared stop s = declared stop s.declaration >>= λ c. Ok (with_constant s c)

-- A token at a place. After `;`, `{` or `}` the word `const` begins a declaration, which the next `;` ends.
abbrev pub step_at : ConstantPlace → Token → Lexeme → Constants → Result Constants ExpandFault
step_at place.Front (token.Keyword keyword.Const) l s = Ok (record s { place = place.Declaration })
step_at place.Declaration (token.Mark mark.Semicolon) l s = with_declared l.start s
step_at place.Declaration _ l s = Ok (token_kept l s)
step_at _ _ l s = Ok (token_passed l s)

abbrev pub step : Constants → Lexeme → Result Constants ExpandFault
step s l = step_at s.place l.token l s

abbrev pub finished_at : ConstantPlace → (end : ℕ) → Constants → Result (List Lexeme) ExpandFault
finished_at place.Declaration end s = declared end s.declaration >>= λ c. Err (fault.Grammar end)
finished_at _ end s = Ok s.left

-- the tokens that are left; no declaration may be without its `;`
abbrev pub finished : (end : ℕ) → Constants → Result (List Lexeme) ExpandFault
finished end s = finished_at s.place end s

-- from here on: one token after the other
abbrev pub steps : Constants → List Lexeme → Result Constants ExpandFault
steps = each step

-- the tokens that constants leave of a text of this length
abbrev pub without_constants : (end : ℕ) → List Lexeme → Result (List Lexeme) ExpandFault
without_constants end ls = steps at_first ls >>= finished end
