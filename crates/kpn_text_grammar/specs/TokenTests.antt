-- Which kind of token a token is: this mark, this reserved word, a number of value 2, a name.
use Rattle.std.specs.Prelude.{Bool, true, false, ◌==◌}
use denote.Enum.Bare.{sameb}
use Rattle.kpn_text_tokens.specs.declared.tokens.Token.{Token}
use Rattle.kpn_text_tokens.specs.declared.tokens.Token.TheVariants as token
use Rattle.kpn_text_tokens.specs.declared.tokens.Mark.{Mark}
use Rattle.kpn_text_tokens.specs.contracts.tokens.Mark.{the_type as mark_type}
use Rattle.kpn_text_tokens.specs.declared.tokens.Keyword.{Keyword}
use Rattle.kpn_text_tokens.specs.contracts.tokens.Keyword.{the_type as keyword_type}

-- two marks, two reserved words are the same: what `==` returns for them
abbrev pub same_mark : Mark → Mark → Bool
same_mark = sameb mark_type

abbrev pub same_keyword : Keyword → Keyword → Bool
same_keyword = sameb keyword_type

-- the token is this mark, this reserved word, a number of value 2, a name
abbrev pub is_mark : Mark → Token → Bool
is_mark m (token.Mark n) = same_mark n m
is_mark m _ = false

abbrev pub is_keyword : Keyword → Token → Bool
is_keyword k (token.Keyword n) = same_keyword n k
is_keyword k _ = false

abbrev pub is_number_two : Token → Bool
is_number_two (token.Number n) = n == 2
is_number_two _ = false

abbrev pub is_name : Token → Bool
is_name (token.Name x) = true
is_name _ = false
