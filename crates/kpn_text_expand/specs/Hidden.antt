-- Names of variables that stand for no name of the text.
use Rattle.std.specs.Prelude.{ℕ, ◌==◌, ◌||◌, nat_eq, nat_lt, if◌then◌else◌, List, codes, length, take, Option, Some, None}
use Rattle.std.specs.List.{fold, starts_with}
use Rattle.kpn_text_tokens.specs.declared.tokens.Lexeme.{Lexeme}
use Rattle.kpn_text_tokens.specs.declared.tokens.Token.{Token}
use Rattle.kpn_text_tokens.specs.declared.tokens.Token.TheVariants as token
use Rattle.kpn_text_grammar.specs.Syntax.{NameBytes}
use Rattle.kpn_text_expand.specs.declared.hidden.Hidden.{Hidden}
use Rattle.kpn_text_expand.specs.declared.hidden.Hidden.TheVariants as hidden

-- they are fronts of these: to, to_ and so on, and item, item_ and so on
abbrev pub longest_hidden : Hidden → List ℕ
longest_hidden hidden.End = codes "to______________________________"
longest_hidden hidden.Item = codes "item____________________________"

-- the length of those that are too short
abbrev pub too_short : Hidden → ℕ
too_short hidden.End = 1
too_short hidden.Item = 3

-- the length of a name that may be one of them, and else 0
abbrev pub length_taken : Hidden → Token → ℕ
length_taken h (token.Name x) = if starts_with nat_eq (longest_hidden h) x then length x else 0
length_taken h _ = 0

abbrev pub greater_of : ℕ → ℕ → ℕ
greater_of m n = if nat_lt m n then n else m

abbrev pub more_taken : Hidden → ℕ → Lexeme → ℕ
more_taken h n l = greater_of n (length_taken h l.token)

-- the greatest of these lengths
abbrev pub most_taken : Hidden → List Lexeme → ℕ
most_taken h ls = fold (more_taken h) (too_short h) ls

-- the name of this length
abbrev pub hidden_name : Hidden → ℕ → Option NameBytes
hidden_name h n = if n == 0 || nat_lt (length (longest_hidden h)) n then None else Some (take n (longest_hidden h))
