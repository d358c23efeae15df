-- Where a token stands in a description that follows the grammar. Processes and the network begin with reserved words
-- that stand nowhere else, so a walk over the tokens needs no tree.
use Rattle.std.specs.Prelude.{ℕ, Bool, true, false, nat_eq, if◌then◌else◌, List, [], ◌∷◌}
use Rattle.kpn_text_tokens.specs.declared.tokens.Keyword.{Keyword}
use Rattle.kpn_text_tokens.specs.declared.tokens.Keyword.TheVariants as word
use Rattle.kpn_text_tokens.specs.declared.tokens.Lexeme.{Lexeme}
use Rattle.kpn_text_tokens.specs.declared.tokens.Mark.{Mark}
use Rattle.kpn_text_tokens.specs.declared.tokens.Mark.TheVariants as mark
use Rattle.kpn_text_tokens.specs.declared.tokens.Token.{Token}
use Rattle.kpn_text_tokens.specs.declared.tokens.Token.TheVariants as token
use Rattle.kpn_command_explain.specs.declared.spots.TokenSpot.{TokenSpot}
use Rattle.kpn_command_explain.specs.declared.spots.TokenSpot.TheVariants as spot

-- ---- from token to token

abbrev pub behind_declared : TokenSpot → TokenSpot
behind_declared spot.Outside = spot.Shared
behind_declared other = spot.Row

abbrev pub behind_keyword : TokenSpot → Keyword → TokenSpot
behind_keyword s word.Process = spot.Process
behind_keyword s word.Read = spot.InPort
behind_keyword s word.Write = spot.OutPort
behind_keyword s word.Network = spot.Instance
behind_keyword s word.Channel = spot.Channel
behind_keyword s word.Source = spot.Channel
behind_keyword s word.Sink = spot.Channel
behind_keyword s word.Limit = spot.Rest
behind_keyword s word.Policy = spot.Rest
behind_keyword s word.Grow = spot.Rest
behind_keyword s word.If = spot.Variable
behind_keyword s word.Else = spot.Variable
behind_keyword s word.While = spot.Variable
behind_keyword s word.Array = behind_declared s
behind_keyword s word.Table = behind_declared s
behind_keyword s other = s

abbrev pub behind_name : TokenSpot → TokenSpot
behind_name spot.Process = spot.Port
behind_name spot.Target = spot.Variable
behind_name spot.InPort = spot.Target
behind_name spot.OutPort = spot.Variable
behind_name spot.Channel = spot.Rest
behind_name spot.Instance = spot.Program
behind_name other = other

abbrev pub behind_semicolon : TokenSpot → TokenSpot
behind_semicolon spot.Variable = spot.Target
behind_semicolon spot.Row = spot.Target
behind_semicolon spot.Shared = spot.Outside
behind_semicolon spot.Rest = spot.Instance
behind_semicolon spot.Reads = spot.Writes
behind_semicolon spot.Writes = spot.Values
behind_semicolon other = other

abbrev pub behind_bracket : TokenSpot → TokenSpot
behind_bracket spot.Writes = spot.Rest
behind_bracket spot.Values = spot.Rest
behind_bracket other = other

-- a brace in a process: after it a statement may begin
abbrev pub behind_brace : TokenSpot → TokenSpot
behind_brace spot.Port = spot.Target
behind_brace spot.Variable = spot.Target
behind_brace other = other

abbrev pub behind_mark : TokenSpot → Mark → TokenSpot
behind_mark s mark.LeftBrace = behind_brace s
behind_mark spot.Program mark.LeftParen = spot.Reads
behind_mark s mark.Semicolon = behind_semicolon s
behind_mark s mark.RightParen = behind_bracket s
behind_mark s other = s

-- where the token after this one stands
abbrev pub next_spot : TokenSpot → Token → TokenSpot
next_spot s (token.Name name) = behind_name s
next_spot s (token.Number n) = s
next_spot s (token.Mark m) = behind_mark s m
next_spot s (token.Keyword k) = behind_keyword s k

-- ---- tokens at a spot

abbrev pub is_same : TokenSpot → TokenSpot → Bool
is_same spot.Outside spot.Outside = true
is_same spot.Process spot.Process = true
is_same spot.Port spot.Port = true
is_same spot.Target spot.Target = true
is_same spot.Variable spot.Variable = true
is_same spot.InPort spot.InPort = true
is_same spot.OutPort spot.OutPort = true
is_same spot.Instance spot.Instance = true
is_same spot.Channel spot.Channel = true
is_same spot.Program spot.Program = true
is_same spot.Reads spot.Reads = true
is_same spot.Writes spot.Writes = true
is_same spot.Values spot.Values = true
is_same spot.Rest spot.Rest = true
is_same spot.Row spot.Row = true
is_same spot.Shared spot.Shared = true
is_same s other = false

-- arrays and tables are among the names of a process, as its ports are
abbrev pub known_as : TokenSpot → TokenSpot
known_as spot.Row = spot.Port
known_as spot.Shared = spot.Port
known_as other = other

-- a name at a spot, or the word `network`, which counts as outside
abbrev pub is_at : (wanted now : TokenSpot) → Token → Bool
is_at wanted now (token.Name name) = is_same wanted (known_as now)
is_at wanted now (token.Keyword word.Network) = is_same wanted spot.Outside
is_at wanted now other = false

-- the first bytes of those tokens, in order, if the first token stands at this spot
abbrev pub starts_from : (wanted now : TokenSpot) → List Lexeme → List ℕ
starts_from wanted now [] = []
starts_from wanted now (l ∷ ls) =
    if is_at wanted now l.token then l.start ∷ starts_from wanted (next_spot now l.token) ls
    else starts_from wanted (next_spot now l.token) ls

abbrev pub starts_of : TokenSpot → List Lexeme → List ℕ
starts_of wanted ls = starts_from wanted spot.Outside ls

-- where the token that begins at a byte stands; outside, if none begins there
abbrev pub spot_from : (at : ℕ) (now : TokenSpot) → List Lexeme → TokenSpot
spot_from at now [] = spot.Outside
spot_from at now (l ∷ ls) = if nat_eq l.start at then now else spot_from at (next_spot now l.token) ls

abbrev pub spot_at : (at : ℕ) → List Lexeme → TokenSpot
spot_at at ls = spot_from at spot.Outside ls
