-- What the tokens of a text stand for.
use Rattle.std.specs.Prelude.{ℕ, List, Result, Ok}
use Rattle.kpn_text_tokens.specs.declared.tokens.Language.{Language}
use Rattle.kpn_text_tokens.specs.declared.tokens.Language.TheVariants as language
use Rattle.kpn_text_tokens.specs.declared.tokens.Lexeme.{Lexeme}
use Rattle.kpn_text_tokens.specs.Results.{◌>>=◌}
use Rattle.kpn_text_expand.specs.declared.constants.Constants.{Constants}
use Rattle.kpn_text_expand.specs.declared.fault.ExpandFault.{ExpandFault}
use Rattle.kpn_text_expand.specs.Capacities.{with_capacities}
use Rattle.kpn_text_expand.specs.Cells.{with_cells}
use Rattle.kpn_text_expand.specs.Constants.{at_first, steps, without_constants}
use Rattle.kpn_text_expand.specs.Loops.{with_loops}
use Rattle.kpn_text_expand.specs.Sums.{with_sums}

-- all tokens have gone by
abbrev pub all_steps : List Lexeme → Result Constants ExpandFault
all_steps ls = steps at_first ls

-- what the other forms leave of tokens without constants
abbrev pub without_forms : List Lexeme → List Lexeme
without_forms ls = with_loops (with_cells (with_sums (with_capacities ls)))

-- what all forms leave
abbrev pub all_forms : (end : ℕ) → List Lexeme → Result (List Lexeme) ExpandFault
all_forms end ls = without_constants end ls >>= λ ms. Ok (without_forms ms)

-- in language 1 tokens stand for themselves
abbrev pub expanded : Language → (end : ℕ) → List Lexeme → Result (List Lexeme) ExpandFault
expanded language.One end ls = Ok ls
expanded language.Two end ls = all_forms end ls
