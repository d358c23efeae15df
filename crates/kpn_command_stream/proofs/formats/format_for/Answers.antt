-- The word for the end names the format.
use Rattle.kpn_command_stream.proofs.Common.{List, ℕ, subst, IsNoFormat, NamesFormat}
use Rattle.std.specs.Prelude.{MatchOption}
use Rattle.kpn_command_stream.proofs.formats.format_for.Goals as goal

pub returns : goal.returns
returns c =
    subst (λ (word : List ℕ). MatchOption c.of_word.result (IsNoFormat word) (NamesFormat word)) c.word_for.ensures
    c.of_word.ensures
