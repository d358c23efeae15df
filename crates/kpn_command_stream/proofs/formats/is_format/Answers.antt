-- A word that names no format says none.
use Rattle.std.proofs.Common.{◌≡◌, ℕ, List, Option, Some, None, false, is_some, MatchOption, rules, subst}
use Rattle.kpn_command_stream.proofs.Common.{ItemFormat, IsNoFormat, NamesFormat, format_in}
use Rattle.kpn_command_stream.proofs.formats.is_format.Goals as goal

unnamed : (found : Option ItemFormat) (word : List ℕ) → MatchOption found (IsNoFormat word) (NamesFormat word)
    → is_some found ≡ false → IsNoFormat word
unnamed None word refused none = refused
unnamed (Some format) word names none = absurd (cc)

pub returns-clause-none : goal.returns-clause-none
returns-clause-none c = λ none says.
    let found : is_some c.of_word.result ≡ false = first_of (cc, search rules) in
    unnamed c.of_word.result (format_in c.args.word.now)
    (subst (λ (word : List ℕ). MatchOption c.of_word.result (IsNoFormat word) (NamesFormat word)) c.format_in.ensures
    c.of_word.ensures) found says.0 says.1
