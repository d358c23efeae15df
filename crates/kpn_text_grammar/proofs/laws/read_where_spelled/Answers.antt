-- Each way by the law of the readers.
use Rattle.kpn_text_grammar.proofs.Common.{arith, MAX_LEVELS, Scope}
use Rattle.kpn_text_grammar.proofs.DescriptionLaws.{description_takes, description_again}
use Rattle.kpn_text_grammar.proofs.laws.read_where_spelled.Goals as goal

pub returns : goal.returns
returns c l end ls d =
    let s : Scope = record { end = end; process = 0; language = l; levels = MAX_LEVELS } in
    (description_takes s ls d (omega arith), description_again s ls d (omega arith))
