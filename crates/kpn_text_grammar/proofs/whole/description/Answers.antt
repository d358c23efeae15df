-- What was read is spelled so, and what is spelled so is read, by the laws of reading.
use Rattle.kpn_text_grammar.proofs.Common.{subst, arith, MAX_LEVELS, ReadingGives, description_of, document}
use Rattle.kpn_text_grammar.proofs.DescriptionLaws.{description_takes, description_again, description_fault}
use Rattle.kpn_text_grammar.proofs.Steps.{was_read, is_returned}
use Rattle.kpn_text_grammar.proofs.whole.description.Goals as goal

pub returns-clause-found : goal.returns-clause-found
returns-clause-found c =
    was_read document _ c.whole.result _ c.whole.ensures (λ d h. description_takes
    (record { end = c.args.end; process = 0; language = c.args.language; levels = MAX_LEVELS }) c.args.tokens.now (document d)
    (omega arith) h)

pub returns-clause-only : goal.returns-clause-only
returns-clause-only c d spelled =
    is_returned document _ c.whole.result _ d c.whole.ensures
    (description_again (record { end = c.args.end; process = 0; language = c.args.language; levels = MAX_LEVELS })
    c.args.tokens.now d (omega arith) spelled)
    (λ x h. h)

pub returns-clause-placed : goal.returns-clause-placed
returns-clause-placed c at refused =
    description_fault c.args.language c.args.end c.args.tokens.now at
    (subst (λ r. ReadingGives document r (description_of c.args.language c.args.end c.args.tokens.now)) refused
    c.whole.ensures)
