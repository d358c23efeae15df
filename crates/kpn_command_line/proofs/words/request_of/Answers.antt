-- The answer to the command that the words name is the answer to the words.
use Rattle.kpn_command_line.proofs.Common.{arith, NamesCommand, rows_in}
use Rattle.std.proofs.lemmas.Grind.{common_steps}
use Rattle.kpn_command_line.proofs.Nothing.{answer_to_words}
use Rattle.kpn_command_line.proofs.words.request_of.Goals as goal

pub returns-in-Some : goal.returns-in-Some
returns-in-Some c = λ words none is.
    let names : NamesCommand words c.in-Some.command.now (rows_in c.in-Some.given.now) = grind (arith, common_steps) in
    answer_to_words words c.in-Some.command.now (rows_in c.in-Some.given.now) names c.command_request.result
    c.command_request.ensures
