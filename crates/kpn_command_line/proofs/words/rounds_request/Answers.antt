-- Without a number the words ask for nothing.
use Rattle.kpn_command_line.proofs.Common.{◌∙◌, rows_in}
use Rattle.kpn_command_line.proofs.Given.{none_of}
use Rattle.kpn_command_line.proofs.Nothing.{no_number, usage_if}
use Rattle.kpn_command_line.proofs.words.rounds_request.Goals as goal

pub returns-in_default : goal.returns-in_default
returns-in_default c =
    usage_if _ c.unclear.result
    (no_number (rows_in c.args.rounds.now) (c.number_of.ensures ∙ none_of c.number_of.result c.in_default.not-Some))
