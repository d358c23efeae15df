-- Words that name no command of the program ask for nothing.
use Rattle.kpn_command_line.proofs.Common.{rules, IsNoneOf, rows_in}
use Rattle.kpn_command_line.proofs.Nothing.{names_known, no_command, usage_if}
use Rattle.kpn_command_line.proofs.words.command_request.Goals as goal

pub returns-in_default : goal.returns-in_default
returns-in_default c =
    let none : IsNoneOf names_known c.args.command.now = search rules in
    usage_if _ c.without_command.result (no_command c.args.command.now (rows_in c.args.given.now) none)
