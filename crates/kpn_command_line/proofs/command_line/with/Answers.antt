-- The command is added to what the program has.
use Rattle.kpn_command_line.proofs.Adding.{added}
use Rattle.kpn_command_line.proofs.command_line.with.Goals as goal

pub returns-in-Ok : goal.returns-in-Ok
returns-in-Ok c = λ before command is also.
    added before command c.in_ok-program.program c.in-Ok.words (rw c.in_ok-program.was at is) (rw c.in-Ok.is at also)
    c.subcommand.result c.subcommand.ensures
