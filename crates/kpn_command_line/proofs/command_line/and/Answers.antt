-- The word is added to what the command has.
use Rattle.kpn_command_line.proofs.Adding.{word_added}
use Rattle.kpn_command_line.proofs.command_line.and.Goals as goal

pub returns-in-Ok : goal.returns-in-Ok
returns-in-Ok c = λ before rule is also.
    word_added before rule c.in-Ok.command c.args.word (rw c.in-Ok.is at is) also c.arg.result c.arg.ensures
