-- The number that `clap` reads is that of the text that is given.
use Rattle.kpn_command_line.proofs.Common.{ParsesUnsigned, ExplainsUnsignedError, HasUnsignedDigitsIfOk, found_of}
use Rattle.kpn_command_line.proofs.Given.{number_given}
use Rattle.kpn_command_line.proofs.words.few_of.Goals as goal

pub returns : goal.returns
returns c =
    number_given _
    (λ text r. ParsesUnsigned 16 10 text r × ExplainsUnsignedError 10 text r × HasUnsignedDigitsIfOk text r) 16
    (found_of c.args.matches.now) c.args.id.now c.get_one.result c.get_one.ensures.none
    (λ text given. c.get_one.ensures.value text given) (λ text r read. read.0)
