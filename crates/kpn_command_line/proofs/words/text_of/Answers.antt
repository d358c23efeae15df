-- The text that `clap` hands over is the one that is given.
use Rattle.clap.specs.Matches.{found_of}
use Rattle.kpn_command_line.proofs.Given.{text_given}
use Rattle.kpn_command_line.proofs.words.text_of.Goals as goal

pub returns : goal.returns
returns c = text_given (found_of c.args.matches.now) c.args.id.now c.get_str.result c.get_str.ensures
