use Rattle.kpn_commands.proofs.Plain.{puts_plainly}
use Rattle.kpn_commands.proofs.laws.built_ins_put_plainly.Goals as goal

pub returns : goal.returns
returns c = puts_plainly
