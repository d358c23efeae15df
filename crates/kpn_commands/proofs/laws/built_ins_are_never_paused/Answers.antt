use Rattle.kpn_commands.proofs.Pauses.{never_paused}
use Rattle.kpn_commands.proofs.laws.built_ins_are_never_paused.Goals as goal

pub returns : goal.returns
returns c = never_paused
