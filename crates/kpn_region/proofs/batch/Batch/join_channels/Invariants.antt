use Rattle.kpn_region.specs.JoiningParts.{JoinsChannels}
use Rattle.kpn_region.proofs.batch.Batch.join_channels.Given as goal

abbrev pub invariant-channels : goal.invariant-channels
invariant-channels g l = JoinsChannels l.self l.c l.fn.machine l.machine
