use Rattle.kpn_stream.specs.Devices.{AreLookedAt}
use Rattle.kpn_stream.proofs.looking.first_to_come.Given as goal

abbrev pub invariant-looks : goal.invariant-looks
invariant-looks g l = AreLookedAt g.S.Sources.looks l.initial.sources l.sources
