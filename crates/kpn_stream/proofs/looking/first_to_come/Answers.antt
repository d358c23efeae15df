use Rattle.kpn_stream.specs.Devices.{not_yet}
use Rattle.kpn_stream.proofs.Looks.{looked-trans}
use Rattle.kpn_stream.proofs.looking.first_to_come.Goals as goal

pub returns-then-not-are_several-clause-looked : goal.returns-then-not-are_several-clause-looked
returns-then-not-are_several-clause-looked g c = not_yet

pub looks-init : goal.looks-init
looks-init g c = not_yet

pub returns-in-Some-clause-looked : goal.returns-in-Some-clause-looked
returns-in-Some-clause-looked g c =
    looked-trans g.S.Sources.looks c.args.sources.now c.looks.sources c.looks.invariant c.look_around.ensures.looked

pub looks-preserved : goal.looks-preserved
looks-preserved g c =
    looked-trans g.S.Sources.looks c.args.sources.now c.looks.sources c.looks.invariant c.look_around.ensures.looked
