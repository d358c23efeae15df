use Rattle.kpn_stream.specs.Devices.{not_yet, once_more}
use Rattle.kpn_stream.proofs.looking.look_at.Goals as goal

pub returns-then-not-is_due-clause-looked : goal.returns-then-not-is_due-clause-looked
returns-then-not-is_due-clause-looked g c = not_yet

pub returns-clause-looked : goal.returns-clause-looked
returns-clause-looked g c = once_more c.args.c c.args.sources.now c.look.new.self not_yet c.look.ensures.looks
