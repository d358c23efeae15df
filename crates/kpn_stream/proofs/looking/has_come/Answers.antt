use Rattle.kpn_stream.proofs.Common.{false≢true, not_yet, once_more}
use Rattle.kpn_stream.proofs.looking.has_come.Goals as goal

pub returns-then-is_at_hand-clause-looked : goal.returns-then-is_at_hand-clause-looked
returns-then-is_at_hand-clause-looked g c = not_yet

pub returns-in-AtHand-clause-looked : goal.returns-in-AtHand-clause-looked
returns-in-AtHand-clause-looked g c = once_more c.args.c c.args.sources.now c.look.new.self not_yet c.look.ensures.looks

pub returns-in_default : goal.returns-in_default
returns-in_default g c = record {
  looked = once_more c.args.c c.args.sources.now c.look.new.self not_yet c.look.ensures.looks;
  at_hand = λ is. absurd (false≢true is);
}
