use Rattle.kpn_net.proofs.OwnIns.{CanSay-prefix, CanSay-longer, CanSay-own_ins, CanSay-comparable}
use Rattle.kpn_net.proofs.laws.can_say.Goals as goal

pub returns-clause-beginning : goal.returns-clause-beginning
returns-clause-beginning c = λ t p lists talk longer begins h. CanSay-prefix t p lists talk longer begins h

pub returns-clause-longer : goal.returns-clause-longer
returns-clause-longer c = λ t p lists longer begins talk h. CanSay-longer t p lists longer begins talk h

pub returns-clause-own_ins : goal.returns-clause-own_ins
returns-clause-own_ins c = λ t p lists others agree talk h. CanSay-own_ins t p lists others agree talk h

pub returns-clause-one_talk : goal.returns-clause-one_talk
returns-clause-one_talk c = λ t p lists talk other a b. CanSay-comparable t p lists talk other a b
