-- The laws of a sequential process, for the number of turns with which it says this.
use Rattle.kpn_lang.proofs.Processes.{CanSay-prefix, CanSay-longer, CanSay-local, CanSay-both, BeginsWithGot-said}
use Rattle.kpn_lang.proofs.laws.can_say.Goals as goal

pub returns-clause-prefix : goal.returns-clause-prefix
returns-clause-prefix c = CanSay-prefix

pub returns-clause-longer : goal.returns-clause-longer
returns-clause-longer c = CanSay-longer

pub returns-clause-local : goal.returns-clause-local
returns-clause-local c = CanSay-local

pub returns-clause-got : goal.returns-clause-got
returns-clause-got c = BeginsWithGot-said

pub returns-clause-one_talk : goal.returns-clause-one_talk
returns-clause-one_talk c = CanSay-both
