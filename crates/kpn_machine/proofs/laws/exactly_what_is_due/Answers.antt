use Rattle.kpn_history.proofs.OneMore.{Legal-exactly}
use Rattle.kpn_machine.proofs.Due.{Legal-due}
use Rattle.kpn_machine.proofs.Exact.{due_here, due_outside, must_be_free}
use Rattle.kpn_machine.proofs.laws.exactly_what_is_due.Goals as goal

pub returns-clause-may : goal.returns-clause-may
returns-clause-may c = Legal-due

pub returns-clause-process : goal.returns-clause-process
returns-clause-process c = due_here

pub returns-clause-outside : goal.returns-clause-outside
returns-clause-outside c = due_outside

pub returns-clause-free : goal.returns-clause-free
returns-clause-free c = must_be_free

pub returns-clause-growth : goal.returns-clause-growth
returns-clause-growth c t H p d owes event legal = ((Legal-exactly t H event).0 legal).1.growth p d owes
