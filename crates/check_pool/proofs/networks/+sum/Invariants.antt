-- Each half has fewer terms.
use Rattle.check_pool.proofs.networks.+sum.Given as goal

abbrev pub decreases-sum : goal.decreases-sum
decreases-sum l = l.terms
