-- What remains of the lists so far.
use Rattle.kpn_lang.proofs.Common.{◌≡◌, take, remaining}
use Rattle.kpn_lang.proofs.plain.rest_of.Given as goal

abbrev pub invariant-loop-port : goal.invariant-loop-port
invariant-loop-port l = l.rest.items ≡ take l.port (remaining l.lists l.places)
