use Rattle.std.proofs.lemmas.List.Elements.{Contains-get_or}
use Rattle.kpn_book.proofs.open_book.claims.may_claim.Goals as goal

pub state-requires : goal.state-requires
state-requires g c = c.requires _ (Contains-get_or c.args.of.now c.processes.k 0 c.processes-test.true)
