-- A port of what remains is a port of the lists.
use Rattle.kpn_lang.proofs.Common.{ap, Standing}
use Rattle.kpn_lang.proofs.Remaining.{port_of_remaining}
use Rattle.kpn_lang.proofs.plain.State.next_item.Goals as goal

pub next_item-requires-clause-port : goal.next_item-requires-clause-port
next_item-requires-clause-port c =
    port_of_remaining c.args.self.now _ _ c.args.port c.self.invariant
    (ap (λ (h : Standing). h.lists) c.self.view_is) c.requires
