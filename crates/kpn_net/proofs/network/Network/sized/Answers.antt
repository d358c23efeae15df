use Rattle.kpn_net.proofs.Common.{◌≡◌, None, sym, ◌∙◌, Tables, instances_fault, tables_with}
use Rattle.kpn_net.proofs.Networks.{instances_in_large}
use Rattle.kpn_net.proofs.SideLemmas.{Keeps-fresh}
use Rattle.kpn_net.proofs.network.Network.sized.Goals as goal

pub joined-requires-clause-instances : goal.joined-requires-clause-instances
joined-requires-clause-instances c =
    let t : Tables =
    tables_with c.args.programs.items c.args.instances.items c.args.channels.items c.args.limit c.args.policy
    c.args.growth in
    instances_in_large c.args.size t (sym c.instances_fault.ensures ∙ c.in_default.is)

pub joined-requires-clause-no_writers : goal.joined-requires-clause-no_writers
joined-requires-clause-no_writers c =
    Keeps-fresh c.len-count.result _
    (c.deref_mut.ensures.value ∙ c.in_ok-writers.ensures.items_if_clones_equal (λ y e. e))

pub joined-requires-clause-no_readers : goal.joined-requires-clause-no_readers
joined-requires-clause-no_readers c =
    Keeps-fresh c.len-count.result _
    (c.deref_mut-2.ensures.value ∙ c.in_ok-readers.ensures.items_if_clones_equal (λ y e. e))
