use Rattle.kpn_net.proofs.Common.{◌≡◌, None, sym, ◌∙◌, arith, MAX_CHANNELS, Tables, instances_fault, tables_with}
use Rattle.kpn_net.specs.declared.tables.NetworkSize.TheVariants as size
use Rattle.kpn_net.proofs.Networks.{InstancesSound-from, Sizes-from, instances_in_large}
use Rattle.kpn_net.proofs.SideLemmas.{Keeps-nobody}
use Rattle.kpn_net.proofs.network.Network.new.Goals as goal

pub joined-requires-clause-instances : goal.joined-requires-clause-instances
joined-requires-clause-instances c =
    let t : Tables =
    tables_with c.args.programs.items c.args.instances.items c.args.channels.items c.args.limit c.args.policy
    c.args.growth in
    instances_in_large size.Usual t (sym c.instances_fault.ensures ∙ c.in_default.is)

pub joined-requires-clause-no_writers : goal.joined-requires-clause-no_writers
joined-requires-clause-no_writers c =
    let t : Tables =
    tables_with c.args.programs.items c.args.instances.items c.args.channels.items c.args.limit c.args.policy
    c.args.growth in
    let sound : instances_fault size.Usual t ≡ None = sym c.instances_fault.ensures ∙ c.in_default.is in
    let few = Sizes-from size.Usual t (InstancesSound-from size.Usual t sound).few in
    Keeps-nobody _ MAX_CHANNELS (omega (arith, c.len-count.ensures, c.args.channels.ok.0, few.channels))

pub joined-requires-clause-no_readers : goal.joined-requires-clause-no_readers
joined-requires-clause-no_readers c =
    let t : Tables =
    tables_with c.args.programs.items c.args.instances.items c.args.channels.items c.args.limit c.args.policy
    c.args.growth in
    let sound : instances_fault size.Usual t ≡ None = sym c.instances_fault.ensures ∙ c.in_default.is in
    let few = Sizes-from size.Usual t (InstancesSound-from size.Usual t sound).few in
    Keeps-nobody _ MAX_CHANNELS (omega (arith, c.len-count.ensures, c.args.channels.ok.0, few.channels))
