-- Its parts, one after the other.
use Rattle.kpn_text.proofs.Common.{◌++◌, codes, sym, ap, paired, channel_named, growth_named, instance_named, limit_named, policy_named, all_text, growth_text, network_item_text, limit_text, policy_text}
use Rattle.kpn_text.proofs.PrintingLemmas.{all_text-append, same_prints, then_five}
use Rattle.kpn_text.proofs.networks.items.Goals as goal

pub returns : goal.returns
returns c =
    let names = c.args.names.now in
    let t = c.args.network.now in
    let channels = paired channel_named names.channels t.channels in
    let instances = paired (instance_named names) names.instances t.instances in
    same_prints c.bytes-2.result c.args.out.now.items c.bytes-2.new.out.items
    (λ more.
    codes "network {\n"
    ++ limit_text (limit_named t.limit)
    (policy_text (policy_named t.policy)
    (growth_text (growth_named t.growth)
    (all_text network_item_text channels (all_text network_item_text instances (codes "}\n" ++ more)))))) _
    (λ more.
    ap (λ l.
    codes "network {\n"
    ++ limit_text (limit_named t.limit) (policy_text (policy_named t.policy) (growth_text (growth_named t.growth) l)))
    (sym (all_text-append network_item_text channels instances (codes "}\n" ++ more))))
    (then_five c.bytes-2.result c.args.out.now.items c.bytes.new.out.items c.settings.new.out.items
    c.channels.new.out.items c.instances.new.out.items c.bytes-2.new.out.items
    (λ more. codes "network {\n" ++ more)
    (λ more.
    limit_text (limit_named t.limit) (policy_text (policy_named t.policy) (growth_text (growth_named t.growth) more)))
    (all_text network_item_text channels)
    (all_text network_item_text instances) (λ more. codes "}\n" ++ more)
    c.in_ok-bytes.ensures
    c.in_ok-settings.ensures
    (rw c.as_slice.ensures at c.in_ok-channels.ensures)
    c.in_ok-instances.ensures
    c.bytes-2.ensures)
