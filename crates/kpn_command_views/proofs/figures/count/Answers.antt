use Rattle.std.proofs.Common.{rules, length}
use Rattle.kpn_command_views.proofs.Counting.{nothing_counted, one_more_counted, room_for_one, all_counted}
use Rattle.kpn_command_views.proofs.figures.count.Goals as goal

pub loop-k-init : goal.loop-k-init
loop-k-init c =
    nothing_counted c.args.network.now _ _
    (search rules)
    (search rules)

pub count_on_channel-requires : goal.count_on_channel-requires
count_on_channel-requires c =
    (room_for_one c.args.network.now c.args.events.now c.loop-k.k (length c.args.events.now) _ _
    c.loop-k.invariant (search rules)
    (search rules)).0

pub count_of_process-requires : goal.count_of_process-requires
count_of_process-requires c =
    (room_for_one c.args.network.now c.args.events.now c.loop-k.k (length c.args.events.now) _ _
    c.loop-k.invariant (search rules)
    (search rules)).1

pub loop-k-preserved : goal.loop-k-preserved
loop-k-preserved c =
    one_more_counted c.args.network.now c.args.events.now c.loop-k.k _ _ _ _ _ (search rules) c.loop-k.invariant
    c.count_on_channel.ensures c.count_of_process.ensures

pub returns : goal.returns
returns c =
    all_counted c.args.network.now c.args.events.now c.loop-k.k _ _ _ (search rules) c.loop-k.invariant
    c.from_vec.ensures c.from_vec-2.ensures
