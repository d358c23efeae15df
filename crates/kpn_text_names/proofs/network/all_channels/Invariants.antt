-- The items that remain, taken from here, lead to the same as all of them.
use Rattle.kpn_text_names.proofs.Common.{◌≡◌, drop, map, fold, item_seen, with_channel_name, all_channels}
use Rattle.kpn_text_names.proofs.network.all_channels.Given as goal

abbrev pub invariant-loop-item : goal.invariant-loop-item
invariant-loop-item l =
    fold with_channel_name l.names (map item_seen (drop l.item-index l.items)) ≡ all_channels (map item_seen l.items)
