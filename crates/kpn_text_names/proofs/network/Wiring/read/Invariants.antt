-- The items that remain, taken from here, lead to the same as all of them.
use Rattle.kpn_text_names.proofs.Common.{◌≡◌, drop, map, item_seen, each, all_channels, with_wired_item, wiring, wiring_seen}
use Rattle.kpn_text_names.proofs.network.Wiring.read.Given as goal

abbrev pub invariant-loop-item : goal.invariant-loop-item
invariant-loop-item l =
    each (with_wired_item l.programs (all_channels (map item_seen l.items))) (wiring_seen l.read)
    (map item_seen (drop l.item-index l.items))
    ≡ wiring l.programs (map item_seen l.items)
