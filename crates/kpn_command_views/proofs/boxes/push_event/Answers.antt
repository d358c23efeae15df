-- The wait and the box of a get or put are what is drawn of the event.
use Rattle.kpn_command_views.proofs.Common.{SFits, w64, codes, rules, ap, ap₂, ◌∙◌, to_z-of_z, on_ok_weaker, string_bytes, name_at, get_tick, put_tick, shown}
use Rattle.kpn_command_views.proofs.Drawn.{moved}
use Rattle.kpn_command_views.proofs.boxes.push_event.Goals as goal

pub returns-in_ok-push_wait-in-Get : goal.returns-in_ok-push_wait-in-Get
returns-in_ok-push_wait-in-Get c =
    let a = c.args in
    let k = shown a.clocks.now in
    let e = c.in-Get in
    let fits : SFits w64 e.item = search rules in
    rw e.is
    (on_ok_weaker c.push_item.result
    (moved a.scale k c.from-process.result e.p c.of-row.result c.get_tick-tick.result _ (codes "get") (codes "empty")
    (codes "an item") c.channel_name-name.result.now _ _ e.item (string_bytes a.text.now)
    (string_bytes c.push_wait.new.text) (string_bytes c.push_item.new.text) c.from-process.ensures c.of-row.ensures
    (c.get_tick-tick.ensures ∙ ap₂ (get_tick k) c.from-process.ensures c.from-channel.ensures)
    (c.channel_name-name.ensures ∙ ap (name_at a.document.now.names.channels) c.from-channel.ensures)
    (to_z-of_z w64 e.item fits) c.in_ok-push_wait-in-Get.ensures)
    c.push_item.ensures)

pub returns-in_ok-push_wait-in-Put : goal.returns-in_ok-push_wait-in-Put
returns-in_ok-push_wait-in-Put c =
    let a = c.args in
    let k = shown a.clocks.now in
    let e = c.in-Put in
    let fits : SFits w64 e.item = search rules in
    rw e.is
    (on_ok_weaker c.push_item-in-Put.result
    (moved a.scale k c.from-process-in-Put.result e.p c.of-row-in-Put.result c.put_tick-tick.result _ (codes "put")
    (codes "full") (codes "room") c.channel_name-name-in-Put.result.now _ _ e.item (string_bytes a.text.now)
    (string_bytes c.push_wait-in-Put.new.text) (string_bytes c.push_item-in-Put.new.text) c.from-process-in-Put.ensures
    c.of-row-in-Put.ensures
    (c.put_tick-tick.ensures ∙ ap₂ (put_tick a.network.now k) c.from-process-in-Put.ensures c.from-channel-in-Put.ensures)
    (c.channel_name-name-in-Put.ensures ∙ ap (name_at a.document.now.names.channels) c.from-channel-in-Put.ensures)
    (to_z-of_z w64 e.item fits) c.in_ok-push_wait-in-Put.ensures)
    c.push_item-in-Put.ensures)
