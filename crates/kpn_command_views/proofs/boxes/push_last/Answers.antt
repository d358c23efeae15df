-- The ticks and the name are those of the clocks and of the document.
use Rattle.kpn_command_views.proofs.Common.{codes, Adds, shown}
use Rattle.kpn_command_views.proofs.Drawn.{lasted}
use Rattle.kpn_command_views.proofs.boxes.push_last.Goals as goal

pub returns-in-Empty : goal.returns-in-Empty
returns-in-Empty c =
    let a = c.args in
    rw c.in-Empty.is
    (lasted (Adds c.push_last_wait.result a.text.now c.push_last_wait.new.text) a.scale (shown a.clocks.now) a.p
    c.of-row.result _ _ (codes "empty") (codes "an item") _ _ c.of-row.ensures c.last-last.ensures
    c.channel_name.ensures c.push_last_wait.ensures)

pub returns-in-Full : goal.returns-in-Full
returns-in-Full c =
    let a = c.args in
    rw c.in-Full.is
    (lasted (Adds c.push_last_wait-in-Full.result a.text.now c.push_last_wait-in-Full.new.text) a.scale
    (shown a.clocks.now) a.p c.of-row.result _ _ (codes "full") (codes "room") _ _ c.of-row.ensures c.last-last.ensures
    c.channel_name-in-Full.ensures c.push_last_wait-in-Full.ensures)
