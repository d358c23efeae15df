-- The front, the title and the name.
use Rattle.kpn_command_views.proofs.Common.{string_bytes, wait_title}
use Rattle.kpn_command_views.proofs.Drawn.{shown_pieces}
use Rattle.kpn_command_views.proofs.boxes.Bar.push_wait.Goals as goal

pub returns : goal.returns
returns c =
    let a = c.args in
    shown_pieces a.kind.now a.self (wait_title a.what.now a.name.now a.first a.last) a.name.now (string_bytes a.text.now)
    _ _ _ c.if-self-eq0.false c.in_ok-push_front.ensures c.in_ok-push_wait_title.ensures c.in_ok-push_name.ensures
