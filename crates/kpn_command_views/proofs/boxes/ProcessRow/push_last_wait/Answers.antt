-- The box stands where the row has its bar.
use Rattle.kpn_command_views.proofs.Common.{◌+◌, subst, Adds, Bar, last_title, shown_box}
use Rattle.kpn_command_views.proofs.boxes.ProcessRow.push_last_wait.Goals as goal

pub returns : goal.returns
returns c =
    let a = c.args in
    subst
    (λ (b : Bar).
    Adds c.push_last_wait.result a.text.now c.push_last_wait.new.text
    (shown_box a.kind.now b (last_title a.what.now a.name.now (a.self.latest + 1)) a.name.now))
    c.bar-bar.ensures.exact c.push_last_wait.ensures
