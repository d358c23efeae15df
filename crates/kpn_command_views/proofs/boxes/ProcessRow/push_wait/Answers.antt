-- The box stands where the row has its bar.
use Rattle.kpn_command_views.proofs.Common.{ℕ, ◌+◌, subst, Adds, Bar, bar_between, shown_box, wait_title}
use Rattle.kpn_command_views.proofs.boxes.ProcessRow.push_wait.Goals as goal

pub returns : goal.returns
returns c =
    let a = c.args in
    let r = a.self in
    let first = r.latest + 1 in
    subst
    (λ (n : ℕ).
    Adds c.push_wait.result a.text.now c.push_wait.new.text
    (shown_box a.kind.now (bar_between r.scale r.p r.latest n) (wait_title a.what.now a.name.now first n) a.name.now))
    c.saturating_sub-end.ensures
    (subst
    (λ (b : Bar).
    Adds c.push_wait.result a.text.now c.push_wait.new.text
    (shown_box a.kind.now b (wait_title a.what.now a.name.now first c.saturating_sub-end.result) a.name.now))
    c.bar-bar.ensures.exact c.push_wait.ensures)
