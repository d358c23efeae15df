-- The box stands where the row has its bar.
use Rattle.kpn_command_views.proofs.Common.{ℤ, SFits, w64, ap, ◌∙◌, subst, rules, to_z-of_z, Adds, Bar, bar_between, item_title, shown_box}
use Rattle.kpn_command_views.proofs.boxes.ProcessRow.push_item.Goals as goal

pub returns : goal.returns
returns c =
    let a = c.args in
    let fits : SFits w64 a.item = search rules in
    subst
    (λ (b : Bar).
    Adds c.push_item.result a.text.now c.push_item.new.text
    (shown_box a.word.now b (item_title a.word.now a.name.now a.item a.tick) a.name.now))
    (c.bar-bar.ensures.exact ∙ ap (λ n. bar_between a.self.scale a.self.p n a.tick) c.saturating_sub.ensures)
    (subst
    (λ (v : ℤ).
    Adds c.push_item.result a.text.now c.push_item.new.text
    (shown_box a.word.now c.bar-bar.result (item_title a.word.now a.name.now v a.tick) a.name.now))
    (to_z-of_z w64 a.item fits) c.push_item.ensures)
