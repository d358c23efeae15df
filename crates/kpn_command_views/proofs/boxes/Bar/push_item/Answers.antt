-- The front, the title and the name.
use Rattle.kpn_command_views.proofs.Common.{◌≡◌, ℤ, ◌++◌, SFits, w64, subst, rules, to_z-of_z, string_bytes, item_title}
use Rattle.kpn_command_views.proofs.Drawn.{shown_pieces}
use Rattle.kpn_command_views.proofs.boxes.Bar.push_item.Goals as goal

pub returns : goal.returns
returns c =
    let a = c.args in
    let fits : SFits w64 a.item = search rules in
    let one = string_bytes c.push_front.new.text in
    let two = string_bytes c.push_item_title.new.text in
    shown_pieces a.word.now a.self (item_title a.word.now a.name.now a.item a.tick) a.name.now (string_bytes a.text.now)
    one two (string_bytes c.push_name.new.text) c.if-self-eq0.false c.in_ok-push_front.ensures
    (subst (λ (v : ℤ). two ≡ one ++ item_title a.word.now a.name.now v a.tick) (to_z-of_z w64 a.item fits)
    c.in_ok-push_item_title.ensures)
    c.in_ok-push_name.ensures
