-- The wait, and after it the slice of the item.
use Rattle.kpn_command_views.proofs.Common.{◌≡◌, ℤ, ◌++◌, SFits, w64, subst, rules, to_z-of_z, string_bytes, two_pieces, wait_slice, item_slice}
use Rattle.kpn_command_views.proofs.slices.push_move.Goals as goal

pub returns : goal.returns
returns c =
    let a = c.args in
    let fits : SFits w64 a.item = search rules in
    let wait = string_bytes c.push_wait.new.text in
    let whole = string_bytes c.push_item.new.text in
    two_pieces (string_bytes a.text.now) (wait_slice a.p a.latest a.tick a.name.now a.why.now)
    (item_slice a.p a.tick a.word.now a.name.now a.item) wait whole c.in_ok-push_wait.ensures
    (subst (λ (v : ℤ). whole ≡ wait ++ item_slice a.p a.tick a.word.now a.name.now v)
    (to_z-of_z w64 a.item fits) c.in_ok-push_item.ensures)
