-- The band, and the name of the process.
use Rattle.kpn_command_views.proofs.Common.{ℕ, List, ◌+◌, ◌-◌, ◌++◌, ap, ◌∙◌, string_bytes, name_at, two_pieces, row_place, right_of, row_band, row_name_text}
use Rattle.kpn_command_views.proofs.frame.push_row.Goals as goal

pub returns : goal.returns
returns c =
    let a = c.args in
    let s = a.scale in
    let start = string_bytes a.text.now in
    let one = string_bytes c.push_row_band.new.text in
    let name = name_at a.document.now.names.instances a.p in
    let wide = right_of s - s.left in
    two_pieces start (row_band s.left (row_place a.p + 2) wide) (row_name_text (s.left - 8) (row_place a.p + 20) name)
    one
    (string_bytes c.push_row_name.new.text)
    (c.in_ok-push_row_band.ensures
    ∙ ap (λ y. start ++ row_band s.left (y + 2) c.saturating_sub-wide.result) c.row_of.ensures.exact
    ∙ ap (λ n. start ++ row_band s.left (row_place a.p + 2) n)
    (c.saturating_sub-wide.ensures ∙ ap (λ n. n - s.left) c.right.ensures.exact))
    (c.in_ok-push_row_name.ensures
    ∙ ap (λ x. one ++ row_name_text x (c.row_of-2.result + 20) c.instance_name-name.result.now) c.saturating_sub.ensures
    ∙ ap (λ y. one ++ row_name_text (s.left - 8) (y + 20) c.instance_name-name.result.now) c.row_of-2.ensures.exact
    ∙ ap (λ (n : List ℕ). one ++ row_name_text (s.left - 8) (row_place a.p + 20) n) c.instance_name-name.ensures)
