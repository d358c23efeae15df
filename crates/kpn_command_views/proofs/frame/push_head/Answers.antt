-- The size, the style, and which ticks are shown.
use Rattle.kpn_command_views.proofs.Common.{ℕ, List, max, ◌+◌, ◌++◌, ap, ◌∙◌, string_bytes, three_pieces, row_place, right_of, size_text, style_text, caption_text}
use Rattle.kpn_command_views.proofs.frame.push_head.Goals as goal

pub returns : goal.returns
returns c =
    let a = c.args in
    let s = a.scale in
    let start = string_bytes a.text.now in
    let one = string_bytes c.push_size.new.text in
    three_pieces start (size_text (max (right_of s + 24) 500) (row_place a.processes + 48)) style_text
    (caption_text (s.front + 1) s.back a.length) one (string_bytes c.push_str.new.self)
    (string_bytes c.push_caption.new.text)
    (c.in_ok-push_size.ensures
    ∙ ap (λ n. start ++ size_text n (c.row_of.result + 48))
    (c.max-wide.ensures ∙ ap (λ n. max (n + 24) 500) c.right.ensures.exact)
    ∙ ap (λ n. start ++ size_text (max (right_of s + 24) 500) (n + 48)) c.row_of.ensures.exact)
    (c.in_ok-push_str.ensures.bytes ∙ ap (λ (xs : List ℕ). one ++ xs) c.style_text.ensures)
    c.in_ok-push_caption.ensures
