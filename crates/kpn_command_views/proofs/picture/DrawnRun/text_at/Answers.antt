-- All parts, one after another.
use Rattle.kpn_command_views.proofs.Common.{List, ℕ, true, ◌++◌, ap, ◌∙◌, string_bytes, two_pieces, start, shown, picture_head_text, grid_text, all_event_boxes, last_boxes, legend}
use Rattle.kpn_command_views.proofs.picture.DrawnRun.text_at.Goals as goal

pub returns : goal.returns
returns c =
    let a = c.args in
    let s = a.scale in
    let names = a.self.document.now.names in
    let t = a.self.network.now in
    let grid = grid_text names.instances s a.processes in
    let boxes = all_event_boxes names.channels t s (start t true) a.self.events.now in
    let lasts = last_boxes names.channels s a.processes a.self.waits.now (shown a.ends.now) in
    ap (λ v. v.items) c.into_bytes.ensures.value ∙ c.in_ok-push_legend.ensures
    ∙ ap (λ (t : List ℕ). t ++ legend a.processes)
    (two_pieces (string_bytes c.push_grid.new.text) boxes lasts (string_bytes c.push_events.new.text)
    (string_bytes c.push_last_waits.new.text) c.in_ok-push_events.ensures c.in_ok-push_last_waits.ensures
    ∙ ap (λ (t : List ℕ). t ++ (boxes ++ lasts))
    (c.in_ok-push_grid.ensures
    ∙ ap (λ (t : List ℕ). t ++ grid)
    (c.in_ok-push_head.ensures
    ∙ ap (λ (t : List ℕ). t ++ picture_head_text s a.processes c.last.result) c.new-text.ensures.bytes
    ∙ ap (picture_head_text s a.processes) c.last.ensures)))
