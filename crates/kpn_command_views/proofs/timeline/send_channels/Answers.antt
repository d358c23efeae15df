-- One counter more.
use Rattle.kpn_command_views.proofs.Common.{◌≡◌, ℕ, List, ◌++◌, ap, ◌∙◌, subst, arith, string_bytes, name_at, written_of, shown, IsSentWhole, each_below, counter_label, counter_lines, channel_counters}
use Rattle.kpn_command_views.proofs.GoingOut.{none_sent_more, one_number_more}
use Rattle.kpn_command_views.proofs.timeline.send_channels.Goals as goal

pub loop-c-init : goal.loop-c-init
loop-c-init g c = none_sent_more _ _

pub loop-c-preserved : goal.loop-c-preserved
loop-c-preserved g c =
    let names = c.args.document.now.names.channels in
    let s = shown c.args.clocks.now in
    let k = c.loop-c.c in
    one_number_more _ _ _ (channel_counters names s) k _ (string_bytes c.args.text.now) _ _ c.loop-c.invariant
    c.in_ok-send_counters.ensures
    (ap (λ label. counter_lines label 0 c.written_of.result.now c.read_of.result.now)
    (c.as_str.ensures.value ∙ c.in_ok-label.ensures ∙ ap counter_label c.channel_name.ensures)
    ∙ ap (λ (ws : List ℕ). counter_lines (counter_label (name_at names k)) 0 ws c.read_of.result.now)
    c.written_of.ensures
    ∙ ap (λ (rs : List ℕ). counter_lines (counter_label (name_at names k)) 0 (written_of s k) rs) c.read_of.ensures)

pub returns : goal.returns
returns g c =
    let contents = g.W.Write.contents in
    let line = channel_counters c.args.document.now.names.channels (shown c.args.clocks.now) in
    let all : c.loop-c.c ≡ c.args.channels = omega arith in
    subst (λ n. IsSentWhole (contents c.args.out.now) (contents c.loop-c.out) (string_bytes c.loop-c.text)
    (string_bytes c.args.text.now ++ each_below n line)) all c.loop-c.invariant
