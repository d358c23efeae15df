use Rattle.kpn_pool.proofs.Common.{◌≡◌, false, sym, ap, ◌∙◌, Tables, channel_at, is_sink}
use Rattle.kpn_pool.proofs.Feeding.{kept_more}
use Rattle.kpn_pool.proofs.fed.are_kept.Goals.{else-is_sink-via-then-is_sink+else-is_left, else-is_sink-via-else-is_sink}
use Rattle.kpn_pool.proofs.fed.are_kept.Goals as goal

pub channels-preserved : goal.channels-preserved
channels-preserved c =
    let book = c.args.book.now in
    let more = kept_more book c.channels.c in
    elim c.else-is_sink.branch [
      | else-is_sink-via-then-is_sink+else-is_left w ↦
          more (λ sink. sym w.is_left.ensures ∙ w.if-is_left.false) c.channels.invariant
      | else-is_sink-via-else-is_sink w ↦
          let asked =
          c.is_sink.ensures
          ∙ ap (λ (t : Tables). is_sink (channel_at t c.channels.c)) c.network-in-channels.ensures in
          let none : is_sink (channel_at book.tables c.channels.c) ≡ false = sym asked ∙ w.if-is_sink.false in
          more (λ sink. absurd cc) c.channels.invariant
    ]
