use Rattle.kpn_pool.proofs.Common.{◌≡◌, false, sym, ap, ◌∙◌, Tables, channel_at, is_source}
use Rattle.kpn_pool.proofs.Feeding.{closed_more}
use Rattle.kpn_pool.proofs.fed.are_closed.Goals.{else-is_source-via-then-is_source+else-not-is_closed, else-is_source-via-else-is_source}
use Rattle.kpn_pool.proofs.fed.are_closed.Goals as goal

pub channels-preserved : goal.channels-preserved
channels-preserved c =
    let book = c.args.book.now in
    let more = closed_more book.tables book.history c.channels.c in
    elim c.else-is_source.branch [
      | else-is_source-via-then-is_source+else-not-is_closed w ↦
          more (λ source. sym w.is_closed.ensures ∙ w.if-not-is_closed.false) c.channels.invariant
      | else-is_source-via-else-is_source w ↦
          let asked =
          c.is_source.ensures
          ∙ ap (λ (t : Tables). is_source (channel_at t c.channels.c)) c.network-in-channels.ensures in
          let none : is_source (channel_at book.tables c.channels.c) ≡ false = sym asked ∙ w.if-is_source.false in
          more (λ source. absurd cc) c.channels.invariant
    ]
