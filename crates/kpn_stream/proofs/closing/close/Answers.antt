-- The channel is no source, or it is closed.
use Rattle.kpn_stream.proofs.Common.{ap, sym, ◌∙◌, Tables, channel_at, is_source}
use Rattle.kpn_stream.proofs.Closes.{no_source_more, one_more}
use Rattle.kpn_stream.proofs.closing.close.Goals as goal

pub returns-then-not-is_source : goal.returns-then-not-is_source
returns-then-not-is_source c =
    no_source_more c.args.c c.args.book.now
    (ap (λ (t : Tables). is_source (channel_at t c.args.c)) (sym c.network.ensures)
    ∙ sym c.is_source.ensures ∙ c.if-not-is_source.true)

pub returns-in-Ok : goal.returns-in-Ok
returns-in-Ok c =
    one_more c.args.c c.args.book.now c.close_source.new.self c.known.ensures c.in-Ok.ensures.done
