-- The chunk tells, or those after it.
use Rattle.kpn_stream_devices.proofs.Common.{◌-◌, ◌∙◌, ap, sym, chunks_after, chunks_from}
use Rattle.kpn_stream_devices.proofs.Heads.{step_is}
use Rattle.kpn_stream_devices.proofs.head.+chunks_from.Goals as goal

pub returns-in-Told-clause-is : goal.returns-in-Told-clause-is
returns-in-Told-clause-is t c =
    ap (chunks_after (chunks_from (c.args.count - 1) c.args.bytes.now)) (sym c.in-Told.is)
    ∙ step_is c.args.count c.args.bytes.now c.args.at c.args.sample c.chunk_at.result c.if-count-eq0.false
    c.chunk_at.ensures.is

pub returns-in-Next-clause-is : goal.returns-in-Next-clause-is
returns-in-Next-clause-is t c =
    c.chunks_from.ensures.is ∙ ap (chunks_after (chunks_from (c.args.count - 1) c.args.bytes.now)) (sym c.in-Next.is)
    ∙ step_is c.args.count c.args.bytes.now c.args.at c.args.sample c.chunk_at.result c.if-count-eq0.false
    c.chunk_at.ensures.is
