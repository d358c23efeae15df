-- A read that was interrupted took nothing, so what the next one takes is taken from the start.
use Rattle.kpn_text_items.proofs.ReaderLemmas.{consumes_after}
use Rattle.kpn_text_items.proofs.input.read_some.Goals as goal

pub returns-in-Ok-clause-bytes : goal.returns-in-Ok-clause-bytes
returns-in-Ok-clause-bytes g c = (
  consumes_after _ _ _ _ c.loop-attempt.invariant c.in-Ok.ensures.bytes.0,
  c.in-Ok.ensures.bytes.1,
)
