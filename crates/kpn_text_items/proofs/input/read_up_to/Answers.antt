-- What was read so far, and then what the last read took, is the front that the reader has lost.
use Rattle.kpn_text_items.proofs.ReaderLemmas.{loses_more}
use Rattle.kpn_text_items.proofs.input.read_up_to.Goals as goal

pub returns-then-count-limit-clause-rest : goal.returns-then-count-limit-clause-rest
returns-then-count-limit-clause-rest g c = loses_more _ _ _ _ _ c.loop-count.invariant.0 c.in-Ok.ensures.bytes.0

pub returns-in_err-map_err-clause-rest : goal.returns-in_err-map_err-clause-rest
returns-in_err-map_err-clause-rest g c = loses_more _ _ _ _ _ c.loop-count.invariant.0 c.in-Ok.ensures.bytes.0
