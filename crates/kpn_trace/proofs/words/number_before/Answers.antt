-- What comes before the first space is no number.
use Rattle.kpn_trace.proofs.Common.{sym, ◌∙◌, arith, decimal}
use Rattle.kpn_trace.proofs.Parting.{cut, decimal_lacks}
use Rattle.kpn_trace.proofs.words.number_before.Goals as goal

pub returns-in_err-n : goal.returns-in_err-n
returns-in_err-n c =
    rw c.from_residual-in_err-n.ensures
    (λ n more small e.
    c.in_err-n.ensures n small
    (cut 32 c.in_ok-word.word.now (decimal n) c.in_ok-word.rest.now more c.in_ok-word.ensures.1
    (decimal_lacks 32 n (omega arith) (omega arith)) (sym c.in_ok-word.ensures.0 ∙ e)).0)
