-- A number that is 0 or too large is no capacity.
use Rattle.kpn_trace.proofs.Common.{◌≡◌, sym, ◌∙◌, arith, decimal_injective}
use Rattle.kpn_trace.proofs.words.capacity.Goals as goal

pub returns-then-n-eq0 : goal.returns-then-n-eq0
returns-then-n-eq0 c = λ k some most e.
    let same : c.in_ok-n.n ≡ k =
    decimal_injective c.in_ok-n.n k (omega arith) (omega arith) (sym c.in_ok-n.ensures ∙ e) in
    omega (arith, same, c.if-n-eq0.true)

pub returns-then-n-gt-MAX_CAPACITY : goal.returns-then-n-gt-MAX_CAPACITY
returns-then-n-gt-MAX_CAPACITY c = λ k some most e.
    let same : c.in_ok-n.n ≡ k =
    decimal_injective c.in_ok-n.n k (omega arith) (omega arith) (sym c.in_ok-n.ensures ∙ e) in
    omega (arith, same, c.if-n-gt-MAX_CAPACITY.true)
