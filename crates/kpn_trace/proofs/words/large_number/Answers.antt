-- A large number is an item in its canonical form.
use Rattle.kpn_trace.proofs.Common.{◌≡◌, to_z, of_z, subst, arith, ℤ, pos, unsigned_abs, w64, FitsUnsignedBits, OkIff, ints, to_z-of_z}
use Rattle.kpn_trace.proofs.Parting.{large_number_read}
use Rattle.kpn_trace.proofs.words.large_number.Goals as goal

pub returns-in_err-item : goal.returns-in_err-item
returns-in_err-item c =
    rw c.from_residual.ensures (λ n small. c.in_err-item.ensures (pos n) (omega (arith, ints)))

pub returns : goal.returns
returns c =
    let item = c.in_ok-item.item in
    let same : to_z w64 (of_z w64 item) ≡ item = to_z-of_z w64 item c.in_ok-item.ensures.1 in
    rw c.ok.ensures.value
    (large_number_read c.args.word.now item c.try_from.result c.in_ok-item.ensures.0 c.in_ok-item.ensures.1
    (subst (λ (z : ℤ). OkIff c.try_from.result (FitsUnsignedBits 32 z) (unsigned_abs z)) same c.try_from.ensures))
