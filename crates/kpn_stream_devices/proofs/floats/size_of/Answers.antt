-- The power of two is in range, or nothing is left.
use Rattle.kpn_stream_devices.proofs.Common.{◌≤◌, ◌+◌, ◌^◌, ◌-◌, ◌∙◌, ℕ, ap, subst, refl, sym, arith, rounded}
use Rattle.kpn_stream_devices.proofs.Rounding.{size_is, small_is, scaled_up, scaled_down, scaled_none, scaled_large, kept_is}
use Rattle.kpn_stream_devices.proofs.floats.size_of.Goals as goal

pub returns-then-exponent-eq0 : goal.returns-then-exponent-eq0
returns-then-exponent-eq0 c =
    small_is c.args.power c.args.exponent c.args.fraction c.requires.power c.requires.fraction c.if-exponent-eq0.true

pub returns-then-scale-gt190 : goal.returns-then-scale-gt190
returns-then-scale-gt190 c =
    let significand = c.from-significand.result in
    subst (λ (n : ℕ). 2 ^ 64 ≤ n)
    (size_is c.args.power c.args.exponent c.args.fraction significand _ c.if-exponent-eq0.false c.from-significand.ensures
    refl)
    (scaled_large significand (c.args.exponent + c.args.power) (omega (arith, c.from-significand.ensures))
    c.if-scale-gt190.true)

pub returns-then-scale-ge150 : goal.returns-then-scale-ge150
returns-then-scale-ge150 c =
    let significand = c.from-significand.result in
    let scale = c.args.exponent + c.args.power in
    kept_is significand scale (omega (arith, c.from-significand.ensures, c.requires.fraction))
    (omega (arith, c.if-scale-gt190.false))
    ∙ sym (scaled_up significand scale (omega (arith, c.if-scale-ge150.true)))
    ∙ size_is c.args.power c.args.exponent c.args.fraction significand scale c.if-exponent-eq0.false
    c.from-significand.ensures refl

pub returns-then-scale-lt124 : goal.returns-then-scale-lt124
returns-then-scale-lt124 c =
    let significand = c.from-significand.result in
    let scale = c.args.exponent + c.args.power in
    sym (scaled_none significand scale (omega (arith, c.from-significand.ensures, c.requires.fraction))
    c.if-scale-lt124.true)
    ∙ size_is c.args.power c.args.exponent c.args.fraction significand scale c.if-exponent-eq0.false
    c.from-significand.ensures refl

pub returns : goal.returns
returns c =
    let significand = c.from-significand.result in
    let scale = c.args.exponent + c.args.power in
    c.rounded.ensures
    ∙ ap (λ (n : ℕ). rounded n (2 ^ (150 - scale))) c.from.ensures
    ∙ sym (scaled_down significand scale (omega (arith, c.if-scale-ge150.false)))
    ∙ size_is c.args.power c.args.exponent c.args.fraction significand scale c.if-exponent-eq0.false
    c.from-significand.ensures refl
