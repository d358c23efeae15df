-- The significand has 24 places at most, or is the next power of two.
use Rattle.kpn_stream_devices.proofs.Common.{◌≡◌, ◌≤◌, ◌^◌, ◌-◌, ◌*◌, ◌<◌, ◌∙◌, ℕ, ap, subst, sym, arith, rules, count_leading_zeros, rounded}
use Rattle.kpn_stream_devices.proofs.Rounding.{highest_is, significand_fits, shifted_is}
use Rattle.kpn_stream_devices.proofs.floats.size_bits.Goals as goal

module _ (c : goal.After-rounded-significand) where
  some : 0 < c.args.size
  some = omega (arith, c.if-size-eq0.false)

  small : c.args.size < 2 ^ 64
  small = search rules

  is : c.rounded-significand.result ≡ rounded (c.args.size * 2 ^ 23) (2 ^ (63 - count_leading_zeros 64 c.args.size))
  is =
      c.rounded-significand.ensures
      ∙ ap (λ (n : ℕ). rounded n (2 ^ (63 - count_leading_zeros 64 c.args.size)))
      (shifted_is c.from.result c.args.size c.from.ensures small)

  few : c.rounded-significand.result ≤ 2 ^ 24
  few =
      subst (λ (n : ℕ). n ≤ 2 ^ 24) (sym is)
      (significand_fits c.args.size (63 - count_leading_zeros 64 c.args.size)
      (highest_is c.args.size some small).1)

pub overflow_cast-significand : goal.overflow_cast-significand
overflow_cast-significand c = omega (arith, few c)

pub overflow_add-result-2 : goal.overflow_add-result-2
overflow_add-result-2 c =
    omega (arith, few c, (highest_is c.args.size (some c) (small c)).2)

pub returns-clause-bound : goal.returns-clause-bound
returns-clause-bound c =
    omega (arith, few c, (highest_is c.args.size (some c) (small c)).2)
