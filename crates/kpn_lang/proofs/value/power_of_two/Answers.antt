-- No bit is shifted out of 64, and the highest stays 0.
use Rattle.kpn_lang.proofs.Common.{◌^◌, ◌∙◌, ap, arith, w64, to_z, to_z_pos, one_shl}
use Rattle.std.proofs.Math.Pow.{pow-lt}
use Rattle.kpn_lang.proofs.value.power_of_two.Goals as goal

pub returns : goal.returns
returns c =
    let k = c.args.exponent in
    ap (to_z w64) (one_shl k 64 (omega (arith, c.requires))) ∙ to_z_pos w64 (2 ^ k) (pow-lt c.requires)
