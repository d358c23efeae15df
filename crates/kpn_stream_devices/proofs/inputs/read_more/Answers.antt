-- The device fails, or there is no memory for what it gave.
use Rattle.std.proofs.Common.{◌∙◌, refl, sym}
use Rattle.kpn_stream_devices.specs.declared.inputs.Failed.TheVariants.{Read}
use Rattle.kpn_stream_devices.proofs.Devices.{not_over, stayed, device_fails, fault_counts, lost_none, none_is_some}
use Rattle.kpn_stream_devices.proofs.inputs.read_more.Goals as goal

pub returns-in_default-clause-fault : goal.returns-in_default-clause-fault
returns-in_default-clause-fault g c =
    let w = c.args.input.now.window in
    record {
      channel = refl;
      format = refl;
      only = c.in_default.ensures.only;
      counted = fault_counts Read w.used w.used refl;
      lost = lost_none _ _ c.in_default.ensures.bytes;
      at_hand = λ some. absurd (some c.requires.unfailed);
      known = λ known. not_over w _ c.requires.open;
      given = λ format. device_fails format Read w w _ _ (stayed w.unused _ _ c.in_default.ensures.bytes);
      failed = refl;
      told = λ failed is. absurd (none_is_some failed (sym c.requires.unfailed ∙ is));
    }
