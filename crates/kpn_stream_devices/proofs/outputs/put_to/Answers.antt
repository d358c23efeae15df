-- The item is kept, and all is handed on, so that nothing is kept then.
use Rattle.std.proofs.Common.{rules}
use Rattle.kpn_stream_devices.proofs.Devices.{few_handed, handed, kept_more}
use Rattle.kpn_stream_devices.proofs.outputs.put_to.Goals as goal

pub returns-clause-taken : goal.returns-clause-taken
returns-clause-taken g c =
    handed c.args.output.now.format c.args.item c.in-Some.written _ _ _ c.hand_on.result _ (search rules) (search rules)
    (search (kept_more, rules)) c.hand_on.ensures.handed_on

pub returns-clause-few : goal.returns-clause-few
returns-clause-few g c = few_handed _ _ c.hand_on.result _ c.hand_on.ensures.handed_on
