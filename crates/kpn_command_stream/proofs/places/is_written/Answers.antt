-- The input is the one of this path.
use Rattle.std.proofs.lemmas.Result.{IfOk-weaker}
use Rattle.kpn_command_stream.proofs.places.is_written.Goals as goal

pub returns : goal.returns
returns g c = IfOk-weaker c.is_same_file.result _ _ (λ is same yes. (c.args.path.now, same yes)) c.is_same_file.ensures
