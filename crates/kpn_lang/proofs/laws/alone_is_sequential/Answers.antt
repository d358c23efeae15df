-- The run of the body before an end is a sequential process, as each run before one is.
use Rattle.kpn_lang.proofs.Sequential.{IsSequential-alone}
use Rattle.kpn_lang.proofs.laws.alone_is_sequential.Goals as goal

pub returns : goal.returns
returns c = IsSequential-alone
