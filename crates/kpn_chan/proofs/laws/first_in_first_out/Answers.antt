use Rattle.kpn_chan.proofs.Reading.{given, drop-given, take-given}
use Rattle.kpn_chan.proofs.laws.first_in_first_out.Goals as goal

pub returns-clause-got : goal.returns-clause-got
returns-clause-got c channel item reserved e =
    drop-given channel.journal channel.read item (given channel.is_retired _ item e)

pub returns-clause-got_is_read : goal.returns-clause-got_is_read
returns-clause-got_is_read c channel item reserved e =
    take-given channel.journal channel.read item (given channel.is_retired _ item e)
