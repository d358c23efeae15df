use Rattle.kpn_chan.specs.Channel.{unread}
use Rattle.kpn_chan.proofs.Reading.{none_is_given}
use Rattle.kpn_chan.proofs.laws.gives_nothing.Goals as goal

pub returns : goal.returns
returns c channel = none_is_given channel.is_retired (unread channel)
