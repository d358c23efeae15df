-- One channel more.
use Rattle.kpn_stream.proofs.Closes.{none_closed}
use Rattle.kpn_stream.proofs.closing.close_sources.Goals as goal

pub channels-init : goal.channels-init
channels-init c = none_closed c.args.book.now

pub channels-preserved : goal.channels-preserved
channels-preserved c = c.in_ok-close.ensures c.args.book.now c.channels.invariant
