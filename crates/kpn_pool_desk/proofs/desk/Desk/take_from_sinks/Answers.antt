use Rattle.kpn_pool_desk.proofs.Common.{refl, no_take}
use Rattle.kpn_pool_desk.proofs.Dividing.{takes_on_from}
use Rattle.kpn_pool_desk.proofs.Seating.{still_with_book}
use Rattle.kpn_pool_desk.proofs.desk.Desk.take_from_sinks.Goals as goal

pub returns-in_default-clause-takes : goal.returns-in_default-clause-takes
returns-in_default-clause-takes g c = no_take

pub channels-init : goal.channels-init
channels-init g c = record { takes = no_take; same = refl }

pub channels-preserved : goal.channels-preserved
channels-preserved g c = record {
  takes =
      takes_on_from c.args.self.now c.channels.self c.take_from.new.self c.channels.invariant.same
      c.channels.invariant.takes c.take_from.ensures.takes;
  same =
      still_with_book c.args.self.now c.channels.self c.take_from.new.self c.channels.invariant.same
      c.take_from.ensures.same;
}
