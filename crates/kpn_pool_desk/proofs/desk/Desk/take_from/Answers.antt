use Rattle.kpn_pool_desk.proofs.Common.{◌≡◌, true, refl, rules, no_take}
use Rattle.kpn_pool_desk.proofs.Dividing.{one_take_on}
use Rattle.kpn_pool_desk.proofs.Seating.{still_with_book}
use Rattle.kpn_pool_desk.proofs.desk.Desk.take_from.Goals as goal

pub returns-then-not-is_sink-clause-takes : goal.returns-then-not-is_sink-clause-takes
returns-then-not-is_sink-clause-takes g c = no_take

pub items-init : goal.items-init
items-init g c = record { takes = no_take; same = refl }

pub items-preserved : goal.items-preserved
items-preserved g c =
    let took : c.take_one.result ≡ true = search rules in
    record {
      takes =
          one_take_on c.args.self.now.takers c.args.wanted c.args.c c.args.self.now.book c.items.self.book
          c.take_one.new.self.book c.requires c.items.invariant.takes (c.take_one.ensures.took took);
      same =
          still_with_book c.args.self.now c.items.self c.take_one.new.self c.items.invariant.same
          c.take_one.ensures.same;
    }
