use Rattle.std.proofs.Common.{◌≡◌, ◌∙◌, ◌+◌, ◌<◌, length, ap, rules}
use Rattle.kpn_pool.proofs.Recorded.{each_more, recorded_more}
use Rattle.kpn_pool.proofs.beside.record_each.Goals as goal

pub seats-preserved : goal.seats-preserved
seats-preserved g c =
    let below : c.seats.i < length c.args.seats.now = search rules in
    record {
      count = c.push_reserved.ensures.len ∙ ap (λ n. n + 1) c.seats.invariant.count;
      room = c.push_reserved.ensures.capacity ∙ c.seats.invariant.room;
      each =
          each_more c.args.seats.now c.seats.records.items c.push_reserved.new.self.items c.seats.i
          c.index-seats-i.result _ below c.index-seats-i.is c.seats.invariant.each c.push_reserved.ensures.items
          c.why.ensures c.commits.ensures;
      commits =
          recorded_more c.args.seats.now c.seats.records.items c.push_reserved.new.self.items c.seats.i
          c.index-seats-i.result _ below c.index-seats-i.is c.seats.invariant.commits c.push_reserved.ensures.items
          c.commits.ensures;
    }
