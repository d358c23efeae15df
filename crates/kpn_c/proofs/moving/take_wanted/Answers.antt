use Rattle.kpn_c.proofs.Common.{◌∙◌, refl, length-set, no_take}
use Rattle.kpn_c.proofs.OneMore.{rest_then}
use Rattle.kpn_c.proofs.OneWanted.{wanted_more}
use Rattle.kpn_c.proofs.moving.take_wanted.Goals as goal

pub places-init : goal.places-init
places-init c = record { takes = no_take; rest = refl; long = refl }

pub places-preserved : goal.places-preserved
places-preserved c =
    let so_far = c.places.invariant in
    record {
      takes = wanted_more c.args.places.now c.places.places c.places.count c.in-Ok.item c.fill.new.place c.args.book.now c.places.book
          c.take.new.self c.places-test.true so_far.long so_far.rest
          c.fill.ensures so_far.takes c.in-Ok.ensures.done;
      rest = rest_then c.places.places c.args.places.now c.places.count c.fill.new.place so_far.rest;
      long = length-set c.places.places c.places.count c.fill.new.place ∙ so_far.long;
    }
