use Rattle.kpn_c.proofs.Common.{ℤ, ◌<◌, sym, ◌∙◌, subst, rules, w64, SFits, to_z, of_z, to_z-of_z, length-set, Take, Happens, IsOpenSink}
use Rattle.kpn_c.proofs.OneMore.{takes_more, since_first, rest_then}
use Rattle.kpn_c.proofs.taking.take_each.Goals as goal

pub places-preserved : goal.places-preserved
places-preserved c =
    let done = rw c.in-Ok-Some.field-0-is at c.in-Ok-Some.ensures.done in
    let item : ℤ = c.in-Ok-Some.item in
    let fits : SFits w64 item = search rules in
    let put : ℤ = to_z w64 (of_z w64 item) in
    let so_far = c.places.invariant in
    record {
      takes = takes_more c.args.sink c.places.room c.places.count put c.args.book.now c.places.book c.take.new.self
          (subst (λ n. c.places.count < n) (sym so_far.long) c.places-test.true) so_far.takes
          (subst (λ v. Happens (Take c.args.sink v) c.places.book c.take.new.self) (sym (to_z-of_z w64 item fits))
          done.takes.1);
      rest = rest_then c.places.room c.args.room.now c.places.count put so_far.rest;
      long = length-set c.places.room c.places.count put ∙ so_far.long;
      sink = λ some.
          since_first (λ b. IsOpenSink b c.args.sink) (Take c.args.sink) c.places.room c.places.count c.args.book.now
          c.places.book so_far.takes so_far.sink done.sink;
    }
