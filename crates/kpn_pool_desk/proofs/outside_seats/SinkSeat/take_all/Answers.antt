use Rattle.kpn_pool_desk.proofs.Common.{◌≡◌, true, refl, sym, subst, ◌∙◌, err_from_is_err_and, channel_at, is_sink, RefusesTake, TakesFirst, MayRefuseTake}
use Rattle.kpn_pool_desk.proofs.Recording.{as_before, none_taken, takes_on, taken_less, taken_last, took_all}
use Rattle.kpn_pool_desk.proofs.Keeping.{begins}
use Rattle.kpn_pool_desk.proofs.Seating.{still_with_book}
use Rattle.kpn_pool_desk.proofs.outside_seats.SinkSeat.take_all.Goals as goal

pub items-init : goal.items-init
items-init g c = record { desk = refl; first = none_taken c.args.self.now c.args.desk.now.book }

pub items-preserved : goal.items-preserved
items-preserved g c = record {
  desk =
      still_with_book c.args.desk.now c.items.desk c.take.new.desk c.items.invariant.desk
      c.in_ok-take.ensures.desk;
  first =
      takes_on c.in_ok-take.field-0 c.args.self.now c.items.self c.take.new.self c.args.desk.now.book
      c.items.desk.book c.take.new.desk.book c.items.invariant.first c.in_ok-take.ensures.taken
      c.in_ok-take.ensures.done;
}

pub items-smaller : goal.items-smaller
items-smaller g c =
    taken_less c.in_ok-take.field-0 c.items.self c.take.new.self c.items.desk.book c.take.new.desk.book
    c.in_ok-take.ensures.taken c.in_ok-take.ensures.done (sym c.is_some.ensures ∙ c.if-is_some.true)

pub returns : goal.returns
returns g c =
    let before = c.items.invariant.first in
    let made =
    takes_on c.in_ok-take.field-0 c.args.self.now c.items.self c.take.new.self c.args.desk.now.book
    c.items.desk.book c.take.new.desk.book before c.in_ok-take.ensures.taken c.in_ok-take.ensures.done in
    let none =
    taken_last c.in_ok-take.field-0 c.args.self.now c.items.self c.items.desk.book c.take.new.desk.book
    before.channel c.in_ok-take.ensures.done (sym c.is_some.ensures ∙ c.if-is_some.false) in
    record {
      channel = made.channel;
      taken = begins c.args.self.now.items made.recorded.more c.take.new.self.items made.recorded.items;
      all = took_all c.args.self.now c.take.new.self c.args.desk.now.book c.take.new.desk.book made none;
      none_left = none;
      first = made;
      sink =
          subst (λ n. is_sink (channel_at g.J.Job.network n) ≡ true) before.channel c.in_ok-take.ensures.sink;
      desk =
          still_with_book c.args.desk.now c.items.desk c.take.new.desk c.items.invariant.desk
          c.in_ok-take.ensures.desk;
      refused = tt;
      may_refuse = tt;
    }

pub returns-in_err-take : goal.returns-in_err-take
returns-in_err-take g c =
    let before = c.items.invariant.first in
    let kept = c.in_err-take.ensures.as_before in
    let made =
    as_before (λ s b. TakesFirst c.args.self.now s c.args.desk.now.book b) c.items.self c.take.new.self c.items.desk
    c.take.new.desk kept.0 kept.1 before in
    let p = err_from_is_err_and c.from_residual.result c.from_residual.ensures.1 in
    rw (p.1, p.2)
    (record {
      channel = made.channel;
      taken = begins c.args.self.now.items made.recorded.more c.take.new.self.items made.recorded.items;
      all = tt;
      none_left = tt;
      first = made;
      sink = tt;
      desk =
          still_with_book c.args.desk.now c.items.desk c.take.new.desk c.items.invariant.desk
          c.in_err-take.ensures.desk;
      refused =
          subst (λ n. RefusesTake n c.take.new.desk.book c.in_err-take.field-0.0) before.channel
          (as_before (λ s b. RefusesTake c.items.self.channel b c.in_err-take.field-0.0) c.items.self c.take.new.self
          c.items.desk c.take.new.desk kept.0 kept.1 c.in_err-take.ensures.refused);
      may_refuse =
          subst (λ n. MayRefuseTake (is_sink (channel_at g.J.Job.network n)) c.in_err-take.field-0.0) before.channel
          c.in_err-take.ensures.may_refuse;
    })
