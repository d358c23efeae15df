use Rattle.kpn_machine.proofs.Common.{◌≡◌, ◌<◌, length, Some, None, sym, ap, ◌∙◌, subst, both_ways, writer_of, IsSmallest, awaited_as_full, smallest_unique, cap_in, capacities, channel_to_grow}
use Rattle.kpn_net.specs.declared.found.Found.TheVariants.{Full}
use Rattle.kpn_machine.proofs.StopGrowth.{full_number, stop_by_history, stop_now, awaited_at_stop, owed_by_smallest, none_by_smallest, to_grow, not_to_grow, owed_writer}
use Rattle.kpn_machine.proofs.machine.Machine.owed_at_stop.Goals as goal

pub channel_to_grow-requires : goal.channel_to_grow-requires
channel_to_grow-requires g c = λ d is.
    let same : c.in-Some.smallest ≡ d = full_number c.in-Some.smallest d is in
    subst (λ x. x < length c.args.self.now.channels) same c.in-Some.ensures.channel

pub writer_of-requires : goal.writer_of-requires
writer_of-requires g c =
    let t = c.args.network.now in
    let cap = cap_in (capacities c.args.self.now) in
    let grows : channel_to_grow cap t.limit (Full c.in-Some.smallest) ≡ Some c.in-Some-channel_to_grow.channel =
    ap (λ n. channel_to_grow cap n (Full c.in-Some.smallest)) (sym c.limit.ensures) ∙ sym c.channel_to_grow.ensures
    ∙ c.in-Some-channel_to_grow.is in
    subst (λ d. d < length t.channels)
    (to_grow cap t.limit c.in-Some.smallest c.in-Some-channel_to_grow.channel grows).0
    (subst (λ n. c.in-Some.smallest < n) c.requires.shape.channels c.in-Some.ensures.channel)

pub returns-then-not-is_settled-clause-nothing : goal.returns-then-not-is_settled-clause-nothing
returns-then-not-is_settled-clause-nothing g c = λ H run none p d owes.
    let owed = stop_now c.args.network.now c.known.ensures H c.args.self.now run p d owes in
    both_ways c.is_settled.result c.if-not-is_settled.true (c.is_settled.ensures.1 owed.settled)

pub returns-in_default-smallest_waited-clause-nothing : goal.returns-in_default-smallest_waited-clause-nothing
returns-in_default-smallest_waited-clause-nothing g c = λ H run none p d owes.
    none_by_smallest c.args.network.now c.args.self.now None c.in_default-smallest_waited.ensures.exact tt p d
    (stop_now c.args.network.now c.known.ensures H c.args.self.now run p d owes)

pub returns-in_default-channel_to_grow-clause-nothing : goal.returns-in_default-channel_to_grow-clause-nothing
returns-in_default-channel_to_grow-clause-nothing g c = λ H run none p d owes.
    let t = c.args.network.now in
    let s = c.args.self.now in
    let cap = cap_in (capacities s) in
    let none_grows : channel_to_grow cap t.limit (Full c.in-Some.smallest) ≡ None =
    ap (λ n. channel_to_grow cap n (Full c.in-Some.smallest)) (sym c.limit.ensures) ∙ sym c.channel_to_grow.ensures
    ∙ c.in_default-channel_to_grow.is in
    none_by_smallest t s (Some c.in-Some.smallest) c.in-Some.ensures.exact
    (not_to_grow cap t.limit c.in-Some.smallest none_grows) p d
    (stop_now t c.known.ensures H s run p d owes)

pub returns-in_default-writer_of : goal.returns-in_default-writer_of
returns-in_default-writer_of g c =
    let t = c.args.network.now in
    let s = c.args.self.now in
    let cap = cap_in (capacities s) in
    let grows : channel_to_grow cap t.limit (Full c.in-Some.smallest) ≡ Some c.in-Some-channel_to_grow.channel =
    ap (λ n. channel_to_grow cap n (Full c.in-Some.smallest)) (sym c.limit.ensures) ∙ sym c.channel_to_grow.ensures
    ∙ c.in-Some-channel_to_grow.is in
    let same = (to_grow cap t.limit c.in-Some.smallest c.in-Some-channel_to_grow.channel grows).0 in
    record {
      now = tt;
      growth = λ H run none. tt;
      nothing = λ H run none p d owes.
          let owed = stop_now t c.known.ensures H s run p d owes in
          let smallest : c.in-Some.smallest ≡ d =
          smallest_unique cap (awaited_as_full t s.waits) c.in-Some.smallest d c.in-Some.ensures.exact
          owed.smallest in
          c.in_default-writer_of.not-Process p
          (c.writer_of.ensures ∙ ap (writer_of t) (sym same ∙ smallest)
          ∙ owed_writer t s c.requires.shape p d owed);
      awaited = tt;
    }

pub returns-clause-now : goal.returns-clause-now
returns-clause-now g c =
    let t = c.args.network.now in
    let s = c.args.self.now in
    let cap = cap_in (capacities s) in
    let grows : channel_to_grow cap t.limit (Full c.in-Some.smallest) ≡ Some c.in-Some-channel_to_grow.channel =
    ap (λ n. channel_to_grow cap n (Full c.in-Some.smallest)) (sym c.limit.ensures) ∙ sym c.channel_to_grow.ensures
    ∙ c.in-Some-channel_to_grow.is in
    let may = to_grow cap t.limit c.in-Some.smallest c.in-Some-channel_to_grow.channel grows in
    owed_by_smallest t s c.requires.shape (sym c.policy.ensures ∙ c.in-All.is)
    (c.is_settled.ensures.0 c.if-not-is_settled.false) c.in-Process.process c.in-Some-channel_to_grow.channel
    (subst (λ x. IsSmallest cap (awaited_as_full t s.waits) x) may.0 c.in-Some.ensures.exact) may.1
    (sym c.writer_of.ensures ∙ c.in-Process.is)

pub returns-clause-growth : goal.returns-clause-growth
returns-clause-growth g c = λ H run none.
    stop_by_history c.args.network.now c.known.ensures H c.args.self.now run none c.in-Process.process
    c.in-Some-channel_to_grow.channel (returns-clause-now g c)

pub returns-clause-awaited : goal.returns-clause-awaited
returns-clause-awaited g c =
    awaited_at_stop c.args.network.now c.args.self.now c.in-Process.process c.in-Some-channel_to_grow.channel
    (returns-clause-now g c)
