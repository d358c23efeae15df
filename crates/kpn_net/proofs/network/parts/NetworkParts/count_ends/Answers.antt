use Rattle.kpn_net.proofs.Common.{subst, Tables, writers_of, readers_of, Keeps, tables_of}
use Rattle.kpn_net.proofs.SideLemmas.{Keeps-same, first_instances, all_instances, writers_of-more, readers_of-more}
use Rattle.kpn_net.proofs.Networks.{HasChannels, HasChannels-at}
use Rattle.kpn_net.proofs.network.parts.NetworkParts.count_ends.Goals as goal

pub join-requires : goal.join-requires
join-requires c =
    let t = tables_of c.args.self.now in
    let items = c.deref-instance-items.ensures.value in
    let there : HasChannels t c.instance-item.result =
    rw (rw items at c.instance-item.is)
    (HasChannels-at t c.requires.in_range c.loop-p.p c.instance-item.result (rw items at c.loop-p-test.true)) in
    λ k d.
    rw (c.as_slice.ensures, c.loop-p.auto.writers, c.join_outside.auto.writers, c.requires.writers_len)
    (there.outs.each k d)

pub join-requires-in-loop-p : goal.join-requires-in-loop-p
join-requires-in-loop-p c =
    let t = tables_of c.args.self.now in
    let items = c.deref-instance-items.ensures.value in
    let there : HasChannels t c.instance-item.result =
    rw (rw items at c.instance-item.is)
    (HasChannels-at t c.requires.in_range c.loop-p.p c.instance-item.result (rw items at c.loop-p-test.true)) in
    λ k d.
    rw (c.as_slice-in-loop-p.ensures, c.loop-p.auto.readers, c.join_outside.auto.readers, c.requires.readers_len)
    (there.ins.each k d)

pub loop-p-preserved : goal.loop-p-preserved
loop-p-preserved c =
    let t = tables_of c.args.self.now in
    let items = c.deref-instance-items.ensures.value in
    let below = rw items at c.loop-p-test.true in
    let is = rw items at c.instance-item.is in
    record {
      written =
          Keeps-same _ _ _ (λ d. writers_of-more t c.loop-p.p d c.instance-item.result below is)
          (rw (← c.as_slice.ensures)
          (c.join.ensures (writers_of (first_instances c.loop-p.p t)) c.loop-p.invariant.written));
      read =
          Keeps-same _ _ _ (λ d. readers_of-more t c.loop-p.p d c.instance-item.result below is)
          (rw (← c.as_slice-in-loop-p.ensures)
          (c.join-in-loop-p.ensures (readers_of (first_instances c.loop-p.p t)) c.loop-p.invariant.read));
    }

pub returns-clause-written : goal.returns-clause-written
returns-clause-written c =
    let t = tables_of c.args.self.now in
    let all = all_instances t c.loop-p.p (rw c.deref-instance-items.ensures.value at c.loop-p-test.false) in
    subst (λ (u : Tables). Keeps c.loop-p.writers (writers_of u)) all c.loop-p.invariant.written

pub returns-clause-read : goal.returns-clause-read
returns-clause-read c =
    let t = tables_of c.args.self.now in
    let all = all_instances t c.loop-p.p (rw c.deref-instance-items.ensures.value at c.loop-p-test.false) in
    subst (λ (u : Tables). Keeps c.loop-p.readers (readers_of u)) all c.loop-p.invariant.read
