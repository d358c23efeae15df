-- The growth that is owed is made, and nothing else may follow.
use Rattle.kpn_audit.proofs.Common.{◌≡◌, None, refl, subst, false≢true, larger_capacity, Paused, capacity_or_zero, Grow, IsFollowed}
use Rattle.kpn_audit.proofs.Refused.{only_growth}
use Rattle.kpn_audit.proofs.Followed.{owes_nothing_after, goes_by}
use Rattle.kpn_audit.proofs.growth.judge_owed.Goals as goal
use Rattle.kpn_audit.proofs.growth.judge_owed.Goals.{then-from-owed-via-then-from-owed, then-from-owed-via-else-from-owed+then-from-owed-2}

pub returns-in_default : goal.returns-in_default
returns-in_default g c =
    record {
      shape = c.requires.shape;
      judged = λ H run owing legal. c.in_default.not-Grow c.args.owed.process c.args.owed.channel
          (larger_capacity c.args.network.now (capacity_or_zero c.args.network.now H c.args.owed.channel))
          (only_growth c.args.network.now H c.args.event c.args.owed.process c.args.owed.channel owing.owed legal);
    }

pub returns-then-from-owed-clause-judged : goal.returns-then-from-owed-clause-judged
returns-then-from-owed-clause-judged g c H run owing legal =
    let same =
    only_growth c.args.network.now H c.args.event c.args.owed.process c.args.owed.channel owing.owed legal in
    elim c.then-from-owed.branch [
      | then-from-owed-via-then-from-owed w ↦
          let is : c.from.result ≡ c.args.owed.process = cc in w.if-from-owed.true is
      | then-from-owed-via-else-from-owed+then-from-owed-2 w ↦
          let is : w.from-else-from-owed.result ≡ c.args.owed.channel = cc in w.if-from-owed-2.true is
    ]

pub returns-then-grown-capacity-clause-judged : goal.returns-then-grown-capacity-clause-judged
returns-then-grown-capacity-clause-judged g c H run owing =
    let t = c.args.network.now in
    let growth = Grow c.args.owed.process c.args.owed.channel c.grow-grown.result.capacity in
    let same : growth ≡ c.args.event = cc in
    let s = c.args.machine.now in
    let after = c.grow-grown.new.self in
    let next = c.grow-grown.ensures.run H run owing.owed in
    subst (λ e. IsFollowed t H e s after None) same
    (record {
      run = next;
      owes = owes_nothing_after t c.known.ensures H growth refl refl next.legal;
      goes = goes_by t s after growth Paused (λ p own. absurd (false≢true own)) c.grow-grown.ensures.changes.frames;
    })

pub returns-else-grown-capacity-clause-judged : goal.returns-else-grown-capacity-clause-judged
returns-else-grown-capacity-clause-judged g c H run owing legal =
    let same =
    only_growth c.args.network.now H c.args.event c.args.owed.process c.args.owed.channel owing.owed legal in
    let told = c.grow-grown.ensures.told H run in
    let is : c.grow-grown.result.capacity ≡ c.in-Grow.capacity = cc in
    c.if-grown-capacity.false is
