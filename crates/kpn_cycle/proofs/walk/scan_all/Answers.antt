use Rattle.kpn_cycle.proofs.Common.{◌≡◌, ◌≤◌, subst, arith, cap_in}
use Rattle.kpn_cycle.proofs.Scans.{scan-more}
use Rattle.kpn_cycle.proofs.walk.scan_all.Goals as goal
use Rattle.kpn_cycle.proofs.walk.scan_all.Goals.{in-Full+else-caps-c, in_default}

pub loop-p-preserved : goal.loop-p-preserved
loop-p-preserved g c =
    let t = c.args.network.now in
    let cap = cap_in c.args.caps.now in
    let more =
    scan-more t c.args.waits.now cap c.loop-p.p c.cycle_through.result c.loop-p.invariant
    c.cycle_through.ensures.exact in
    elim c.match-cycle_through.branch [
      | in-Full+else-caps-c w ↦
          more
          (λ d e.
          let same : w.in-Full.c ≡ d = let is = w.in-Full.is in cc in
          let large : t.limit ≤ cap w.in-Full.c = let a = w.if-caps-c.false in let b =
          w.limit.ensures in omega arith in
          subst (λ z. t.limit ≤ cap z) same large)
      | in_default w ↦ let n = w.in_default.not-Full in more (λ d e. absurd (n d e))
    ]

pub returns : goal.returns
returns g c = λ p d below.
    c.loop-p.invariant p d (let n = c.instances-p-end.ensures in omega arith)
