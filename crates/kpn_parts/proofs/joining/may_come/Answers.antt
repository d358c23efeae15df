use Rattle.kpn_parts.proofs.Common.{◌≡◌, ◌<◌, true, false, length, rules, false≢true}
use Rattle.kpn_parts.proofs.Carrying.{refused, accepted}
use Rattle.kpn_parts.proofs.joining.may_come.Goals as goal

pub returns-then-not-takes : goal.returns-then-not-takes
returns-then-not-takes c =
    let below : c.loop-l.l < length c.args.links.now = search rules in
    let no : c.takes.result ≡ false = search rules in
    λ order h. (
      λ e. absurd (false≢true e),
      λ may. absurd
          (refused c.args.links.now c.args.carried.now c.args.placed c.loop-l.l _ _ c.index-carried-l.result
          c.takes.result below c.index-carried-l.is c.takes.ensures no order h may),
    )

pub loop-l-preserved : goal.loop-l-preserved
loop-l-preserved c =
    let below : c.loop-l.l < length c.args.links.now = search rules in
    let is : c.takes.result ≡ true = search rules in
    accepted c.args.links.now c.args.carried.now c.args.placed c.loop-l.l _ _ c.index-carried-l.result
    c.takes.result below c.index-carried-l.is c.takes.ensures is c.loop-l.invariant
