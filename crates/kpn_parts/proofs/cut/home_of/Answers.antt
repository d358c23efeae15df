use Rattle.kpn_parts.proofs.Common.{◌≡◌, ◌≤◌, length, sym, subst, rules, part_at, IsWrittenIn}
use Rattle.kpn_parts.proofs.Cuts.{part_there}
use Rattle.kpn_parts.proofs.Homes.{none_start, none_past, none_part, none_at_all}
use Rattle.kpn_parts.proofs.cut.home_of.Goals as goal

pub loop-r-init : goal.loop-r-init
loop-r-init c = none_start c.args.whole.now c.args.parts.now c.args.c

pub loop-d-preserved : goal.loop-d-preserved
loop-d-preserved c =
    let cut = c.args.parts.now in
    let here : c.index-parts-r.result ≡ part_at cut c.loop-r.r =
    part_there cut c.loop-r.r _ c.index-parts-r.result c.index-parts-r.is (search rules) in
    none_past c.args.whole.now cut c.args.c c.loop-r.r c.loop-d.d c.loop-d.invariant
    (λ is.
    let written = c.if-is_written_in.ensures.1
    (subst (λ part. IsWrittenIn c.args.whole.now part c.loop-d.d c.args.c) (sym here) is) in
    absurd (search rules))

pub loop-r-preserved : goal.loop-r-preserved
loop-r-preserved c =
    let cut = c.args.parts.now in
    let here : c.index-parts-r.result ≡ part_at cut c.loop-r.r =
    part_there cut c.loop-r.r _ c.index-parts-r.result c.index-parts-r.is (search rules) in
    none_part c.args.whole.now cut c.args.c c.loop-r.r c.loop-d.d c.loop-d.invariant
    (subst (λ part. length part.tables.channels ≤ c.loop-d.d) here (search rules))

pub returns-then-is_written_in-clause-some : goal.returns-then-is_written_in-clause-some
returns-then-is_written_in-clause-some c =
    let cut = c.args.parts.now in
    let here : c.index-parts-r.result ≡ part_at cut c.loop-r.r =
    part_there cut c.loop-r.r _ c.index-parts-r.result c.index-parts-r.is (search rules) in
    subst (λ part. IsWrittenIn c.args.whole.now part c.loop-d.d c.args.c) here (search rules)

pub returns-clause-none : goal.returns-clause-none
returns-clause-none c =
    none_at_all c.args.whole.now c.args.parts.now c.args.c c.loop-r.r c.loop-r.invariant (search rules)
