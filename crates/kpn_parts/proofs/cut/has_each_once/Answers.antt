use Rattle.kpn_parts.proofs.Common.{◌≡◌, ◌≤◌, ◌<◌, true, false, length, get_or, replicate, sym, ap, inl, inr, ◌∙◌, subst, rules, list_any, cases_Bool, both_ways, length-set, length-replicate, part_at, whole_process}
use Rattle.std.specs.Bool.{beq}
use Rattle.std.proofs.lemmas.List.Folds.{list_any_at}
use Rattle.kpn_parts.proofs.Cuts.{AreSeen, seen_start, seen_next, seen_part, seen_once, part_there}
use Rattle.kpn_parts.proofs.cut.has_each_once.Goals as goal

pub loop-r-init : goal.loop-r-init
loop-r-init c =
    let n = length c.args.whole.now.instances in
    let none : c.in_ok-seen.seen.items ≡ replicate n false = search rules in (
      subst (AreSeen c.args.parts.now 0 0) (sym none) (seen_start c.args.parts.now n),
      ap length none ∙ length-replicate n false,
    )

pub loop-p-preserved : goal.loop-p-preserved
loop-p-preserved c =
    let cut = c.args.parts.now in
    let r = c.loop-r.r in
    let here : c.index-parts-r.result ≡ part_at cut r =
    part_there cut r _ c.index-parts-r.result c.index-parts-r.is (search rules) in
    let there : c.loop-p.p < length (part_at cut r).tables.instances =
    subst (λ part. c.loop-p.p < length part.tables.instances) here (search rules) in
    let is : whole_process (part_at cut r) c.loop-p.p ≡ c.whole_process-w.result =
    subst (λ part. whole_process part c.loop-p.p ≡ c.whole_process-w.result) here (search rules) in (
      seen_next cut r c.loop-p.p c.whole_process-w.result c.loop-p.seen.items c.loop-p.invariant.0 there is
          (search rules) (search rules),
      length-set c.loop-p.seen.items c.whole_process-w.result true ∙ c.loop-p.invariant.1,
    )

pub loop-r-preserved : goal.loop-r-preserved
loop-r-preserved c =
    let cut = c.args.parts.now in
    let r = c.loop-r.r in
    let here : c.index-parts-r.result ≡ part_at cut r =
    part_there cut r _ c.index-parts-r.result c.index-parts-r.is (search rules) in
    let all : length (part_at cut r).tables.instances ≤ c.loop-p.p =
    subst (λ part. length part.tables.instances ≤ c.loop-p.p) here (search rules) in
    (seen_part cut r c.loop-p.p c.loop-p.seen.items c.loop-p.invariant.0 all, c.loop-p.invariant.1)

pub returns-clause-home : goal.returns-clause-home
returns-clause-home c =
    λ yes p below.
    let seen = c.loop-r.seen.items in
    let no : c.contains.result ≡ false = search rules in
    let none : list_any (λ y. beq y false) seen ≡ false = search rules in
    elim (cases_Bool (get_or seen p false)) [
      | inl is ↦ c.loop-r.invariant.0.homes p is
      | inr is ↦
          absurd
          (both_ways _ none
          (list_any_at (λ y. beq y false) seen p false (subst (λ n. p < n) (sym c.loop-r.invariant.1) below)
          (ap (λ y. beq y false) is)))
    ]

pub returns-clause-once : goal.returns-clause-once
returns-clause-once c =
    λ yes. seen_once c.args.parts.now c.loop-r.r c.loop-r.seen.items c.loop-r.invariant.0 (search rules)
