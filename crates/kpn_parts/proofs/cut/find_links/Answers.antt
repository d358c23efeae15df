use Rattle.kpn_parts.proofs.Common.{◌≡◌, ◌+◌, ◌≤◌, length, sym, ap, ◌∙◌, subst, rules, part_at, IsCutSource}
use Rattle.kpn_parts.proofs.Cuts.{HaveLinks, links_start, links_past, links_more, links_part, links_all, part_there}
use Rattle.kpn_parts.proofs.cut.find_links.Goals as goal
use Rattle.kpn_parts.proofs.cut.find_links.Goals.{then-is_cut_source+in-Some+in_ok-push, else-is_cut_source}

pub loop-r-init : goal.loop-r-init
loop-r-init c =
    subst (HaveLinks c.args.whole.now c.args.parts.now 0 0) (sym c.new-links.ensures.items)
    (links_start c.args.whole.now c.args.parts.now)

pub loop-c-preserved : goal.loop-c-preserved
loop-c-preserved c =
    let t = c.args.whole.now in
    let cut = c.args.parts.now in
    let r = c.loop-r.r in
    let here : c.index-parts-r.result ≡ part_at cut r =
    part_there cut r _ c.index-parts-r.result c.index-parts-r.is (search rules) in
    elim c.if-is_cut_source.branch [
      | then-is_cut_source+in-Some+in_ok-push w ↦
          subst (HaveLinks t cut r (c.loop-c.c + 1)) (sym (ap (λ v. v.items) w.links-is ∙ w.in_ok-push.ensures.items))
          (links_more t cut r c.loop-c.c c.loop-c.links.items w.in-Some.link c.loop-c.invariant w.in-Some.ensures)
      | else-is_cut_source w ↦
          subst (HaveLinks t cut r (c.loop-c.c + 1)) (sym (ap (λ v. v.items) w.links-is))
          (links_past t cut r c.loop-c.c c.loop-c.links.items c.loop-c.invariant
          (λ source.
          let is = w.if-is_cut_source.ensures.1 (subst (λ part. IsCutSource t part c.loop-c.c) (sym here) source) in
          absurd (search rules)))
    ]

pub loop-r-preserved : goal.loop-r-preserved
loop-r-preserved c =
    let cut = c.args.parts.now in
    let r = c.loop-r.r in
    let here : c.index-parts-r.result ≡ part_at cut r =
    part_there cut r _ c.index-parts-r.result c.index-parts-r.is (search rules) in
    let all : length (part_at cut r).tables.channels ≤ c.loop-c.c =
    subst (λ part. length part.tables.channels ≤ c.loop-c.c) here (search rules) in
    links_part c.args.whole.now cut r c.loop-c.c c.loop-c.links.items c.loop-c.invariant all

pub returns : goal.returns
returns c =
    links_all c.args.whole.now c.args.parts.now c.loop-r.r c.loop-r.links.items c.loop-r.invariant (search rules)
