-- The order that is found is that of a joined run, and what can't come comes in none.
use Rattle.kpn_commands.proofs.Common.{◌∙◌, codes, ap, subst, IfSome, IfOk-weaker, Tables, IsNetwork, IsCut, AreHomes, AreLinks, IsJoinOf, ComesInNone, JoinComesTo, legal, stuck, line_at}
use Rattle.kpn_parts.proofs.Links.{join_is_joined}
use Rattle.kpn_commands.proofs.Joins.{are_legal}
use Rattle.kpn_commands.proofs.join.join_cut.Goals as goal

pub returns-in-Whole : goal.returns-in-Whole
returns-in-Whole c =
    let d = c.args.whole.now in
    let cut = c.args.parts.now in
    let t = c.network-network.result.now in
    let links = c.in-Some.links.items in
    let homes = c.in-Some-2.homes.items in
    let loaded = c.args.loaded.now in
    let order = c.in-Whole._order in
    let network = subst IsNetwork c.network-network.ensures c.known.ensures in
    let is =
    subst (λ (u : Tables). IsCut u cut) c.network-network.ensures
    (subst (λ found. IfSome found (λ some. IsCut t cut)) c.in-Some.is c.in_ok-links.ensures.cut) in
    let are =
    subst (λ (u : Tables). AreLinks u cut links) c.network-network.ensures
    (subst (λ found. IfSome found (λ some. AreLinks t cut some.items)) c.in-Some.is c.in_ok-links.ensures.links) in
    let are_homes =
    subst (λ (u : Tables). AreHomes u cut homes) c.network-network.ensures
    (subst (λ found. IfSome found (λ some. AreHomes t cut some.items)) c.in-Some-2.is c.in_ok-homes.ensures.homes) in
    let join : IsJoinOf loaded.histories.items links order =
    subst (λ some. IsJoinOf loaded.histories.items some order) c.deref-2.ensures.value
    (subst (λ histories. IsJoinOf histories c.deref-2.result.now order) c.deref.ensures.value
    (subst (JoinComesTo c.deref.result.now c.deref-2.result.now) c.in-Whole.is c.in_ok-_order.ensures)) in
    let joined =
    join_is_joined d.tables network cut is links are loaded.histories.items
    (are_legal d network cut is homes are_homes loaded c.requires.audited c.requires.tables) order join in
    IfOk-weaker c.report.result _ _ (λ made told. (legal is told.0.0 told.0.1, told.1))
    (c.report.ensures order join.whole joined)

pub returns : goal.returns
returns c =
    let cut = c.args.parts.now in
    let t = c.network-network.result.now in
    let links = c.in-Some.links.items in
    let part = c.in-Stuck.part in
    let event = c.in-Stuck.event in
    let histories = c.args.loaded.now.histories.items in
    let is =
    subst (λ (u : Tables). IsCut u cut) c.network-network.ensures
    (subst (λ found. IfSome found (λ some. IsCut t cut)) c.in-Some.is c.in_ok-links.ensures.cut) in
    let are =
    subst (λ (u : Tables). AreLinks u cut links) c.network-network.ensures
    (subst (λ found. IfSome found (λ some. AreLinks t cut some.items)) c.in-Some.is c.in_ok-links.ensures.links) in
    let comes : ComesInNone histories links part event =
    subst (λ some. ComesInNone histories some part event) c.deref-2.ensures.value
    (subst (λ all. ComesInNone all c.deref-2.result.now part event) c.deref.ensures.value
    (subst (JoinComesTo c.deref.result.now c.deref-2.result.now) c.in-Stuck.is c.in_ok-_order.ensures)) in
    IfOk-weaker c.told_at.result _ _
    (λ made told. (
      stuck is links are part event comes
          (told.0.0 ∙ ap (line_at (codes "not joined") event) c.word_at-trace.ensures) told.0.1,
      told.1,
    )) c.told_at.ensures
