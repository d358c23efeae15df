-- The parts that are loaded are those of the files.
use Rattle.kpn_commands.proofs.Common.{◌/◌, length, map, subst, IfNone, joins, AreLoaded}
use Rattle.kpn_commands.proofs.Joins.{read_if_loaded}
use Rattle.kpn_commands.proofs.join.answer_of.Goals as goal

pub returns-in_ok-join_parts-in-None-clause-ok : goal.returns-in_ok-join_parts-in-None-clause-ok
returns-in_ok-join_parts-in-None-clause-ok g c = λ file described.
    let may_give = g.S.Shelf.may_give c.args.shelf.now in
    let words = c.args.words.now in
    let told = c.in_ok-join_parts-in-None.ensures.0 in
    let loaded =
    subst
    (λ flawed.
    IfNone flawed (AreLoaded may_give (map (λ word. word.now) words) (length words / 2) c.load_parts.new.loaded))
    c.in-None.is c.in_ok-flawed.ensures.loaded in (
      joins c.args.whole.now described told.0 c.load_parts.new.loaded.histories.items
          (read_if_loaded may_give words c.args.whole.now told.0 c.load_parts.new.loaded loaded told.1) told.2,
      c.in_ok-join_parts-in-None.ensures.1,
    )
