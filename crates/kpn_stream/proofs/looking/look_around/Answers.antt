use Rattle.kpn_stream.proofs.Common.{rules, ◌<◌, length, IfSome, sym, ◌∙◌, subst, MayRead, not_yet, is_source}
use Rattle.kpn_stream.proofs.Handling.{listed}
use Rattle.kpn_stream.proofs.Looks.{looked-trans, or_this, at_hand_now, unknown_yet}
use Rattle.kpn_stream.proofs.looking.look_around.Goals as goal
use Rattle.kpn_stream.proofs.looking.look_around.Goals.{in-Unknown, in-NotYet}

pub look_at-requires-clause-source : goal.look_at-requires-clause-source
look_at-requires-clause-source g c =
    let items = c.args.ends.now.sources.items in
    let below : c.sources.i < length items = search rules in
    (listed is_source c.args.book.now.tables items c.sources.i c.index-c.result.now c.requires.sources below
    c.index-c.ensures).0

pub sources-init : goal.sources-init
sources-init g c = record { looked = not_yet; may_read = tt }

pub returns-in-AtHand-clause-looked : goal.returns-in-AtHand-clause-looked
returns-in-AtHand-clause-looked g c =
    looked-trans g.S.Sources.looks c.args.sources.now c.sources.sources c.sources.invariant.looked
    c.look_at.ensures.looked

pub sources-preserved : goal.sources-preserved
sources-preserved g c = record {
  looked =
      looked-trans g.S.Sources.looks c.args.sources.now c.sources.sources c.sources.invariant.looked
      c.look_at.ensures.looked;
  may_read =
      elim c.match-look_at.branch [
        | in-Unknown w ↦
            subst (λ o. IfSome o (MayRead c.args.book.now.tables c.args.book.now.history)) (sym w.unknown-is)
            (subst (λ o. IfSome o (MayRead c.args.book.now.tables c.args.book.now.history)) (sym w.or-unknown.ensures)
            (or_this (MayRead c.args.book.now.tables c.args.book.now.history) c.sources.unknown c.index-c.result.now
            c.sources.invariant.may_read (c.look_at.ensures.may_read (λ e. unknown_yet (sym w.in-Unknown.is ∙ e)))))
        | in-NotYet w ↦
            subst (λ o. IfSome o (MayRead c.args.book.now.tables c.args.book.now.history)) (sym w.unknown-is)
            c.sources.invariant.may_read
      ];
}

pub returns-in-AtHand-clause-may_read : goal.returns-in-AtHand-clause-may_read
returns-in-AtHand-clause-may_read g c = c.look_at.ensures.may_read (λ e. at_hand_now (sym c.in-AtHand.is ∙ e))
