use Rattle.std.proofs.Common.{rules, ◌≡◌, ◌<◌, ◌∷◌, ◌++◌, [], ◌∙◌, sym, subst, IfNone, w64, SFits}
use Rattle.kpn_stream.proofs.Common.{to_z-of_z, Happens, MOST_AT_ONCE, ReadsInTurn, none_yet_read}
use Rattle.kpn_history.specs.declared.event.Event.TheVariants as event
use Rattle.kpn_stream.proofs.Batches.{one_more_read, read_then}
use Rattle.kpn_stream.proofs.Going.{none_of}
use Rattle.kpn_stream.proofs.reading.read_on.Goals as goal

pub items-init : goal.items-init
items-init g c = record { so_far = none_yet_read; was_read = c.requires }

pub returns-then-is_some : goal.returns-then-is_some
returns-then-is_some g c =
    let few : c.items._item < MOST_AT_ONCE = search rules in
    let fits : SFits w64 c.in-Some.item = search rules in
    let same = to_z-of_z w64 c.in-Some.item fits in
    one_more_read g.S.Sources.gives g.S.Sources.looks g.S.Sources.at_hand c.args.c c.items._item c.in-Some.item
    c.feed-ended.result c.items.book c.feed-ended.new.book c.items.sources c.next_at_hand.new.self few
    c.items.invariant.was_read c.in-Some.ensures.item
    (subst (λ v. IfNone c.feed-ended.result (Happens (event.Feed c.args.c v) c.items.book c.feed-ended.new.book)) same
    c.feed-ended.ensures.fed) c.feed-ended.ensures.refused
    c.args.book.now c.args.sources.now c.items.invariant.so_far c.in-Some.ensures.at_hand

pub items-preserved : goal.items-preserved
items-preserved g c =
    let few : c.items._item < MOST_AT_ONCE = search rules in
    let fits : SFits w64 c.in-Some.item = search rules in
    let same = to_z-of_z w64 c.in-Some.item fits in
    let none = none_of c.feed-ended.result (sym c.is_some.ensures ∙ c.if-is_some.false) in
    let fed =
    subst (λ v. IfNone c.feed-ended.result (Happens (event.Feed c.args.c v) c.items.book c.feed-ended.new.book)) same
    c.feed-ended.ensures.fed in
    record {
      so_far =
          subst (λ e. ReadsInTurn g.S.Sources.gives g.S.Sources.looks g.S.Sources.at_hand c.args.c c.args.book.now
          c.args.sources.now e c.feed-ended.new.book c.next_at_hand.new.self) none
          (one_more_read g.S.Sources.gives g.S.Sources.looks g.S.Sources.at_hand c.args.c c.items._item c.in-Some.item
          c.feed-ended.result c.items.book c.feed-ended.new.book c.items.sources c.next_at_hand.new.self few
          c.items.invariant.was_read c.in-Some.ensures.item fed c.feed-ended.ensures.refused
          c.args.book.now c.args.sources.now c.items.invariant.so_far c.in-Some.ensures.at_hand);
      was_read =
          read_then g.S.Sources.gives g.S.Sources.looks g.S.Sources.at_hand c.args.c c.items._item c.in-Some.item
          c.feed-ended.result c.items.book c.feed-ended.new.book c.items.sources c.next_at_hand.new.self few
          c.items.invariant.was_read c.in-Some.ensures.item fed c.feed-ended.ensures.refused none
          (subst (λ v. IfNone c.feed-ended.result (c.feed-ended.new.book.history
          ≡ c.items.book.history ++ event.Feed c.args.c v ∷ [])) same c.feed-ended.ensures.alone);
    }
