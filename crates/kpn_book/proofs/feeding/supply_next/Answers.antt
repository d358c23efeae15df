use Rattle.kpn_book.proofs.Common.{◌≡◌, ◌<◌, true, [], ◌∷◌, ◌++◌, length, map, get_or, sym, ap, ◌∙◌, subst, arith, get_or_default, channel_at, is_source, given_by, source_below, Feed, Close, AllHappen, IsSupplied}
use Rattle.kpn_book.proofs.Supplying.{IsFedBelow-skip, IsFedBelow-more}
use Rattle.kpn_book.proofs.Happening.{join, one}
use Rattle.kpn_book.proofs.Turning.{open_after_feeds, supplies_none, supplies_one}
use Rattle.kpn_book.proofs.feeding.supply_next.Goals as goal

pub returns-then-not-is_source-clause-more : goal.returns-then-not-is_source-clause-more
returns-then-not-is_source-clause-more c =
    IsFedBelow-skip c.args.network.now (given_by c.args.network.now c.args.lists.now) c.args.c c.args.book.now
    (sym c.is_source.ensures ∙ c.if-not-is_source.true) c.requires.so_far

pub bounds-lists-source : goal.bounds-lists-source
bounds-lists-source c =
    let below =
    source_below c.args.network.now c.args.c c.requires.channel (sym c.is_source.ensures ∙ c.if-not-is_source.false) in
    omega (arith, c.requires.source, c.requires.lists)

pub returns-then-not-is_source-clause-supplies : goal.returns-then-not-is_source-clause-supplies
returns-then-not-is_source-clause-supplies c =
    supplies_none c.args.network.now (given_by c.args.network.now c.args.lists.now) c.args.c c.args.book.now
    (sym c.is_source.ensures ∙ c.if-not-is_source.true)

pub returns-clause-supplies : goal.returns-clause-supplies
returns-clause-supplies c =
    let t = c.args.network.now in
    let lists = c.args.lists.now in
    let is : is_source (channel_at t c.args.c) ≡ true = sym c.is_source.ensures ∙ c.if-not-is_source.false in
    let below = source_below t c.args.c c.requires.channel is in
    let there : c.args.source < length lists = omega (arith, c.requires.source, c.requires.lists) in
    let given : c.as_slice.result.now ≡ given_by t lists c.args.c =
    c.as_slice.ensures ∙ c.index-lists-source.is ∙ get_or_default lists c.args.source _ [] there
    ∙ ap (λ n. get_or lists n []) c.requires.source in
    let unclosed =
    open_after_feeds c.args.c c.args.c c.as_slice.result.now c.args.book.now c.feed_items.new.book
    c.in_ok-feed_items.ensures.feeds (c.requires.so_far.not_closed c.args.c (omega arith)) in
    supplies_one t (given_by t lists) c.args.c c.as_slice.result.now c.args.book.now c.feed_items.new.book
    c.close.new.book is given c.in_ok-feed_items.ensures.feeds (c.in_ok-close.ensures.closes unclosed)

pub returns-clause-more : goal.returns-clause-more
returns-clause-more c =
    let t = c.args.network.now in
    let lists = c.args.lists.now in
    let is : is_source (channel_at t c.args.c) ≡ true = sym c.is_source.ensures ∙ c.if-not-is_source.false in
    let below = source_below t c.args.c c.requires.channel is in
    let there : c.args.source < length lists = omega (arith, c.requires.source, c.requires.lists) in
    let given : c.as_slice.result.now ≡ given_by t lists c.args.c =
    c.as_slice.ensures ∙ c.index-lists-source.is ∙ get_or_default lists c.args.source _ [] there
    ∙ ap (λ n. get_or lists n []) c.requires.source in
    let unclosed =
    open_after_feeds c.args.c c.args.c c.as_slice.result.now c.args.book.now c.feed_items.new.book
    c.in_ok-feed_items.ensures.feeds (c.requires.so_far.not_closed c.args.c (omega arith)) in
    IsFedBelow-more t (given_by t lists) c.args.c c.args.book.now c.close.new.book is c.requires.so_far
    (subst (λ items. IsSupplied c.args.c items c.args.book.now c.close.new.book) given
    (c.in_ok-close.ensures.supplied c.args.book.now c.as_slice.result.now c.in_ok-feed_items.ensures.supplied))
    c.in_ok-close.ensures.closed
    (subst (λ items. AllHappen (map (Feed c.args.c) items ++ Close c.args.c ∷ []) c.args.book.now c.close.new.book)
    given
    (join (map (Feed c.args.c) c.as_slice.result.now) (Close c.args.c ∷ []) c.args.book.now c.feed_items.new.book
    c.close.new.book c.in_ok-feed_items.ensures.feeds
    (one (Close c.args.c) c.feed_items.new.book c.close.new.book (c.in_ok-close.ensures.closes unclosed))))
