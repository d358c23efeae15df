use Rattle.kpn_pool.proofs.Common.{◌≡◌, ◌<◌, true, [], length, get_or, sym, ap, ◌∙◌, arith, get_or_default, count_by_more_yes, count_by_more_no, channel_at, is_source, given_by, source_below}
use Rattle.std.proofs.lemmas.Option.{get_or_from_slice_get}
use Rattle.kpn_pool.proofs.Feeding.{fed_skip, fed_more}
use Rattle.kpn_pool.proofs.fed.were_fed.Goals.{then-is_source+in-Some+else-not-is, else-is_source}
use Rattle.kpn_pool.proofs.fed.were_fed.Goals as goal

pub bounds-lists-source : goal.bounds-lists-source
bounds-lists-source c =
    let there : c.channels.c < length c.args.network.now.channels =
    omega (arith, c.channels-c-end.ensures, c.channels-test.true) in
    let below =
    source_below c.args.network.now c.channels.c there (sym c.is_source.ensures ∙ c.if-is_source.true) in
    omega (arith, c.channels.invariant.source, c.requires.lists)

pub channels-preserved : goal.channels-preserved
channels-preserved c =
    let t = c.args.network.now in
    let lists = c.args.lists.now in
    let view = c.args.view.now in
    let k = c.channels.c in
    let so_far = c.channels.invariant in
    let there : k < length t.channels = omega (arith, c.channels-c-end.ensures, c.channels-test.true) in
    elim c.if-is_source.branch [
      | then-is_source+in-Some+else-not-is w ↦
          let is : is_source (channel_at t k) ≡ true = sym c.is_source.ensures ∙ w.if-is_source.true in
          let below = source_below t k there is in
          let one = count_by_more_yes is_source t.channels k _ there is in
          let placed : c.channels.source < length lists = omega (arith, so_far.source, c.requires.lists) in
          let list : w.as_slice.result.now ≡ given_by t lists k =
          w.as_slice.ensures ∙ w.index-lists-source.is
          ∙ get_or_default lists c.channels.source _ [] placed
          ∙ ap (λ n. get_or lists n []) so_far.source in
          let journal = get_or_from_slice_get view.journals k _ [] w.in-Some.ensures in
          record {
            source = w.source-is ∙ omega (arith, so_far.source);
            so_far =
                fed_more t lists view k (journal ∙ w.is.ensures.0 w.if-not-is.false ∙ list) so_far.so_far;
          }
      | else-is_source w ↦
          let none = sym c.is_source.ensures ∙ w.if-is_source.false in record {
            source = w.source-is ∙ so_far.source ∙ sym (count_by_more_no is_source t.channels k _ there none);
            so_far = fed_skip t lists view k none so_far.so_far;
          }
    ]
