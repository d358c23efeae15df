use Rattle.kpn_net.proofs.Common.{◌≡◌, ◌<◌, ◌+◌, true, false, length, ap, sym, ◌∙◌, arith, count_by_more_yes, count_by_more_no, channel_at, is_source, first_round, given_by}
use Rattle.kpn_net.proofs.RoundLemmas.{one_more, first-source, first-other, source_below, copied}
use Rattle.kpn_net.proofs.iteration.first.Goals.{then-is_source+in_ok-copy+in_ok-push, else-is_source+in_ok-push-2}
use Rattle.kpn_net.proofs.iteration.first.Goals as goal

pub loop-c-preserved : goal.loop-c-preserved
loop-c-preserved c =
    let t = c.args.network.now in
    let given = c.args.given.now in
    let n = c.loop-c.c in
    let below : n < length t.channels = omega (arith, c.channels-c-end.ensures) in
    elim c.if-is_source.branch [
      | then-is_source+in_ok-copy+in_ok-push w ↦
          let is : is_source (channel_at t n) ≡ true = sym c.is_source.ensures ∙ w.if-is_source.true in
          let there : c.loop-c.source < length given =
          omega (arith, c.loop-c.invariant.source, source_below t n below is, c.requires) in
          record {
            lists =
                one_more t (first_round t (given_by t given)) c.loop-c.lists.items _ n w.in_ok-copy.field-0
                c.loop-c.invariant.lists
                (ap (λ v. v.items) w.lists-is ∙ w.in_ok-push.ensures.items)
                (copied given c.loop-c.source _ _ w.index-given-source.result w.in_ok-copy.ensures w.as_slice.ensures
                w.index-given-source.is there
                ∙ sym (first-source t given n c.loop-c.source is c.loop-c.invariant.source));
            source =
                w.source-is ∙ ap (λ k. k + 1) c.loop-c.invariant.source
                ∙ sym (count_by_more_yes is_source t.channels n _ below is);
          }
      | else-is_source+in_ok-push-2 w ↦
          let is : is_source (channel_at t n) ≡ false = sym c.is_source.ensures ∙ w.if-is_source.false in
          record {
            lists =
                one_more t (first_round t (given_by t given)) c.loop-c.lists.items _ n w.new.result
                c.loop-c.invariant.lists
                (ap (λ v. v.items) w.lists-is ∙ w.in_ok-push-2.ensures.items)
                (w.new.ensures ∙ sym (first-other t given n is));
            source =
                w.source-is ∙ c.loop-c.invariant.source ∙ sym (count_by_more_no is_source t.channels n _ below is);
          }
    ]
