-- If what each part was fed on the links of a cut begins what was put there, at each moment, the run is joined.
use Rattle.kpn_parts.proofs.Common.{ℕ, List, sym, subst, IsPrefix, IsPrefix-trans, IsPrefix-same, rest_of_prefix, Tables, IsNetwork, sink_there, Event, Legal, written_on, PartEvent, PartLink, Part, whole_channel, part_at, IsCut, events_of_part, whole_history, IsSent, AreLegal, IsJoined, put_on_link, fed_on, IsSentOn, AreSent, HasLink, AreLinks, history_at, IsJoinOf}
use Rattle.kpn_parts.proofs.Ends.{source_or_sink}
use Rattle.kpn_parts.proofs.Orders.{legal-prefix}
use Rattle.kpn_parts.proofs.Whole.{journal_same}

module _ (t : Tables) (network : IsNetwork t) (cut : List Part) (is : IsCut t cut) (links : List PartLink)
    (are : AreLinks t cut links) where
  sent_by_link : (order : List PartEvent) → AreLegal cut order → (r c : ℕ) → (h : HasLink cut links r c)
      → IsPrefix (fed_on order h.link) (put_on_link order h.link) → IsSent t cut order r c
  sent_by_link order legal r c h begins =
      let W = whole_history t cut order in
      let fed : IsPrefix (written_on (events_of_part r order) c) (put_on_link order h.link) =
      subst (λ s. IsPrefix (written_on (events_of_part s order) c) (put_on_link order h.link)) h.ends.reader
      (subst (λ d. IsPrefix (written_on (events_of_part h.link.reader order) d) (put_on_link order h.link)) h.ends.source begins)
      in
      IsPrefix-trans (written_on (events_of_part r order) c) (put_on_link order h.link)
      (written_on W (whole_channel (part_at cut r) c)) fed
      (subst (λ x. IsPrefix (put_on_link order h.link) (written_on W x)) h.ends.same
      (IsPrefix-same _ _
      (sym
      (journal_same t network cut is h.link.writer h.link.sink
      (sink_there (part_at cut h.link.writer).tables h.link.sink h.ends.sink)
      (λ k. source_or_sink _ k.source h.ends.sink) order legal))))

  pub joined_by_links : (order : List PartEvent) → AreLegal cut order → AreSent links order → IsJoined t cut order
  joined_by_links order legal sent =
      record {
        legal = legal;
        sent = λ begun begins r c h.
            let link = are.each r c h in
            let at = link.among in
            let on_link : IsSentOn order link.link =
            subst (IsSentOn order) at.2 (sent at.0 link.link at.1) in
            let rest = rest_of_prefix begun order begins in
            sent_by_link begun
            (legal-prefix t network cut is begun rest.0 (subst (AreLegal cut) (sym rest.1) legal)) r c link
            (on_link begun begins);
      }

  pub join_is_joined : (histories : List (List Event))
      → ((r : ℕ) → Legal (part_at cut r).tables (history_at histories r)) → (order : List PartEvent)
      → IsJoinOf histories links order → IsJoined t cut order
  join_is_joined histories legal order join =
      joined_by_links order (λ r. subst (Legal (part_at cut r).tables) (sym (join.whole r)) (legal r)) join.sent
