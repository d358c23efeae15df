use Rattle.kpn_pool.proofs.Common.{◌≡◌, length, ap, sym, ◌∙◌, subst, Tables, AreFedBelow, AreSourcesClosedBelow}
use Rattle.kpn_book.specs.Remembering.{Remembers}
use Rattle.kpn_pool.proofs.Concluding.{journals_shown, are_supplied, IsReport-concluded}
use Rattle.kpn_pool.proofs.ending.conclude.Goals as goal

pub were_fed-are_fed-requires-clause-journals : goal.were_fed-are_fed-requires-clause-journals
were_fed-are_fed-requires-clause-journals c =
    journals_shown c.network-network.result.now c.empty_sinks-emptied.new.book (sym c.network-network.ensures)
    c.known.ensures c.in-Some.outcome c.in-Ok.report c.in-Ok.ensures

pub returns : goal.returns
returns c =
    let t = c.args.book.tables in
    let same : c.empty_sinks-emptied.new.book.tables ≡ t =
    c.empty_sinks-emptied.ensures.tables ∙ ap (λ b. b.tables) c.put_back_held.ensures.alone in
    let network : c.network-network.result.now ≡ t = c.network-network.ensures ∙ same in
    let report = c.in-Ok.report in
    let fed =
    subst (λ (u : Tables). AreFedBelow u c.args.lists.now report.view (length u.channels)) network
    (c.were_fed-are_fed.ensures c.if-not-are_fed.false) in
    let closed =
    subst (λ (u : Tables). AreSourcesClosedBelow u c.empty_sinks-emptied.new.book.history (length u.channels)) same
    (c.are_closed-are_closed.ensures c.if-not-are_closed.false) in
    record {
      report =
          IsReport-concluded t c.empty_sinks-emptied.new.book same c.known.ensures c.in-Some.outcome report
          c.in-Ok.ensures c.args.lists.now fed c.args.limits.now
          (c.empty_sinks-emptied.ensures.held ∙ c.put_back_held.ensures.none) c.in-Some.ensures
          (c.are_kept-are_kept.ensures c.if-not-are_kept.false);
      supplied =
          are_supplied t c.empty_sinks-emptied.new.book same c.known.ensures c.in-Some.outcome report
          c.in-Ok.ensures c.args.lists.now fed closed;
      commits =
          c.in-Ok.ensures.commits ∙ c.empty_sinks-emptied.ensures.commits
          ∙ ap (λ b. b.commits) c.put_back_held.ensures.alone;
      kept = λ keeping is.
          let back =
          subst (λ b. Remembers keeping b) (sym c.put_back_held.ensures.alone)
          (record { events = is.events; items = is.items }) in
          c.in-Ok.ensures.kept ∙ (c.empty_sinks-emptied.ensures.remembers keeping back).events;
    }
