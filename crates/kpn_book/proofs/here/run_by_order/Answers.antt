use Rattle.kpn_book.proofs.Common.{◌∙◌, subst, arith, IfOk-weaker, IsNetwork, given_by, supplies}
use Rattle.kpn_book.proofs.Supplying.{IsFedBelow-first, IsLeftToItself-fed}
use Rattle.kpn_book.proofs.Remembered.{happen_much}
use Rattle.kpn_book.proofs.Told.{IsReport-told, AreSupplied-told, IsReportHere-told}
use Rattle.kpn_book.proofs.here.run_by_order.Goals as goal

pub feed_sources-requires-clause-first : goal.feed_sources-requires-clause-first
feed_sources-requires-clause-first c =
    IsFedBelow-first c.args.network.now (given_by c.args.network.now c.args.lists.now) c.in_ok-book.book
    c.in_ok-book.ensures.tables c.in_ok-book.ensures.history c.in_ok-book.ensures.schedule
    c.in_ok-book.ensures.commits

pub run-requires : goal.run-requires
run-requires c =
    IsLeftToItself-fed c.args.network.now (given_by c.args.network.now c.args.lists.now) c.feed_sources.new.book
    c.in_ok-feed_sources.ensures.fed

pub returns-clause-report : goal.returns-clause-report
returns-clause-report c =
    IfOk-weaker c.report_of.result _ _
    (IsReport-told c.args.network.now
    (subst IsNetwork c.in_ok-book.ensures.tables c.in_ok-book.ensures.book.network) c.args.lists.now
    c.args.limits.now c.args.in_order c.in_ok-outcome.outcome c.feed_sources.new.book c.run.new.book
    c.in_ok-feed_sources.ensures.fed
    c.in_ok-outcome.ensures c.known.ensures)
    c.report_of.ensures

pub returns-clause-supplied : goal.returns-clause-supplied
returns-clause-supplied c =
    IfOk-weaker c.report_of.result _ _
    (AreSupplied-told c.args.network.now
    (subst IsNetwork c.in_ok-book.ensures.tables c.in_ok-book.ensures.book.network) c.args.lists.now
    c.args.limits.now c.args.in_order c.in_ok-outcome.outcome c.feed_sources.new.book c.run.new.book
    c.in_ok-feed_sources.ensures.fed
    c.in_ok-outcome.ensures c.known.ensures)
    c.report_of.ensures

pub returns-clause-here : goal.returns-clause-here
returns-clause-here c ordered =
    let begun = c.in_ok-book.ensures in
    IfOk-weaker c.report_of.result _ _
    (IsReportHere-told c.args.network.now (subst IsNetwork begun.tables begun.book.network) c.args.lists.now
    c.args.limits.now c.args.in_order c.in_ok-outcome.outcome c.feed_sources.new.book c.run.new.book
    c.in_ok-feed_sources.ensures.fed
    c.in_ok-outcome.ensures c.known.ensures c.in_ok-book.book
    (record {
      book = begun.book;
      tables = begun.tables;
      history = begun.history;
      frames = begun.frames;
      schedule = begun.schedule;
      commits = begun.commits;
    })
    c.in_ok-feed_sources.ensures.supplies ordered)
    c.report_of.ensures

pub returns-clause-commits : goal.returns-clause-commits
returns-clause-commits c =
    let none = c.in_ok-feed_sources.ensures.fed.commits in
    let most = c.in_ok-outcome.ensures.within (omega arith) in
    IfOk-weaker c.report_of.result _ _ (λ report tells. let same = tells.commits in omega arith) c.report_of.ensures

pub returns-clause-kept : goal.returns-clause-kept
returns-clause-kept c =
    let t = c.args.network.now in
    let first = c.in_ok-book.book in
    let fed = c.feed_sources.new.book in
    let at_start =
    happen_much (supplies t (given_by t c.args.lists.now)) first fed c.in_ok-feed_sources.ensures.supplies
    c.args.keeping c.in_ok-book.ensures.kept in
    let at_end = c.in_ok-outcome.ensures.later.keeps c.args.keeping at_start in
    IfOk-weaker c.report_of.result _ _ (λ report tells. tells.kept ∙ at_end.events) c.report_of.ensures
