use Rattle.kpn_book.proofs.Common.{sym, ◌∙◌, subst, ◌≡◌, map, arith, AreCounts, channel_in, range_with_len}
use Rattle.kpn_machine.proofs.Numbered.{one_more}
use Rattle.kpn_book.proofs.view.view_without_journals.Goals.{After-channels}
use Rattle.kpn_book.proofs.view.view_without_journals.Given as given
use Rattle.kpn_book.proofs.view.view_without_journals.Goals as goal

pub channels-preserved : goal.channels-preserved
channels-preserved g c =
    let s = c.args.machine.now in
    let n = c.channels.c in
    let so_far = c.channels.invariant in
    let added = c.in_ok-add_channel.ensures in
    record {
      read = one_more (λ c. (channel_in s c).read) n c.channels.view.read _ so_far.read added.read;
      caps = one_more (λ c. (channel_in s c).capacity) n c.channels.view.caps _ so_far.caps added.caps;
      retired = one_more (λ c. (channel_in s c).is_retired) n c.channels.view.retired _ so_far.retired added.retired;
      states = added.states ∙ so_far.states;
      counts = subst (AreCounts c.args.schedule.now.states) (sym added.counts) so_far.counts;
    }

-- the loop has gone through all channels
all_seen : (g : given.Over) (c : After-channels g) → c.channels.c ≡ c.args.channels
all_seen g c =
    let low = c.channels-test.false in
    let high = c.channels.auto.c-end in
    omega (arith, low, high)

pub returns-clause-read : goal.returns-clause-read
returns-clause-read g c =
    let s = c.args.machine.now in
    subst (λ n. c.channels.view.read ≡ map (λ d. (channel_in s d).read) (range_with_len 0 n)) (all_seen g c)
    c.channels.invariant.read

pub returns-clause-caps : goal.returns-clause-caps
returns-clause-caps g c =
    let s = c.args.machine.now in
    subst (λ n. c.channels.view.caps ≡ map (λ d. (channel_in s d).capacity) (range_with_len 0 n)) (all_seen g c)
    c.channels.invariant.caps

pub returns-clause-retired : goal.returns-clause-retired
returns-clause-retired g c =
    let s = c.args.machine.now in
    subst (λ n. c.channels.view.retired ≡ map (λ d. (channel_in s d).is_retired) (range_with_len 0 n)) (all_seen g c)
    c.channels.invariant.retired

pub returns-clause-counts : goal.returns-clause-counts
returns-clause-counts g c =
    subst (λ xs. AreCounts xs c.channels.view.counts) (sym c.channels.invariant.states) c.channels.invariant.counts
