use Rattle.kpn_book.proofs.Common.{◌≡◌, map, range_with_len, AreCounts, channel_in}
use Rattle.kpn_book.proofs.view.view_without_journals.Given as goal

abbrev pub invariant-channels : goal.invariant-channels
invariant-channels g l = record {
  read : l.view.read ≡ map (λ c. (channel_in l.machine c).read) (range_with_len 0 l.c);
  caps : l.view.caps ≡ map (λ c. (channel_in l.machine c).capacity) (range_with_len 0 l.c);
  retired : l.view.retired ≡ map (λ c. (channel_in l.machine c).is_retired) (range_with_len 0 l.c);
  states : l.view.states ≡ l.schedule.states;
  counts : AreCounts l.schedule.states l.view.counts;
}
