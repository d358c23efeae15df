use Rattle.kpn_book.proofs.Common.{◌≡◌, map, range_with_len, channel_in}
use Rattle.kpn_book.proofs.view.copied_journals.Given as goal

abbrev pub invariant-channels : goal.invariant-channels
invariant-channels g l = l.journals ≡ map (λ c. (channel_in l.machine c).journal) (range_with_len 0 l.c)
