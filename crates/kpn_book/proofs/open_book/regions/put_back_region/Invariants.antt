use Rattle.kpn_book.proofs.Common.{◌≡◌, range_with_len, is_in_region, all_put_back}
use Rattle.kpn_book.proofs.open_book.regions.put_back_region.Given as goal

abbrev pub invariant-processes : goal.invariant-processes
invariant-processes g l =
    l.schedule ≡ all_put_back (is_in_region l.batch.now) (range_with_len 0 l.p) l.fn.schedule
