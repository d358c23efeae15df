use Rattle.kpn_book.proofs.Common.{◌≡◌, range_with_len, is_in_region, all_woken}
use Rattle.kpn_book.proofs.open_book.regions.wake_region.Given as goal

abbrev pub invariant-processes : goal.invariant-processes
invariant-processes g l =
    l.schedule
    ≡ all_woken (is_in_region l.batch.now) l.machine.waits (range_with_len 0 l.p) l.fn.schedule
