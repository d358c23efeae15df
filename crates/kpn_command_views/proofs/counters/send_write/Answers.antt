-- The reads before the write, and the write.
use Rattle.std.proofs.Common.{◌+◌, ap}
use Rattle.kpn_command_views.proofs.GoingOut.{write_sent}
use Rattle.kpn_command_views.proofs.counters.send_write.Goals as goal

pub returns-clause-text : goal.returns-clause-text
returns-clause-text g c =
    write_sent _ _ _ _ _ _ _ _ _ _ _ _ _ _ c.in_ok-send_reads.ensures c.in_ok-push_counter.ensures
    c.in_ok-send_if_long.ensures c.reads_before-gone.ensures.exact (ap (λ n. n + 1) c.saturating_sub.ensures)
