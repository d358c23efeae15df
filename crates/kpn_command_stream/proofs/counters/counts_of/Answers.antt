-- One channel more.
use Rattle.kpn_command_stream.proofs.Common.{rules, ℕ, sym, subst, AreCounted, IsCounted}
use Rattle.kpn_command_stream.proofs.Counted.{counted_more}
use Rattle.kpn_command_stream.proofs.counters.counts_of.Goals as goal

pub loop-c-preserved : goal.loop-c-preserved
loop-c-preserved c =
    let so_far = c.loop-c.invariant in
    let counts = c.loop-c.counts.items in (
      subst (AreCounted c.args.book.now) (sym c.in_ok-push.ensures.items)
          (counted_more c.args.book.now counts c.channel_counts.result so_far.0
          (subst (λ (n : ℕ). IsCounted c.args.book.now n c.channel_counts.result) (sym so_far.1) c.channel_counts.ensures)),
      search rules,
    )
