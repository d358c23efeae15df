-- A growth for a cycle goes before one for a stop.
use Rattle.std.proofs.Common.{[], ◌∷◌, ◌++◌, inl}
use Rattle.kpn_audit.proofs.Followed.{owes_at_stop}
use Rattle.kpn_audit.proofs.growth.owed_after_wait.Goals as goal

pub returns-in-Some : goal.returns-in-Some
returns-in-Some g c H event waits run =
    record {
      there = c.requires.process;
      now = c.in-Some.ensures.awaited;
      owed = inl ((c.owed.ensures.growth H event waits run c.in-Some.channel).0 c.in-Some.is);
    }

pub returns-in-None : goal.returns-in-None
returns-in-None g c H event waits run =
    owes_at_stop c.args.network.now (H ++ event ∷ []) c.args.machine.now c.owed_at_stop.result run
    (c.owed.ensures.nothing H event waits run c.in-None.is) c.owed_at_stop.ensures.now c.owed_at_stop.ensures.growth
    c.owed_at_stop.ensures.nothing c.owed_at_stop.ensures.awaited
