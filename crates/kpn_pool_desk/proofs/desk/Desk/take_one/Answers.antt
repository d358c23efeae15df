use Rattle.kpn_pool_desk.proofs.Keeping.{takes, still_desk}
use Rattle.kpn_pool_desk.proofs.desk.Desk.take_one.Goals as goal

pub invariant_of-self-2 : goal.invariant_of-self-2
invariant_of-self-2 g c =
    still_desk c.self.invariant c.take.new.self c.known.ensures
    (takes c.args.c c.in-Ok-Some.field-0 c.self.inside.book c.take.new.self c.in-Ok-Some.ensures.done.takes)
