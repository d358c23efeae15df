use Rattle.std.proofs.Common.{◌∙◌, sym}
use Rattle.kpn_book.proofs.Waiting.{first_waits}
use Rattle.kpn_book.proofs.schedule.Schedule.next.Goals as goal

pub returns : goal.returns
returns g c =
    rw (← c.self.view_is)
    (c.first.ensures ∙ sym (first_waits c.self.inside.queue.numbers.items c.self.inside.queue.taken))
