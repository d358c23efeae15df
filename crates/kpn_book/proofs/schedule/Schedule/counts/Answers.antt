use Rattle.kpn_book.proofs.schedule.Schedule.counts.Goals as goal

pub len-requires : goal.len-requires
len-requires g c = c.self.invariant.1.0.taken
