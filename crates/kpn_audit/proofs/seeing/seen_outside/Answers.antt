use Rattle.kpn_audit.proofs.Asked.{growth_left}
use Rattle.kpn_audit.proofs.seeing.seen_outside.Goals as goal

pub returns-in_default : goal.returns-in_default
returns-in_default g c H quota run owes =
    let grows =
    growth_left c.args.event c.requires.outside c.in_default.not-Feed c.in_default.not-Close c.in_default.not-Take
    c.in_default.not-Leave in
    record {
      by_itself = record { nothing_owed = owes; numbers = c.requires.numbers };
      channel = grows.0;
      growth = grows.1;
    }
