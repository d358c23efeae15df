use Rattle.kpn_audit.proofs.seeing.seen.Goals as goal

pub returns-in-Some : goal.returns-in-Some
returns-in-Some g c H run owes places =
    let numbers = c.has_numbers.ensures.0 c.if-not-has_numbers.false in
    let own = c.in-Some.ensures.own in
    record {
      by_itself = record { nothing_owed = owes; numbers = numbers };
      own = own;
      seen = c.doing.new.machine;
      run = c.doing.ensures.run H run;
      is_doing = c.doing.ensures.doing H c.args.event run owes places own numbers;
    }

pub returns-in-None : goal.returns-in-None
returns-in-None g c H run owes places = c.seen_outside.ensures H c.args.quota run owes
