use Rattle.std.proofs.Common.{refl}
use Rattle.kpn_stream.proofs.Moments.{taken_if_left}
use Rattle.kpn_stream.proofs.taking.ending_if_left.Goals as goal

pub returns-in-Some-clause-well : goal.returns-in-Some-clause-well
returns-in-Some-clause-well c = record {
  no_sink = refl;
  no_source = refl;
  ending = (
    c.in-Some.ensures,
    taken_if_left c.args.book.now.tables c.args.book.now.history (c.are_left.ensures c.if-not-are_left.false),
  );
}

pub returns-in-Some-clause-left : goal.returns-in-Some-clause-left
returns-in-Some-clause-left c = λ _. c.are_left.ensures c.if-not-are_left.false

pub returns-in-None-clause-well : goal.returns-in-None-clause-well
returns-in-None-clause-well c =
    let left = c.are_left.ensures c.if-not-are_left.false in
    record {
      no_sink = refl;
      no_source = refl;
      ending = ((c.requires.sink, left, c.in-None.ensures), taken_if_left c.args.book.now.tables c.args.book.now.history left);
    }

pub returns-in-None-clause-left : goal.returns-in-None-clause-left
returns-in-None-clause-left c = λ _. c.are_left.ensures c.if-not-are_left.false
