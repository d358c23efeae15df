-- It is asked for or not, and a process has faulted or none; or the trace is too long.
use Rattle.kpn_command_stream.proofs.Common.{◌∙◌, sym, inl, inr, false≢true}
use Rattle.kpn_command_stream.proofs.watching.is_to_end.Goals as goal

pub returns-then-is_too_long : goal.returns-then-is_too_long
returns-then-is_too_long c = record {
  cause = λ ends. inr (c.is_too_long.ensures.long c.if-is_too_long.true);
  none = λ goes_on. absurd (false≢true (sym goes_on));
  short = λ goes_on. absurd (false≢true (sym goes_on));
}

pub returns-then-not-stops : goal.returns-then-not-stops
returns-then-not-stops c = record {
  cause = λ ends. absurd (false≢true ends);
  none = λ goes_on stops. absurd (false≢true (sym c.if-not-stops.true ∙ stops));
  short = λ goes_on. c.is_too_long.ensures.short c.if-is_too_long.false;
}

pub returns : goal.returns
returns c = record {
  cause = λ ends. inl (c.if-not-stops.false, c.has_faulted.ensures.faulted ends);
  none = λ goes_on stops. c.has_faulted.ensures.none goes_on;
  short = λ goes_on. c.is_too_long.ensures.short c.if-is_too_long.false;
}
