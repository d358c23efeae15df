-- The residual of a frame at its start is the program alone.
use Rattle.kpn_step.proofs.Common.{rules, Frame}
use Rattle.kpn_step.proofs.Starts.{residual_start_of}
use Rattle.kpn_step.proofs.frame.Frame.try_start.Goals as goal

pub returns-clause-residual : goal.returns-clause-residual
returns-clause-residual c =
    let frame : Frame = record {
      outer = c.new.result.items;
      inner = c.new-2.result;
      variables =
          c.in_ok-try_start.field-0;
    } in
    λ n lists. residual_start_of c.args.program.now c.args.pars.now frame c.known.ensures (search rules) n lists
