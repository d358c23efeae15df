-- What the stream has come to, and what is told of it.
use Rattle.std.proofs.Common.{Bool, subst, ap, rules}
use Rattle.kpn_command_stream.proofs.Common.{Limits, with_end, without_end}
use Rattle.kpn_command_stream.specs.Ending.{IsOver}
use Rattle.kpn_command_stream.proofs.concluding.conclude.Goals as goal

pub returns-in-Ok : goal.returns-in-Ok
returns-in-Ok g c =
    let done = c.conclude_over.ensures in
    let over =
    subst
    (λ (stats : Bool). IsOver c.limits_of.result stats c.args.streamed.ending c.args.streamed.book c.in-Ok.over)
    (ap (λ r. r.stats) c.request.view_is) c.in-Ok.ensures in
    with_end c.in-Ok.over
    (subst
    (λ (limits : Limits).
    IsOver limits c.args.request.now.stats c.args.streamed.ending c.args.streamed.book c.in-Ok.over) c.limits_of.ensures
    over)
    done.0 done.2 done.1 done.3 done.4

pub returns-in-Err : goal.returns-in-Err
returns-in-Err g c = without_end (search rules) c.conclude_untold.ensures
