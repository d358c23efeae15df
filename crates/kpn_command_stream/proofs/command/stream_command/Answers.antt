-- A stream, or a refusal that is reported.
use Rattle.kpn_command_stream.proofs.Common.{[], ◌∷◌, ◌++◌, subst, IsLineTold, refusal_text, streamed, refused}
use Rattle.kpn_command_stream.proofs.command.stream_command.Goals as goal

pub returns-in-Ok : goal.returns-in-Ok
returns-in-Ok g c = streamed c.in-Ok.ensures.streamed

pub returns-in-Err : goal.returns-in-Err
returns-in-Err g c =
    refused c.in-Err.refusal c.in-Err.ensures.cause c.in-Err.ensures.refused
    (subst (λ (err : g.row.E.Denot). IsLineTold (g.E.Write.contents err) (g.E.Write.contents c.report.new.err)
    (refusal_text c.in-Err.refusal ++ 10 ∷ [])) c.in-Err.ensures.untold c.report.ensures.told)
    c.report.ensures.status
