-- It goes out whole, or there is a refusal.
use Rattle.std.proofs.Common.{refl}
use Rattle.kpn_cli.specs.Command.{whole, refused}
use Rattle.kpn_cli.proofs.program.tell_timeline.Goals as goal

pub returns-in-Ok : goal.returns-in-Ok
returns-in-Ok g c = whole c.in-Ok.ensures.ok refl

pub returns-in-Err : goal.returns-in-Err
returns-in-Err g c =
    refused c.in-Err.refusal c.in-Err.ensures.refused (c.report.ensures.told, c.report.ensures.status)
