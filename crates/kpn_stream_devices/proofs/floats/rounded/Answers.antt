-- The rest is compared with half of the unit.
use Rattle.std.proofs.Common.{arith}
use Rattle.kpn_stream_devices.proofs.Rounding.{unit_is, rest_is, up_is, even_is, down_is}
use Rattle.kpn_stream_devices.proofs.floats.rounded.Goals as goal

pub returns-then-unit-rest : goal.returns-then-unit-rest
returns-then-unit-rest c =
    let unit = unit_is c.args.power c.requires.power in
    up_is c.args.number c.args.power _ _ unit (rest_is c.args.number c.args.power _ unit) c.if-unit-rest.true

pub returns-then-rest-unit : goal.returns-then-rest-unit
returns-then-rest-unit c =
    let unit = unit_is c.args.power c.requires.power in
    even_is c.args.number c.args.power _ _ unit (rest_is c.args.number c.args.power _ unit) c.if-rest-unit.true

pub returns-else-rest-unit : goal.returns-else-rest-unit
returns-else-rest-unit c =
    let unit = unit_is c.args.power c.requires.power in
    down_is c.args.number c.args.power _ _ unit (rest_is c.args.number c.args.power _ unit)
    (omega (arith, c.if-unit-rest.false, c.if-rest-unit.false))
