-- One part more is loaded, or refused, or has a flaw.
use Rattle.std.proofs.Common.{◌≡◌, ◌<◌, ◌+◌, ◌*◌, ◌/◌, false, length, rules}
use Rattle.std.specs.Prelude.{is_some}
use Rattle.kpn_commands.proofs.Joins.{part_refused, flaw_told, part_loaded, none_gives}
use Rattle.kpn_commands.proofs.join.load_parts.Goals as goal

pub returns-in_err-flawed-clause-refused : goal.returns-in_err-flawed-clause-refused
returns-in_err-flawed-clause-refused g c =
    let words = c.args.words.now in
    let there : c.loop-r.r < length words / 2 = search rules in
    let inside : 2 * c.loop-r.r + 1 < length words = search rules in
    part_refused (g.S.Shelf.may_give c.args.shelf.now) words c.loop-r.r there inside c.from_residual.result (search rules)

pub returns-then-is_some-clause-flawed : goal.returns-then-is_some-clause-flawed
returns-then-is_some-clause-flawed g c =
    let words = c.args.words.now in
    let there : c.loop-r.r < length words / 2 = search rules in
    let inside : 2 * c.loop-r.r + 1 < length words = search rules in
    flaw_told (g.S.Shelf.may_give c.args.shelf.now) words c.loop-r.r there inside c.args.steps c.in_ok-flawed.flawed
    c.in_ok-flawed.ensures.flawed

pub loop-r-preserved : goal.loop-r-preserved
loop-r-preserved g c =
    let words = c.args.words.now in
    let there : c.loop-r.r < length words / 2 = search rules in
    let inside : 2 * c.loop-r.r + 1 < length words = search rules in
    let nothing : is_some c.in_ok-flawed.flawed ≡ false = search rules in
    part_loaded (g.S.Shelf.may_give c.args.shelf.now) words c.loop-r.r there inside c.loop-r.loaded
    c.load_part.new.loaded c.loop-r.invariant (none_gives c.in_ok-flawed.flawed _ nothing c.in_ok-flawed.ensures.loaded)
