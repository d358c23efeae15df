-- One list more remains after the others.
use Rattle.kpn_lang.proofs.Common.{[], arith, take_all, take_more, common_steps, remaining}
use Rattle.kpn_lang.proofs.Remaining.{length-remaining, list_at-remaining}
use Rattle.kpn_lang.proofs.plain.rest_of.Goals as goal

pub loop-port-preserved : goal.loop-port-preserved
loop-port-preserved c =
    let all = length-remaining c.args.lists.now c.args.places.now c.requires in
    let more = take_more (remaining c.args.lists.now c.args.places.now) c.loop-port.port [] (omega arith) in
    let one = list_at-remaining c.args.lists.now c.args.places.now c.loop-port.port c.requires in
    grind (arith, common_steps)

pub returns : goal.returns
returns c =
    let all = length-remaining c.args.lists.now c.args.places.now c.requires in
    let whole = take_all c.loop-port.port (remaining c.args.lists.now c.args.places.now) (omega arith) in
    cc
