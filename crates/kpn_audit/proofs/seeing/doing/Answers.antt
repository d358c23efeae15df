-- A process that is free makes steps, and is between two of them if it has used them up.
use Rattle.kpn_audit.proofs.Common.{subst, rules, frame_in, IsFree, Stands}
use Rattle.kpn_audit.proofs.Replaying.{out_of_steps}
use Rattle.kpn_audit.proofs.seeing.doing.Goals as goal

pub at_stop-requires-clause-free : goal.at_stop-requires-clause-free
at_stop-requires-clause-free g c =
    let free : IsFree c.args.machine.now c.args.p = record { lives = search rules; free = search rules } in
    c.step_on-stop.ensures.free free

pub returns-in-Nobody-clause-doing : goal.returns-in-Nobody-clause-doing
returns-in-Nobody-clause-doing g c H event run nothing places own numbers =
    let t = c.args.network.now in
    let s = c.args.machine.now in
    let p = c.args.p in
    let after = c.step_on-stop.new.machine in
    let free : IsFree s p = record { lives = search rules; free = search rules } in
    c.at_stop.ensures H event c.args.quota
    (λ paused.
    out_of_steps t c.known.ensures H s run nothing places event c.args.quota p c.requires.process own numbers free
    (frame_in after p) (c.step_on-stop.ensures.paused paused)
    (subst (λ stop. Stands t after p stop) paused c.step_on-stop.ensures.stands))
