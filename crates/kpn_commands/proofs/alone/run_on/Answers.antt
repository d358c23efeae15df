-- So few items never pause a process, and then it puts the plain values.
use Rattle.kpn_commands.proofs.Common.{rules, ◌^◌, ◌-◌, [], ◌∷◌, arith, AloneGives, built_in_program}
use Rattle.kpn_commands.proofs.Plain.{puts_plainly}
use Rattle.kpn_commands.proofs.Pauses.{never_paused}
use Rattle.kpn_commands.proofs.alone.run_on.Goals as goal

pub returns-clause-plain : goal.returns-clause-plain
returns-clause-plain c =
    let process = c.args.process in
    let items = c.args.items.items in
    let run = c.in_ok-alone.field-0 in
    let gives : AloneGives (built_in_program process) [] (items ∷ []) (2 ^ 64 - 1) run.talk run.stop = search rules in
    puts_plainly process items (2 ^ 64 - 1) run.talk run.stop gives
    (never_paused process items (2 ^ 64 - 1) run.talk run.stop gives
    (omega (arith, c.args.items.ok.0, c.requires)))
