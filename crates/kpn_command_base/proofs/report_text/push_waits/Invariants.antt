-- What is written so far and the lines that are still to come are the whole.
use Rattle.kpn_command_base.proofs.Common.{◌≡◌, ◌++◌, drop, string_bytes, wait_text, state_lines}
use Rattle.kpn_command_base.proofs.report_text.push_waits.Given as goal

abbrev pub invariant-loop-process : goal.invariant-loop-process
invariant-loop-process l =
    let line = wait_text l.document.names.channels in
    let names = l.document.names.instances in
    string_bytes l.text ++ state_lines line names l.process (drop l.process l.states)
    ≡ string_bytes l.initial.text ++ state_lines line names 0 l.states
