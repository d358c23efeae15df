-- What is written so far and the lines that are still to come are the whole.
use Rattle.kpn_command_base.proofs.Common.{◌≡◌, ◌++◌, drop, string_bytes, fault_text, state_lines}
use Rattle.kpn_command_base.proofs.report_text.push_faults.Given as goal

abbrev pub invariant-loop-process : goal.invariant-loop-process
invariant-loop-process l =
    let names = l.document.names.instances in
    string_bytes l.text ++ state_lines fault_text names l.process (drop l.process l.states)
    ≡ string_bytes l.initial.text ++ state_lines fault_text names 0 l.states
