-- One word after the other is added.
use Rattle.kpn_command_line.specs.CommandLine.{take_option, commits_option, trace_option, quiet_flag, strict_flag, run_inputs}
use Rattle.kpn_command_line.proofs.command_line.run_words.Goals as goal

pub returns : goal.returns
returns c =
    let two = c.and-words.ensures run_inputs take_option c.run_inputs.ensures c.count.ensures in
    let three = c.and-words-2.ensures _ commits_option two c.count-2.ensures in
    let four = c.and-words-3.ensures _ trace_option three c.option.ensures in
    let five = c.and-words-4.ensures _ quiet_flag four c.flag.ensures in
    c.and.ensures _ strict_flag five c.flag-2.ensures
