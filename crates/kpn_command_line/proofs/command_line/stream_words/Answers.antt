-- One word after the other is added.
use Rattle.kpn_command_line.specs.CommandLine.{take_option, commits_option, trace_option, quiet_flag, stats_flag, stop_flag, stream_ends}
use Rattle.kpn_command_line.proofs.command_line.stream_words.Goals as goal

pub returns : goal.returns
returns c =
    let two = c.and-words.ensures stream_ends take_option c.stream_ends.ensures c.count.ensures in
    let three = c.and-words-2.ensures _ commits_option two c.count-2.ensures in
    let four = c.and-words-3.ensures _ trace_option three c.option.ensures in
    let five = c.and-words-4.ensures _ quiet_flag four c.flag.ensures in
    let six = c.and-words-5.ensures _ stats_flag five c.stats_word.ensures in
    c.and.ensures _ stop_flag six c.flag-2.ensures
