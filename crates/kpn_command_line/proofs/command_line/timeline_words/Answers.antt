-- One word after the other is added.
use Rattle.kpn_command_line.specs.CommandLine.{svg_flag, from_option, to_option, timeline_inputs}
use Rattle.kpn_command_line.proofs.command_line.timeline_words.Goals as goal

pub returns : goal.returns
returns c =
    let two = c.and-words.ensures timeline_inputs svg_flag c.timeline_inputs.ensures c.svg_word.ensures in
    let three = c.and-words-2.ensures _ from_option two c.from_word.ensures in
    c.and.ensures _ to_option three c.to_word.ensures
