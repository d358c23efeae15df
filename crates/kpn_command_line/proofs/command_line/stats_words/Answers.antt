-- One word after the other is added.
use Rattle.kpn_command_line.proofs.Common.{codes, new_app, file_word, trace_word, steps_option, table_option}
use Rattle.kpn_command_line.proofs.Adding.{word_added}
use Rattle.kpn_command_line.proofs.command_line.stats_words.Goals as goal

pub returns : goal.returns
returns c =
    let one = word_added (new_app (codes "stats")) file_word c.command.result c.file_word.result c.command.ensures
    c.file_word.ensures c.arg-words.result c.arg-words.ensures in
    let two = c.and-words.ensures _ trace_word one c.trace_word.ensures in
    let three = c.and-words-2.ensures _ steps_option two c.steps_word.ensures in
    c.and.ensures _ table_option three c.option.ensures
