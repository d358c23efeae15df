-- One word after the other is added.
use Rattle.kpn_command_line.proofs.Common.{codes, new_app, file_word, source_option, sink_option, workers_option}
use Rattle.kpn_command_line.proofs.Adding.{word_added}
use Rattle.kpn_command_line.proofs.command_line.run_inputs.Goals as goal

pub returns : goal.returns
returns c =
    let one = word_added (new_app (codes "run")) file_word c.command.result c.file_word.result c.command.ensures
    c.file_word.ensures c.arg-words.result c.arg-words.ensures in
    let two = c.and-words.ensures _ source_option one c.source_word.ensures in
    let three = c.and-words-2.ensures _ sink_option two c.sink_word.ensures in
    c.and.ensures _ workers_option three c.workers_word.ensures
