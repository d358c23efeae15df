-- One word after the other is added.
use Rattle.kpn_command_line.proofs.Common.{codes, new_app, file_word, rounds_word, source_option}
use Rattle.kpn_command_line.proofs.Adding.{word_added}
use Rattle.kpn_command_line.proofs.command_line.rounds_words.Goals as goal

pub returns : goal.returns
returns c =
    let one = word_added (new_app (codes "rounds")) file_word c.command.result c.file_word.result c.command.ensures
    c.file_word.ensures c.arg-words.result c.arg-words.ensures in
    let two = c.and-words.ensures _ rounds_word one c.rounds_word.ensures in
    c.and.ensures _ source_option two c.source_word.ensures
