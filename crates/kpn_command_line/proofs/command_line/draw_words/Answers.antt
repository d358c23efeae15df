-- One word after the other is added.
use Rattle.kpn_command_line.proofs.Common.{codes, new_app, file_word, across_flag, optional_word}
use Rattle.kpn_command_line.proofs.Adding.{word_added}
use Rattle.kpn_command_line.proofs.command_line.draw_words.Goals as goal

pub returns : goal.returns
returns c =
    let one = word_added (new_app (codes "draw")) file_word c.command.result c.file_word.result c.command.ensures
    c.file_word.ensures c.arg-words.result c.arg-words.ensures in
    let two = c.and-words.ensures _ (optional_word (codes "TRACE")) one c.optional_word.ensures in
    c.and.ensures _ across_flag two c.across_word.ensures
