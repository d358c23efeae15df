-- One word after the other is added.
use Rattle.kpn_command_line.proofs.Common.{codes, new_app, file_word, items_flag, steps_option, optional_word}
use Rattle.kpn_command_line.proofs.Adding.{word_added}
use Rattle.kpn_command_line.proofs.command_line.explain_words.Goals as goal

pub returns : goal.returns
returns c =
    let one = word_added (new_app (codes "explain")) file_word c.command.result c.word-file.result c.command.ensures
    c.word-file.ensures c.arg-words.result c.arg-words.ensures in
    let two = c.and-words.ensures _ (optional_word (codes "TRACE")) one c.optional_word.ensures in
    let three = c.and-words-2.ensures _ items_flag two c.items_word.ensures in
    c.and.ensures _ steps_option three c.steps_word.ensures
