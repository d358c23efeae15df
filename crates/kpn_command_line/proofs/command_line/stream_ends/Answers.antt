-- One word after the other is added.
use Rattle.kpn_command_line.proofs.Common.{codes, new_app, file_word, source_option, sink_option, format_option, clip_flag, rate_option, channels_option}
use Rattle.kpn_command_line.proofs.Adding.{word_added}
use Rattle.kpn_command_line.proofs.command_line.stream_ends.Goals as goal

pub returns : goal.returns
returns c =
    let one = word_added (new_app (codes "stream")) file_word c.command.result c.file_word.result c.command.ensures
    c.file_word.ensures c.arg-words.result c.arg-words.ensures in
    let two = c.and-words.ensures _ source_option one c.source_word.ensures in
    let three = c.and-words-2.ensures _ sink_option two c.sink_word.ensures in
    let four = c.and-words-3.ensures _ format_option three c.format_word.ensures in
    let five = c.and-words-4.ensures _ clip_flag four c.flag.ensures in
    let six = c.and-words-5.ensures _ rate_option five c.rate_word.ensures in
    c.and.ensures _ channels_option six c.channels_word.ensures
