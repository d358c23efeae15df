-- One command after the other is added.
use Rattle.kpn_command_line.proofs.Common.{alone_words, check_words, explain_words, print_words, draw_words, rounds_words, run_words, stream_words, audit_words, join_words, stats_words, timeline_words, bare_command_line}
use Rattle.kpn_command_line.proofs.command_line.program.Goals as goal

pub returns : goal.returns
returns c =
    let bare = c.bare_program.ensures in
    let with_alone = c.with-program.ensures bare_command_line alone_words bare c.alone_words.ensures in
    let with_check = c.with-program-2.ensures _ check_words with_alone c.check_words.ensures in
    let with_explain = c.with-program-3.ensures _ explain_words with_check c.explain_words.ensures in
    let with_print = c.with-program-4.ensures _ print_words with_explain c.print_words.ensures in
    let with_draw = c.with-program-5.ensures _ draw_words with_print c.draw_words.ensures in
    let with_rounds = c.with-program-6.ensures _ rounds_words with_draw c.rounds_words.ensures in
    let with_run = c.with-program-7.ensures _ run_words with_rounds c.run_words.ensures in
    let with_stream = c.with-program-8.ensures _ stream_words with_run c.stream_words.ensures in
    let with_audit = c.with-program-9.ensures _ audit_words with_stream c.audit_words.ensures in
    let with_join = c.with-program-10.ensures _ join_words with_audit c.join_words.ensures in
    let with_stats = c.with-program-11.ensures _ stats_words with_join c.stats_words.ensures in
    c.with.ensures _ timeline_words with_stats c.timeline_words.ensures
