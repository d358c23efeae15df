-- The summary that was made is told.
use Rattle.std.proofs.Common.{◌≡◌, Bool, false, rules, sym, subst}
use Rattle.kpn_command_stream.proofs.Common.{string_bytes, IsSummaryMade, summary_with}
use Rattle.kpn_command_stream.proofs.Ended.{text_told}
use Rattle.kpn_command_stream.proofs.concluding.tell_summary.Goals as goal

pub returns : goal.returns
returns g c = λ yes.
    let summary = summary_with c.args.document.now c.args.over.now in
    let loud : c.args.request.now.quiet ≡ false = search rules in
    subst
    (λ (quiet : Bool). IsSummaryMade g.E.Write.contents quiet c.args.ends summary c.args.err.now c.write_text.new.err)
    (sym loud)
    (text_told g.E.Write.contents string_bytes c.args.ends c.summary_with-summary.result summary c.args.err.now
    c.write_text.new.err c.summary_with-summary.ensures (c.write_text.ensures yes))
