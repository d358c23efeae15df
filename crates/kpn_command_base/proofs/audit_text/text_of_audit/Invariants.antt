-- What is written so far and the lines that are still to come are the whole text.
use Rattle.kpn_command_base.proofs.Common.{◌≡◌, ◌++◌, drop, string_bytes, lines_from}
use Rattle.kpn_command_base.specs.AuditText.{channel_line, audit_text}
use Rattle.kpn_command_base.proofs.audit_text.text_of_audit.Given as goal

abbrev pub invariant-loop-channel : goal.invariant-loop-channel
invariant-loop-channel l =
    let names = l.document.names.channels in
    string_bytes l.text ++ lines_from (channel_line names l.audit.caps) l.channel (drop l.channel l.audit.journals)
    ≡ audit_text names l.audit
