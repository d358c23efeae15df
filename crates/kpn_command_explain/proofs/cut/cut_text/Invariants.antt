use Rattle.kpn_command_explain.proofs.Common.{◌≡◌, ◌++◌, codes, channels_cut}
use Rattle.kpn_command_base.specs.AuditText.{exact_line}
use Rattle.kpn_command_explain.proofs.cut.cut_text.Given as goal

abbrev pub invariant-loop-c : goal.invariant-loop-c
invariant-loop-c l =
    l.text.items ≡ codes "legal\n" ++ exact_line l.audit.exact ++ channels_cut l.document.names.channels l.audit l.c
