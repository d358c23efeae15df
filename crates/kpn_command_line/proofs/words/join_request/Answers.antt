-- The words of parts are in pairs, or the words ask for nothing.
use Rattle.kpn_command_line.proofs.Common.{rules, rows_in}
use Rattle.kpn_command_line.proofs.Nothing.{no_pairs, usage_if}
use Rattle.kpn_command_line.proofs.words.join_request.Goals as goal

pub returns : goal.returns
returns c =
    usage_if _ c.unclear.result
    (no_pairs (rows_in c.args.join.now) c.in_ok-parts.parts.items c.in_ok-parts.ensures (λ even. absurd (search rules)))
