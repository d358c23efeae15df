-- Bytes whose first line names no version, or whose second line names no policy and growth, begin with no head.
use Rattle.kpn_trace.proofs.Common.{ap, ◌∙◌, version_line}
use Rattle.kpn_trace.proofs.Traces.{no_version, no_rules}
use Rattle.kpn_trace.proofs.head.head_before.Goals as goal

pub returns-in_err-version : goal.returns-in_err-version
returns-in_err-version c =
    rw c.from_residual-in_err-version.ensures
    (no_version c.args.bytes.now c.in_ok-line.line.now c.in_ok-line.rest.now c.in_ok-line.ensures.0
    c.in_ok-line.ensures.1 c.in_err-version.ensures)

pub returns-in_err-policy-in-Two : goal.returns-in_err-policy-in-Two
returns-in_err-policy-in-Two c =
    rw c.from_residual-in_err-policy-in-Two.ensures
    (no_rules c.args.bytes.now c.in_ok-line.line.now c.in_ok-line.rest.now c.in_ok-second-in-Two.second.now
    c.in_ok-second-in-Two.lines.now c.in_ok-line.ensures.0 c.in_ok-line.ensures.1
    (c.in_ok-version.ensures ∙ ap version_line c.in-Two.is) c.in_ok-second-in-Two.ensures.0
    c.in_ok-second-in-Two.ensures.1
    c.in_err-policy-in-Two.ensures)
