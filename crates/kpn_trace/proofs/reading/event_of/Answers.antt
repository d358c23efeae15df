-- A line without a space, or whose first word is no kind, spells nothing; else it is its kind and its parts.
use Rattle.std.proofs.Common.{sym, ◌∙◌}
use Rattle.kpn_trace.proofs.Lines.{no_kind, read_of_kind}
use Rattle.kpn_trace.proofs.reading.event_of.Goals as goal

pub returns-in_err-kind : goal.returns-in_err-kind
returns-in_err-kind c =
    rw c.from_residual-in_err-kind.ensures
    (λ event spells.
    no_kind c.args.version c.args.line.now c.in_ok-word.word.now c.in_ok-word.parts.now event c.in_ok-word.ensures.0
    c.in_ok-word.ensures.1 (sym c.named.ensures ∙ c.in_err-kind.was) spells)

pub returns : goal.returns
returns c =
    read_of_kind c.args.version c.args.line.now c.in_ok-word.word.now c.in_ok-word.parts.now c.in_ok-kind.kind
    c.event_of_kind.result
    c.in_ok-word.ensures.0 c.in_ok-word.ensures.1 (sym c.named.ensures ∙ c.in_ok-kind.was) c.event_of_kind.ensures
