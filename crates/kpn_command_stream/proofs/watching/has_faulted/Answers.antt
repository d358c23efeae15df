-- One process more.
use Rattle.kpn_command_stream.proofs.Common.{◌<◌, ◌≤◌, length, sym, ◌∙◌, ap, arith, rules, is_faulted}
use Rattle.kpn_command_stream.proofs.Faulting.{not_faulted_more}
use Rattle.kpn_command_stream.proofs.watching.has_faulted.Goals as goal

pub loop-p-preserved : goal.loop-p-preserved
loop-p-preserved c =
    not_faulted_more c.args.book.now c.loop-p.p c.loop-p.invariant
    (sym (ap is_faulted c.state.ensures) ∙ sym c.is_faulted.ensures ∙ c.if-is_faulted.false)

pub returns-then-is_faulted-clause-faulted : goal.returns-then-is_faulted-clause-faulted
returns-then-is_faulted-clause-faulted c = λ _.
    let below : c.loop-p.p < length c.args.book.now.tables.instances = search rules in
    (c.loop-p.p, below, sym (ap is_faulted c.state.ensures) ∙ sym c.is_faulted.ensures ∙ c.if-is_faulted.true)

pub returns-clause-none : goal.returns-clause-none
returns-clause-none c = λ none q below.
    let past : length c.args.book.now.tables.instances ≤ c.loop-p.p = search rules in
    c.loop-p.invariant q (omega (arith, below, past))
