-- An end that was named before, or not.
use Rattle.kpn_command_base.proofs.SourceLemmas.{named_before, named_now}
use Rattle.std.proofs.Common.{sym, ◌∙◌}
use Rattle.kpn_command_base.proofs.sources.end_of.Goals as goal

pub returns-then-is_named-clause-number : goal.returns-then-is_named-clause-number
returns-then-is_named-clause-number c =
    named_before (λ e. e.number) c.args.before.now c.in-Some.number _ c.in-Some.ensures.number
    (sym c.is_named.ensures ∙ c.if-is_named.true)

pub returns-clause-number : goal.returns-clause-number
returns-clause-number c =
    named_now (λ e. e.number) c.args.before.now c.in-Some.number _ c.in-Some.ensures.number
    (sym c.is_named.ensures ∙ c.if-is_named.false)
