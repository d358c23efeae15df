-- The one file spells the document, and the other gives the bytes.
use Rattle.kpn_command_explain.proofs.Common.{List, ℕ, Ok, inr, sym, subst, IfOk-weaker, IfErr-weaker}
use Rattle.kpn_command_explain.proofs.Conclusions.{is_refusal}
use Rattle.kpn_command_explain.proofs.trace.explain_trace_command.Goals as goal

pub returns-in-Ok-clause-ok : goal.returns-in-Ok-clause-ok
returns-in-Ok-clause-ok g c =
    IfOk-weaker c.explanation.result _ _
    (λ made explained. (
      record {
        document = c.in_ok-document.document;
        described = c.in_ok-document.ensures.ok;
        bytes = c.deref.result.now;
        loaded = subst (λ (bytes : List ℕ). g.S.Shelf.may_give c.args.shelf.now c.args.trace.now (Ok bytes))
            (sym c.deref.ensures.value) c.in-Ok.ensures.given;
        explained = explained.0;
      },
      explained.1,
    ))
    c.explanation.ensures.ok

pub returns-in-Ok-clause-refused : goal.returns-in-Ok-clause-refused
returns-in-Ok-clause-refused g c =
    IfErr-weaker c.explanation.result _ _
    (is_refusal (g.S.Shelf.may_give c.args.shelf.now) c.args.file.now c.args.trace.now c.in_ok-document.document
    c.in_ok-document.ensures.ok c.deref.result.now
    (subst (λ (bytes : List ℕ). g.S.Shelf.may_give c.args.shelf.now c.args.trace.now (Ok bytes))
    (sym c.deref.ensures.value) c.in-Ok.ensures.given))
    c.explanation.ensures.refused

pub returns-clause-refused : goal.returns-clause-refused
returns-clause-refused g c =
    inr ((c.in_ok-document.document, c.in_ok-document.ensures.ok), c.in-Err.ensures.refused)
