-- One more file is read, or refused.
use Rattle.kpn_command_base.proofs.Common.{rules, List, ℕ, IfErr, ◌∙◌, arith, get_or, [], length-set, IfErr-weaker, NamedEnd, IsRefusalOfFile}
use Rattle.kpn_command_base.proofs.SourceLemmas.{given_more, file_refused}
use Rattle.kpn_command_base.proofs.sources.lists_of.Goals as goal

pub returns-in_err-lists-2-clause-refused : goal.returns-in_err-lists-2-clause-refused
returns-in_err-lists-2-clause-refused g c =
    let may_give = g.S.Shelf.may_give c.args.shelf.now in
    let number : NamedEnd → ℕ = λ e. e.number in
    let file : NamedEnd → List ℕ = λ e. e.file.now in
    let i = c.loop-end.end-index in
    let one : NamedEnd = record { number = 0; file = record { ref_ptr = (0, 0); now = [] } } in
    let h : IfErr c.from_residual-in_err-lists-2.result
    (λ r. IsRefusalOfFile may_give (file (get_or c.args.named.now i one)) r) = search rules in
    IfErr-weaker c.from_residual-in_err-lists-2.result
    (λ r. IsRefusalOfFile may_give (file (get_or c.args.named.now i one)) r) _
    (λ r n.
    file_refused number file may_give c.args.count c.args.named.now i one c.loop-end.lists.items
    (omega (arith, c.loop-end-test.true)) c.loop-end.invariant.given r n)
    h

pub loop-end-preserved : goal.loop-end-preserved
loop-end-preserved g c = record {
  given =
      given_more (λ e. e.number) (λ e. e.file.now) (g.S.Shelf.may_give c.args.shelf.now) c.args.count c.args.named.now
      c.loop-end.end-index _ c.loop-end.lists.items
      (omega (arith, c.loop-end-test.true)) c.loop-end.invariant.given c.in_ok-lists-2.field-0
      c.in_ok-lists-2.ensures.ok;
  length = length-set c.loop-end.lists.items _ _ ∙ c.loop-end.invariant.length;
}
