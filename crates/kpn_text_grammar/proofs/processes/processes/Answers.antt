-- One more round of the loop reads one thing more.
use Rattle.kpn_text_grammar.proofs.Common.{◌≡◌, ℕ, length, sym, ap, subst, ◌∙◌, arith, err_from_is_err_and, tokens_from, process_seen}
use Rattle.kpn_text_grammar.specs.Reading.{ReadingFails, numbered_process, processes}
use Rattle.kpn_text_grammar.proofs.ProcessLaws.{process_ones}
use Rattle.kpn_text_grammar.proofs.Readers.{shortens}
use Rattle.kpn_text_grammar.proofs.Rounds.{at_first, one_more, stops_here, fails_here, place_moves}
use Rattle.kpn_text_grammar.proofs.processes.processes.Goals as goal

pub processes-init : goal.processes-init
unfolding processes
processes-init c =
    at_first process_seen c.new-found.result.items (tokens_from c.args.source c.args.at) c.new-found.ensures.items

pub returns-in_err-process : goal.returns-in_err-process
returns-in_err-process c =
    let p = err_from_is_err_and c.from_residual.result c.from_residual.ensures.1 in
    let e = c.in_err-process.field-0.0 in
    let count : c.len.result ≡ length c.processes.found.items =
    omega (arith, c.processes.found.ok.0, c.len.ensures) in
    rw (p.1, p.2) (fails_here e c.processes.invariant (sym c.at_keyword.ensures ∙ c.processes-test.true)
    (subst (λ (k : ℕ). ReadingFails e (numbered_process c.args.source.scope k (tokens_from c.args.source c.processes.place))) count
    c.in_err-process.ensures))

pub processes-smaller : goal.processes-smaller
processes-smaller c =
    place_moves c.args.source.tokens.now c.processes.place c.in_ok-process.after
    (shortens (process_ones c.args.source.scope) c.len.result c.in_ok-process.ensures)

pub processes-preserved : goal.processes-preserved
processes-preserved c =
    let count : c.len.result ≡ length c.processes.found.items =
    omega (arith, c.processes.found.ok.0, c.len.ensures) in
    one_more process_seen c.processes.found.items c.in_ok-process.process c.processes.invariant (sym c.at_keyword.ensures ∙ c.processes-test.true)
    (ap (λ (k : ℕ). numbered_process c.args.source.scope k (tokens_from c.args.source c.processes.place)) (sym count)
    ∙ c.in_ok-process.ensures) (shortens (process_ones c.args.source.scope) c.len.result c.in_ok-process.ensures)
    c.in_ok-push.ensures.items

pub returns : goal.returns
returns c = stops_here c.processes.invariant (sym c.at_keyword.ensures ∙ c.processes-test.false)
