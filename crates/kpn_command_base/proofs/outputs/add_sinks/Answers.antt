-- The file of one more sink joins the outputs, or it is refused.
use Rattle.std.proofs.Common.{rules, ◌++◌, ◌∷◌, [], ℕ, List, IfErr, map, take, get_or, ap, sym, ◌∙◌, append_assoc, arith}
use Rattle.kpn_command_base.proofs.Common.{map_more, IfErr-weaker, FileOption, Refusal, SinkWord, IsRefusalOfOutput}
use Rattle.kpn_command_base.proofs.Apart.{now, some_refused}
use Rattle.kpn_command_base.proofs.outputs.add_sinks.Goals as goal

file : FileOption → List ℕ
file o = o.file.now

one : FileOption
one = record { name = record { ref_ptr = (0, 0); now = [] }; file = record { ref_ptr = (0, 0); now = [] } }

pub returns-in_err-add_output-clause-refused : goal.returns-in_err-add_output-clause-refused
unfolding file one
returns-in_err-add_output-clause-refused g c =
    let may_alias = g.S.Shelf.may_alias c.args.shelf.now in
    let sinks = c.args.sinks.now in
    let i = c.loop-sink.sink-index in
    let outputs = map now c.loop-sink.outputs.items in
    let h : IfErr c.from_residual.result
    (λ (r : Refusal). IsRefusalOfOutput may_alias c.args.asked.now outputs (file (get_or sinks i one)) SinkWord r) =
    search rules in
    IfErr-weaker c.from_residual.result
    (λ (r : Refusal). IsRefusalOfOutput may_alias c.args.asked.now outputs (file (get_or sinks i one)) SinkWord r) _
    (some_refused may_alias c.args.asked.now file sinks i one (map now c.args.outputs.now.items) outputs
    (omega (arith, c.loop-sink-test.true)) c.loop-sink.invariant.added SinkWord)
    h

pub loop-sink-preserved : goal.loop-sink-preserved
unfolding file one
loop-sink-preserved g c =
    let sinks = c.args.sinks.now in
    let i = c.loop-sink.sink-index in
    let name = file (get_or sinks i one) in
    let first = map now c.args.outputs.now.items in
    record {
      added =
          c.in_ok-add_output.ensures.added
          ∙ ap (λ (names : List (List ℕ)). names ++ name ∷ []) c.loop-sink.invariant.added
          ∙ append_assoc first (map file (take i sinks)) (name ∷ [])
          ∙ ap (λ (names : List (List ℕ)). first ++ names)
          (sym (map_more file sinks i one (omega (arith, c.loop-sink-test.true))));
      apart = c.in_ok-add_output.ensures.apart;
    }
