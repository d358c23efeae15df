-- The inputs and outputs, and the run between them.
use Rattle.std.proofs.lemmas.Result.{IfOk-weaker}
use Rattle.kpn_command_stream.proofs.running.run.Goals as goal

pub returns-clause-ran : goal.returns-clause-ran
returns-clause-ran g c =
    IfOk-weaker c.run_between.result _ _
    (λ streamed ran. record {
      inputs = c.in_ok-inputs.inputs.items;
      are_inputs = c.in_ok-inputs.ensures.inputs;
      outputs = c.empty_outputs.new.outputs.items;
      are_outputs = c.in_ok-empty_outputs.ensures.outputs c.args.request.now c.in_ok-outputs.ensures.outputs;
      are_emptied = c.in_ok-empty_outputs.ensures.emptied;
      ran = ran;
    })
    c.run_between.ensures.ran
