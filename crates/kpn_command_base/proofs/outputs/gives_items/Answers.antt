-- The file that the word names stands after its first `=`.
use Rattle.kpn_command_base.proofs.Common.{rules, ◌≡◌, ◌≢◌, subst, IfOk-weaker, file_in}
use Rattle.kpn_command_base.proofs.outputs.gives_items.Goals as goal

pub returns-in-Some-clause-apart : goal.returns-in-Some-clause-apart
returns-in-Some-clause-apart g c =
    let file : c.in-Some.file.now ≡ file_in c.args.word.now = search rules in
    IfOk-weaker c.is_input.result _ _
    (λ gives apart same has. subst (λ f. c.args.name.now ≢ f) file (apart same)) c.is_input.ensures.apart
