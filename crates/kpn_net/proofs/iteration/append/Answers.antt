use Rattle.std.proofs.Common.{length, ◌∙◌, rules, w64}
use mir.Val.{SFits}
use Rattle.std.proofs.lemmas.Int.{to_z-of_z}
use Rattle.kpn_net.proofs.RoundLemmas.{lists-put_at, lists-got_at, port_below}
use Rattle.kpn_net.proofs.iteration.append.Goals.{in-Put+in_ok-push, in_default}
use Rattle.kpn_net.proofs.iteration.append.Goals as goal

pub loop-said-preserved : goal.loop-said-preserved
loop-said-preserved c = λ so_far e.
    elim c.match-said.branch [
      | in-Put+in_ok-push w ↦
          let fits : SFits w64 w.in-Put.item = search rules in
          let pushed = simp to_z-of_z at w.in_ok-push.ensures.items in
          let port =
          port_below (length c.args.outs.now) c.args.talk.now c.requires.ports c.loop-said.said-index w.in-Put.port
          w.in-Put.item _ c.loop-said-test.true w.in-Put.is in
          w.lists-is
          ∙ lists-put_at c.loop-said.lists (length c.args.lists.now) so_far c.args.outs.now c.args.talk.now
          c.loop-said.said-index w.in-Put.port w.in-Put.item _ w.push.new.self _
          (c.loop-said.invariant so_far e) c.loop-said-test.true w.in-Put.is
          (c.requires.channels w.in-Put.port 0 port) pushed
      | in_default w ↦
          w.lists-is
          ∙ lists-got_at c.loop-said.lists (length c.args.lists.now) so_far c.args.outs.now c.args.talk.now
          c.loop-said.said-index _
          (c.loop-said.invariant so_far e) c.loop-said-test.true w.in_default.not-Put
    ]
