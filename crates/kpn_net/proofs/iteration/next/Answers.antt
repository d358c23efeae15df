use Rattle.kpn_net.proofs.Common.{◌≡◌, ◌++◌, length, sym, ap, ◌∙◌, arith, take_at, first_round, given_by}
use Rattle.kpn_net.proofs.RoundLemmas.{put_by_first, family_of, lists_of-family_of, length-lists_of, one_process_more, all_processes}
use Rattle.kpn_net.proofs.iteration.next.Goals as goal

pub put_out-requires-clause-lists : goal.put_out-requires-clause-lists
put_out-requires-clause-lists c =
    let t = c.args.network.now in
    ap length c.deref_mut.ensures.value
    ∙ length-lists_of t _ c.loop-p.lists.items
    (c.loop-p.invariant (family_of c.args.before.now) (lists_of-family_of t c.args.before.now c.requires.before))

pub loop-p-preserved : goal.loop-p-preserved
loop-p-preserved c = λ family e.
    let t = c.args.network.now in
    let given = given_by t c.args.given.now in
    let long : length c.put_out.new.lists ≡ c.loop-p.lists.len =
    c.put_out.auto.lists ∙ ap length c.deref_mut.ensures.value ∙ sym c.loop-p.lists.ok.0 in
    take_at c.put_out.new.lists _ c.loop-p.lists.len long
    ∙ one_process_more t c.args.turns family (first_round t given) c.loop-p.p c.put_out.new.lists
    (c.in_ok-put_out.ensures family (λ d. first_round t given d ++ put_by_first t c.args.turns family d c.loop-p.p) e
    (c.deref_mut.ensures.value ∙ c.loop-p.invariant family e))

pub returns : goal.returns
returns c = λ family e.
    let t = c.args.network.now in
    let end : c.loop-p.p ≡ length t.instances = omega (arith, c.instances-p-end.ensures) in
    all_processes t c.known.ensures (given_by t c.args.given.now) c.args.turns family c.loop-p.p c.loop-p.lists.items
    end (c.loop-p.invariant family e)
