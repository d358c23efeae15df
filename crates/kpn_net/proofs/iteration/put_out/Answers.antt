use Rattle.kpn_net.proofs.Common.{◌≡◌, ◌++◌, map, length, sym, ap, ◌∙◌, range_with_len, IfOk-weaker, out_of, lists_of}
use Rattle.kpn_net.proofs.Networks.{IsInstance-of}
use Rattle.kpn_net.proofs.RoundLemmas.{appended}
use Rattle.kpn_net.proofs.iteration.put_out.Goals as goal

pub append-requires-clause-channels : goal.append-requires-clause-channels
append-requires-clause-channels c =
    let is = IsInstance-of c.args.network.now c.known.ensures c.args.p c.requires.process in
    λ k d. rw (c.outs.ensures, c.requires.lists) (is.channels.outs.each k d)

pub returns : goal.returns
returns c = λ family so_far e f.
    let t = c.args.network.now in
    IfOk-weaker c.append.result _
    (λ _. c.append.new.lists ≡ lists_of t (λ d. so_far d ++ out_of t c.args.p c.args.turns family d))
    (λ _ l.
    appended t c.args.p c.args.turns family so_far c.outs.result.now c.talk.result.now (length c.args.lists.now)
    c.append.new.lists
    c.outs.ensures (c.talk.ensures ∙ ap (λ r. r.talk) (c.in_ok-run.ensures.ran family e)) c.requires.lists l)
    (c.append.ensures so_far (f ∙ ap (λ m. map so_far (range_with_len 0 m)) (sym c.requires.lists)))
