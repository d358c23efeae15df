use Rattle.kpn_net.proofs.Common.{◌≡◌, sym, ap, ◌∙◌, subst, length, map, get_or, [], length-map, IfOk-weaker, Ran, instance_at, ran_on, NamesOutsBelow}
use Rattle.kpn_net.proofs.Networks.{IsInstance-of}
use Rattle.kpn_net.proofs.RoundLemmas.{same_alone, same_lists, NamesOutsBelow-alone}
use Rattle.kpn_net.proofs.iteration.run_on.Goals as goal

pub lists_at-requires : goal.lists_at-requires
lists_at-requires c =
    let is = IsInstance-of c.args.network.now c.known.ensures c.args.p c.requires.process in
    λ k d. rw (c.ins.ensures, c.requires.before) (is.channels.ins.each k d)

pub run_alone-requires-clause-pars : goal.run_alone-requires-clause-pars
run_alone-requires-clause-pars c =
    let is = IsInstance-of c.args.network.now c.known.ensures c.args.p c.requires.process in
    ap length c.pars.ensures ∙ is.pars ∙ sym (ap (λ parts. parts.pars) c.program.ensures)

pub run_alone-requires-clause-lists : goal.run_alone-requires-clause-lists
run_alone-requires-clause-lists c =
    let is = IsInstance-of c.args.network.now c.known.ensures c.args.p c.requires.process in
    ap length (c.deref.ensures.value ∙ c.in_ok-ins.ensures)
    ∙ length-map c.ins.result.now (λ d. get_or c.args.before.now d [])
    ∙ ap length c.ins.ensures ∙ is.ins ∙ sym (ap (λ parts. parts.ins) c.program.ensures)

pub returns-clause-ran : goal.returns-clause-ran
returns-clause-ran c = λ family e.
    let t = c.args.network.now in
    let is = IsInstance-of t c.known.ensures c.args.p c.requires.process in
    IfOk-weaker c.run_alone.result _ (λ run. run ≡ ran_on t c.args.p c.args.turns family)
    (λ run h. h ∙ same_alone _ _ _ _ c.args.turns _ _ c.program.ensures c.pars.ensures
    (c.deref.ensures.value ∙ c.in_ok-ins.ensures ∙ ap (map (λ d. get_or c.args.before.now d [])) c.ins.ensures
    ∙ same_lists t family c.args.before.now e (instance_at t c.args.p).ins is.channels.ins))
    c.run_alone.ensures

pub returns-clause-ports : goal.returns-clause-ports
returns-clause-ports c =
    let t = c.args.network.now in
    let outs = (instance_at t c.args.p).outs in
    IfOk-weaker c.run_alone.result _ (λ run. NamesOutsBelow (length outs) run.talk)
    (λ run h. subst (λ (ran : Ran). NamesOutsBelow (length outs) ran.talk) (sym h)
    (NamesOutsBelow-alone t c.known.ensures c.args.p c.requires.process c.program.result.now c.program.ensures
    c.pars.result.now c.args.turns c.deref.result.now))
    c.run_alone.ensures
