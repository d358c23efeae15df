-- The trace is stored under the name that was asked for.
use Rattle.kpn_command_stream.proofs.Common.{◌≡◌, ◌∙◌, ℕ, List, Option, Some, option_map, sym, ap, subst, IsTraceKept}
use Rattle.kpn_command_stream.proofs.concluding.keep_trace.Goals as goal

pub returns : goal.returns
returns g c =
    let asked : c.args.request.now.trace ≡ Some c.in-Some.name.now =
    sym (ap (λ r. r.trace) c.request.view_is) ∙ ap (option_map (λ name. name.now)) c.in-Some.is in
    subst
    (λ (trace : Option (List ℕ)).
    IsTraceKept g.S.Shelf.may_give trace c.args.network.now c.args.over.now c.args.shelf.now c.store_trace.new.shelf
    c.store_trace.result) (sym asked)
    (c.store_trace.ensures.stores, c.store_trace.ensures.readable)
