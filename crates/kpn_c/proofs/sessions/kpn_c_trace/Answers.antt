-- A session that keeps its trace tells it, or memory ran out.
use Rattle.kpn_c.proofs.Common.{subst, inl, sym, ◌∙◌, Asks, TellsTrace, trace_of}
use Rattle.std.specs.Prelude.{◌≡◌, IfOk}
use Rattle.kpn_c.specs.Slices.{PutsToFront}
use Rattle.kpn_c.proofs.Leading.{leads}
use Rattle.kpn_c.proofs.sessions.kpn_c_trace.Goals as goal

pub returns-in-Ok : goal.returns-in-Ok
returns-in-Ok c =
    let s = c.taken-boxed.result.1 in
    let room = c.args.room.now in
    let kept = c.put_text.new.room in
    let text = c.in-Ok.text.items in
    let is = subst (λ told. IfOk told (λ t. t.items ≡ trace_of s)) c.in-Ok.is c.trace-session.ensures.trace in
    let puts = subst (λ xs. PutsToFront xs c.put_text.result c.put_text.new.length room kept) c.as_slice.ensures.value
    c.put_text.ensures in
    leads (Asks (TellsTrace c.put_text.result c.put_text.new.length room kept)) c.args.held.slot
    c.put_back-2.result.slot s c.trace-session.result.0 c.taken-boxed.ensures c.put_back-2.ensures
    (record {
      same = c.trace-session.ensures.same;
      told = inl (
        sym c.keeps.ensures ∙ c.if-not-keeps.false,
        inl (subst (λ xs. PutsToFront xs c.put_text.result c.put_text.new.length room kept) is puts),
      );
    })
