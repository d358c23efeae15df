use Rattle.kpn_net.proofs.Common.{◌<◌, length, sym, ap, ◌∙◌, subst, arith, get_or_default, Instance, Tables, program_at, program_of, tables_of}
use Rattle.kpn_net.proofs.Networks.{IsInstance, IsInstance-at}
use Rattle.kpn_net.proofs.network.Network.program.Goals as goal

pub index-requires-2 : goal.index-requires-2
index-requires-2 c =
    let t = tables_of c.self.inside.parts in
    let below : c.args.p < length t.instances =
    subst (λ (u : Tables). c.args.p < length u.instances) (sym c.self.view_is) c.requires in
    let is : IsInstance t c.index.result.now =
    subst (IsInstance t) (sym c.index.ensures)
    (IsInstance-at t c.self.invariant.network c.args.p c.index.result.now below) in
    omega (arith, c.self.inside.parts.programs.ok.0, is.there)

pub returns : goal.returns
returns c =
    let t = tables_of c.self.inside.parts in
    let below : c.args.p < length t.instances =
    subst (λ (u : Tables). c.args.p < length u.instances) (sym c.self.view_is) c.requires in
    let is : IsInstance t c.index.result.now =
    subst (IsInstance t) (sym c.index.ensures)
    (IsInstance-at t c.self.invariant.network c.args.p c.index.result.now below) in
    c.index-2.ensures
    ∙ get_or_default t.programs c.index.result.now.program _ _ is.there
    ∙ ap (λ (i : Instance). program_at t i.program) (c.index.ensures ∙ get_or_default t.instances c.args.p _ _ below)
    ∙ ap (λ u. program_of u c.args.p) c.self.view_is
