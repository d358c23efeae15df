-- Events of version 1 grow by its rules.
use Rattle.kpn_command_views.proofs.Common.{IfOk, ap, ◌∙◌, subst, Tables, under, Cycles, picture_size, IsPicture, IsNoPicture}
use Rattle.std.specs.Result.{IfErr}
use Rattle.kpn_net.specs.declared.tables.Growth.TheVariants as growth
use Rattle.kpn_command_views.proofs.picture.DrawnRun.picture_under.Goals as goal

pub returns-in_ok-plain-in-One-clause-ok : goal.returns-in_ok-plain-in-One-clause-ok
returns-in_ok-plain-in-One-clause-ok c =
    let a = c.args in
    rw c.in-One.is
    (subst (λ (t : Tables). IfOk c.picture.result
    (λ text. IsPicture a.self.document.now t a.first a.last a.self.waits.now a.self.events.now text.items))
    (c.in_ok-plain-in-One.ensures ∙ ap (under Cycles growth.One) c.requires) c.picture.ensures.ok)

pub returns-in_ok-plain-in-One-clause-refused : goal.returns-in_ok-plain-in-One-clause-refused
returns-in_ok-plain-in-One-clause-refused c =
    let a = c.args in
    rw c.in-One.is
    (subst (λ (t : Tables). IfErr c.picture.result
    (IsNoPicture (picture_size a.self.document.now t a.first a.last a.self.waits.now a.self.events.now)))
    (c.in_ok-plain-in-One.ensures ∙ ap (under Cycles growth.One) c.requires)
    c.picture.ensures.refused)

pub returns-in-Two-clause-ok : goal.returns-in-Two-clause-ok
returns-in-Two-clause-ok c =
    let a = c.args in
    rw c.in-Two.is
    (subst (λ (t : Tables). IfOk c.picture-in-Two.result
    (λ text. IsPicture a.self.document.now t a.first a.last a.self.waits.now a.self.events.now text.items)) c.requires
    c.picture-in-Two.ensures.ok)

pub returns-in-Two-clause-refused : goal.returns-in-Two-clause-refused
returns-in-Two-clause-refused c =
    let a = c.args in
    rw c.in-Two.is
    (subst (λ (t : Tables). IfErr c.picture-in-Two.result
    (IsNoPicture (picture_size a.self.document.now t a.first a.last a.self.waits.now a.self.events.now))) c.requires
    c.picture-in-Two.ensures.refused)
