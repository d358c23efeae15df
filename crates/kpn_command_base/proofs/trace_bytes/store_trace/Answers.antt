-- The text is stored under the name, or not.
use Rattle.kpn_command_base.proofs.Common.{◌∙◌, refl, sym, Ok, Err, subst, Refusal}
use Rattle.kpn_trace.specs.TraceText.{trace_text}
use Rattle.kpn_history.specs.declared.stored.Version.TheVariants.{Two}
use Rattle.kpn_command_base.specs.Stored.{Stores}
use Rattle.kpn_command_base.proofs.trace_bytes.store_trace.Goals as goal

pub returns-in-Err-clause-stores : goal.returns-in-Err-clause-stores
returns-in-Err-clause-stores g c =
    let t = c.args.network.now in
    subst
    (λ (refusal : Refusal).
    Stores g.S.Shelf.may_give
    (record { name = c.args.name.now; bytes = trace_text Two t.policy t.growth c.args.history.now.events })
    c.args.shelf.now c.args.shelf.now (Err refusal)) (sym c.in-Err.ensures.refused) refl

pub returns-in-Ok-store-clause-stores : goal.returns-in-Ok-store-clause-stores
returns-in-Ok-store-clause-stores g c = (
  subst (λ bytes. g.S.Shelf.may_give c.store.new.self c.args.name.now (Ok bytes))
      (c.deref.ensures.value ∙ c.in-Ok.ensures.ok) c.in-Ok-store.ensures.stored,
  c.in-Ok-store.ensures.others,
)

pub returns-clause-stores : goal.returns-clause-stores
returns-clause-stores g c = c.store.ensures.others
