-- What stands before the event under the rules of the trace stands before it in the trace.
use Rattle.kpn_audit.proofs.Common.{pos, ◌<◌, List, length, take, refl, sym, subst, IfOk-weaker, IfErr-weaker, Event, Get, One, Two, IsFault, IsSceneAt}
use Rattle.kpn_audit.proofs.Telling.{of_trace}
use Rattle.kpn_audit.proofs.SceneAt.{scene_at, fault_at}
use Rattle.kpn_audit.proofs.scenes.scene_before.Goals as goal

pub returns-in_ok-plain-in-One-clause-scene : goal.returns-in_ok-plain-in-One-clause-scene
returns-in_ok-plain-in-One-clause-scene g c =
    let events = c.as_slice-events.result.now in
    let k = c.args.k in
    let plain = c.in_ok-plain-in-One.plain in
    let below =
    subst (λ (es : List Event). k < length es) (sym c.as_slice-events.ensures) c.requires in
    IfOk-weaker c.scene_after-in-One.result _ _
    (λ scene is.
    of_trace c.args.network.now c.args.trace.now One c.in-One.is plain c.in_ok-plain-in-One.ensures events
    c.as_slice-events.ensures (λ n H. IsSceneAt n H k c.args.quota scene)
    (scene_at One plain events k c.args.quota (Get 0 0 (pos 0)) below scene is))
    c.scene_after-in-One.ensures.scene

pub returns-in_ok-plain-in-One-clause-refused : goal.returns-in_ok-plain-in-One-clause-refused
returns-in_ok-plain-in-One-clause-refused g c =
    let events = c.as_slice-events.result.now in
    let k = c.args.k in
    let plain = c.in_ok-plain-in-One.plain in
    IfErr-weaker c.scene_after-in-One.result _ _
    (λ fault is.
    of_trace c.args.network.now c.args.trace.now One c.in-One.is plain c.in_ok-plain-in-One.ensures events
    c.as_slice-events.ensures (λ n H. IsFault n (take k H) c.args.quota fault)
    (fault_at One plain events k c.args.quota fault is))
    c.scene_after-in-One.ensures.refused

pub returns-in-Two-clause-scene : goal.returns-in-Two-clause-scene
returns-in-Two-clause-scene g c =
    let events = c.as_slice-events.result.now in
    let t = c.args.network.now in
    let k = c.args.k in
    let below =
    subst (λ (es : List Event). k < length es) (sym c.as_slice-events.ensures) c.requires in
    IfOk-weaker c.scene_after.result _ _
    (λ scene is.
    of_trace t c.args.trace.now Two c.in-Two.is t refl events c.as_slice-events.ensures
    (λ n H. IsSceneAt n H k c.args.quota scene)
    (scene_at Two t events k c.args.quota (Get 0 0 (pos 0)) below scene is))
    c.scene_after.ensures.scene
