-- What the shelf does not take for one file has another name.
use Rattle.kpn_command_base.proofs.Common.{◌≡◌, ◌≢◌, ℕ, List, All, map, ap, subst, IfOk-weaker, All-map, HasEquals, file_in}
use Rattle.kpn_command_base.proofs.Apart.{now}
use Rattle.kpn_command_base.proofs.outputs.may_overwrite.Goals as goal

pub returns-clause-apart : goal.returns-clause-apart
returns-clause-apart g c =
    let name = c.args.name.now in
    let words : map now c.asked.inside.sources.now ≡ c.args.asked.now.sources = ap (λ r. r.sources) c.asked.view_is in
    let Gives : List ℕ → Type 0 = λ word. HasEquals word → name ≢ file_in word in
    IfOk-weaker c.is_standard.result _ _ (λ is h may. (
      subst (λ (f : List ℕ). name ≢ f) (ap (λ r. r.file) c.asked.view_is)
          (c.in_ok-is_description.ensures.apart c.if-is_description.false),
      subst (All Gives) words
          (All-map Gives now c.asked.inside.sources.now (c.in_ok-are_items.ensures.apart c.if-are_items.false)),
    )) c.is_standard.ensures
