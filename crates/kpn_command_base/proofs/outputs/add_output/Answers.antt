-- An output that is apart from the inputs and from those before it joins them.
use Rattle.kpn_command_base.proofs.Common.{◌≡◌, ◌++◌, ◌∷◌, [], ℕ, List, All, Bor, map, ap, sym, subst, ◌∙◌, map-append, All-map, AreNamesApart, AreTwoOutputs}
use Rattle.kpn_command_base.proofs.Apart.{now, apart_more}
use Rattle.kpn_command_base.proofs.outputs.add_output.Goals as goal

pub returns-clause-apart : goal.returns-clause-apart
returns-clause-apart g c =
    let outputs = map now c.args.outputs.now.items in
    let pushed : map now c.push.new.self.items ≡ outputs ++ c.args.name.now ∷ [] =
    ap (map now) c.in_ok-push.ensures.items ∙ map-append now c.args.outputs.now.items (c.args.name ∷ []) in
    let new : All (λ (other : List ℕ). AreTwoOutputs other c.args.name.now) outputs =
    subst (λ (names : List (Bor (List ℕ))). All (λ (other : List ℕ). AreTwoOutputs other c.args.name.now) (map now names))
    c.as_slice-earlier.ensures.value
    (All-map (λ (other : List ℕ). AreTwoOutputs other c.args.name.now) now c.as_slice-earlier.result.now
    (c.in_ok-meets.ensures.apart c.if-meets.false)) in
    subst (AreNamesApart c.args.asked.now) (sym pushed)
    (apart_more c.args.asked.now outputs c.args.name.now c.requires
    (c.in_ok-overwrites.ensures.apart c.if-overwrites.false) new)
