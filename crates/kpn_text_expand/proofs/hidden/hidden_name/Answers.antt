-- A front of the longest name is a name.
use Rattle.std.specs.Prelude.{length}
use Rattle.kpn_text_expand.proofs.Common.{ℕ, ◌≤◌, List, take, sym, ap, subst, arith}
use Rattle.kpn_text_tokens.specs.declared.tokens.Language.TheVariants as language
use Rattle.kpn_text_tokens.specs.Rules.{IsName}
use Rattle.kpn_text_expand.specs.Hidden.{longest_hidden}
use Rattle.kpn_text_expand.proofs.HiddenNames.{fronts_named}
use Rattle.kpn_text_expand.proofs.hidden.hidden_name.Goals as goal

pub name_of-requires : goal.name_of-requires
name_of-requires c =
    let same = c.longest.ensures in
    let some : 1 ≤ c.args.length = omega (arith, c.if-length-eq0.false) in
    let few : c.args.length ≤ length (longest_hidden c.args.hidden) =
    omega (arith, c.if-length-longest.false, ap length same) in
    subst (λ (x : List ℕ). IsName language.Two (take c.args.length x)) (sym c.longest-2.ensures)
    (fronts_named c.args.hidden c.args.length some few)
