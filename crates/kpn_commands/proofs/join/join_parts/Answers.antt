use Rattle.kpn_commands.proofs.Common.{map, rules, subst, IfOk-weaker, TellsOfParts}
use Rattle.kpn_commands.proofs.join.join_parts.Goals as goal

pub returns : goal.returns
returns c =
    IfOk-weaker c.join_cut.result _ _
    (λ made told. (
      (
        c.in_ok-parts.parts.items,
        search rules,
        subst
            (λ cut. TellsOfParts c.args.whole.now (map (λ word. word.now) c.args.words.now) cut
            c.args.loaded.now.histories.items made.text.items made.status)
            c.deref-2.ensures.value told.0,
      ),
      told.1,
    )) c.join_cut.ensures
