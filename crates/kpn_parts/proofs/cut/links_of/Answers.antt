use Rattle.kpn_parts.proofs.Common.{rules, IsCut}
use Rattle.kpn_parts.proofs.Cuts.{anyway}
use Rattle.kpn_parts.proofs.cut.links_of.Goals as goal

pub returns-clause-cut : goal.returns-clause-cut
returns-clause-cut c =
    anyway (IsCut c.args.whole.now c.args.parts.now) c.find_links.result
    (record {
      parts = search rules;
      home = c.in_ok-has_each_once.ensures.home c.if-not-branch.false;
      once = c.in_ok-has_each_once.ensures.once c.if-not-branch.false;
    })
