use Rattle.kpn_c.proofs.Common.{refl, TellsVerdict}
use Rattle.kpn_c.proofs.Leading.{leads}
use Rattle.kpn_c.proofs.sessions.kpn_c_verdict.Goals as goal

pub returns : goal.returns
returns c =
    leads (TellsVerdict 0 c.code_of_verdict.result) c.args.held.slot c.put_back.result.slot c.taken-boxed.result.1
    c.verdict-session.result.0 c.taken-boxed.ensures c.put_back.ensures
    (record {
      succeeds = refl;
      same = c.verdict-session.ensures.same;
      verdict = c.verdict-session.result.1;
      is = c.verdict-session.ensures.verdict;
      number = c.code_of_verdict.ensures;
    })
