use Rattle.kpn_history.proofs.OwedSets.{same_capacity}
use Rattle.kpn_history.proofs.OneEnd.{end_alike}
use Rattle.kpn_history.proofs.SameEnds.{EndAlike-sym, same_verdict, same_complete}
use Rattle.kpn_history.proofs.end_laws.one_end.Goals as goal

pub returns-clause-alike : goal.returns-clause-alike
returns-clause-alike c = end_alike

pub returns-clause-verdict : goal.returns-clause-verdict
returns-clause-verdict c t network given H G over-H over-G verdict =
    let alike = end_alike t network given H G over-H over-G in
    let back = EndAlike-sym t H G alike in
    (same_verdict t H G alike over-G.settled verdict, same_verdict t G H back over-H.settled verdict)

pub returns-clause-complete : goal.returns-clause-complete
returns-clause-complete c t network given H G over-H over-G d =
    let alike = end_alike t network given H G over-H over-G in
    let back = EndAlike-sym t H G alike in
    (same_complete t network given H G over-H over-G alike d, same_complete t network given G H over-G over-H back d)

pub returns-clause-capacities : goal.returns-clause-capacities
returns-clause-capacities c t H G alike d = same_capacity t H G d (alike.grown d)
