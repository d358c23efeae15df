use Rattle.kpn_history.proofs.OneEnd.{end_alike}
use Rattle.kpn_history.proofs.SameViews.{same_journals, same_caps, same_states, same_counts, same_view}
use Rattle.kpn_history.proofs.end_laws.final_views_agree.Goals as goal

pub returns-clause-alike : goal.returns-clause-alike
returns-clause-alike g c t network given H G final also view other agrees agree =
    let alike = end_alike t network given H G final also in
    let stopped = final.settled.processes in (
      same_journals t H G final.run.legal alike stopped view other agrees agree,
      same_caps t H G final.run.legal alike stopped view other agrees agree,
      same_states t H G final.run.legal alike stopped view other agrees agree,
      same_counts t H G final.run.legal alike stopped view other agrees agree,
    )

pub returns-clause-same : goal.returns-clause-same
returns-clause-same g c t network given H G final also stays remains view other agrees agree =
    same_view t H G final.run.legal (end_alike t network given H G final also) final.settled.processes view other agrees
    agree stays remains
