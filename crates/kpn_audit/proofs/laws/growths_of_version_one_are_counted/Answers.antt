use Rattle.kpn_audit.proofs.Common.{suc, ◌+◌, [], take, count_by, Some, refl, ap, ◌∙◌, zero-add, Grow, One, is_growth_of, audited_under}
use Rattle.kpn_audit.proofs.VersionOne.{growth_behind}
use Rattle.kpn_audit.proofs.laws.growths_of_version_one_are_counted.Goals as goal

pub returns : goal.returns
returns c t events k p d n first at there is =
    growth_behind (audited_under One t) refl [] events k p d n first at there is
    ∙ ap (λ m. Some (Grow p d (first + m))) (zero-add (count_by (is_growth_of d) (take (suc k) events)))
