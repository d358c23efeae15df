use Rattle.kpn_stream.proofs.Common.{sym, subst, StepsWithinLimits}
use Rattle.kpn_stream.proofs.Going.{stepped-refl}
use Rattle.kpn_stream.proofs.stepping.step_stretch.Goals as goal

pub returns-in_err-reserve : goal.returns-in_err-reserve
returns-in_err-reserve c =
    subst (StepsWithinLimits c.args.limits.now c.args.book.now) (sym c.reserve.ensures)
    (stepped-refl c.args.limits.now c.args.book.now)

pub returns : goal.returns
returns c =
    subst (λ b. StepsWithinLimits c.args.limits.now b c.step_until.new.book) c.reserve.ensures c.step_until.ensures
