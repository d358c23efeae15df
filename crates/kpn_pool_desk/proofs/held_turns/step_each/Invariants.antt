-- The turns are those of the same processes, and the gate has let the first ones through, whose steps are within the
-- quota.
use Rattle.kpn_pool_desk.proofs.Common.{◌≡◌, ℕ, ◌<◌, Some, take, slice_get, All, On, StepsWithin, claimed_by}
use Rattle.kpn_pool_desk.proofs.held_turns.step_each.Given as goal

abbrev pub invariant-turns : goal.invariant-turns
invariant-turns g l = record {
  claimed : claimed_by l.turns ≡ claimed_by l.fn.turns;
  through : (i p : ℕ) → i < l.i → slice_get (claimed_by l.turns) i ≡ Some p
      → g.G.Gate.may_answer l.gate l.worker p On;
  within : All (StepsWithin l.quota) (take l.i l.turns);
}
