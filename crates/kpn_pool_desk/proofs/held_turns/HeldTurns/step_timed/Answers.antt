use Rattle.kpn_pool_desk.proofs.Common.{length, refl, sym, ◌∙◌, length_refill}
use Rattle.kpn_pool_desk.proofs.held_turns.HeldTurns.step_timed.Goals as goal

pub invariant_of-self : goal.invariant_of-self
invariant_of-self g c =
    let turns = c.self.inside.turns.items in (
      sym (length_refill (length turns) turns c.step_each-self-inside.new.turns refl) ∙ c.self.invariant.0,
      c.self.invariant.1,
      c.step_each-self-inside.ensures.count,
    )
