use Rattle.kpn_region.proofs.Common.{refl, ◌∙◌, subst, arith, program_of, IsAdvance, advanced_of}
use Rattle.kpn_region.proofs.Turns.{as_many, goes_nowhere, goes_by_steps, goes_then, goes_and_stops}
use Rattle.kpn_region.proofs.traffic.Traffic.turn.Given as given
use Rattle.kpn_region.proofs.traffic.Traffic.turn.Goals as goal
use Rattle.kpn_region.proofs.traffic.Traffic.turn.Goals.{After-run-stop}

pub events-init : goal.events-init
events-init g c = record {
  goes = goes_nowhere c.args.network.now c.args.p c.args.frame.now c.args.self.now.sides.items
      c.args.self.now.events.items c.requires.fits;
  capacity = refl;
  made = omega arith;
}

pub pass-requires-clause-sides : goal.pass-requires-clause-sides
pass-requires-clause-sides g c =
    as_many c.args.self.now.sides.items c.events.self.sides.items c.events.invariant.goes.claimed ∙ c.requires.sides

advance : (g : given.Over) (c : After-run-stop g)
    → IsAdvance (advanced_of (program_of c.args.network.now c.args.p) c.events.frame c.run-stop.new.self
    c.run-stop.result.0 c.run-stop.result.1)
advance g c =
    subst (λ x. IsAdvance (advanced_of x c.events.frame c.run-stop.new.self c.run-stop.result.0 c.run-stop.result.1))
    c.program-program.ensures c.run-stop.ensures.advance

pub events-preserved : goal.events-preserved
events-preserved g c =
    let t = c.args.network.now in
    let p = c.args.p in
    let s = c.args.self.now in
    let made = c.events.made in
    let to = c.run-stop.new.self in
    let sides = c.events.self.sides.items in
    let events = c.events.self.events.items in
    let after = c.pass.new.self in
    record {
      goes =
          goes_then t p made 1 c.args.frame.now c.events.frame c.pass.new.frame s.sides.items sides after.sides.items
          s.events.items events after.events.items c.events.invariant.goes
          (goes_then t p 0 1 c.events.frame to c.pass.new.frame sides sides after.sides.items events events
          after.events.items
          (goes_by_steps t p c.events.frame to sides events c.run-stop.result.0 c.run-stop.result.1
          (advance g (goal.at.events-preserved g c).After-run-stop)) c.in-On.ensures.passes);
      capacity = c.pass.ensures.capacity ∙ c.events.invariant.capacity;
      made = omega (arith, c.events-test.true);
    }

pub returns-in-Stuck-clause-goes : goal.returns-in-Stuck-clause-goes
returns-in-Stuck-clause-goes g c =
    goes_and_stops c.args.network.now c.args.p c.events.made c.args.frame.now c.events.frame c.run-stop.new.self
    c.pass.new.frame c.args.self.now.sides.items c.events.self.sides.items c.pass.new.self.sides.items
    c.args.self.now.events.items c.events.self.events.items c.pass.new.self.events.items c.run-stop.result.0
    c.run-stop.result.1 c.events.invariant.goes
    (advance g (goal.at.returns-in-Stuck-clause-goes g c).After-run-stop) c.in-Stuck.ensures.passes

pub returns-in-NoMemory-clause-goes : goal.returns-in-NoMemory-clause-goes
returns-in-NoMemory-clause-goes g c =
    goes_and_stops c.args.network.now c.args.p c.events.made c.args.frame.now c.events.frame c.run-stop.new.self
    c.pass.new.frame c.args.self.now.sides.items c.events.self.sides.items c.pass.new.self.sides.items
    c.args.self.now.events.items c.events.self.events.items c.pass.new.self.events.items c.run-stop.result.0
    c.run-stop.result.1 c.events.invariant.goes
    (advance g (goal.at.returns-in-NoMemory-clause-goes g c).After-run-stop) c.in-NoMemory.ensures.passes
