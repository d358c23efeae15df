use Rattle.kpn_machine.proofs.Common.{◌≡◌, ◌<◌, length, get_or, take, refl, arith, sym, ap, ◌∙◌, subst, take-suc, take_all, Contains-get_or, in_is_there, ins_distinct, few_ins, AreDistinct, with_end, EndSoFar}
use Rattle.std.specs.List.{Contains}
use Rattle.std.proofs.Math.Numerals.{suc-eq-add-one}
use Rattle.kpn_machine.proofs.Due.{Legal-ended}
use Rattle.kpn_machine.proofs.Ending.{EndSoFar-none, Made-ended, not_before}
use Rattle.kpn_machine.proofs.Running.{IsRun-next}
use Rattle.kpn_machine.proofs.machine.Machine.end.Goals as goal

pub ports-init : goal.ports-init
ports-init g c =
    record {
      ins = c.ins-ins.ensures;
      so_far =
          EndSoFar-none c.args.network.now (with_end c.args.p c.args.how c.args.self.now) _
          (ap (λ x. with_end c.args.p c.args.how x) c.self.view_is) c.requires.shape.waits c.new-woken.result.items
          c.new-woken.ensures;
      few = let none : length c.new-woken.result.items ≡ 0 = ap length c.new-woken.ensures in omega (arith, none);
    }

pub retire_in-requires-clause-channels : goal.retire_in-requires-clause-channels
retire_in-requires-clause-channels g c = c.ports.invariant.so_far.channels ∙ c.requires.shape.channels

pub retire_in-requires-clause-channel : goal.retire_in-requires-clause-channel
retire_in-requires-clause-channel g c =
    let ins = c.ins-ins.result.now in
    in_is_there c.args.network.now c.known.ensures c.args.p (get_or ins c.ports.port 0)
    (subst (λ xs. Contains xs (get_or c.ins-ins.result.now c.ports.port 0)) c.ins-ins.ensures
    (Contains-get_or ins c.ports.port 0 (omega arith)))

pub retire_in-requires-clause-waits : goal.retire_in-requires-clause-waits
retire_in-requires-clause-waits g c = c.ports.invariant.so_far.own

pub retire_in-requires-clause-few : goal.retire_in-requires-clause-few
retire_in-requires-clause-few g c =
    let few = few_ins c.args.network.now c.known.ensures c.args.p c.requires.process in
    let len = ap length c.ins-ins.ensures in
    omega (arith, c.ports.invariant.few)

pub ports-preserved : goal.ports-preserved
ports-preserved g c =
    let ended = with_end c.args.p c.args.how c.args.self.now in
    let ins = c.ins-ins.result.now in
    let k = c.ports.port in
    let below : k < length ins = omega arith in
    let distinct =
    subst AreDistinct (sym c.ins-ins.ensures)
    (ins_distinct c.args.network.now c.known.ensures c.args.p c.requires.process) in
    record {
      ins = c.ins-ins.ensures;
      so_far =
          subst (λ ports. EndSoFar c.args.network.now ended c.retire_in.new.self ports c.retire_in.new.woken.items)
          (sym (take-suc ins k 0 below) ∙ ap (λ n. take n ins) (suc-eq-add-one k))
          (c.retire_in.ensures.more ended (take k ins) c.ports.invariant.so_far (not_before ins distinct k below));
      few = omega (arith, c.retire_in.ensures.len, c.ports.invariant.few);
    }

pub returns : goal.returns
returns g c =
    let t = c.args.network.now in
    let s = c.args.self.now in
    let ended = with_end c.args.p c.args.how s in
    let whole =
    subst (λ ports. EndSoFar t ended c.ports.self ports c.ports.woken.items)
    (take_all c.ports.port c.ins-ins.result.now c.ports-test.false ∙ c.ins-ins.ensures) c.ports.invariant.so_far in
    let made =
    Made-ended t c.known.ensures c.args.p c.args.how s ended c.ports.self c.ports.woken.items c.requires.shape
    c.requires.process c.requires.free refl whole in
    record {
      woken = whole.woken;
      changes = made.changes;
      shape = made.shape;
      run = λ H run owes. IsRun-next t c.known.ensures H _ s c.ports.self run
          (Legal-ended t c.known.ensures H s run owes c.args.p c.requires.process c.requires.free c.args.how
          c.requires.stands)
          made.changes made.shape;
    }
