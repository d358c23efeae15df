-- The bytes tell, or a read fails.
use Rattle.std.proofs.Common.{rules, sym, ◌∙◌, arith}
use Rattle.kpn_stream_devices.proofs.Devices.{at_start, told_after, more_after, fails_after, fails_at_last}
use Rattle.kpn_stream_devices.proofs.inputs.next_of.Goals as goal

pub loop-read-init : goal.loop-read-init
loop-read-init g c = record {
  asked = at_start g.I.Read.remaining g.F.Read.remaining c.args.standard.now c.args.input.now;
  unfailed = λ some. absurd (omega (arith, some));
}

pub returns-in-Some : goal.returns-in-Some
returns-in-Some g c =
    told_after g.I.Read.remaining g.F.Read.remaining c.args.standard.now c.args.input.now
    c.loop-read.standard c.loop-read.input c.loop-read.invariant.asked c.in-Some.answer c.next.new.self
    c.in-Some.ensures.told c.next.ensures.over

pub returns-in-Err : goal.returns-in-Err
returns-in-Err g c =
    fails_after g.I.Read.remaining g.F.Read.remaining c.args.standard.now c.args.input.now
    c.loop-read.standard c.loop-read.input c.loop-read.invariant.asked c.next.new.self (search rules) (search rules)
    c.read_on.new.standard c.read_on.new.input c.in-Err.fault c.in-Err.ensures.fault

pub loop-read-preserved : goal.loop-read-preserved
loop-read-preserved g c = record {
  asked =
      more_after g.I.Read.remaining g.F.Read.remaining c.args.standard.now c.args.input.now
      c.loop-read.standard c.loop-read.input c.loop-read.invariant.asked c.next.new.self (search rules) (search rules)
      c.read_on.new.standard c.read_on.new.input (search rules) (search rules) (search rules);
  unfailed = λ some. sym c.loop-read.invariant.asked.moved.failed ∙ search rules;
}

pub returns : goal.returns
returns g c =
    fails_at_last g.I.Read.remaining g.F.Read.remaining c.args.standard.now c.args.input.now
    c.loop-read.standard c.loop-read.input c.loop-read.invariant.asked
    (c.loop-read.invariant.unfailed (omega arith))
