-- Its parts, one after the other.
use Rattle.kpn_text.proofs.Common.{◌++◌, codes, instance_at, name_at, call_named, name_text, names_text, outs_text, values_text}
use Rattle.kpn_text.proofs.PrintingLemmas.{then_five}
use Rattle.kpn_text.proofs.networks.call.Goals as goal

pub returns : goal.returns
returns c =
    let names = c.args.names.now in
    let i = call_named names (name_at names.instances c.args.p) (instance_at c.args.network.now c.args.p) in
    then_five c.outs_and_values.result c.args.out.now.items c.process_name.new.out.items c.bytes.new.out.items
    c.numbered.new.out.items c.bytes-2.new.out.items c.outs_and_values.new.out.items
    (name_text i.program) (λ more. codes "(" ++ more) (names_text i.ins) (λ more. codes ";" ++ more)
    (λ more. outs_text i.outs (values_text i.values (codes ")" ++ more)))
    (rw (c.as_slice.ensures, c.program_number.ensures) at c.in_ok-process_name.ensures)
    c.in_ok-bytes.ensures
    (rw (c.as_slice-2.ensures, c.ins.ensures) at c.in_ok-numbered.ensures)
    c.in_ok-bytes-2.ensures
    (rw (c.as_slice-3.ensures, c.outs.ensures, c.pars.ensures) at c.outs_and_values.ensures)
