-- The parameters are the first variables.
use Rattle.kpn_text.proofs.Common.{◌++◌, codes, take, take_min, parts_text}
use Rattle.kpn_text.proofs.PrintingLemmas.{then_five}
use Rattle.kpn_text.proofs.processes.head.Goals as goal

pub returns : goal.returns
returns c =
    let names = c.args.names.now in
    then_five c.bytes-4.result c.args.out.now.items c.bytes.new.out.items c.bytes-2.new.out.items
    c.bytes-3.new.out.items c.parts.new.out.items c.bytes-4.new.out.items
    (λ more. codes "process " ++ more) (λ more. names.name ++ more) (λ more. codes "(" ++ more)
    (parts_text names.ins names.outs (take c.args.pars names.vars)) (λ more. codes ") {\n" ++ more)
    c.in_ok-bytes.ensures
    (rw c.as_slice.ensures at c.in_ok-bytes-2.ensures)
    c.in_ok-bytes-3.ensures
    (rw (
      c.min.ensures,
      c.as_slice-vars.ensures,
      c.as_slice-2.ensures,
      c.as_slice-3.ensures,
      take_min c.args.pars names.vars,
    ) at c.in_ok-parts.ensures)
    c.bytes-4.ensures
