-- A read is at an in port of the program, which has a list, and it says the next item there.
use Rattle.kpn_step.proofs.Common.{◌≡◌, Some, to_z, of_z, w64, rules, ap, ◌∙◌, arith, remaining}
use Rattle.kpn_step.proofs.MayStep.{read_port}
use Rattle.kpn_step.proofs.Taking.{Speaks-got, written_back}
use Rattle.kpn_step.proofs.whole_lists.say.Goals as goal

pub next_item-requires-clause-port : goal.next_item-requires-clause-port
next_item-requires-clause-port c =
    let port = read_port c.args.program.now c.known.ensures c.args.frame.now c.args.stop c.in-WantRead.port
    c.requires.stands c.in-WantRead.is in
    omega (arith, port, c.requires.lists)

pub returns-in-Some-clause-says : goal.returns-in-Some-clause-says
returns-in-Some-clause-says c =
    let item = c.in-Some.item in
    let same : to_z w64 (of_z w64 item) ≡ item = search rules in
    let lists = c.args.lists.now in
    let first = rw c.as_mut_slice.ensures.value at c.in-Some.ensures.item in
    let rest = rw c.as_mut_slice.ensures.value at c.in-Some.ensures.rest in
    let even = rw c.as_mut_slice.ensures.value at c.in-Some.ensures.places in
    let back = written_back c.args.taken.now.items c.next_item.new.places even in
    rw back (Speaks-got c.args.program.now.blocks c.args.frame.now c.pass_read.new.self c.args.stop c.in-WantRead.port
    (to_z w64 (of_z w64 item)) (remaining lists c.args.taken.now.items) (remaining lists c.next_item.new.places)
    c.requires.stands c.in-WantRead.is c.pass_read.ensures.passed (ap Some same ∙ first) rest)
