use Rattle.kpn_book.proofs.Stepped.{put_taken_stepped}
use Rattle.kpn_book.proofs.stepping.take_what_was_put.Goals as goal

pub returns-in-Ok : goal.returns-in-Ok
returns-in-Ok c in_order before to_itself front committed put few =
    put_taken_stepped c.args.limits.now in_order before c.args.book.now to_itself front committed few c.args.sink put
    c.known.ensures c.in-Ok.field-0 c.take.new.self c.in-Ok.ensures.done c.has_enough_by.result
    c.has_enough_by.ensures
