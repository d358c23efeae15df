use Rattle.kpn_c.proofs.Common.{refl, MovesItems, amounts_of}
use Rattle.kpn_c.proofs.Leading.{leads}
use Rattle.kpn_c.proofs.sessions.kpn_c_move.Goals as goal

pub returns : goal.returns
returns c =
    let moved = c.move_items-session.result.1 in
    leads (MovesItems c.args.items.now c.args.most c.code_of_moved.result (amounts_of moved) c.args.places.now
    c.move_items-session.new.places)
    c.args.held.slot c.put_back.result.slot c.taken-boxed.result.1 c.move_items-session.result.0
    c.taken-boxed.ensures c.put_back.ensures
    (record {
      document = c.move_items-session.ensures.document;
      keeps = c.move_items-session.ensures.keeps;
      moved = moved;
      number = c.code_of_moved.ensures;
      amounts = refl;
      moves = c.move_items-session.ensures.moved;
    })
