-- One sink more.
use Rattle.std.proofs.Common.{◌<◌, ◌∙◌, ℕ, List, [], length, map, length-append, take_all, refl, sym, ap, subst, arith, rules}
use Rattle.kpn_command_stream.specs.Command.{HandedOn, flushes_of, losses, none_yet}
use Rattle.kpn_command_stream.specs.declared.running.Lost.{Lost}
use Rattle.kpn_command_stream.proofs.Listing.{handed_more, losses_few}
use Rattle.kpn_command_stream.proofs.running.flush_each.Goals as goal

pub loop-i-init : goal.loop-i-init
loop-i-init g c = (
  subst
      (λ (lost : List Lost).
      HandedOn (flushes_of g.O.Write.contents g.G.Write.contents) c.args.sinks.now [] lost c.args.sinks.now)
      (sym c.requires.none) none_yet,
  omega (arith, ap length c.requires.none),
  refl,
)

pub note-requires : goal.note-requires
note-requires g c =
    let below : c.loop-i.i < length c.args.places.now.sinks.items = search rules in
    omega (arith, below, c.loop-i.invariant.1, c.loop-i.invariant.2, c.requires.room)

pub loop-i-preserved : goal.loop-i-preserved
loop-i-preserved g c =
    let below : c.loop-i.i < length c.args.places.now.sinks.items = search rules in
    let listed = c.note.ensures.listed in (
      handed_more (flushes_of g.O.Write.contents g.G.Write.contents) c.args.sinks.now c.args.places.now.sinks.items c.loop-i.i
          c.loop-i.lost.items c.flush-answer.result c.loop-i.sinks c.flush-answer.new.self c.index-place.result.now
          c.note.new.lost.items c.loop-i.invariant.0 below c.index-place.ensures c.flush-answer.ensures listed,
      omega (
        arith,
        c.loop-i.invariant.1,
        ap length listed,
        losses_few c.index-place.result.now.channel c.flush-answer.result,
        length-append c.loop-i.lost.items (losses c.index-place.result.now.channel c.flush-answer.result),
      ),
      c.note.ensures.room ∙ c.loop-i.invariant.2,
    )

pub returns : goal.returns
returns g c =
    subst
    (λ (sinks : List ℕ).
    HandedOn (flushes_of g.O.Write.contents g.G.Write.contents) c.args.sinks.now sinks c.loop-i.lost.items c.loop-i.sinks)
    (ap (map (λ place. place.channel)) (search (take_all, rules))) c.loop-i.invariant.0
