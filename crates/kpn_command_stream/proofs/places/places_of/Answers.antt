-- The places of all ends by what the options name.
use Rattle.kpn_command_stream.proofs.Common.{List, map, subst, IfOk-weaker, IfErr-weaker, NamedEnd, is_end, end_numbers, IsUnplacedBy, AllPlaced}
use Rattle.std.specs.Prelude.{IfErr}
use Rattle.kpn_command_stream.proofs.Listing.{all_placed}
use Rattle.kpn_command_stream.proofs.Refusing.{unplaced}
use Rattle.kpn_command_stream.proofs.places.places_of.Goals as goal

pub returns-clause-placed : goal.returns-clause-placed
returns-clause-placed c =
    IfOk-weaker c.places_by.result _ _
    (λ places placed.
    all_placed c.args.ends c.args.document.now _ _ _ c.in_ok-named.named.items places.items c.in_ok-named.ensures.named
    c.in_ok-named.ensures.files
    (subst
    (λ (named : List NamedEnd).
    AllPlaced c.args.document.now named (map (λ word. word.now) c.args.formats.now)
    (end_numbers (is_end c.args.ends) c.args.document.now.tables) places.items)
    c.deref.ensures.value placed))
    c.places_by.ensures.placed

pub returns-clause-cause : goal.returns-clause-cause
returns-clause-cause c =
    IfErr-weaker c.places_by.result _ _
    (unplaced c.args.ends c.args.document.now _ (map (λ word. word.now) c.args.formats.now) c.in_ok-named.named.items
    c.in_ok-named.ensures.named)
    (subst
    (λ (named : List NamedEnd).
    IfErr c.places_by.result
    (IsUnplacedBy c.args.ends c.args.document.now named (end_numbers (is_end c.args.ends) c.args.document.now.tables)
    (map (λ word. word.now) c.args.formats.now)))
    c.deref.ensures.value c.places_by.ensures.cause)
