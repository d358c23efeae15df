use Rattle.kpn_command_base.proofs.Common.{◌≡◌, ◌+◌, ℤ, ℕ, List, ◌++◌, length, take, drop, arith, sym, ap, ◌∙◌, length-drop, flat_map-append, string_bytes, spaced_items, spaced_item}
use Rattle.std.proofs.lemmas.List.{append_assoc, drop-drop, length-take, take-append-drop}
use Rattle.kpn_command_base.proofs.audit_text.push_journal.Goals as goal

-- what is written of the items from a place on: of a piece, and of what comes past it
piece_and_more : (journal piece : List ℤ) (place : ℕ) → piece ≡ take (length piece) (drop place journal)
    → spaced_items piece ++ spaced_items (drop (place + length piece) journal) ≡ spaced_items (drop place journal)
piece_and_more journal piece place lies =
    let rest = drop place journal in
    sym (ap (λ l. spaced_items piece ++ spaced_items l) (drop-drop (length piece) place journal))
    ∙ sym (flat_map-append spaced_item piece (drop (length piece) rest))
    ∙ ap (λ l. spaced_items (l ++ drop (length piece) rest)) lies
    ∙ ap spaced_items (take-append-drop (length piece) rest)

pub pieces-preserved : goal.pieces-preserved
pieces-preserved c =
    let journal = c.args.journal.now in
    let piece = c.piece_at-piece.result.now in
    let more = piece_and_more journal piece c.pieces.place c.piece_at-piece.ensures.items in
    let long = ap (λ (l : List ℤ). length l) c.piece_at-piece.ensures.items
    ∙ length-take (length piece) (drop c.pieces.place journal) in (
      ap (λ text. text ++ spaced_items (drop (c.pieces.place + length piece) journal)) c.in_ok-push_spaced_items.ensures
          ∙ append_assoc (string_bytes c.pieces.text) (spaced_items piece) (spaced_items (drop (c.pieces.place +
          length piece) journal))
          ∙ ap (λ t. string_bytes c.pieces.text ++ t) more ∙ c.pieces.invariant.0,
      omega (arith, long, length-drop c.pieces.place journal, c.pieces.invariant.1),
    )
