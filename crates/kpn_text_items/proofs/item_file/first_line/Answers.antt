-- The first line ends at the first line feed, and is all if there is none.
use Rattle.kpn_text_items.proofs.Common.{◌+◌, ◌∷◌, length, ap, sym, ◌∙◌, lines}
use Rattle.std.proofs.lemmas.List.{take_rest}
use Rattle.std.proofs.Math.Seq.{drop-length}
use Rattle.kpn_text_items.proofs.LineLemmas.{lines-found, lines-none}
use Rattle.kpn_text_items.proofs.item_file.first_line.Goals as goal

pub returns-in-Some-clause-split : goal.returns-in-Some-clause-split
returns-in-Some-clause-split c =
    let bytes = c.args.bytes.now in
    let end = c.in-Some.end in
    let found = lines-found bytes end (sym c.line_feed.ensures ∙ c.in-Some.is) in
    rw (c.without_carriage_return.ensures, take_rest bytes (end + 1)) found

pub returns-in-None-clause-split : goal.returns-in-None-clause-split
returns-in-None-clause-split c =
    let bytes = c.args.bytes.now in
    let none = lines-none bytes c.requires (sym c.line_feed.ensures ∙ c.in-None.is) in
    none ∙ ap (λ ls. bytes ∷ ls) (ap lines (sym (take_rest bytes (length bytes) ∙ drop-length bytes)))
