-- What is put so far, and the names still to come, are all names.
use Rattle.kpn_text.proofs.Common.{◌≡◌, ◌++◌, List, ℕ, drop, all_text, further_text, name_text}
use Rattle.kpn_text.proofs.pieces.names.Given as goal

abbrev pub invariant-loop-name : goal.invariant-loop-name
invariant-loop-name l =
    (more : List ℕ)
    → l.out.items ++ all_text (further_text name_text) (drop l.name-index l.others) more
    ≡ l.initial.out.items ++ all_text (further_text name_text) l.others more
