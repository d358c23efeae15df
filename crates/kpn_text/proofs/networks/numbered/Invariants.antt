-- What is put so far, and the names still to come, are all names.
use Rattle.kpn_text.proofs.Common.{◌≡◌, ◌++◌, List, ℕ, drop, map, name_at, all_text, further_text, name_text}
use Rattle.kpn_text.proofs.networks.numbered.Given as goal

abbrev pub invariant-loop-number : goal.invariant-loop-number
invariant-loop-number l =
    (more : List ℕ)
    → l.out.items ++ all_text (further_text name_text) (map (name_at l.names) (drop l.number-index l.others)) more
    ≡ l.initial.out.items ++ all_text (further_text name_text) (map (name_at l.names) l.others) more
