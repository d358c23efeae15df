use Rattle.kpn_book.proofs.Common.{◌≡◌, true, ℕ, ◌-◌, ◌≤◌, IsEnough, Turns, IsLeftToItself, IsLater}
use Rattle.kpn_book.proofs.here.run.Given as goal

abbrev pub invariant-run : goal.invariant-run
invariant-run l = record {
  turns : l.in_order ≡ true → (n : ℕ) × Turns l.limits l.initial.book n l.book;
  later : IsLater l.initial.book l.book;
  to_itself : IsLeftToItself l.book;
  few : ¬ IsEnough l.book.tables l.book.history l.limits.take;
  within : l.initial.book.commits ≤ l.limits.commits → l.book.commits ≤ l.limits.commits;
}

abbrev pub decreases-run : goal.decreases-run
decreases-run l = l.limits.commits - l.book.commits
