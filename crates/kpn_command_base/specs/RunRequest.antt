-- What a run is asked for, with the bytes of its words.
use Rattle.std.specs.Prelude.{ℕ, Bool, List, Option}

-- the file of the description, the words after the `--source` options and those after the `--sink` options, the most
-- commits, how many items the run wants of each sink, the file for the trace, how many workers run the network, whether
-- the lists of sinks that are stored are left out, and whether faults and rings have a status
pub record RunRequest : Type 0 where
  pub file : List ℕ
  pub sources : List (List ℕ)
  pub sinks : List (List ℕ)
  pub commits : ℕ
  pub take : Option ℕ
  pub trace : Option (List ℕ)
  pub workers : Option ℕ
  pub quiet : Bool
  pub strict : Bool
