-- What a stream is asked for, with the bytes of its words.
use Rattle.std.specs.Prelude.{Bool, ℕ, List, Option}

-- the file of the description, the words after the `--source` options, those after the `--sink` options and those
-- after the `--format` options, whether sinks get the nearest items that fit, how many items of each channel a second
-- of a WAV file has, how many channels it has, the most commits, how many items the stream wants of each sink, the file
-- for the trace, whether nothing is told of the end, whether tables of the channels and the processes are, and whether
-- it ends once a process has faulted
pub record StreamRequest : Type 0 where
  pub file : List ℕ
  pub sources : List (List ℕ)
  pub sinks : List (List ℕ)
  pub formats : List (List ℕ)
  pub clips : Bool
  pub rate : Option ℕ
  pub channels : Option ℕ
  pub commits : Option ℕ
  pub take : Option ℕ
  pub trace : Option (List ℕ)
  pub quiet : Bool
  pub stats : Bool
  pub stops : Bool
