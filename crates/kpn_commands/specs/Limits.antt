-- The limits of a run that is asked for.
use Rattle.std.specs.Prelude.{ℕ, ◌-◌, ◌/◌, min, max, List, Option, Some, None}
use Rattle.kpn_command_base.specs.RunRequest.{RunRequest}
use Rattle.kpn_book.specs.declared.outcome.Limits.{Limits}

-- A run that stores a trace has 26,843,545 commits at most: with more its trace would be too long to be read, since a
-- line of a process has at least 10 bytes.
abbrev pub commits_with : (trace : Option (List ℕ)) → (asked : ℕ) → ℕ
commits_with None asked = asked
commits_with (Some name) asked = min asked 26843545

-- the commits and the items that are asked for, and 1,000 steps at most before it is the turn of the next process
abbrev pub run_limits_of : RunRequest → Limits
run_limits_of request = record { commits = commits_with request.trace request.commits; take = request.take; quota = 1000 }

-- with at most this many commits a run in any order comes to nothing to which one in the order of the queue does not
-- come within the limits. In that order a process waits at most once before each get or put, and once more. In each
-- round of the queue it makes the next event of the other run, if that was not made before. They are at most an eighth
-- of the limit, so that a run in vain costs little
abbrev pub commits_in_any_order : (processes : ℕ) → (take : Option ℕ) → (commits : ℕ) → ℕ
commits_in_any_order processes None commits = min ((commits - processes) / 2) (commits / 8)
commits_in_any_order processes (Some items) commits =
    min (min ((commits - processes) / 2) (commits / max processes 1 - 1)) (commits / 8)

abbrev pub limits_in_any_order : (processes : ℕ) → Limits → Limits
limits_in_any_order processes limits =
    record limits { commits = commits_in_any_order processes limits.take limits.commits }
