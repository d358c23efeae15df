-- What is told of a history that is not found legal.
use Rattle.std.specs.Prelude.{◌≡◌, ℕ, List, ◌++◌, codes}
use Rattle.std.specs.Fmt.{decimal}
use Rattle.kpn_command_base.specs.declared.flaw.Flaw.{Flaw}
use Rattle.kpn_command_base.specs.declared.flaw.Flaw.TheVariants.{Illegal, Budget}

-- `WORD at K`, and a line feed
abbrev pub event_line : (word : List ℕ) → (k : ℕ) → List ℕ
event_line word k = word ++ codes " at " ++ decimal k ++ codes "\n"

-- the line that names the event, and the status: 1 for one that is not legal, 5 for one that its process did not come
-- to
abbrev pub IsFlawTold : Flaw → (text : List ℕ) (status : ℕ) → Type 0
IsFlawTold (Illegal k) text status = (text ≡ event_line (codes "illegal") k) × (status ≡ 1)
IsFlawTold (Budget k) text status = (text ≡ event_line (codes "budget") k) × (status ≡ 5)
