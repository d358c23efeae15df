-- The line that says how many parts a network has.
use Rattle.std.specs.Prelude.{ℕ, List, ◌++◌, length, codes}
use Rattle.std.specs.Fmt.{decimal}
use Rattle.kpn_text.specs.Document.{Document}

-- `ok: P processes, I instances, C channels`
abbrev pub counts_text : (processes instances channels : ℕ) → List ℕ
counts_text processes instances channels =
    codes "ok: " ++ decimal processes ++ codes " processes, " ++ decimal instances ++ codes " instances, "
    ++ decimal channels ++ codes " channels\n"

-- it counts the texts of processes, whether or not an instance runs them
abbrev pub summary_text : Document → List ℕ
summary_text d = counts_text (length d.tables.programs) (length d.tables.instances) (length d.tables.channels)
