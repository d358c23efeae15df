-- What is said of the text of a network.
use Rattle.std.specs.Prelude.{ℕ, ℤ, List}
use Rattle.kpn_net.specs.Tables.{Tables}
use Rattle.kpn_book.specs.declared.outcome.Limits.{Limits}
use Rattle.kpn_text.specs.Document.{Document}
use Rattle.kpn_text.specs.Spells.{SpellsDocument}
use Rattle.kpn_text.specs.Phases.{Refuses}
use Rattle.kpn_c.specs.declared.running.RunResult.{RunResult}
use Rattle.kpn_c.specs.declared.texts.TextRunFault.{TextRunFault}
use Rattle.kpn_c.specs.declared.texts.TextRunFault.TheVariants as fault
use Rattle.kpn_c.specs.Running.{IsRunOn, DoNotFit}

-- the text is a description
abbrev pub IsText : List ℕ → Type 0
IsText text = (d : Document) × SpellsDocument text d

-- it tells of a run of the network that the text describes
abbrev pub RunsText : List ℕ → List ℤ → List ℕ → Limits → RunResult → Type 0
RunsText text items lengths limits ran = (d : Document) × SpellsDocument text d × IsRunOn d.tables items lengths limits ran

-- why a network is not run on these lists: they do not fit, or memory ran out
abbrev pub RefusesRunOn : Tables → List ℤ → List ℕ → TextRunFault → Type 0
RefusesRunOn t items lengths (fault.Text cause) = ⊥
RefusesRunOn t items lengths fault.Lists = DoNotFit t items lengths
RefusesRunOn t items lengths fault.NoMemory = Unit {0}

-- why there is no run: the text is refused, or its network is not run on these lists
abbrev pub RefusesRun : List ℕ → List ℤ → List ℕ → TextRunFault → Type 0
RefusesRun text items lengths (fault.Text cause) = Refuses text cause
RefusesRun text items lengths other = (d : Document) × SpellsDocument text d × RefusesRunOn d.tables items lengths other
