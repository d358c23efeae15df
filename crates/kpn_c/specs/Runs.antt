-- What a run tells C, by the number that the export returns.
use Rattle.std.specs.Prelude.{◌≡◌, ◌⊎◌, ◌<◌, ℕ, true, if◌then◌else◌, ℤ, List, length, Some, None}
use Rattle.kpn_book.specs.declared.outcome.Limits.{Limits}
use Rattle.kpn_book.specs.declared.outcome.Outcome.{Outcome}
use Rattle.kpn_book.specs.declared.outcome.Outcome.TheVariants.{Ended, Clogged, Jammed, Enough, Stopped}
use Rattle.kpn_c.specs.declared.running.RunResult.{RunResult}
use Rattle.kpn_c.specs.declared.texts.TextRunFault.TheVariants.{Lists, NoMemory}
use Rattle.kpn_c.specs.Slices.{PutsIfFits}
use Rattle.kpn_c.specs.Texts.{RunsText, RefusesRun}
use Rattle.kpn_c.specs.declared.codes.FaultPlace.{FaultPlace}
use Rattle.kpn_c.specs.declared.runs.GivenLimits.{GivenLimits}
use Rattle.kpn_c.specs.declared.runs.RunSizes.{RunSizes}
use Rattle.kpn_c.specs.Exports.{TellsTextFault}

-- the limits that C has given
abbrev pub limits_from : GivenLimits → Limits
limits_from l =
    record { commits = l.commits; take = if l.has_take then Some l.take else None; quota = l.quota }

abbrev pub code_of_outcome : Outcome → ℕ
code_of_outcome Ended = 1
code_of_outcome Clogged = 2
code_of_outcome Jammed = 3
code_of_outcome Enough = 4
code_of_outcome Stopped = 5

-- what a run has come to, and the sizes of what it tells
abbrev pub sizes_of : RunResult → RunSizes
sizes_of told =
    record {
      outcome = code_of_outcome told.outcome;
      commits = told.commits;
      items = length told.items.items;
      sinks = length told.lengths.items;
      trace = length told.trace.items;
    }

-- the buffers of C for the items of the sinks, how many are of each, and the trace
pub record Buffers : Type 0 where
  pub items : List ℤ
  pub lengths : List ℕ
  pub trace : List ℕ

-- all that is told stands at the front of the buffers
pub record PutsAll (told : RunResult) (before after : Buffers) : Type 0 where
  pub items : PutsIfFits true told.items.items before.items after.items
  pub lengths : PutsIfFits true told.lengths.items before.lengths after.lengths
  pub trace : PutsIfFits true told.trace.items before.trace after.trace

-- one of the buffers is too small
abbrev pub LackRoom : RunResult → Buffers → Type 0
LackRoom told room =
    (length room.items < length told.items.items) ⊎ (length room.lengths < length told.lengths.items)
    ⊎ (length room.trace < length told.trace.items)

-- what a run has come to is told, and all of it is put into the buffers, or one is too small and none changes
pub record PutsIfAllFits (told : RunResult) (code : ℕ) (ran : RunSizes) (before after : Buffers) : Type 0 where
  pub sizes : ran ≡ sizes_of told
  pub puts : ((code ≡ 0) × PutsAll told before after) ⊎ ((code ≡ 61) × LackRoom told before × (after ≡ before))

-- it is told of a run of the network that the text describes on these lists
pub record TellsRun (text : List ℕ) (items : List ℤ) (lengths : List ℕ) (limits : GivenLimits) (code : ℕ)
    (ran : RunSizes) (before after : Buffers) : Type 0 where
  pub told : RunResult
  pub runs : RunsText text items lengths (limits_from limits) told
  pub tells : PutsIfAllFits told code ran before after

-- the reason why there is no run
abbrev pub TellsNoRun : (text : List ℕ) (items : List ℤ) (lengths : List ℕ) (code : ℕ) → FaultPlace → Type 0
TellsNoRun text items lengths code place =
    TellsTextFault text code place ⊎ ((code ≡ 60) × RefusesRun text items lengths Lists)
    ⊎ ((code ≡ 42) × RefusesRun text items lengths NoMemory)

-- it is told of a run, or nothing changes but the place of a fault, and the reason is told
abbrev pub RunsNetwork : (text : List ℕ) (items : List ℤ) (lengths : List ℕ) → GivenLimits → (code : ℕ) → FaultPlace
    → (was ran : RunSizes) (before after : Buffers) → Type 0
RunsNetwork text items lengths limits code place was ran before after =
    TellsRun text items lengths limits code ran before after
    ⊎ ((after ≡ before) × (ran ≡ was) × TellsNoRun text items lengths code place)

-- the buffers as C passes them
abbrev pub buffers_of : (items : List ℤ) (lengths trace : List ℕ) → Buffers
buffers_of items lengths trace = record { items = items; lengths = lengths; trace = trace }
