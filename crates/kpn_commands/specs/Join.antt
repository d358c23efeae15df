-- What `kpn join` writes.
use Rattle.std.specs.Prelude.{◌≡◌, ◌⊎◌, ◌↔◌, ℕ, ◌+◌, ◌*◌, ◌<◌, ◌/◌, ℤ, Bool, true, List, [], ◌++◌, length, map, codes, Option, slice_index_or}
use Rattle.std.specs.Fmt.{decimal}
use Rattle.std.specs.declared.alloc.Global.{Global}
use Rattle.kpn_net.specs.Tables.{Tables}
use Rattle.kpn_net.specs.Iteration.{lists_of}
use Rattle.kpn_history.specs.declared.event.Event.{Event}
use Rattle.kpn_history.specs.declared.stored.Trace.{Trace}
use Rattle.kpn_history.specs.declared.stored.Version.TheVariants.{One, Two}
use Rattle.kpn_history.specs.Channels.{written_on, capacity_after}
use Rattle.kpn_trace.specs.declared.fault.TraceFault.TheVariants.{BadHead}
use Rattle.kpn_parts.specs.declared.order.PartEvent.{PartEvent}
use Rattle.kpn_parts.specs.declared.link.PartLink.{PartLink}
use Rattle.kpn_parts.specs.declared.link.ChannelHome.{ChannelHome}
use Rattle.kpn_parts.specs.Cut.{Part, part_at, IsCut}
use Rattle.kpn_parts.specs.Homes.{AreHomes}
use Rattle.kpn_parts.specs.Joined.{events_of_part, whole_history, IsJoined, AreAtRest}
use Rattle.kpn_parts.specs.Links.{AreLinks, ComesInNone, history_at}
use Rattle.kpn_text.specs.Document.{Document}
use Rattle.kpn_shelf.specs.Shelf.{Loads}
use Rattle.kpn_command_base.specs.declared.auditing.Audited.{Audited}
use Rattle.kpn_command_base.specs.declared.auditing.Finding.TheVariants.{NotLegal}
use Rattle.kpn_command_base.specs.declared.flaw.Flaw.{Flaw}
use Rattle.kpn_command_base.specs.declared.flaw.Flaw.TheVariants.{Illegal, Budget}
use Rattle.kpn_command_base.specs.declared.refusal.Refusal.{Refusal}
use Rattle.kpn_command_base.specs.declared.refusal.Refusal.TheVariants as refusal
use Rattle.kpn_command_base.specs.ListText.{lines_from}
use Rattle.kpn_command_base.specs.AuditText.{channel_line, exact_line}
use Rattle.kpn_command_base.specs.Audited.{IsAudited, IsTraced, IsRefusalOfAudit}
use Rattle.kpn_command_base.specs.Description.{IsDescribed, IsRefusalOfDescription}

-- ---- the files

-- the description and the trace of part r: each part has two words
abbrev pub part_file : (words : List (List ℕ)) (r : ℕ) → List ℕ
part_file words r = slice_index_or words (2 * r) []

abbrev pub trace_file : (words : List (List ℕ)) (r : ℕ) → List ℕ
trace_file words r = slice_index_or words (2 * r + 1) []

-- a file spells a trace of version 2 with these events
pub record HasEvents (may_give : Loads) (trace : List ℕ) (events : List Event) : Type 0 where
  pub stored : Trace Global
  pub traced : IsTraced may_give trace stored
  pub version : stored.version ≡ Two
  pub same : stored.events ≡ events

-- one file spells a part, the other its history
pub record IsPartIn (may_give : Loads) (part trace : List ℕ) (tables : Tables) (history : List Event)
    : Type 0 where
  pub document : Document
  pub described : IsDescribed may_give part document
  pub spells : document.tables ≡ tables
  pub events : HasEvents may_give trace history

-- the files spell these parts of a network and their histories
pub record AreRead (may_give : Loads) (words : List (List ℕ)) (cut : List Part) (histories : List (List Event))
    : Type 0 where
  pub count : length cut ≡ length words / 2
  pub each : (r : ℕ) → r < length cut
      → IsPartIn may_give (part_file words r) (trace_file words r) (part_at cut r).tables (history_at histories r)
  pub same : length histories ≡ length cut

-- ---- what is told

-- the capacity of a channel where it is written
abbrev pub capacity_at : List Part → List (List Event) → ChannelHome → Option ℕ
capacity_at cut histories home =
    capacity_after (part_at cut home.part).tables (history_at histories home.part) home.channel

-- `legal`, whether it is exact, and a line for each channel in order of number
abbrev pub joined_text : (names : List (List ℕ)) → List Part → List (List Event) → List ChannelHome → (exact : Bool)
    → (journals : List (List ℤ)) → List ℕ
joined_text names cut histories homes exact journals =
    codes "legal\n" ++ exact_line exact
    ++ lines_from (channel_line names (map (capacity_at cut histories) homes)) 0 journals

-- the parts are a cut, and their histories have an order in which they are a joined run. The text shows its journals,
-- and says that they are exact if the run is at rest
pub record IsToldOfRun (d : Document) (cut : List Part) (histories : List (List Event)) (text : List ℕ)
    : Type 0 where
  pub order : List PartEvent
  pub whole : (r : ℕ) → events_of_part r order ≡ history_at histories r
  pub joined : IsJoined d.tables cut order
  pub homes : List ChannelHome
  pub are_homes : AreHomes d.tables cut homes
  pub exact : Bool
  pub at_rest : (exact ≡ true) ↔ AreAtRest d.tables cut order
  pub is : text
      ≡ joined_text d.names.channels cut histories homes exact
      (lists_of d.tables (written_on (whole_history d.tables cut order)))

-- `WORD at K in TRACE`, and a line feed
abbrev pub line_at : (word : List ℕ) (k : ℕ) (trace : List ℕ) → List ℕ
line_at word k trace = word ++ codes " at " ++ decimal k ++ codes " in " ++ trace ++ codes "\n"

-- the line for a flaw, and the status
abbrev pub IsFlawIn : (trace : List ℕ) → Flaw → (text : List ℕ) (status : ℕ) → Type 0
IsFlawIn trace (Illegal k) text status = (text ≡ line_at (codes "illegal") k trace) × (status ≡ 1)
IsFlawIn trace (Budget k) text status = (text ≡ line_at (codes "budget") k trace) × (status ≡ 5)

-- what is told of a part whose trace is not found legal
pub record IsFlawOf (may_give : Loads) (part trace : List ℕ) (steps : ℕ) (text : List ℕ) (status : ℕ) : Type 0 where
  pub audited : Audited
  pub is_audited : IsAudited may_give part trace steps audited
  pub flaw : Flaw
  pub found : audited.finding ≡ NotLegal flaw
  pub told : IsFlawIn trace flaw text status

-- the same of one of these parts
pub record TellsOfFlaw (may_give : Loads) (words : List (List ℕ)) (steps : ℕ) (text : List ℕ) (status : ℕ)
    : Type 0 where
  pub part : ℕ
  pub there : part < length words / 2
  pub flaw : IsFlawOf may_give (part_file words part) (trace_file words part) steps text status

-- what is told of parts whose traces are legal
pub data TellsOfParts (d : Document) (words : List (List ℕ)) (cut : List Part) (histories : List (List Event))
    (text : List ℕ) (status : ℕ) : Type 0 where
  legal : IsCut d.tables cut → IsToldOfRun d cut histories text → status ≡ 0 →
      TellsOfParts d words cut histories text status
  stuck : IsCut d.tables cut → (links : List PartLink) → AreLinks d.tables cut links → (r k : ℕ) →
      ComesInNone histories links r k → text ≡ line_at (codes "not joined") k (trace_file words r) → status ≡ 1 →
      TellsOfParts d words cut histories text status
  no_cut : text ≡ codes "no cut\n" → status ≡ 1 → TellsOfParts d words cut histories text status

-- what is told of these files
pub data AnswersJoin (may_give : Loads) (file : List ℕ) (words : List (List ℕ)) (steps : ℕ) (text : List ℕ)
    (status : ℕ) : Type 0 where
  joins : (d : Document) → IsDescribed may_give file d → (cut : List Part) (histories : List (List Event)) →
      AreRead may_give words cut histories → TellsOfParts d words cut histories text status →
      AnswersJoin may_give file words steps text status
  flawed : TellsOfFlaw may_give words steps text status → AnswersJoin may_give file words steps text status

-- ---- why nothing is told

-- a file spells a trace of version 1
pub record IsOld (may_give : Loads) (trace : List ℕ) : Type 0 where
  pub stored : Trace Global
  pub traced : IsTraced may_give trace stored
  pub version : stored.version ≡ One

-- a part is refused as by an audit, or its trace is of version 1
abbrev pub IsRefusalOfPart : (may_give : Loads) (part trace : List ℕ) → Refusal → Type 0
IsRefusalOfPart may_give part trace refused =
    IsRefusalOfAudit may_give part trace refused ⊎ ((refused ≡ refusal.Trace BadHead) × IsOld may_give trace)

-- so is one of these parts
pub record IsPartRefused (may_give : Loads) (words : List (List ℕ)) (refused : Refusal) : Type 0 where
  pub part : ℕ
  pub there : part < length words / 2
  pub why : IsRefusalOfPart may_give (part_file words part) (trace_file words part) refused

-- a part is refused, or memory runs out
abbrev pub IsRefusalOfParts : (may_give : Loads) (words : List (List ℕ)) → Refusal → Type 0
IsRefusalOfParts may_give words refused = IsPartRefused may_give words refused ⊎ (refused ≡ refusal.NoMemory)

-- the description is read first, then each part in turn
abbrev pub IsRefusalOfJoin : (may_give : Loads) (file : List ℕ) (words : List (List ℕ)) → Refusal → Type 0
IsRefusalOfJoin may_give file words refused =
    IsRefusalOfDescription may_give file refused ⊎ IsRefusalOfParts may_give words refused
