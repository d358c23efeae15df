-- What the parts of the code of `kpn join` keep and answer. A reader of the public contract needs none of it.
use Rattle.std.specs.Prelude.{◌≡◌, ◌⊎◌, ℕ, ◌<◌, ℤ, Bool, true, false, ◌&&◌, ◌==◌, List, [], ◌∷◌, ◌++◌, length, map, Option, None, slice_get, slice_index_or}
use Rattle.std.specs.List.{list_all}
use Rattle.std.specs.Option.{option_map_or}
use Rattle.std.specs.declared.alloc.Global.{Global}
use Rattle.kpn_net.specs.declared.wait.Wait.{Wait}
use Rattle.kpn_net.specs.declared.wait.Wait.TheVariants.{Empty}
use Rattle.kpn_history.specs.declared.event.Event.{Event}
use Rattle.kpn_audit.specs.declared.findings.Audit.{Audit}
use Rattle.kpn_audit.specs.Audit.{IsAudit}
use Rattle.kpn_parts.specs.declared.link.ChannelHome.{ChannelHome}
use Rattle.kpn_parts.specs.Cut.{Part, whole_channel}
use Rattle.kpn_text.specs.Document.{Document}
use Rattle.kpn_shelf.specs.Shelf.{Loads}
use Rattle.kpn_trace.specs.declared.fault.TraceFault.TheVariants.{BadHead}
use Rattle.kpn_command_base.specs.declared.refusal.Refusal.{Refusal}
use Rattle.kpn_command_base.specs.declared.refusal.Refusal.TheVariants as refusal
use Rattle.kpn_command_base.specs.Audited.{IsRefusalOfTrace}
use Rattle.kpn_command_base.specs.Description.{IsDescribed}
use Rattle.kpn_commands.specs.declared.join.LoadedParts.{LoadedParts}
use Rattle.kpn_commands.specs.Join.{part_file, trace_file, HasEvents, IsOld, TellsOfParts}

-- ---- parts that are loaded

-- nothing is loaded
abbrev pub IsUnloaded : LoadedParts → Type 0
IsUnloaded loaded =
    (loaded.documents.items ≡ []) × (loaded.histories.items ≡ []) × (loaded.audits.items ≡ [])

-- each part has an audit of its history
pub record AreAudited (loaded : LoadedParts) : Type 0 where
  pub histories : length loaded.histories.items ≡ length loaded.documents.items
  pub audits : length loaded.audits.items ≡ length loaded.documents.items
  pub each : (r : ℕ) (d : Document) (H : List Event) (audit : Audit Global) → r < length loaded.documents.items
      → IsAudit (slice_index_or loaded.documents.items r d).tables (slice_index_or loaded.histories.items r H)
      (slice_index_or loaded.audits.items r audit)

-- the first n parts of these files are loaded
pub record AreLoaded (may_give : Loads) (words : List (List ℕ)) (n : ℕ) (loaded : LoadedParts) : Type 0 where
  pub count : length loaded.documents.items ≡ n
  pub audited : AreAudited loaded
  pub described : (r : ℕ) (d : Document) → r < n
      → IsDescribed may_give (part_file words r) (slice_index_or loaded.documents.items r d)
  pub traced : (r : ℕ) (H : List Event) → r < n
      → HasEvents may_give (trace_file words r) (slice_index_or loaded.histories.items r H)

-- a part of these files is put to those that are loaded
pub record LoadsPart (may_give : Loads) (part trace : List ℕ) (old new : LoadedParts) : Type 0 where
  pub document : Document
  pub described : IsDescribed may_give part document
  pub history : List Event
  pub traced : HasEvents may_give trace history
  pub audit : Audit Global
  pub audited : IsAudit document.tables history audit
  pub documents : new.documents.items ≡ old.documents.items ++ document ∷ []
  pub histories : new.histories.items ≡ old.histories.items ++ history ∷ []
  pub audits : new.audits.items ≡ old.audits.items ++ audit ∷ []

-- why a file gives no trace of version 2
abbrev pub IsRefusalOfNewTrace : (may_give : Loads) (trace : List ℕ) → Refusal → Type 0
IsRefusalOfNewTrace may_give trace refused =
    IsRefusalOfTrace may_give trace refused ⊎ ((refused ≡ refusal.Trace BadHead) × IsOld may_give trace)

-- the parts have the tables of these documents
abbrev pub HasTables : List Part → List Document → Type 0
HasTables cut documents = map (λ part. part.tables) cut ≡ map (λ document. document.tables) documents

-- what is told of parts that are loaded
abbrev pub TellsOfLoaded : Document → (words : List (List ℕ)) → LoadedParts → (text : List ℕ) (status : ℕ) → Type 0
TellsOfLoaded d words loaded text status =
    (cut : List Part) × HasTables cut loaded.documents.items
    × TellsOfParts d words cut loaded.histories.items text status

-- ---- what the audits show

-- the journal of channel c of part r
abbrev pub journal_in : List (Audit Global) → (r c : ℕ) → List ℤ
journal_in audits r c = slice_index_or (slice_index_or (map (λ audit. audit.journals) audits) r []) c []

abbrev pub audited_journal : List (Audit Global) → ChannelHome → List ℤ
audited_journal audits home = journal_in audits home.part home.channel

abbrev pub audited_capacity : List (Audit Global) → ChannelHome → Option ℕ
audited_capacity audits home =
    slice_index_or (slice_index_or (map (λ audit. audit.caps) audits) home.part []) home.channel None

-- these channels are there
abbrev pub AreIn : List (Audit Global) → List ChannelHome → Type 0
AreIn audits homes =
    (c : ℕ) (home : ChannelHome) (audit : Audit Global) → c < length homes
    → ((slice_index_or homes c home).part < length audits)
    × ((slice_index_or homes c home).channel
    < length (slice_index_or audits (slice_index_or homes c home).part audit).journals)

-- part r has as many items on its channel c as were put there
abbrev pub has_all : Part → List ChannelHome → List (Audit Global) → (r c : ℕ) → Bool
has_all part homes audits r c =
    option_map_or (λ home. length (journal_in audits r c) == length (audited_journal audits home))
    (slice_get homes (whole_channel part c)) false

-- nothing is on the way to a process that waits for this
abbrev pub is_settled : Part → List ChannelHome → List (Audit Global) → (r : ℕ) → Wait → Bool
is_settled part homes audits r (Empty c) = has_all part homes audits r c
is_settled part homes audits r wait = true

-- part r is at rest, and nothing is on the way to its processes
abbrev pub is_part_at_rest : Part → List ChannelHome → List (Audit Global) → (r : ℕ) → Bool
is_part_at_rest part homes audits r =
    slice_index_or (map (λ audit. audit.exact) audits) r false
    && list_all (is_settled part homes audits r) (slice_index_or (map (λ audit. audit.waits) audits) r [])
