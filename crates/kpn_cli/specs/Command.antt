-- What the program does on a command line: it answers what the words ask for, and carries the answer out.
use Rattle.std.specs.Prelude.{◌≡◌, ℕ, List, Option, Some, None, map, option_map, IsSome, Result, IfOk, IfErr, ⊤}
use Rattle.kpn_text.specs.Document.{Document, canonical_text}
use Rattle.kpn_book.specs.Book.{Book}
use Rattle.kpn_command_base.specs.declared.refusal.Refusal.{Refusal}
use Rattle.kpn_command_base.specs.declared.refusal.Refusal.TheVariants.{NoMemory}
use Rattle.kpn_command_base.specs.declared.conclusion.Conclusion.{Conclusion}
use Rattle.kpn_command_base.specs.Conclusion.{Succeeds, TellsOnly}
use Rattle.kpn_shelf.specs.Shelf.{Loads, Aliases}
use Rattle.kpn_command_base.specs.Description.{IsRefusalOfCommand}
use Rattle.kpn_command_base.specs.Inputs.{IsRefusalOfInputs}
use Rattle.kpn_command_base.specs.Counts.{summary_text}
use Rattle.kpn_command_base.specs.Audited.{IsRefusalOfAudit}
use Rattle.kpn_commands.specs.Alone.{RunsAlone}
use Rattle.kpn_commands.specs.TextOf.{IsTextOf}
use Rattle.kpn_commands.specs.Rounds.{IsRounds}
use Rattle.kpn_commands.specs.Run.{IsRunAnswer, IsNoRun}
use Rattle.kpn_commands.specs.Answers.{AnswersAudit}
use Rattle.kpn_commands.specs.Join.{AnswersJoin, IsRefusalOfJoin}
use Rattle.kpn_command_explain.specs.Answers.{IsExplained, IsRefusalOfExplaining, AreItemsExplained, IsRefusalOfItemFile}
use Rattle.kpn_command_explain.specs.TraceAnswers as traces
use Rattle.kpn_command_views.specs.DrawAnswers.{IsDrawn, IsRefusalOfDrawing}
use Rattle.kpn_command_base.specs.Audited.{IsAnyToldOf}
use Rattle.kpn_command_views.specs.TimelineAnswers.{IsTimeline, HasGoneOut, IsNoTimeline}
use Rattle.kpn_command_views.specs.PictureAnswers.{IsPictured, IsRefusalOfPicture}
use Rattle.kpn_command_base.specs.StreamRequest.{StreamRequest}
use Rattle.kpn_command_stream.specs.Command.{DeviceNames, Streams, known_of}
use Rattle.kpn_command_line.specs.Asked.{AreUnclear, IsAsked}
use Rattle.kpn_command_line.specs.declared.request.Request.{Request}
use Rattle.kpn_command_line.specs.declared.request.Request.TheVariants.{Alone, Check, Explain, ExplainItems}
use Rattle.kpn_command_line.specs.declared.request.Request.TheVariants.{Print, Draw, Rounds, Run, Stream}
use Rattle.kpn_command_line.specs.declared.request.Request.TheVariants.{Audit, Join, Stats, Timeline, Picture, Help}
use Rattle.kpn_command_line.specs.declared.request.WordsFault.{WordsFault}
use Rattle.kpn_command_line.specs.declared.request.WordsFault.TheVariants.{Usage, NoMemory as Unread}
use Rattle.kpn_cli.specs.declared.here.Progress.{Progress}
use Rattle.kpn_cli.specs.declared.here.Progress.TheVariants.{Answered, NeedsWorkers, NeedsDevices, NeedsOutput}
use Rattle.kpn_cli.specs.Concludes.{Concludes, IsRefusalReported}

-- ---- answers

-- such a conclusion, or a refusal that has such a cause
abbrev pub Answers : (IsRight : Conclusion → Type 0) (HasCause : Refusal → Type 0) → Result Conclusion Refusal
    → Type 0
Answers IsRight HasCause answer = IfOk answer IsRight × IfErr answer HasCause

-- a description is explained, or a trace of its network with this number of steps before each event
abbrev pub ExplainsFile : (may_give : Loads) (file : List ℕ) (trace : Option (List ℕ)) (steps : ℕ)
    → Result Conclusion Refusal → Type 0
ExplainsFile may_give file None steps answer =
    Answers (TellsOnly (IsExplained may_give file)) (IsRefusalOfExplaining may_give file) answer
ExplainsFile may_give file (Some trace) steps answer =
    Answers (TellsOnly (traces.IsExplained may_give file trace steps)) (traces.IsRefusalOfExplaining may_give file
    trace)
    answer

-- What is answered to a request. Given is the input as it was and as it is afterwards: only `alone` reads it. A stream
-- and a timeline are not answered by a conclusion.
abbrev pub IsRequestAnswer : {I : Type 0} → (may_give : Loads) (may_alias : Aliases) (remaining : I → Option (List ℕ))
    → Request → (input read : I) → Result Conclusion Refusal → Type 0
IsRequestAnswer may_give may_alias remaining (Alone name) input read answer =
    RunsAlone remaining name.now input read answer
IsRequestAnswer may_give may_alias remaining (Check file) input read answer =
    (read ≡ input) × Answers (Succeeds (IsTextOf summary_text may_give file.now))
    (IsRefusalOfCommand may_give file.now) answer
IsRequestAnswer may_give may_alias remaining (Explain file trace steps) input read answer =
    (read ≡ input) × ExplainsFile may_give file.now (option_map (λ name. name.now) trace) steps answer
IsRequestAnswer may_give may_alias remaining (ExplainItems file) input read answer =
    (read ≡ input)
    × Answers (TellsOnly (AreItemsExplained may_give file.now)) (IsRefusalOfItemFile may_give file.now) answer
IsRequestAnswer may_give may_alias remaining (Print file) input read answer =
    (read ≡ input) × Answers (Succeeds (IsTextOf canonical_text may_give file.now))
    (IsRefusalOfCommand may_give file.now) answer
IsRequestAnswer may_give may_alias remaining (Draw file trace direction) input read answer =
    let trace = option_map (λ name. name.now) trace in
    (read ≡ input) × Answers (TellsOnly (IsDrawn may_give file.now trace 10000000))
    (IsRefusalOfDrawing may_give file.now trace) answer
IsRequestAnswer may_give may_alias remaining (Rounds file n sources) input read answer =
    let words = map (λ word. word.now) sources.items in
    (read ≡ input) × Answers (Succeeds (IsRounds may_give file.now n words))
    (IsRefusalOfInputs may_give file.now words) answer
IsRequestAnswer may_give may_alias remaining (Run run) input read answer =
    (read ≡ input) × Answers (IsRunAnswer may_give run) (IsNoRun may_give may_alias run) answer
IsRequestAnswer may_give may_alias remaining (Stream stream) input read answer = ⊥
IsRequestAnswer may_give may_alias remaining (Audit file trace steps) input read answer =
    (read ≡ input) × Answers (TellsOnly (AnswersAudit may_give file.now trace.now steps))
    (IsRefusalOfAudit may_give file.now trace.now) answer
IsRequestAnswer may_give may_alias remaining (Join file parts steps) input read answer =
    let words = map (λ word. word.now) parts.items in
    (read ≡ input) × Answers (TellsOnly (AnswersJoin may_give file.now words steps))
    (IsRefusalOfJoin may_give file.now words) answer
IsRequestAnswer may_give may_alias remaining (Stats file trace steps tables) input read answer =
    (read ≡ input) × Answers (TellsOnly (IsAnyToldOf may_give file.now trace.now steps))
    (IsRefusalOfAudit may_give file.now trace.now) answer
IsRequestAnswer may_give may_alias remaining (Timeline file trace steps) input read answer = ⊥
IsRequestAnswer may_give may_alias remaining (Picture file trace steps first last) input read answer =
    (read ≡ input) × Answers (TellsOnly (IsPictured may_give file.now trace.now steps first last))
    (IsRefusalOfPicture may_give file.now trace.now steps first last) answer
IsRequestAnswer may_give may_alias remaining (Help text) input read answer =
    (read ≡ input) × Answers (Succeeds (λ text. ⊤)) (λ refusal. refusal ≡ NoMemory) answer

-- ---- timelines

-- A timeline goes out while it is made. Given are the output and the place for faults, each as it was and as it is
-- afterwards, and the status.
pub data TellsTimeline {O E : Type 0} (contents : O → Option (List ℕ)) (holds : E → Option (List ℕ))
    (may_give : Loads) (file trace : List ℕ) (steps : ℕ) (out written : O) (err told : E) (status : ℕ) : Type 0 where
  -- the text for these files goes out whole, and nothing is reported
  whole : HasGoneOut (IsTimeline may_give file trace steps) (contents out) (contents written) status → told ≡ err →
      TellsTimeline contents holds may_give file trace steps out written err told status
  -- there is none, or it can't be written whole
  refused : (refusal : Refusal) → IsNoTimeline may_give file trace out written refusal →
      IsRefusalReported holds refusal err told status →
      TellsTimeline contents holds may_give file trace steps out written err told status

-- the same for a request of a timeline
abbrev pub TellsAsked : {O E : Type 0} → (contents : O → Option (List ℕ)) (holds : E → Option (List ℕ))
    (may_give : Loads) → Request → (out written : O) (err told : E) (status : ℕ) → Type 0
TellsAsked contents holds may_give (Timeline file trace steps) out written err told status =
    TellsTimeline contents holds may_give file.now trace.now steps out written err told status
TellsAsked contents holds may_give request out written err told status = ⊥

-- ---- the program

-- What the program does. Given are the words of the command line, the shelf, the input, the output and the place for
-- faults, each as it was and as it is afterwards, and the status.
pub data RunsProgram {S I F O G E : Type 0} (may_give : S → Loads) (may_alias : S → Aliases) (names : DeviceNames S F G)
    (remaining : I → Option (List ℕ)) (left_in : F → Option (List ℕ)) (contents : O → Option (List ℕ))
    (holds_in : G → Option (List ℕ)) (holds : E → Option (List ℕ))
    (hears : E → Document → Book → E → Type 0) (asked : List (List ℕ)) (shelf kept : S)
    (input read : I) (out written : O) (err told : E) (status : ℕ) : Type 0 where
  -- the words ask for something, which is answered, and the answer is carried out
  answers : (request : Request) → IsAsked asked request → (answer : Result Conclusion Refusal) →
      IsRequestAnswer (may_give shelf) (may_alias shelf) remaining request input read answer →
      Concludes may_give contents holds answer shelf kept out written err told status →
      RunsProgram may_give may_alias names remaining left_in contents holds_in holds hears asked
      shelf kept input read out written err told status
  -- they ask for a stream, which reads and writes while it goes on
  streams : (stream : StreamRequest) → IsAsked asked (Stream stream) →
      Streams may_give may_alias names (known_of remaining left_in contents holds_in) holds hears stream
      shelf kept input read out written err told status →
      RunsProgram may_give may_alias names remaining left_in contents holds_in holds hears asked
      shelf kept input read out written err told status
  -- they ask for a timeline, which goes out while it is made
  tells : (request : Request) → IsAsked asked request → kept ≡ shelf → read ≡ input →
      TellsAsked contents holds (may_give shelf) request out written err told status →
      RunsProgram may_give may_alias names remaining left_in contents holds_in holds hears asked
      shelf kept input read out written err told status
  -- they are not understood, and the place for faults gets how to use words
  unclear : AreUnclear asked → kept ≡ shelf → read ≡ input → written ≡ out → status ≡ 2 →
      RunsProgram may_give may_alias names remaining left_in contents holds_in holds hears asked
      shelf kept input read out written err told status
  -- there is no memory to read them
  unread : kept ≡ shelf → read ≡ input → written ≡ out → IsRefusalReported holds NoMemory err told status →
      RunsProgram may_give may_alias names remaining left_in contents holds_in holds hears asked
      shelf kept input read out written err told status

-- ---- scaffolding: what the parts of the code answer

-- A request is answered without workers. Or it asks for a run by workers: then this run is handed back, and the input is
-- as it was. The same holds of a stream and of a timeline.
abbrev pub RequestComesTo : {I : Type 0} → (may_give : Loads) (may_alias : Aliases) (remaining : I → Option (List ℕ))
    → Request → (input read : I) → Progress → Type 0
RequestComesTo may_give may_alias remaining request input read (Answered answer) =
    IsRequestAnswer may_give may_alias remaining request input read answer
RequestComesTo may_give may_alias remaining request input read (NeedsWorkers run) =
    (request ≡ Run run) × IsSome run.workers × (read ≡ input)
RequestComesTo may_give may_alias remaining request input read (NeedsDevices stream) =
    (request ≡ Stream stream) × (read ≡ input)
RequestComesTo may_give may_alias remaining request input read (NeedsOutput file trace steps) =
    (request ≡ Timeline file trace steps) × (read ≡ input)

-- words that are not understood have status 2, and want of memory to read them is reported
abbrev pub TellsWordsFault : {E : Type 0} → (holds : E → Option (List ℕ)) → WordsFault → (err told : E) (status : ℕ)
    → Type 0
TellsWordsFault holds (Usage text) err told status = status ≡ 2
TellsWordsFault holds Unread err told status = IsRefusalReported holds NoMemory err told status
