-- What the words of a command line ask for.
use Rattle.std.specs.Prelude.{◌≡◌, ◌≤◌, ◌≢◌, ◌⊎◌, ◌&&◌, ◌^◌, ◌%◌, ℕ, nat_lt, List, [], ◌∷◌, length}
use Rattle.std.specs.Prelude.{Option, Some, None, option_map, option_and_then, unwrap_or, map, codes, ⊤}
use Rattle.std.specs.Prelude.{if◌then◌else◌, Result, MatchResult}
use Rattle.std.specs.Prelude.{Bool, true, false}
use Rattle.std.specs.Option.{option_map_or}
use Rattle.std.specs.Str.{bytes_eq}
use Rattle.std.specs.Str.Parse.{digits_value, without_leading_plus}
use Rattle.clap.specs.Kinds.{IsAmong}
use Rattle.clap.specs.Faults.{fault_of}
use Rattle.clap.specs.Simple.{subcommand_of}
use Rattle.clap.specs.ValueTests.{is_numeral}
use Rattle.clap.specs.Walk.{Row, first_of, one_of, all_of, rows_of}
use Rattle.clap.specs.Matches.{found_of}
use Rattle.clap.specs.declared.parser.matches.ArgMatches.{ArgMatches}
use Rattle.clap.specs.declared.error.kind.ErrorKind.{ErrorKind}
use Rattle.clap.specs.declared.error.kind.ErrorKind.TheVariants.{DisplayHelp, DisplayVersion, OutOfMemory}
use Rattle.kpn_command_base.specs.declared.direction.Direction.{Direction}
use Rattle.kpn_command_base.specs.declared.direction.Direction.TheVariants.{LeftToRight, TopToBottom}
use Rattle.kpn_command_base.specs.declared.tables.StatsTables.{StatsTables}
use Rattle.kpn_command_base.specs.declared.tables.StatsTables.TheVariants.{People, Channels, Processes}
use Rattle.kpn_command_line.specs.declared.request.Request.{Request}
use Rattle.kpn_command_line.specs.declared.request.Request.TheVariants.{Alone, Check, Explain, ExplainItems}
use Rattle.kpn_command_line.specs.declared.request.Request.TheVariants.{Print, Draw, Rounds, Run, Stream}
use Rattle.kpn_command_line.specs.declared.request.Request.TheVariants.{Audit, Join, Stats, Timeline, Picture, Help}
use Rattle.kpn_command_line.specs.declared.request.WordsFault.{WordsFault}
use Rattle.kpn_command_line.specs.declared.request.WordsFault.TheVariants.{Usage, NoMemory}
use Rattle.kpn_command_line.specs.CommandLine.{command_line}

-- the words ask for help or the version: `clap` reads them from the front and stops there first
abbrev pub AsksForHelp : (words : List (List ℕ)) → Type 0
AsksForHelp words =
    IsAmong DisplayHelp (fault_of command_line words) ⊎ IsAmong DisplayVersion (fault_of command_line words)

-- ---- a command and what the words give to it

-- the words name this command, and `clap` finds no fault in them. They give `given` to the words and options of the
-- command
abbrev pub NamesCommand : (words : List (List ℕ)) (command : List ℕ) (given : List Row) → Type 0
NamesCommand words command given =
    (fault_of command_line words ≡ []) × (subcommand_of command_line words ≡ Some (command, given))

-- the text for the word or option of this name, if there is one
abbrev pub text_for : (name : List ℕ) (given : List Row) → Option (List ℕ)
text_for name given = first_of name given

-- all texts for an option that the user may repeat, in their order
abbrev pub texts_for : (name : List ℕ) (given : List Row) → List (List ℕ)
texts_for name given = unwrap_or (all_of name given) []

-- the number that a text has in decimal digits, perhaps after a `+`, if it fits in this many bits
abbrev pub number_in : (bits : ℕ) (text : List ℕ) → Option ℕ
number_in bits text =
    let digits = without_leading_plus text in
    if is_numeral digits && nat_lt (digits_value 10 digits) (2 ^ bits) then Some (digits_value 10 digits) else None

-- the number for it, if there is one
abbrev pub number_for : (bits : ℕ) (name : List ℕ) (given : List Row) → Option ℕ
number_for bits name given = option_and_then (number_in bits) (one_of name given)

-- whether this text is `true`, which `clap` gives to a flag that is set
abbrev pub is_true : (text : Option (List ℕ)) → Bool
is_true text = option_map_or (λ it. bytes_eq it (codes "true")) text false

-- whether this flag is set
abbrev pub is_set : (name : List ℕ) (given : List Row) → Bool
is_set name given = is_true (text_for name given)

-- ---- what the words ask for

-- the word that names a table for other programs
abbrev pub table_name : StatsTables → Option (List ℕ)
table_name People = None
table_name Channels = Some (codes "channels")
table_name Processes = Some (codes "processes")

-- a drawing from top to bottom
abbrev pub is_across : Direction → Bool
is_across LeftToRight = false
is_across TopToBottom = true

-- the name of the command that a request is for; help is for none
abbrev pub command_of : Request → List ℕ
command_of (Alone name) = codes "alone"
command_of (Check file) = codes "check"
command_of (Explain file trace steps) = codes "explain"
command_of (ExplainItems file) = codes "explain"
command_of (Print file) = codes "print"
command_of (Draw file trace direction) = codes "draw"
command_of (Rounds file n sources) = codes "rounds"
command_of (Run run) = codes "run"
command_of (Stream stream) = codes "stream"
command_of (Audit file trace steps) = codes "audit"
command_of (Join file parts steps) = codes "join"
command_of (Stats file trace steps tables) = codes "stats"
command_of (Timeline file trace steps) = codes "timeline"
command_of (Picture file trace steps first last) = codes "timeline"
command_of (Help text) = []

-- the most steps before an event: 10,000,000 without `--steps`
abbrev pub steps_for : (given : List Row) → ℕ
steps_for given = unwrap_or (number_for 64 (codes "STEPS") given) 10000000

-- What the words give to its command is what the request has. A run has 10,000,000 commits without `--max-commits`, and
-- statistics have the tables for people without `--tsv`. A picture begins with tick 1 without `--from`, and ends with
-- tick 1,000,000,000 without `--to`; it does not begin after its end. Each part of a join has two words.
abbrev pub GivesToCommand : (given : List Row) → Request → Type 0
GivesToCommand given (Alone name) = text_for (codes "NAME") given ≡ Some name.now
GivesToCommand given (Check file) = text_for (codes "FILE") given ≡ Some file.now
GivesToCommand given (Explain file trace steps) =
    (text_for (codes "FILE") given ≡ Some file.now)
    × (text_for (codes "TRACE") given ≡ option_map (λ name. name.now) trace)
    × (steps_for given ≡ steps) × (is_set (codes "ITEMS") given ≡ false)
GivesToCommand given (ExplainItems file) =
    (text_for (codes "FILE") given ≡ Some file.now) × (text_for (codes "TRACE") given ≡ None)
    × (is_set (codes "ITEMS") given ≡ true)
GivesToCommand given (Print file) = text_for (codes "FILE") given ≡ Some file.now
GivesToCommand given (Draw file trace direction) =
    (text_for (codes "FILE") given ≡ Some file.now)
    × (text_for (codes "TRACE") given ≡ option_map (λ name. name.now) trace)
    × (is_set (codes "ACROSS") given ≡ is_across direction)
GivesToCommand given (Rounds file n sources) =
    (text_for (codes "FILE") given ≡ Some file.now) × (number_for 32 (codes "N") given ≡ Some n)
    × (texts_for (codes "SOURCE") given ≡ map (λ source. source.now) sources.items)
GivesToCommand given (Run run) =
    (text_for (codes "FILE") given ≡ Some run.file) × (texts_for (codes "SOURCE") given ≡ run.sources)
    × (texts_for (codes "SINK") given ≡ run.sinks)
    × (unwrap_or (number_for 64 (codes "MAX_COMMITS") given) 10000000 ≡ run.commits)
    × (number_for 64 (codes "K") given ≡ run.take) × (text_for (codes "TRACE") given ≡ run.trace)
    × (number_for 32 (codes "WORKERS") given ≡ run.workers) × (is_set (codes "QUIET") given ≡ run.quiet)
    × (is_set (codes "STRICT") given ≡ run.strict)
GivesToCommand given (Stream stream) =
    (text_for (codes "FILE") given ≡ Some stream.file) × (texts_for (codes "SOURCE") given ≡ stream.sources)
    × (texts_for (codes "SINK") given ≡ stream.sinks) × (texts_for (codes "FORMAT") given ≡ stream.formats)
    × (is_set (codes "CLIP") given ≡ stream.clips)
    × (number_for 32 (codes "RATE") given ≡ stream.rate) × (number_for 16 (codes "CHANNELS") given ≡ stream.channels)
    × (number_for 64 (codes "MAX_COMMITS") given ≡ stream.commits) × (number_for 64 (codes "K") given ≡ stream.take)
    × (text_for (codes "TRACE") given ≡ stream.trace) × (is_set (codes "QUIET") given ≡ stream.quiet)
    × (is_set (codes "STATS") given ≡ stream.stats) × (is_set (codes "STOP_ON_FAULT") given ≡ stream.stops)
GivesToCommand given (Audit file trace steps) =
    (text_for (codes "FILE") given ≡ Some file.now) × (text_for (codes "TRACE") given ≡ Some trace.now)
    × (steps_for given ≡ steps)
GivesToCommand given (Join file parts steps) =
    (text_for (codes "FILE") given ≡ Some file.now)
    × (texts_for (codes "PARTS") given ≡ map (λ word. word.now) parts.items)
    × (steps_for given ≡ steps) × (length parts.items % 2 ≡ 0)
GivesToCommand given (Stats file trace steps tables) =
    (text_for (codes "FILE") given ≡ Some file.now) × (text_for (codes "TRACE") given ≡ Some trace.now)
    × (steps_for given ≡ steps) × (text_for (codes "TABLE") given ≡ table_name tables)
GivesToCommand given (Timeline file trace steps) =
    (text_for (codes "FILE") given ≡ Some file.now) × (text_for (codes "TRACE") given ≡ Some trace.now)
    × (steps_for given ≡ steps) × (is_set (codes "SVG") given ≡ false)
    × (number_for 64 (codes "FROM") given ≡ None) × (number_for 64 (codes "TO") given ≡ None)
GivesToCommand given (Picture file trace steps first last) =
    (text_for (codes "FILE") given ≡ Some file.now) × (text_for (codes "TRACE") given ≡ Some trace.now)
    × (steps_for given ≡ steps) × (is_set (codes "SVG") given ≡ true)
    × (unwrap_or (number_for 64 (codes "FROM") given) 1 ≡ first)
    × (unwrap_or (number_for 64 (codes "TO") given) 1000000000 ≡ last) × (first ≤ last)
GivesToCommand given (Help text) = ⊥

-- the request is what the words ask for
abbrev pub IsAsked : (words : List (List ℕ)) → Request → Type 0
IsAsked words (Help text) = AsksForHelp words
IsAsked words request =
    (given : List Row) × NamesCommand words (command_of request) given × GivesToCommand given request

-- no request is what the words ask for
abbrev pub AskForNothing : (words : List (List ℕ)) → Type 0
AskForNothing words = (request : Request) → IsAsked words request → ⊥

-- `clap` finds a fault in the words, and not only the wish for help
abbrev pub HaveFault : (words : List (List ℕ)) → Type 0
HaveFault words = (kind : ErrorKind) × IsAmong kind (fault_of command_line words)
    × (kind ≢ DisplayHelp) × (kind ≢ DisplayVersion)

-- the words are not understood
abbrev pub AreUnclear : (words : List (List ℕ)) → Type 0
AreUnclear words = HaveFault words ⊎ AskForNothing words

-- the fault holds of the words: they are not understood, or there was no memory
abbrev pub IsRefused : (words : List (List ℕ)) → WordsFault → Type 0
IsRefused words (Usage text) = AreUnclear words
IsRefused words NoMemory = ⊤

-- ---- scaffolding: what the parts of the code answer

-- what the words give to a command, as `clap` hands it over
abbrev pub rows_in : ArgMatches → List Row
rows_in matches = rows_of (found_of matches)

-- the request is for this command, which is given what the request has
abbrev pub IsOf : (command : List ℕ) (given : List Row) → Request → Type 0
IsOf command given request = (command_of request ≡ command) × GivesToCommand given request

-- a fault about the use of words comes only if this holds
abbrev pub IsUsageIf : (cause : Type 0) → WordsFault → Type 0
IsUsageIf cause (Usage text) = cause
IsUsageIf cause NoMemory = ⊤

-- The answer to a command that is given this is a request of it. A fault about the use of words comes only if there is
-- none.
abbrev pub AnswersTo : (command : List ℕ) (given : List Row) → Result Request WordsFault → Type 0
AnswersTo command given result =
    MatchResult result (IsOf command given) (IsUsageIf ((request : Request) → IsOf command given request → ⊥))

-- the name is none of these
abbrev pub IsNoneOf : (names : List (List ℕ)) (name : List ℕ) → Type 0
IsNoneOf [] name = ⊤
IsNoneOf (first ∷ names) name = (name ≢ first) × IsNoneOf names name

-- help, if `clap` stops for it
abbrev pub IsHelpOfKind : ErrorKind → Request → Type 0
IsHelpOfKind kind (Help text) = (kind ≡ DisplayHelp) ⊎ (kind ≡ DisplayVersion)
IsHelpOfKind kind request = ⊥

-- a refusal, if `clap` stops for something else
abbrev pub IsRefusalOfKind : ErrorKind → WordsFault → Type 0
IsRefusalOfKind kind (Usage text) =
    (kind ≢ DisplayHelp) × (kind ≢ DisplayVersion) × (kind ≢ OutOfMemory)
IsRefusalOfKind kind NoMemory = ⊤

-- this text names no table
abbrev pub IsNoTable : Option (List ℕ) → Type 0
IsNoTable text = (tables : StatsTables) → text ≡ table_name tables → ⊥
