-- The command line of the program, as a description that `clap` reads: the commands, the words of each in their order,
-- and its options. No word and no option has a rule about another.
use Rattle.std.specs.Prelude.{◌≡◌, ℕ, pos, true, false, List, [], ◌∷◌, map, Some, codes}
use Rattle.clap.specs.Lexer.{usize_max}
use Rattle.clap.specs.Walk.{Rule, rule_of}
use Rattle.clap.specs.Simple.{App, app_of, new_app, new_rule, new_shape, on_top}
use Rattle.clap.specs.declared.builder.command.Command.TheViews.{out-Command as fields_of}
use Rattle.clap.specs.declared.builder.action.ArgAction.TheVariants.{Set, Append, SetTrue}
use Rattle.clap.specs.declared.builder.arg.Arg.{Arg}
use Rattle.clap.specs.declared.builder.command.Command.{Command}
use Rattle.clap.specs.declared.builder.value_parser.ValueParser.TheVariants as parser

-- a word that may be missing
abbrev pub optional_word : (id : List ℕ) → Rule
optional_word id = record (new_rule id) { action = Some Set }

-- a word that a command needs
abbrev pub word : (id : List ℕ) → Rule
word id = record (optional_word id) { required = true }

-- an option with a value; it may stand once
abbrev pub option : (id long : List ℕ) → Rule
option id long = record (new_rule id) { long = Some long; value_names = 1; action = Some Set }

-- an option whose value is a count of items, commits or steps
abbrev pub count : (id long : List ℕ) → Rule
count id long = record (option id long) { parser = Some (parser.Unsigned 1 1000000000) }

-- an option without a value; it may stand once
abbrev pub flag : (id long : List ℕ) → Rule
flag id long = record (new_rule id) { long = Some long; action = Some SetTrue }

abbrev pub file_word : Rule
file_word = word (codes "FILE")

abbrev pub trace_word : Rule
trace_word = word (codes "TRACE")

-- one or more
abbrev pub parts_word : Rule
parts_word = record (word (codes "PARTS")) {
  value_names = 1;
  range = Some (record { start_inclusive = 1; end_inclusive = usize_max });
  action = Some Append;
}

-- 0 to 1000
abbrev pub rounds_word : Rule
rounds_word = record (word (codes "N")) { parser = Some (parser.Signed (pos 0) (pos 1000)) }

-- the user may repeat it
abbrev pub source_option : Rule
source_option = record (option (codes "SOURCE") (codes "source")) { action = Some Append }

-- the user may repeat it
abbrev pub sink_option : Rule
sink_option = record (option (codes "SINK") (codes "sink")) { action = Some Append }

-- 1 to 16
abbrev pub workers_option : Rule
workers_option =
    record (option (codes "WORKERS") (codes "workers")) { parser = Some (parser.Signed (pos 1) (pos 16)) }

abbrev pub take_option : Rule
take_option = count (codes "K") (codes "take")

abbrev pub commits_option : Rule
commits_option = count (codes "MAX_COMMITS") (codes "max-commits")

abbrev pub trace_option : Rule
trace_option = option (codes "TRACE") (codes "trace")

abbrev pub steps_option : Rule
steps_option = count (codes "STEPS") (codes "steps")

abbrev pub table_option : Rule
table_option = option (codes "TABLE") (codes "tsv")

abbrev pub items_flag : Rule
items_flag = flag (codes "ITEMS") (codes "items")

abbrev pub svg_flag : Rule
svg_flag = flag (codes "SVG") (codes "svg")

abbrev pub from_option : Rule
from_option = count (codes "FROM") (codes "from")

abbrev pub to_option : Rule
to_option = count (codes "TO") (codes "to")

-- the user may repeat it
abbrev pub format_option : Rule
format_option = record (option (codes "FORMAT") (codes "format")) { action = Some Append }

abbrev pub clip_flag : Rule
clip_flag = flag (codes "CLIP") (codes "clip")

-- 1 to 1,000,000
abbrev pub rate_option : Rule
rate_option = record (option (codes "RATE") (codes "rate")) { parser = Some (parser.Signed (pos 1) (pos 1000000)) }

-- 1 to 1,000
abbrev pub channels_option : Rule
channels_option =
    record (option (codes "CHANNELS") (codes "channels")) { parser = Some (parser.Signed (pos 1) (pos 1000)) }

abbrev pub quiet_flag : Rule
quiet_flag = flag (codes "QUIET") (codes "quiet")

abbrev pub stats_flag : Rule
stats_flag = flag (codes "STATS") (codes "stats")

abbrev pub strict_flag : Rule
strict_flag = flag (codes "STRICT") (codes "strict")

abbrev pub stop_flag : Rule
stop_flag = flag (codes "STOP_ON_FAULT") (codes "stop-on-fault")

abbrev pub across_flag : Rule
across_flag = flag (codes "ACROSS") (codes "across")

-- a command with these words and options
abbrev pub command : (name : List ℕ) → List Rule → App
command name rules = on_top (λ shape. record shape { rules = rules }) (new_app name)

abbrev pub alone_words : App
alone_words = command (codes "alone") (word (codes "NAME") ∷ [])

abbrev pub check_words : App
check_words = command (codes "check") (file_word ∷ [])

abbrev pub explain_words : App
explain_words =
    command (codes "explain") (file_word ∷ optional_word (codes "TRACE") ∷ items_flag ∷ steps_option ∷ [])

abbrev pub print_words : App
print_words = command (codes "print") (file_word ∷ [])

abbrev pub draw_words : App
draw_words = command (codes "draw") (file_word ∷ optional_word (codes "TRACE") ∷ across_flag ∷ [])

abbrev pub rounds_words : App
rounds_words = command (codes "rounds") (file_word ∷ rounds_word ∷ source_option ∷ [])

abbrev pub run_words : App
run_words =
    command (codes "run")
    (file_word ∷ source_option ∷ sink_option ∷ workers_option ∷ take_option ∷ commits_option ∷ trace_option ∷ quiet_flag
    ∷ strict_flag ∷ [])

abbrev pub stream_words : App
stream_words =
    command (codes "stream")
    (file_word ∷ source_option ∷ sink_option ∷ format_option ∷ clip_flag ∷ rate_option ∷ channels_option ∷ take_option
    ∷ commits_option ∷ trace_option ∷ quiet_flag ∷ stats_flag ∷ stop_flag ∷ [])

abbrev pub audit_words : App
audit_words = command (codes "audit") (file_word ∷ trace_word ∷ steps_option ∷ [])

abbrev pub join_words : App
join_words = command (codes "join") (file_word ∷ parts_word ∷ steps_option ∷ [])

abbrev pub stats_words : App
stats_words = command (codes "stats") (file_word ∷ trace_word ∷ steps_option ∷ table_option ∷ [])

abbrev pub timeline_words : App
timeline_words =
    command (codes "timeline")
    (file_word ∷ trace_word ∷ steps_option ∷ svg_flag ∷ from_option ∷ to_option ∷ [])

-- the words of all commands, in the order in which help lists these
abbrev pub all_words : List App
all_words =
    alone_words ∷ check_words ∷ explain_words ∷ print_words ∷ draw_words ∷ rounds_words ∷ run_words ∷ stream_words
    ∷ audit_words ∷ join_words ∷ stats_words ∷ timeline_words ∷ []

-- the program, which has a version and one command on each line
abbrev pub command_line : App
command_line = record {
  top = record (new_shape (codes "kpn")) {
    is_leaf = false;
    has_version = true;
    subcommand_required = true;
    arg_required_else_help = true;
  };
  subs = map (λ words. words.top) all_words;
}

-- ---- scaffolding: what the code describes to `clap`

-- this word or option, which belongs to its own command only
abbrev pub IsArg : Rule → Arg → Type 0
IsArg rule arg = (rule_of arg ≡ rule) × (arg.global ≡ false)

-- this command, all words of which belong to it only
abbrev pub IsCommand : App → Command → Type 0
IsCommand app command = (app_of command ≡ app) × ((fields_of command).has_globals ≡ false)

-- the program without its commands
abbrev pub bare_command_line : App
bare_command_line = record {
  top = record command_line.top { is_leaf = true };
  subs = [];
}

-- the words of `run` for the network, its sources and sinks, and its workers
abbrev pub run_inputs : App
run_inputs = command (codes "run") (file_word ∷ source_option ∷ sink_option ∷ workers_option ∷ [])

-- the words of `timeline` for the network and its trace
abbrev pub timeline_inputs : App
timeline_inputs = command (codes "timeline") (file_word ∷ trace_word ∷ steps_option ∷ [])

-- the words of `stream` for the network, its sources and sinks, and how the items are written
abbrev pub stream_ends : App
stream_ends =
    command (codes "stream")
    (file_word ∷ source_option ∷ sink_option ∷ format_option ∷ clip_flag ∷ rate_option ∷ channels_option ∷ [])
