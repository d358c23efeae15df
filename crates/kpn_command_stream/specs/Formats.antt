-- The words after `--format`, and what they say of an end.
use Rattle.std.specs.Prelude.{◌≡◌, ◌≢◌, ℕ, Bool, true, false, ◌&&◌, ◌||◌, ◌==◌, nat_lt, if◌then◌else◌, List, [], ◌∷◌, length}
use Rattle.std.specs.Prelude.{All, Option, Some, None, unwrap_or, codes}
use Rattle.std.specs.Option.{option_or}
use Rattle.std.specs.List.{AllPairs, position_or_len}
use Rattle.std.specs.Str.{bytes_eq}
use Rattle.kpn_net.specs.Tables.{Tables, channel_at, is_source, is_sink}
use Rattle.kpn_text_names.specs.Names.{number_of}
use Rattle.kpn_text.specs.Document.{Document}
use Rattle.kpn_command_base.specs.Sources.{name_in, file_in}
use Rattle.kpn_stream_devices.specs.Formats.{NamesFormat}
use Rattle.kpn_stream_devices.specs.declared.formats.ItemFormat.{ItemFormat}

-- a word has an `=` (byte 61)
abbrev pub has_equals : (word : List ℕ) → Bool
has_equals word = nat_lt (position_or_len (λ byte. byte == 61) word) (length word)

-- `NAME=FORMAT` says FORMAT of the end of this name
abbrev pub named_format : (word name : List ℕ) → Option (List ℕ)
named_format word name = if has_equals word && bytes_eq (name_in word) name then Some (file_in word) else None

-- a word without `=` is said of all ends
abbrev pub common_format : (word : List ℕ) → Option (List ℕ)
common_format word = if has_equals word then None else Some word

-- what the first of these words says that says something
abbrev pub first_that : (says : List ℕ → Option (List ℕ)) → (words : List (List ℕ)) → Option (List ℕ)
first_that says [] = None
first_that says (word ∷ words) = option_or (says word) (first_that says words)

-- the word for the end of this name: of those that name it the first, else of those for all the first, else `lines`
abbrev pub format_word : (words : List (List ℕ)) → (name : List ℕ) → List ℕ
format_word words name =
    unwrap_or (first_that (λ word. named_format word name) words)
    (unwrap_or (first_that common_format words) (codes "lines"))

-- ---- the words that are taken

-- the format that a word says
abbrev pub format_in : (word : List ℕ) → List ℕ
format_in word = if has_equals word then file_in word else word

-- the end that it is for; nothing if it is for all
abbrev pub format_end : (word : List ℕ) → List ℕ
format_end word = if has_equals word then name_in word else []

-- it says a format that there is
abbrev pub SaysFormat : (word : List ℕ) → Type 0
SaysFormat word = (format : ItemFormat) × NamesFormat (format_in word) format

-- this channel is a source or a sink
abbrev pub is_end_at : Tables → Option ℕ → Bool
is_end_at t (Some c) = is_source (channel_at t c) || is_sink (channel_at t c)
is_end_at t None = false

-- a word is for all ends, or for one that the network has
abbrev pub IsForEnd : Document → (word : List ℕ) → Type 0
IsForEnd d word = has_equals word ≡ true → is_end_at d.tables (number_of d.names.channels (name_in word)) ≡ true

-- each word is, and no two are for the same ends
pub record AreForEnds (d : Document) (words : List (List ℕ)) : Type 0 where
  pub ends : All (IsForEnd d) words
  pub apart : AllPairs (λ word later. format_end word ≢ format_end later) words
