-- The words by which a stream names its files.
use Rattle.std.specs.Prelude.{ℕ, Bool, not, ◌&&◌, List}
use Rattle.std.specs.List.{filter}
use Rattle.std.specs.Str.{bytes_eq}
use Rattle.kpn_command_base.specs.Outputs.{FileWords, AreAllApart}
use Rattle.kpn_command_base.specs.Sources.{file_in}
use Rattle.kpn_command_base.specs.StreamRequest.{StreamRequest}
use Rattle.kpn_command_stream.specs.Formats.{has_equals}
use Rattle.kpn_command_stream.specs.EndPlaces.{standard}

-- a word after `--source` names standard input
abbrev pub names_standard : (word : List ℕ) → Bool
names_standard word = has_equals word && bytes_eq (file_in word) standard

-- the words that name files; no output is one of these
abbrev pub stream_words_of : StreamRequest → FileWords
stream_words_of request = record {
  file = request.file;
  sources = filter (λ word. not (names_standard word)) request.sources;
  sinks = request.sinks;
  trace = request.trace;
}

-- no output has the name of an input, and no two have one name
abbrev pub AreStreamOutputsApart : StreamRequest → Type 0
AreStreamOutputsApart request = AreAllApart (stream_words_of request)
