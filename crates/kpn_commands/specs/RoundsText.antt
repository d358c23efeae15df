-- The text that `kpn rounds` writes: the list of each channel.
use Rattle.std.specs.Prelude.{ℕ, ℤ, List}
use Rattle.kpn_text_names.specs.Names.{name_at}
use Rattle.kpn_command_base.specs.ListText.{list_line, lines_from}

-- the line of the channel with the number c
abbrev pub list_line_of : (names : List (List ℕ)) → (c : ℕ) → List ℤ → List ℕ
list_line_of names c items = list_line (name_at names c) items

-- a line for each channel in order of number, from the names and the lists of the channels
abbrev pub rounds_text : (names : List (List ℕ)) → List (List ℤ) → List ℕ
rounds_text names lists = lines_from (list_line_of names) 0 lists
