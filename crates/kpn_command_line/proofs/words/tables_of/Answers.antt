-- The tables are those that are named, and another text names none.
use Rattle.kpn_command_line.proofs.Common.{◌≡◌, ◌∙◌, ℕ, List, Option, Some, sym, ap, option_map, codes, ◌≢◌, unwrap_or, IsNoTable}
use Rattle.kpn_command_base.specs.declared.tables.StatsTables.TheVariants.{People, Channels, Processes}
use Rattle.kpn_command_line.proofs.Given.{none_of}
use Rattle.kpn_command_line.proofs.Nothing.{usage_if}
use Rattle.kpn_command_line.proofs.words.tables_of.Goals as goal

no_table : (text : Option (List ℕ)) (name : List ℕ) → text ≡ Some name → name ≢ codes "channels"
    → name ≢ codes "processes" → IsNoTable text
no_table text name is channels processes People none = absurd cc
no_table text name is channels processes Channels also =
    channels (ap (λ (o : Option (List ℕ)). unwrap_or o name) (sym is ∙ also))
no_table text name is channels processes Processes also =
    processes (ap (λ (o : Option (List ℕ)). unwrap_or o name) (sym is ∙ also))

pub returns-in_default : goal.returns-in_default
returns-in_default c =
    c.text_of.ensures ∙ ap (option_map (λ word. word.now)) (none_of c.text_of.result c.in_default.not-Some)

pub returns-in-channels : goal.returns-in-channels
returns-in-channels c =
    c.text_of.ensures ∙ ap (option_map (λ word. word.now)) c.in-Some.is ∙ ap Some c.in-channels.is

pub returns-in-processes : goal.returns-in-processes
returns-in-processes c =
    c.text_of.ensures ∙ ap (option_map (λ word. word.now)) c.in-Some.is ∙ ap Some c.in-processes.is

pub returns-in_default-table : goal.returns-in_default-table
returns-in_default-table c =
    usage_if _ c.unclear.result (no_table _ c.in-Some.table.now
    (c.text_of.ensures ∙ ap (option_map (λ word. word.now)) c.in-Some.is)
    c.in_default-table.not-channels c.in_default-table.not-processes)
