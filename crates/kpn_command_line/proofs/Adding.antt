-- A command that is added to a program, and a word that is added to a command.
use Rattle.kpn_command_line.proofs.Common.{◌∙◌, ap, refl, Result, Ok, Err, IfOk, App, shape_of, with_rule, with_subcommand, Rule, rule_of, Command, IsArg, IsCommand}
use Rattle.clap.specs.Built.{AddsArg, AddsSubcommand}
use Rattle.clap.specs.declared.builder.arg.Arg.{Arg}

module _ (before command : App) (program words : Command) (is : IsCommand before program)
    (also : IsCommand command words) where
  is_added : (new : Command) → AddsSubcommand program words new
      → IsCommand (with_subcommand before command.top) new
  is_added new adds = (
    adds.shape also.1
        ∙ ap (λ (app : App). with_subcommand app (shape_of words)) is.0
        ∙ ap (λ (app : App). with_subcommand before app.top) also.0,
    adds.globals ∙ rw (is.1, also.1) refl,
  )

  pub added : {E : Type 0} (result : Result Command E) → IfOk result (AddsSubcommand program words)
      → IfOk result (IsCommand (with_subcommand before command.top))
  added (Ok new) adds = is_added new adds
  added (Err fault) adds = tt

module _ (before : App) (rule : Rule) (command : Command) (word : Arg) (is : IsCommand before command)
    (also : IsArg rule word) where
  has_word : (new : Command) → AddsArg command word new → IsCommand (with_rule before rule) new
  has_word new adds = (
    adds.shape also.1 ∙ ap (λ (app : App). with_rule app (rule_of word)) is.0 ∙ ap (with_rule before) also.0,
    adds.globals ∙ rw (is.1, also.1) refl,
  )

  pub word_added : {E : Type 0} (result : Result Command E) → IfOk result (AddsArg command word)
      → IfOk result (IsCommand (with_rule before rule))
  word_added (Ok new) adds = has_word new adds
  word_added (Err fault) adds = tt
