-- The definitions that most proofs cite, passed on from one place. Declares nothing.
pub use Rattle.std.proofs.Common.{Bool, Err, IfOk, List, None, Ok, Option, Result, Some, [], ap, arith, codes, false, inl, inr, length, lt-ltb, ltb-true, map, nat_lt, option_map, refl, rules, subst, sym, true, true≢false, ℕ, ◌%◌, ◌&&◌, ◌^◌, ◌||◌, ◌∙◌, ◌∷◌, ◌≡◌, ◌⊎◌}
pub use Rattle.std.proofs.lemmas.Result.{IfOk-weaker, err_from_is_err_and}
pub use Rattle.std.proofs.lemmas.Slice.Eq.{bytes_eq-Decides}
pub use Rattle.std.specs.Borrow.{Bor}
pub use Rattle.std.specs.List.{list_all, list_any}
pub use Rattle.std.specs.Prelude.{MatchResult, option_and_then, unwrap_or, ◌≢◌}
pub use Rattle.std.specs.Str.Parse.{AllDigits, ExplainsUnsignedError, HasUnsignedDigitsIfOk, ParsesUnsigned, digits_value, without_leading_plus}
pub use Rattle.clap.specs.Faults.{fault_of, is_simple_and_free}
pub use Rattle.clap.specs.Kinds.{HasKind, IsAmong, Kinds}
pub use Rattle.clap.specs.Matches.{ReadsOne, first_value, found_of, matched_of, one_text, raw_values}
pub use Rattle.clap.specs.Simple.{App, HasMatchesOf, app_of, is_simple, new_app, shape_of, subcommand_of, subcommand_rows_of, with_rule, with_subcommand}
pub use Rattle.clap.specs.Walk.{Row, Rule, rows_of, rule_of}
pub use Rattle.clap.specs.declared.builder.command.Command.{Command}
pub use Rattle.clap.specs.declared.error.kind.ErrorKind.TheVariants.{DisplayHelp, DisplayVersion, OutOfMemory}
pub use Rattle.kpn_command_line.specs.Asked.{AnswersTo, AsksForHelp, GivesToCommand, IsAsked, IsHelpOfKind, IsNoTable, IsNoneOf, IsOf, IsRefusalOfKind, IsRefused, IsUsageIf, NamesCommand, command_of, is_set, is_true, number_for, number_in, rows_in, text_for, texts_for}
pub use Rattle.kpn_command_line.specs.CommandLine.{IsArg, IsCommand, across_flag, all_words, alone_words, audit_words, bare_command_line, channels_option, check_words, clip_flag, command_line, draw_words, explain_words, file_word, format_option, items_flag, join_words, optional_word, parts_word, print_words, rate_option, rounds_word, rounds_words, run_words, sink_option, source_option, stats_words, steps_option, stream_words, table_option, timeline_words, trace_word, workers_option}
pub use Rattle.kpn_command_line.specs.declared.request.Request.{Request}
pub use Rattle.kpn_command_line.specs.declared.request.Request.TheVariants.{Explain, ExplainItems, Help, Join, Rounds, Stats}
pub use Rattle.kpn_command_line.specs.declared.request.WordsFault.{WordsFault}
pub use Rattle.kpn_command_line.specs.declared.request.WordsFault.TheVariants.{NoMemory, Usage}
