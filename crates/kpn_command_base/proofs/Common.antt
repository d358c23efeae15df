-- The definitions that most proofs cite, passed on from one place. Declares nothing.
pub use Rattle.std.proofs.Common.{All, Bool, Bor, Err, IfErr, List, Ok, Option, Some, [], ap, arith, cond, count_by, drop, drop-cons, false, get_or, inl, inr, length, length-drop, map, nat_eq, option_map, refl, replicate, rules, set, subst, suc, sym, take, true, ℕ, ℤ, ◌++◌, ◌+◌, ◌-◌, ◌<◌, ◌||◌, ◌∙◌, ◌∷◌, ◌≡◌, ◌≢◌, ◌≤◌, ◌⊎◌}
pub use Rattle.std.proofs.lemmas.Grind.{common_steps, flat_map-append}
pub use Rattle.std.proofs.lemmas.List.{length-map, length-set, map-append, map_more, take_all, take_more}
pub use Rattle.std.proofs.lemmas.List.Elements.{All-map, All-push}
pub use Rattle.std.proofs.lemmas.Result.{IfErr-weaker, IfOk-weaker, on_ok_weaker}
pub use Rattle.std.specs.String.{string_bytes}
pub use Rattle.kpn_net.specs.Tables.{Tables, channel_at}
pub use Rattle.kpn_shelf.specs.Shelf.{Aliases, Loads}
pub use Rattle.kpn_text.specs.Document.{Document}
pub use Rattle.kpn_command_base.specs.Description.{IsDescribed, IsRefusalOfDescription}
pub use Rattle.kpn_command_base.specs.Inputs.{AreInputs, AreNamedSinks, AreRefusedNames, AreRefusedSinks, IsRefusalOfInputs, IsRefusalOfRunInputs}
pub use Rattle.kpn_command_base.specs.ListText.{lines_from, spaced_item, spaced_items}
pub use Rattle.kpn_command_base.specs.Outputs.{AreAllApart, AreNamesApart, AreOutputsApart, AreSinksNamed, AreTwoOutputs, FileWords, HasInputs, IsApart, IsRefusalOfOutput, IsRefusalOfSome, IsUnprepared, IsUnready, MayMeet, outputs_of, trace_name, words_of}
pub use Rattle.kpn_command_base.specs.ReportText.{fault_text, sink_lines, state_lines, wait_text}
pub use Rattle.kpn_command_base.specs.RunRequest.{RunRequest}
pub use Rattle.kpn_command_base.specs.SourceRefusals.{IsRefusalOfFile, IsRefusalOfItems, IsRefusalOfNames, IsRefusalOfWords}
pub use Rattle.kpn_command_base.specs.Sources.{AreGiven, HasEquals, IsItemFile, end_from, end_number, ends_named, ends_of, file_for, file_in, is_end, name_in, placed_lists, sinks_named, sources_named, with_ends, with_named_end}
pub use Rattle.kpn_command_base.specs.declared.refusal.Refusal.{Refusal}
pub use Rattle.kpn_command_base.specs.declared.refusal.Refusal.TheVariants.{Description, Input, Names, NoMemory, Output, SinkWord, SourceWord, TraceWord}
pub use Rattle.kpn_command_base.specs.declared.sources.EndKind.TheVariants.{Sinks, Sources}
pub use Rattle.kpn_command_base.specs.declared.sources.FileOption.{FileOption}
pub use Rattle.kpn_command_base.specs.declared.sources.NamedEnd.{NamedEnd}
