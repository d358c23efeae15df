-- The definitions that most proofs cite, passed on from one place. Declares nothing.
pub use Rattle.std.proofs.Common.{Bool, Err, IfErr, List, None, Ok, Option, Result, Some, [], ap, arith, codes, drop, eqb, false, get_or, inl, inr, length, map, pos, refl, rules, slice_set, subst, suc, sym, take, true, zero, ℕ, ℤ, ◌&&◌, ◌*ℤ◌, ◌*◌, ◌++◌, ◌+ℤ◌, ◌+◌, ◌-◌, ◌/◌, ◌<◌, ◌^◌, ◌↔◌, ◌∙◌, ◌∷◌, ◌≡◌, ◌≢◌, ◌≤◌, ◌⊎◌}
pub use Rattle.std.proofs.lemmas.Result.{IfErr-weaker, IfOk-weaker}
pub use Rattle.std.specs.List.{list_all, range_with_len}
pub use Rattle.std.specs.Prelude.{IfNone, IfSome}
pub use Rattle.std.specs.String.{string_bytes}
pub use Rattle.kpn_lang.specs.Alone.{ComesTo, alone, put_at, start_of}
pub use Rattle.kpn_lang.specs.Run.{Lists, Ran, ends, list_at, run, says, turns, with_value}
pub use Rattle.kpn_lang.specs.Syntax.{Num, Read}
pub use Rattle.kpn_lang.specs.declared.talk.Said.{Said}
pub use Rattle.kpn_lang.specs.declared.talk.Said.TheVariants.{Got, Put}
pub use Rattle.kpn_lang.specs.declared.value.Fault.{Fault}
pub use Rattle.kpn_net.specs.Faults.{IsNetwork}
pub use Rattle.kpn_net.specs.Iteration.{given_by, iterate, lists_of}
pub use Rattle.kpn_net.specs.Tables.{Tables}
pub use Rattle.kpn_step.specs.Walk.{AloneGives, Speaks, Walks}
pub use Rattle.kpn_step.specs.declared.stop.AloneStop.TheVariants.{Done, Faulted, Paused, Starved}
pub use Rattle.kpn_history.specs.declared.event.Event.{Event}
pub use Rattle.kpn_book.specs.Reports.{IsReport, events_of}
pub use Rattle.kpn_book.specs.declared.outcome.Limits.{Limits}
pub use Rattle.kpn_book.specs.declared.outcome.Outcome.TheVariants.{Clogged, Ended, Enough, Jammed, Stopped}
pub use Rattle.kpn_book.specs.declared.report.Report.{Report}
pub use Rattle.kpn_command_base.specs.Conclusion.{TellsOnly, stored_as}
pub use Rattle.kpn_command_base.specs.ListText.{lines_from}
pub use Rattle.kpn_parts.specs.Cut.{IsCut, Part, empty_part, part_at, whole_channel}
pub use Rattle.kpn_parts.specs.Homes.{AreHomes, IsHome}
pub use Rattle.kpn_parts.specs.Links.{AreLinks, ComesInNone, IsJoinOf, JoinComesTo, history_at}
pub use Rattle.kpn_shelf.specs.Shelf.{Loads}
pub use Rattle.kpn_commands.specs.BuiltIn.{built_in_program}
pub use Rattle.kpn_commands.specs.Join.{AreRead, HasEvents, IsFlawOf, IsPartRefused, IsRefusalOfPart, TellsOfFlaw, TellsOfParts, capacity_at, joins, legal, line_at, part_file, stuck, trace_file}
pub use Rattle.kpn_commands.specs.JoinParts.{AreAudited, AreIn, AreLoaded, HasTables, LoadsPart, audited_capacity, audited_journal, has_all, is_part_at_rest, is_settled, journal_in}
pub use Rattle.kpn_commands.specs.Laws.{IsNeverPaused, PutsPlainly}
pub use Rattle.kpn_commands.specs.Limits.{commits_in_any_order, limits_in_any_order, run_limits_of}
pub use Rattle.kpn_commands.specs.RoundsText.{list_line_of, rounds_text}
pub use Rattle.kpn_commands.specs.declared.built_in.BuiltIn.{BuiltIn}
pub use Rattle.kpn_commands.specs.declared.built_in.BuiltIn.TheVariants.{Copy, Double, Sum}
pub use Rattle.kpn_commands.specs.declared.reporting.Reported.{Reported}
