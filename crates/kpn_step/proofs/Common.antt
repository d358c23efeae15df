-- The definitions that most proofs cite, passed on from one place. Declares nothing.
pub use Rattle.std.proofs.Common.{Bool, Decides, Err, IsTrue, List, None, Ok, Option, Result, Some, [], ap, append_assoc, arith, cond, drop, false, fold, get_or, if◌then◌else◌, inl, inr, length, length-append, nat_eq, of_z, refl, rules, set, slice_get, slice_set, subst, suc, suc-add, sym, take, to_z, true, w64, zero, zero-add, ℕ, ℤ, ◌&&◌, ◌*◌, ◌++◌, ◌+◌, ◌-◌, ◌<◌, ◌^◌, ◌∙◌, ◌∷◌, ◌≡◌, ◌≢◌, ◌≤◌, ◌⊎◌}
pub use Rattle.std.proofs.lemmas.Bool.{and_from, and_parts, cases_eq, cases_lt, eq-eqb, eqb-true, le-leb, leb-true, lt-ltb, ltb-true}
pub use Rattle.std.proofs.lemmas.Bool.Decides.{Decides-and, Decides-eqb, Decides-int_eq, Decides-like, nat_tests}
pub use Rattle.std.proofs.lemmas.Int.{to_z-of_z}
pub use Rattle.std.proofs.lemmas.List.{drop_more, get_or_default, get_or_past, length-replicate, same_lists, set-get_or, set-set, take_all, take_more}
pub use Rattle.std.proofs.lemmas.List.Sums.{fold-append, sum_by-append, sum_by-cons}
pub use Rattle.std.proofs.lemmas.Option.{get_or_from_slice_get, slice_get_within}
pub use Rattle.std.specs.Cmp.Lexicographic.{bytes_decides, pointwise, pointwise_decides}
pub use Rattle.std.specs.List.{flat_map, range_with_len, sum_by}
pub use Rattle.std.specs.Ordering.{int_eq}
pub use Rattle.std.specs.Prelude.{unsigned_abs, ◌↔◌}
pub use Rattle.kpn_limits.specs.declared.TheConstants.{MAX_LEVELS, MAX_NODES, MAX_VARIABLES}
pub use Rattle.kpn_lang.proofs.Families.{Grows-refl, list_at-set_other, list_at-set_same, nothing, port_is_there}
pub use Rattle.kpn_lang.proofs.Laying.{code_there, coded_there, past_statement}
pub use Rattle.kpn_lang.proofs.Programs.{AreWithin, KeepsRules, has_body, limits, rules_at, tree_of_block, within_at, within_body, within_positive}
pub use Rattle.kpn_lang.proofs.Spotted.{lies_at}
pub use Rattle.kpn_lang.specs.Alone.{CanSay, ComesTo, Process, alone, got_at}
pub use Rattle.kpn_lang.specs.Coding.{AreCodes, IsCoded}
pub use Rattle.kpn_lang.specs.Flat.{celled_term, put_statement}
pub use Rattle.kpn_lang.specs.Lists.{next_at, remaining, without_next}
pub use Rattle.kpn_lang.specs.Meaning.{Chooses, GoesRound, Repeats}
pub use Rattle.kpn_lang.specs.Parts.{IsProgram, Parts, children, inner_blocks, is_there, is_within, order_to, places, statement_nodes}
pub use Rattle.kpn_lang.specs.Run.{Lists, Next, Ran, choose, ends, list_at, run, says, turns, with_item, with_value}
pub use Rattle.kpn_lang.specs.Spots.{head, place_of}
pub use Rattle.kpn_lang.specs.Syntax.{Assign, If, Num, Read, Set, Statement, Term, Var, While, Write, has_cells, names_below, term_of}
pub use Rattle.kpn_lang.specs.Tree.{Tree, block_at, tree_of, tree_over}
pub use Rattle.kpn_lang.specs.Value.{index_in, is_zero, value, ◌>>=◌}
pub use Rattle.kpn_lang.specs.declared.code.Round.{Round}
pub use Rattle.kpn_lang.specs.declared.talk.Ending.{Ending}
pub use Rattle.kpn_lang.specs.declared.talk.Ending.TheVariants.{Cut}
pub use Rattle.kpn_lang.specs.declared.talk.Said.{Said}
pub use Rattle.kpn_lang.specs.declared.talk.Said.TheVariants.{Got, Put}
pub use Rattle.kpn_lang.specs.declared.value.Fault.{Fault}
pub use Rattle.kpn_step.specs.After.{EndsThere, GoesOnAs, IsAfter, IsRestAfter, SaysNext}
pub use Rattle.kpn_step.specs.Ended.{EndsAs}
pub use Rattle.kpn_step.specs.Frame.{Frame, entered, fits, next_place, passed, passed_with, same_frame, start_frame}
pub use Rattle.kpn_step.specs.Residual.{SaysTheSame, after_inner, residual, tree_from}
pub use Rattle.kpn_step.specs.Standing.{ComesBack, StepsOn, Went, WentOrStopped, standing}
pub use Rattle.kpn_step.specs.Step.{Faults, Goes, Step, Steps, Stops, statement_due, step_of, step_on, step_out, tested, written}
pub use Rattle.kpn_step.specs.Stepped.{AnswersStep, Puts, Walked}
pub use Rattle.kpn_step.specs.Stops.{Advanced, IsAdvance, IsAtEnd, IsAtFault, IsAtPort, IsAtRead, IsAtWrite, IsGiven, StandsAt, StopsAtOnce, advanced_of, is_short, stop_at}
pub use Rattle.kpn_step.specs.Walk.{AloneGives, IsAloneOutcome, Speaks, Walks}
pub use Rattle.kpn_step.specs.declared.stop.AloneStop.{AloneStop}
pub use Rattle.kpn_step.specs.declared.stop.Stop.{Stop}
pub use Rattle.kpn_step.specs.declared.stop.Stop.TheVariants.{WantRead}
