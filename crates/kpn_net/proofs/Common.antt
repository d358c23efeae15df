-- The definitions that most proofs cite, passed on from one place. Declares nothing.
pub use Rattle.std.proofs.Common.{Bool, Err, IsTrue, List, None, Ok, Option, Result, Some, [], add-one, add-zero, ap, append_assoc, arith, cond, count_by, eq-eqb, eqb, false, get_or, get_or-set_other, get_or-set_same, inl, inr, le-ltb, leb, length, length-append, length-set, lt-ltb, ltb, map, not, refl, replicate, rules, set, subst, suc, sym, take, tests, true, zero, zero-add, ℕ, ℤ, ◌&&◌, ◌++◌, ◌+◌, ◌<◌, ◌||◌, ◌↔◌, ◌∙◌, ◌∷◌, ◌≡◌, ◌≤◌, ◌⊎◌}
pub use Rattle.std.proofs.lemmas.Bool.{and_parts, both_ways, cases_eq, cases_lt, eqb-false, eqb-true, false_from_ne_true, false≢true, leb-false, ltb-false, ltb-true, ne_eqb, not-false, or_parts}
pub use Rattle.std.proofs.lemmas.Bool.Decides.{nat_tests}
pub use Rattle.std.proofs.lemmas.Iterator.{YieldsList-from_slice, YieldsList-from_zip, cases_from_all}
pub use Rattle.std.proofs.lemmas.List.{append-nil, get_or-map, get_or-replicate, get_or-take, get_or_default, get_or_past, length-map, length-replicate, length-take, map-id, take_all, take_at, take_more}
pub use Rattle.std.proofs.lemmas.List.FromFn.{fill_by_all, get_or-map-range_with_len, length-map-range_with_len, map-range_with_len_more}
pub use Rattle.std.proofs.lemmas.List.Sums.{count_by_more_no, count_by_more_yes, fails_before_first, sum_by-take-le}
pub use Rattle.std.proofs.lemmas.Result.{IfOk-weaker}
pub use Rattle.std.specs.List.{AllWithin, HoldsAt, cons_option, filter_map, list_all, list_any, position, position_or_len, range_with_len, slice_get, zip}
pub use Rattle.std.specs.Prelude.{All, Contains, MatchBool, unsigned_abs}
pub use Rattle.kpn_limits.specs.declared.TheConstants.{MAX_CAPACITY, MAX_CHANNELS, MAX_LARGE_CHANNELS, MAX_LARGE_PROCESSES, MAX_PORTS, MAX_PROCESSES}
pub use Rattle.kpn_lang.proofs.Pairs.{Alike, Differ, same_by_pairs}
pub use Rattle.kpn_lang.proofs.Prefixes.{IsPrefix-antisym, IsPrefix-refl, IsPrefix-same, IsPrefix-trans, prefixes_of_one}
pub use Rattle.kpn_lang.proofs.Programs.{kept, limits}
pub use Rattle.kpn_lang.specs.Alone.{alone, put_at, start_of}
pub use Rattle.kpn_lang.specs.Parts.{IsProgram, Parts, each_statement, names_ports_below}
pub use Rattle.kpn_lang.specs.Prefix.{ArePrefixes, IsPrefix}
pub use Rattle.kpn_lang.specs.Run.{Lists, Next, Ran, choose, ends, list_at, run, says, turns, with_item, with_value}
pub use Rattle.kpn_lang.specs.declared.talk.Ending.{Ending}
pub use Rattle.kpn_lang.specs.declared.talk.Said.{Said}
pub use Rattle.kpn_lang.specs.declared.talk.Said.TheVariants.{Got, Put}
pub use Rattle.kpn_net.specs.Faults.{IsNetwork, are_several, channel_numbers, channels_fault, differs_from_its_program, exceeds, first_at, first_network_fault, has_no_such_capacity, has_too_many, instances_fault, is_none, lacks_a_channel, lacks_its_program, matches_program, most_channels, most_processes, or_else, wrong_capacity}
pub use Rattle.kpn_net.specs.Iteration.{AgreeOnSources, IsBelowLeast, IsClosed, IsLeast, IsPrefixOnSources, NamesOutsBelow, first_round, given_by, given_or, iterate, lists_of, next_round, put_on, round, written_by}
pub use Rattle.kpn_net.specs.Process.{AgreeOnIns, Family, IsFamilyPrefix, ProcessCanSay, ProcessComesTo, at_channel, ends_at_channel, out_of, ran_on, talk_on}
pub use Rattle.kpn_net.specs.Sides.{Keeps, end_or, is_nobody, is_several, side_of, side_with}
pub use Rattle.kpn_net.specs.Tables.{Tables, capacity, channel_at, ends_among, ends_from, grown_capacity, instance_at, is_sink, is_source, larger_capacity, program_at, program_of, reader_of, readers_of, under, writer_of, writers_of}
pub use Rattle.kpn_net.specs.View.{IsKeptNetwork, tables_of, tables_with}
pub use Rattle.kpn_net.specs.Waits.{AreDistinct, AreWaits, IsCycle, IsOwnWait, IsSmallest, WaitInTurn, WaitsFor, awaited, awaited_as_full, full_channel, full_channels, process_at, wait_at}
pub use Rattle.kpn_net.specs.declared.fault.NetFault.{NetFault}
pub use Rattle.kpn_net.specs.declared.fault.NetFault.TheVariants.{Capacity, NoReader, NoSuchChannel, NoSuchProgram, NoWriter, PortCount, TwoReaders, TwoWriters}
pub use Rattle.kpn_net.specs.declared.tables.End.TheVariants.{Process, Sink, Source}
pub use Rattle.kpn_net.specs.declared.tables.Growth.{Growth}
pub use Rattle.kpn_net.specs.declared.tables.Instance.{Instance}
pub use Rattle.kpn_net.specs.declared.wait.Wait.{Wait}
