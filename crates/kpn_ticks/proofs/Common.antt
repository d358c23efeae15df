-- The definitions that most proofs cite, passed on from one place. Declares nothing.
pub use Rattle.std.proofs.Common.{Bool, IfOk, List, None, Option, Some, [], ap, arith, cond, drop, eq-eqb, eqb, false, get_or, if◌then◌else◌, inl, inr, length, map, max, nat_lt, not, refl, replicate, set, subst, suc, sym, take, true, zero, ℕ, ℤ, ◌&&◌, ◌++◌, ◌+◌, ◌-◌, ◌<◌, ◌||◌, ◌∙◌, ◌∷◌, ◌≡◌, ◌≢◌, ◌≤◌, ◌⊎◌}
pub use Rattle.std.proofs.lemmas.Bool.{and_cases, both_ways, cases_Bool, cases_lt, eqb-true, le-leb, le-ltb, lt-ltb, ltb-false, ne_eqb, or_left, or_parts}
pub use Rattle.std.proofs.lemmas.Bool.Decides.{eqb_tells}
pub use Rattle.std.proofs.lemmas.List.{append-nil, append_assoc, drop_more, get_or-replicate, get_or-set_other, get_or-set_same, get_or_append_left, get_or_default, get_or_past, get_or_push, length-append, length-replicate, length-set, length-take, length_push, set_comm}
pub use Rattle.std.proofs.lemmas.List.FromFn.{get_or-map-range_with_len, length-map-range_with_len, map-range_with_len_more}
pub use Rattle.std.specs.List.{flat_map, fold, list_any, prefix_len, range_with_len, sum, take_while}
pub use Rattle.kpn_lang.proofs.Prefixes.{IsPrefix-after, IsPrefix-append, IsPrefix-refl, IsPrefix-trans, length_of_prefix, rest_of_prefix}
pub use Rattle.kpn_lang.specs.Alone.{got_at, put_at}
pub use Rattle.kpn_lang.specs.Prefix.{IsPrefix}
pub use Rattle.kpn_lang.specs.declared.talk.Said.{Said}
pub use Rattle.kpn_net.specs.Faults.{IsNetwork}
pub use Rattle.kpn_net.specs.Tables.{Tables, capacity, channel_at, larger_capacity, reader_of, writer_of}
pub use Rattle.kpn_net.specs.declared.tables.End.{End}
pub use Rattle.kpn_net.specs.declared.tables.End.TheVariants.{Process, Sink, Source}
pub use Rattle.kpn_history.proofs.Events.{talk_of-other, talk_of-push, written_on-push}
pub use Rattle.kpn_history.proofs.Journals.{no_sink, no_source, none_elsewhere, read_on-got, written_on-put}
pub use Rattle.kpn_history.proofs.Legality.{Legal-before, Legal-last, Legal-nil, Legal-prefix, by_events, onward}
pub use Rattle.kpn_history.proofs.Ownership.{IsOwn-last, said_by}
pub use Rattle.kpn_history.specs.Channels.{after_growths, capacity_after, is_growth_of, lives, reaches, read_in, read_on, reader_lives, unread_on, written_in, written_on}
pub use Rattle.kpn_history.specs.Legal.{HasNumbers, Legal}
pub use Rattle.kpn_history.specs.OneMore.{IsOwn}
pub use Rattle.kpn_history.specs.Talks.{has_ended, is_end_of, is_of, process_of, said_in, talk_of}
pub use Rattle.kpn_history.specs.declared.event.Event.{Event}
pub use Rattle.kpn_history.specs.declared.event.Event.TheVariants.{Close, Ended, Feed, Get, Grow, Leave, Put, Take, WaitEmpty, WaitFull}
pub use Rattle.kpn_audit.specs.Stored.{history_of, tables_for, told, told_behind}
pub use Rattle.kpn_ticks.specs.Chain.{Course, Walk, awaited_process, course_of, course_then, last_process, move_at, move_of, process_or, shares_of, wait_cause, walk_back, walk_past, walk_start, walk_then, with_move}
pub use Rattle.kpn_ticks.specs.ChainShown.{logged, walked}
pub use Rattle.kpn_ticks.specs.Schedules.{DifferBySchedule, GrowsNothing, capacities_of, capacity_in, seen_from, tick_in, ticks_of}
pub use Rattle.kpn_ticks.specs.Shown.{AreClocks, shown}
pub use Rattle.kpn_ticks.specs.Ticks.{Clocks, clocks_after, clocks_with_event, clocks_with_get, clocks_with_put, get_tick, grown_from, item_there, latest_at, latest_of, put_tick, read_of, room_there, start, with_tick, written_of}
pub use Rattle.kpn_ticks.specs.declared.moves.Move.{Move}
