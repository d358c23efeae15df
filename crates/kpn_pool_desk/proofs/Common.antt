-- The definitions that most proofs cite, passed on from one place. Declares nothing.
pub use Rattle.std.proofs.Common.{Bool, IfSome, List, None, Option, SFits, Some, [], ap, append-nil, arith, cond, drop, eqb-true, false, get_or, inl, inr, is_some, length, map, pos, refl, rules, subst, suc, sym, take, true, vec_len, w64, zero, ℕ, ℤ, ◌++◌, ◌+◌, ◌-◌, ◌<◌, ◌∙◌, ◌∷◌, ◌≡◌, ◌≢◌, ◌≤◌}
pub use Rattle.std.proofs.lemmas.Bool.{cases_order, false≢true, ltb-false}
pub use Rattle.std.proofs.lemmas.List.{append_assoc, map-append, nil_from_length, take-append-le, take-set, take_all, take_more, take_more_set}
pub use Rattle.std.proofs.lemmas.List.Elements.{All-append, All-more}
pub use Rattle.std.proofs.lemmas.Option.{slice_get-get_or}
pub use Rattle.std.proofs.lemmas.Result.{err_from_is_err_and}
pub use Rattle.std.specs.List.{All, filter, length_refill, range_with_len, refill, sum_by}
pub use Rattle.std.specs.Prelude.{nat_lt, slice_get, slice_set}
pub use Rattle.kpn_lang.proofs.Prefixes.{IsPrefix-from_rest, IsPrefix-refl, IsPrefix-trans}
pub use Rattle.kpn_lang.specs.Prefix.{IsPrefix}
pub use Rattle.kpn_net.proofs.Networks.{sink_there}
pub use Rattle.kpn_net.specs.Tables.{Tables, channel_at, is_sink, is_source, program_of}
pub use Rattle.kpn_chan.specs.Channel.{ChannelState, next_item, unread}
pub use Rattle.kpn_step.specs.Stops.{Advanced, advanced_of}
pub use Rattle.kpn_step.specs.declared.stop.Stop.{Stop}
pub use Rattle.kpn_history.specs.declared.event.Event.{Event}
pub use Rattle.kpn_book.proofs.Appended.{base_commits, base_tables, commits_stay, tables_stay}
pub use Rattle.kpn_book.proofs.Remembered.{appends_much, commits_much, happens_much, region_much, same_much}
pub use Rattle.kpn_book.proofs.Snapshots.{at_rest_of, begins_shown, below_of, run_of, shows_journals}
pub use Rattle.kpn_book.specs.Appending.{AllHappen, Appends, AppendsAll, Happens, IsGrowthOwed}
pub use Rattle.kpn_book.specs.Book.{Book, IsHeld, held_count, with_one_commit}
pub use Rattle.kpn_book.specs.Commits.{Commits, HandlesStop, IsOwnAdvance, ready_if_paused}
pub use Rattle.kpn_book.specs.Kept.{IsBook}
pub use Rattle.kpn_book.specs.Refusals.{RefusesClose, RefusesCommit, RefusesFeed, RefusesLeave, RefusesTake, Takes, closes_by, leaves_by, takes_item}
pub use Rattle.kpn_book.specs.Remembering.{Remembers, RemembersAsMuch}
pub use Rattle.kpn_book.specs.Snapshot.{ShowsJournals, shown_on}
pub use Rattle.kpn_book.specs.declared.answers.Refused.{Refused}
pub use Rattle.kpn_machine.specs.Machine.{AreKept, channel_in}
pub use Rattle.kpn_pool_desk.specs.Desk.{Desk, EndsFor, IsDesk, with_book, with_commit, with_total}
pub use Rattle.kpn_pool_desk.specs.Gate.{LetsThrough}
pub use Rattle.kpn_pool_desk.specs.HeldTurns.{Claims, ClaimsInVain, ComesBackWithTurns, CommitsOrDrops, HeldTurns, InTurn, IsEnd, IsTurnOf, PutsBack, SettlesTurns, StepsWithin, Turn, claimed_by, made_of, steps_of}
pub use Rattle.kpn_pool_desk.specs.OutsideSeats.{AreRecorded, AreSinks, EndSeat, FeedsUntil, HasNoSeat, HaveTaken, MayRefuseEnd, MayRefuseFeed, MayRefuseTake, MayRefuseTakes, TakeInTurn, TakesAll, TakesFirst, TakesMore, kept_by, new_end, with_new_item, with_taken}
pub use Rattle.kpn_pool_desk.specs.RegionTurn.{TakesOn, no_take, one_take_more}
pub use Rattle.kpn_pool_desk.specs.Seat.{Seat, new_seat}
pub use Rattle.kpn_pool_desk.specs.declared.gate.Go.TheVariants.{Abandon, On}
