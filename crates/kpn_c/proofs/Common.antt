-- The definitions that most proofs cite, passed on from one place. Declares nothing.
pub use Rattle.std.proofs.Common.{SFits, ap, cond, get_or, inl, map, of_z, pos, refl, rules, subst, sym, take, to_z, w64, ℤ, ◌<◌, ◌∙◌}
pub use Rattle.std.proofs.lemmas.Int.{to_z-of_z}
pub use Rattle.std.proofs.lemmas.List.{append-nil, drop-drop, drop-set-lt, get_or-drop, length-set, length-take-le, map-append, take_more, take_more_set}
pub use Rattle.std.specs.Prelude.{IfErr, OnErr, OnOk, slice_get}
pub use Rattle.std.specs.contracts.impls.GlobalAllocator.TheImpl.{ghosts}
pub use Rattle.kpn_chan.specs.Channel.{ChannelState, item_after}
pub use Rattle.kpn_history.specs.declared.event.Event.{Event}
pub use Rattle.kpn_history.specs.declared.event.Event.TheVariants.{Close, Feed, Leave, Take}
pub use Rattle.core.proofs.alloc.Calls.{Al, handle_tells}
pub use Rattle.core.proofs.atomic.Steps.{fm}
pub use Rattle.core.proofs.cell.Inside.{Good}
pub use Rattle.kpn_book.proofs.Happening.{happens_alone, join, one}
pub use Rattle.kpn_book.specs.Appending.{AllHappen, Happens}
pub use Rattle.kpn_book.specs.Book.{Book}
pub use Rattle.kpn_book.specs.Detached.{book_on}
pub use Rattle.kpn_book.specs.Kept.{IsBook}
pub use Rattle.kpn_book.specs.Refusals.{Closes, IsOpenSink, IsOpenSource, Leaves, RefusesClose, RefusesLeave, Takes, closes_by, leaves_by, takes_item}
pub use Rattle.kpn_machine.specs.Machine.{channel_in, closed_in}
pub use Rattle.std_alloc.proofs.BoxSteps.Steps.{box_in, box_out}
pub use Rattle.std_alloc.specs.Box.Ownership.{box_owns}
pub use Rattle.kpn_c.specs.Calls.{FeedsEach, StepsEach, TakesEach, TellsCompleteness, TurnsFrom, no_turn, one_turn_more, stops_by}
pub use Rattle.kpn_c.specs.Exports.{Asks, ClosesSource, FindsChannel, Leads, LeavesSink, MovesItems, StepsProcesses, TellsChannel, TellsIfComplete, TellsTrace, TellsVerdict, amounts_of, trace_of}
pub use Rattle.kpn_c.specs.Lists.{flat_of}
pub use Rattle.kpn_c.specs.Moving.{Moves, TakesForEach, feed_of, filled, has_fed, has_stepped, item_at, no_take, one_take_more, steps_if, takes_if, wanted_at}
pub use Rattle.kpn_c.specs.Session.{Session, session_of}
pub use Rattle.kpn_c.specs.Sessions.{keeping_of, slot_with}
pub use Rattle.kpn_c.specs.States.{LooksInto, TellsNext, next_items}
pub use Rattle.kpn_c.specs.declared.moving.SourceItem.{SourceItem}
pub use Rattle.kpn_c.specs.declared.moving.Wanted.{Wanted}
pub use Rattle.kpn_c.specs.declared.slot.Slot.{Slot}
