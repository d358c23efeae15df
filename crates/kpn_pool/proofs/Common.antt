-- The definitions that most proofs cite, passed on from one place. Declares nothing.
pub use Rattle.std.proofs.Common.{Bool, List, Option, Some, [], ap, arith, count_by, false, get_or, inl, inr, length, map, not, refl, subst, sym, take, true, ℕ, ℤ, ◌++◌, ◌+◌, ◌<◌, ◌∙◌, ◌∷◌, ◌≡◌}
pub use Rattle.std.proofs.lemmas.Bool.{both_ways, cases_Bool, cases_eq, ne_eqb}
pub use Rattle.std.proofs.lemmas.List.{get_or_default, map_more, take_more}
pub use Rattle.std.proofs.lemmas.List.Sums.{count_by_more_no, count_by_more_yes, sum_by_push}
pub use Rattle.std.specs.List.{sum_by}
pub use Rattle.std.specs.Prelude.{vec_capacity}
pub use Rattle.kpn_net.proofs.RoundLemmas.{list_of, source_below}
pub use Rattle.kpn_net.specs.Iteration.{AgreeOnSources, given_by}
pub use Rattle.kpn_net.specs.Tables.{Tables, channel_at, is_sink, is_source}
pub use Rattle.kpn_history.specs.Channels.{is_closed, is_leave_of, is_left, lives, written_on}
pub use Rattle.kpn_history.specs.declared.event.Event.{Event}
pub use Rattle.kpn_book.specs.Book.{Book, held_count}
pub use Rattle.kpn_book.specs.Kept.{IsBook}
pub use Rattle.kpn_machine.specs.Machine.{channel_in}
pub use Rattle.kpn_pool_desk.specs.Seat.{Seat}
pub use Rattle.kpn_pool.specs.Causes.{worked_of}
pub use Rattle.kpn_pool.specs.Ending.{KeepsHeld}
pub use Rattle.kpn_pool.specs.Fed.{AreFedBelow, AreSinksKeptBelow, AreSourcesClosedBelow}
pub use Rattle.kpn_pool.specs.declared.beside.Worked.{Worked}
