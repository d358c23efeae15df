-- The definitions that most proofs cite, passed on from one place. Declares nothing.
pub use Rattle.std.proofs.Common.{Bool, List, None, Option, Some, [], ap, append-nil, append_assoc, arith, drop, eqb, false, get_or, length, lit<, of_z, refl, subst, suc, sym, take, to_z, true, zero, ℕ, ◌++◌, ◌+◌, ◌-◌, ◌<◌, ◌^◌, ◌∙◌, ◌∷◌, ◌≡◌, ◌≤◌}
pub use Rattle.std.proofs.lemmas.Bool.{cond-false, cond_both, eqb-true, false≢true, ne_eqb}
pub use Rattle.std.proofs.lemmas.Bool.Decides.{nat_tests}
pub use Rattle.std.proofs.lemmas.Fmt.{decimal-digits_value, decimal_digit, decimal_injective, decimal_is_IsNumeral, first_decimal, signed_decimal_injective}
pub use Rattle.std.proofs.lemmas.Grind.{common_steps}
pub use Rattle.std.proofs.lemmas.Int.{ints, to_z-of_z}
pub use Rattle.std.proofs.lemmas.List.{take_all, take_more, take_rest}
pub use Rattle.std.proofs.lemmas.List.Elements.{All-head, All-push, All-tail}
pub use Rattle.std.proofs.lemmas.Option.{get_or_from_slice_get, slice_get-get_or, slice_get_within}
pub use Rattle.std.specs.Bool.{IsTrue}
pub use Rattle.std.specs.Fmt.{decimal, signed_decimal}
pub use Rattle.std.specs.Int.{FitsUnsignedBits, w64}
pub use Rattle.std.specs.Io.KnownBytes.{Appends}
pub use Rattle.std.specs.List.{find, list_any, position, position_or_len}
pub use Rattle.std.specs.Prelude.{Err, FitsSigned, MatchOption, Ok, Result, nat_eq, neg_ℤ, negsuc, pos, unsigned_abs, ℤ, ◌||◌}
pub use Rattle.std.specs.Result.{OkIff, result_ok}
pub use Rattle.std.specs.Str.{bytes_eq}
pub use Rattle.std.specs.Str.Parse.{AllDigits, digits_value}
pub use Rattle.kpn_history.specs.declared.event.Event.{Event}
pub use Rattle.kpn_history.specs.declared.event.Event.TheVariants.{Close, Ended, Feed, Get, Grow, Leave, Put, Take, WaitEmpty, WaitFull}
pub use Rattle.kpn_history.specs.declared.stored.Version.{Version}
pub use Rattle.kpn_history.specs.declared.stored.Version.TheVariants.{One, Two}
pub use Rattle.kpn_text_items.specs.ItemLine.{IsShortNumeral, SpellsItem, without_minus}
pub use Rattle.kpn_trace.specs.EventLine.{IsInRange, LacksByte, SpellsEvent, line_of}
pub use Rattle.kpn_trace.specs.TraceText.{HasBadHead, IsHead, event_text, events_text, head_lines, head_text, rules_line, trace_text, version_line}
