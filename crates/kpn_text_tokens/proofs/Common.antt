-- The definitions that most proofs cite, passed on from one place. Declares nothing.
pub use Rattle.std.proofs.Common.{Bool, Err, List, None, Ok, Option, Result, Some, [], ap, append_assoc, arith, cond, drop, eqb, false, get_or, inl, inr, length, length-append, length-drop, length-take, lit≤, nat_le, nat_lt, refl, rules, subst, suc, sym, take, true, zero, ℕ, ⊎_elim, ◌&&◌, ◌*◌, ◌++◌, ◌+◌, ◌-◌, ◌<◌, ◌^◌, ◌||◌, ◌∙◌, ◌∷◌, ◌≡◌, ◌≤◌, ◌⊎◌}
pub use Rattle.std.proofs.lemmas.Bool.{and_cases, and_from, and_left, and_parts, and_right, cond-false, cond-true, cond_both, eqb-true, false_from_ne_true, le-leb, le-ltb, leb-false, leb-true, lt-leb, lt-ltb, ltb-false, ltb-true, not-true, or_left, or_right, true≢false}
pub use Rattle.std.proofs.lemmas.Bool.Decides.{Decides-eqb, nat_tests}
pub use Rattle.std.proofs.lemmas.List.{drop-append-le, drop_at, map-append, take-append-drop}
pub use Rattle.std.proofs.lemmas.List.Sums.{take_while-cons}
pub use Rattle.std.proofs.lemmas.Str.{digit_value_digit}
pub use Rattle.std.proofs.lemmas.Str.Parse.{digit_at, digit_from_value, digits_value-take-le}
pub use Rattle.std.specs.Char.{digit_value, is_ascii_digit, is_digit}
pub use Rattle.std.specs.Cmp.Lexicographic.{pointwise}
pub use Rattle.std.specs.Int.{IsInRange}
pub use Rattle.std.specs.List.{AllByRecursion, find, list_all, prefix_len, starts_with}
pub use Rattle.std.specs.Prelude.{nat_eq, slice_index, ◌==◌}
pub use Rattle.std.specs.Str.Parse.{AllDigits, digits_value, digits_value_after}
pub use Rattle.kpn_limits.specs.declared.TheConstants.{MAX_DIGITS, MAX_NAME_BYTES, MAX_TEXT_BYTES}
pub use Rattle.kpn_text_tokens.specs.Laws.{Separates, ShortTextIsScanned, WhiteSpaceSeparates, followed_by, may_hide}
pub use Rattle.kpn_text_tokens.specs.Lexing.{TakesWithin, after, begins_name, cons_lexeme, is_in, is_white_space, number_class, piece_of, run, scan}
pub use Rattle.kpn_text_tokens.specs.Numerals.{begins_quote, digits_behind, digits_in, escape_value, is_plain, numeral_value, quoted_length, quoted_value, with_digit}
pub use Rattle.kpn_text_tokens.specs.Opening.{first_token}
pub use Rattle.kpn_text_tokens.specs.Rules.{AllIn, BeginsNothing, EndsBefore, IsBadNumber, IsName, IsNumber, IsNumeralOf, IsSpelled, IsWord, MarkEnds, NotDoubled, Reads, Stops, bad_number, bad_quoted, comment, done, long_name, nothing, quoted, spelled, white}
pub use Rattle.kpn_text_tokens.specs.Spelling.{has_keyword, has_mark, is_two, keyword_bytes, keyword_of, mark_bytes}
pub use Rattle.kpn_text_tokens.specs.declared.lexer.Class.{Class}
pub use Rattle.kpn_text_tokens.specs.declared.lexer.LexFault.{LexFault}
pub use Rattle.kpn_text_tokens.specs.declared.lexer.Piece.{Piece}
pub use Rattle.kpn_text_tokens.specs.declared.tokens.Keyword.{Keyword}
pub use Rattle.kpn_text_tokens.specs.declared.tokens.Language.{Language}
pub use Rattle.kpn_text_tokens.specs.declared.tokens.Lexeme.{Lexeme}
pub use Rattle.kpn_text_tokens.specs.declared.tokens.Mark.{Mark}
pub use Rattle.kpn_text_tokens.specs.declared.tokens.TheConstants.{MAX_NUMBER}
pub use Rattle.kpn_text_tokens.specs.declared.tokens.Token.{Token}
