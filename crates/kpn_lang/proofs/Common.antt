-- The definitions that most proofs cite, passed on from one place. Declares nothing.
pub use Rattle.std.proofs.Common.{Bool, Err, IfNone, IfSome, List, MatchResult, None, Ok, Option, Result, SFits, Some, [], ap, arith, cond, drop, eq-eqb, eqb, false, get_or, get_or-set_other, get_or-set_same, inl, inr, length, lt-ltb, map, max, not, pos, refl, replicate, rules, set, subst, suc, sym, take, tests, to_z, true, w64, zero, zero-add, ℕ, ℤ, ◌%◌, ◌&&◌, ◌*◌, ◌++◌, ◌+◌, ◌-◌, ◌<◌, ◌^◌, ◌||◌, ◌∙◌, ◌∷◌, ◌≡◌, ◌≢◌, ◌≤◌, ◌⊎◌}
pub use Rattle.std.proofs.lemmas.Bool.{and_from, cases_eq, cases_lt, ne_eqb}
pub use Rattle.std.proofs.lemmas.Bool.Decides.{Decides-int_eq, nat_tests}
pub use Rattle.std.proofs.lemmas.Grind.{common_steps}
pub use Rattle.std.proofs.lemmas.Int.{to_z-of_z, to_z_pos}
pub use Rattle.std.proofs.lemmas.Iterator.{YieldsList-from_slice, YieldsList-from_zip, cases_from_all}
pub use Rattle.std.proofs.lemmas.Iterator.Adapters.{YieldsList-from_flatten}
pub use Rattle.std.proofs.lemmas.Iterator.Search.{all_from_yields_List, any_from_yields_List}
pub use Rattle.std.proofs.lemmas.List.{append-nil, append_cancel_left, drop-drop, drop_all, drop_more, get_or-append_right, get_or-map, get_or_append_left, get_or_past, get_or_read, length-map, set-get_or, take_all, take_more}
pub use Rattle.std.proofs.lemmas.Nat.{mod-mul-add, one_shl}
pub use Rattle.std.proofs.lemmas.Option.{none-some, option_and_then_some, same_Some, slice_get-get_or, slice_get-map, slice_get_past, slice_get_read, slice_get_within}
pub use Rattle.std.specs.Cmp.Lexicographic.{bytes_decides, pointwise, pointwise_decides}
pub use Rattle.std.specs.Global.{Vec}
pub use Rattle.std.specs.List.{AllWithin, HoldsAt, flat_map, list_all, list_any, range_with_len, zip}
pub use Rattle.std.specs.Option.{SomeIff, option_and_then, option_map}
pub use Rattle.std.specs.Prelude.{IsTrue, MatchBool, nat_lt, neg_ℤ, unsigned_abs, ◌-ℤ◌, ◌↔◌}
pub use Rattle.kpn_limits.specs.declared.TheConstants.{MAX_CELLS, MAX_LEVELS, MAX_PORTS, MAX_VARIABLES}
pub use Rattle.kpn_lang.specs.Alone.{CanSay, ComesTo, Process, alone, got_at, put_at, start_of}
pub use Rattle.kpn_lang.specs.Coding.{AreCoded, AreCodes, AreLaid, HasCodes, IsCoded}
pub use Rattle.kpn_lang.specs.Counting.{budget_after, count_through}
pub use Rattle.kpn_lang.specs.Flat.{AddTo, AreStages, Complement, Invert, IsCelled, IsOperand, IsStage, MulBy, Negate, Operation, SubFrom, With, celled_term, chain_term, followed, linked, once, operand_term, operated, operation_of, pick_term, result_with, staged, start_term}
pub use Rattle.kpn_lang.specs.Laws.{BeginsWithGot, EndsAlike, GoesOn, Grows, IsFinal, IsSequential}
pub use Rattle.kpn_lang.specs.Lists.{next_at, remaining, without_next}
pub use Rattle.kpn_lang.specs.Parts.{IsProgram, Parts, children, depth, each_statement, expressions, first_fault, inner_blocks, is_in_order, is_there, is_too_large, is_within, lacks_a_block, names_from, names_its_own, names_ports_below, names_there, nests_too_deep, nodes, order_to, statement_nodes}
pub use Rattle.kpn_lang.specs.Plain.{LeadsTo, Standing}
pub use Rattle.kpn_lang.specs.Prefix.{ArePrefixes, IsPrefix}
pub use Rattle.kpn_lang.specs.Run.{Lists, Next, Ran, choose, ends, list_at, run, says, turns, with_item, with_value}
pub use Rattle.kpn_lang.specs.Spots.{IsBehind, Place, head, next_in, place_from, place_of, statement_in}
pub use Rattle.kpn_lang.specs.Syntax.{Bin, BitNot, Cell, Choice, Neg, Not, Num, Statement, Term, Var, has_cells, lies_within, names_below, names_within, statement_of, term_of}
pub use Rattle.kpn_lang.specs.Tree.{block_at, tree_of, tree_over}
pub use Rattle.kpn_lang.specs.Value.{in_range, index_in, is_index, is_zero, result_of, short_circuits, truth_of, value, ◌>>=◌}
pub use Rattle.kpn_lang.specs.View.{blocks_of, parts_of, parts_with_cells, statements_of, vars_with}
pub use Rattle.kpn_lang.specs.declared.code.Round.{Round}
pub use Rattle.kpn_lang.specs.declared.codes.Coded.{Coded}
pub use Rattle.kpn_lang.specs.declared.program.ProgramFault.TheVariants.{BlockOrder, NoMemory, NoSuchBlock, NoSuchPort, NoSuchVar, TooDeep, TooMany}
pub use Rattle.kpn_lang.specs.declared.syntax.Op.TheVariants.{Add, And, BitAnd, BitOr, BitXor, Div, Eq, Ge, Gt, Le, Lt, Max, Min, Mul, Ne, Or, Rem, Shl, Shr, Sub}
pub use Rattle.kpn_lang.specs.declared.syntax.Stmt.{Stmt}
pub use Rattle.kpn_lang.specs.declared.talk.Ending.{Ending}
pub use Rattle.kpn_lang.specs.declared.talk.Ending.TheVariants.{Cut, Done, Faulted, Starved}
pub use Rattle.kpn_lang.specs.declared.talk.Said.{Said}
pub use Rattle.kpn_lang.specs.declared.talk.Said.TheVariants.{Got, Put}
pub use Rattle.kpn_lang.specs.declared.value.Fault.{Fault}
