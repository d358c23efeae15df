-- The definitions that most proofs cite, passed on from one place. Declares nothing.
pub use Rattle.std.proofs.Common.{Bool, Err, List, None, Ok, Option, Result, Some, [], add-one, ap, append-nil, append_assoc, arith, cond, drop, eqb, false, fold, get_or, inl, inr, length, length-append, map, nat_lt, not, pos, refl, set, subst, suc, sym, take, true, zero, ℕ, ◌&&◌, ◌++◌, ◌+◌, ◌<◌, ◌||◌, ◌∙◌, ◌∷◌, ◌≡◌, ◌≤◌}
pub use Rattle.std.proofs.Math.Seq.{drop-cons, get_or-append_seam, set-append_seam}
pub use Rattle.std.proofs.lemmas.Bool.{and_from, and_parts, cases_eq, cond-false, cond-true, cond_both, eqb-true, false≢true, lt-ltb, ltb-true, or_parts}
pub use Rattle.std.proofs.lemmas.List.{drop_all, get_or_append_left, length-map, map-append, map-set}
pub use Rattle.std.proofs.lemmas.List.Folds.{list_any-append, list_any_at, position_or_len_push}
pub use Rattle.std.proofs.lemmas.Result.{err_from_is_err_and}
pub use Rattle.std.specs.Cmp.Lexicographic.{bytes_decides}
pub use Rattle.std.specs.List.{All, list_any, position_or_len}
pub use Rattle.std.specs.Str.{bytes_eq}
pub use Rattle.kpn_lang.specs.Syntax.{Bin, BitNot, Choice, Neg, Not, Term, names_below, statement_of, term_of}
pub use Rattle.kpn_lang.specs.Tree.{Assign, End, If, Read, Set, Tree, While, Write, block_at, tree_of, tree_over, tree_to}
pub use Rattle.kpn_lang.specs.View.{blocks_of, statements_of}
pub use Rattle.kpn_net.specs.declared.tables.ChannelSpec.{ChannelSpec}
pub use Rattle.kpn_net.specs.declared.tables.ChannelSpec.TheVariants.{Inner, Sink, Source}
pub use Rattle.kpn_text_grammar.specs.Syntax.{Description, ExpressionNode, Item, NameBytes, ProcessNode, Statements, binary, channel, complement, conditional, element, instance, literal_value, minus, negation, numeral, sink, source, variable}
pub use Rattle.kpn_text_grammar.specs.View.{block_seen, declaration_seen, item_seen, literal_seen, names_seen, process_seen, statement_seen, table_seen, term}
pub use Rattle.kpn_text_tokens.specs.Results.{and_then}
pub use Rattle.kpn_text_tokens.specs.declared.tokens.Language.{Language}
pub use Rattle.kpn_text_names.specs.Blocks.{WrittenBody, blocks_in, body_blocks, body_of, inner, own}
pub use Rattle.kpn_text_names.specs.Body.{term_in}
pub use Rattle.kpn_text_names.specs.Fault.{NameError, ResolvingFails, double, each}
pub use Rattle.kpn_text_names.specs.Named.{EachIsNamed, Named, NamedProgram, Programs, at_body, named_program, named_with, program_with, programs_of, resolve, with_named_process, with_uses}
pub use Rattle.kpn_text_names.specs.Names.{all_known, declared, has, known, name_at, number_of, or_unknown, with_name, with_number}
pub use Rattle.kpn_text_names.specs.Network.{Settings, Wiring, all_channels, instance_of, settings_of, wiring, with_channel_name, with_instance, with_wired_channel, with_wired_item, within_32_bits}
pub use Rattle.kpn_text_names.specs.NetworkNames.{AreNamed, named_row, named_table, names_in, paired, process_names_in}
pub use Rattle.kpn_text_names.specs.Rows.{row_at, with_row}
pub use Rattle.kpn_text_names.specs.Scope.{are_new, array_row, behind_arrays, declare, declared_name, head_scope, is_port, is_row, is_taken, row_of, scope_with, table_values, target, with_declaration, with_target}
pub use Rattle.kpn_text_names.specs.Shared.{no_shared, shared_of, used_in, used_in_statement, used_in_term, with_name_used, with_shared, with_use, with_use_if}
pub use Rattle.kpn_text_names.specs.Targets.{known_before, with_targets, with_targets_of}
pub use Rattle.kpn_text_names.specs.View.{body_written, program_seen, programs_seen, wiring_seen}
pub use Rattle.kpn_text_names.specs.Writer.{declared_in, numbered_block, statements_at, with_head_name}
pub use Rattle.kpn_text_names.specs.declared.fault.NameFault.{NameFault}
pub use Rattle.kpn_text_names.specs.declared.scope.NameScope.{NameScope}
pub use Rattle.kpn_text_names.specs.declared.tables.SharedTables.{SharedTables}
