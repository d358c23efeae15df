-- The definitions that most proofs cite, passed on from one place. Declares nothing.
pub use Rattle.std.proofs.Common.{Bool, Err, List, None, Ok, Option, Result, Some, [], add-one, ap, append-nil, append_assoc, arith, codes, cond, drop, false, fold, get_or, if◌then◌else◌, inl, inr, length, length-append, lit≤, map, max, nat_le, negsuc, pos, refl, subst, suc, sym, take, true, zero, ℕ, ℤ, ◌&&◌, ◌*◌, ◌++◌, ◌+◌, ◌-◌, ◌<◌, ◌^◌, ◌||◌, ◌∙◌, ◌∷◌, ◌≡◌, ◌≤◌}
pub use Rattle.std.proofs.Math.Seq.{drop-cons, take-append_seam}
pub use Rattle.std.proofs.lemmas.Bool.{and_from, and_parts, cond-true, lt-ltb}
pub use Rattle.std.proofs.lemmas.Bool.Decides.{nat_tests}
pub use Rattle.std.proofs.lemmas.Grind.{common_steps}
pub use Rattle.std.proofs.lemmas.List.{drop_all, drop_at, drop_more, get_or-map, length-map, map-append, map-id, take_at, take_min}
pub use Rattle.std.proofs.lemmas.List.Elements.{All-append, All-cons, All-head, All-map, All-nil, All-tail}
pub use Rattle.std.proofs.lemmas.Result.{err_from_is_err_and}
pub use Rattle.std.specs.Char.{is_ascii_digit}
pub use Rattle.std.specs.Fmt.{decimal, signed_decimal}
pub use Rattle.std.specs.List.{AllByRecursion, flat_map, list_all, position_or_len, starts_with}
pub use Rattle.std.specs.Prelude.{All, nat_eq, slice_index_or, sum_by, ◌==◌}
pub use Rattle.std.specs.Str.{IsUtf8, bytes_eq}
pub use Rattle.std.specs.Vec.Iter.{into_iter_items, into_iter_len}
pub use Rattle.kpn_limits.specs.declared.TheConstants.{MAX_CAPACITY, MAX_CELLS, MAX_LEVELS, MAX_NODES, MAX_PORTS, MAX_TEXT_BYTES, MAX_VARIABLES}
pub use Rattle.kpn_lang.specs.Parts.{IsProgram, Parts, first_fault, inner_blocks, is_too_large, is_within, statement_nodes}
pub use Rattle.kpn_lang.specs.Tree.{Tree, block_at, tree_of, tree_over}
pub use Rattle.kpn_lang.specs.View.{statements_of}
pub use Rattle.kpn_lang.specs.declared.program.ProgramFault.{ProgramFault}
pub use Rattle.kpn_net.specs.Faults.{IsNetwork, MakesNetwork, first_network_fault, has_too_many}
pub use Rattle.kpn_net.specs.Tables.{Tables, capacity, channel_at, ends_among, ends_from, instance_at, is_sink, reader_of}
pub use Rattle.kpn_net.specs.declared.fault.NetFault.{NetFault}
pub use Rattle.kpn_net.specs.declared.tables.ChannelSpec.{ChannelSpec}
pub use Rattle.kpn_net.specs.declared.tables.Growth.{Growth}
pub use Rattle.kpn_net.specs.declared.tables.Instance.{Instance}
pub use Rattle.kpn_net.specs.declared.tables.NetworkSize.{NetworkSize}
pub use Rattle.kpn_net.specs.declared.tables.Policy.{Policy}
pub use Rattle.kpn_text_expand.specs.Expanding.{expanded}
pub use Rattle.kpn_text_grammar.specs.Operators.{LOOSEST, OPERAND, left_side, operator_mark, operator_name, right_side, tightness}
pub use Rattle.kpn_text_grammar.specs.Reading.{description_of}
pub use Rattle.kpn_text_grammar.specs.Spelling.{DeclarationIsWithin, IsDescription, IsWithinLimits, ProcessIsWithin, TableIsWithin, by_name, kinds, spell_all, spell_call, spell_declaration, spell_description, spell_else, spell_expression, spell_further, spell_growth, spell_item, spell_language, spell_later_part, spell_limit, spell_list, spell_literal, spell_name, spell_names, spell_network, spell_part, spell_parts, spell_policy, spell_process, spell_statement, spell_statements, spell_table, spell_term, spell_tight, spell_values}
pub use Rattle.kpn_text_grammar.specs.Syntax.{Declaration, Description, ExpressionNode, InstanceNode, Item, Literal, NameBytes, NetworkNode, ProcessNode, StatementNode, Statements, Table, array, assign, binary, channel, choice, complement, conditional, element, instance, literal_value, loop, minus, negated, negation, no_statements, numeral, plain, receive, send, sink, source, statement, store, table, variable}
pub use Rattle.kpn_text_grammar.specs.declared.fault.GrammarFault.{GrammarFault}
pub use Rattle.kpn_text_names.proofs.Chains.{bind_assoc, ok_is, same_after, then_ok, went}
pub use Rattle.kpn_text_names.proofs.Counts.{are_named, programs_match, resolved_each}
pub use Rattle.kpn_text_names.proofs.Growing.{Grows, body_grows, grows_not, grows_on, target_grows}
pub use Rattle.kpn_text_names.proofs.KnownNames.{IsNamed, all_known_named, declared_is, declared_new, if_not, if_so, is_named-append, known_named, target_named, with_name_new}
pub use Rattle.kpn_text_names.specs.Blocks.{WrittenBody, body_blocks, body_of}
pub use Rattle.kpn_text_names.specs.Body.{tree_in}
pub use Rattle.kpn_text_names.specs.Fault.{NameError, double, each, unknown}
pub use Rattle.kpn_text_names.specs.Laws.{BlocksAreTheTree}
pub use Rattle.kpn_text_names.specs.Named.{NamedProgram, Programs, at_body, free_of, named_program, program_with, programs_of, values_of, with_named_process, with_uses}
pub use Rattle.kpn_text_names.specs.Names.{all_known, declared, has, known, name_at, number_of, or_unknown, with_name}
pub use Rattle.kpn_text_names.specs.Network.{Settings, Wiring, all_channels, growth_of, instance_of, limit_of, policy_of, settings_of, wiring, with_channel_name, with_instance, with_wired_channel, with_wired_item, within_32_bits}
pub use Rattle.kpn_text_names.specs.NetworkNames.{AreNamed, named_row, named_table, names_in, paired, process_names, process_names_in}
pub use Rattle.kpn_text_names.specs.Rows.{row_at, with_row, within_64_bits}
pub use Rattle.kpn_text_names.specs.Scope.{are_new, array_row, behind_arrays, declare, declared_name, head_scope, is_port, is_row, is_taken, row_of, scope_with, table_row, table_values, target, with_declaration, with_table}
pub use Rattle.kpn_text_names.specs.Shared.{no_shared, shared_of, used_in, used_in_statement, used_in_term, values_at, with_name_used, with_shared, with_use, with_use_if}
pub use Rattle.kpn_text_names.specs.View.{named_seen, program_seen}
pub use Rattle.kpn_text_names.specs.declared.network_names.NamedRow.{NamedRow}
pub use Rattle.kpn_text_names.specs.declared.network_names.NetworkNames.{NetworkNames}
pub use Rattle.kpn_text_names.specs.declared.network_names.ProcessNames.{ProcessNames}
pub use Rattle.kpn_text_names.specs.declared.process.ProgramParts.{ProgramParts}
pub use Rattle.kpn_text_names.specs.declared.rows.Row.{Row}
pub use Rattle.kpn_text_names.specs.declared.scope.NameScope.{NameScope}
pub use Rattle.kpn_text_names.specs.declared.tables.KnownTables.{KnownTables}
pub use Rattle.kpn_text_names.specs.declared.tables.SharedTables.{SharedTables}
pub use Rattle.kpn_text_tokens.proofs.WithoutPlaces.{decimal_spelled, empty_text, spelled_token, white_dropped}
pub use Rattle.kpn_text_tokens.specs.Laws.{HasSpelling, cons_token, tokens_of}
pub use Rattle.kpn_text_tokens.specs.Lexing.{begins_name, is_white_space, lexemes_of, scan}
pub use Rattle.kpn_text_tokens.specs.Opening.{language_of}
pub use Rattle.kpn_text_tokens.specs.Results.{OkOr, and_then}
pub use Rattle.kpn_text_tokens.specs.Rules.{EndsBefore, IsName, IsSpelled, MarkEnds}
pub use Rattle.kpn_text_tokens.specs.Spelling.{has_keyword, has_mark, keyword_bytes, mark_bytes}
pub use Rattle.kpn_text_tokens.specs.declared.lexer.LexFault.{LexFault}
pub use Rattle.kpn_text_tokens.specs.declared.tokens.Keyword.{Keyword}
pub use Rattle.kpn_text_tokens.specs.declared.tokens.Language.{Language}
pub use Rattle.kpn_text_tokens.specs.declared.tokens.Lexeme.{Lexeme}
pub use Rattle.kpn_text_tokens.specs.declared.tokens.Mark.{Mark}
pub use Rattle.kpn_text_tokens.specs.declared.tokens.Token.{Token}
pub use Rattle.kpn_text.specs.CanonicalLaws.{DescriptionIsRead, EndsWord, LanguageIsTold, ReadDescriptionsAreProper}
pub use Rattle.kpn_text.specs.Document.{Document, canonical_text, document_named, document_with, network_size}
pub use Rattle.kpn_text.specs.Fault.{expand_fault, grammar_fault, lex_fault, name_fault, net_fault}
pub use Rattle.kpn_text.specs.Making.{TellsCause, TextReads, TokensFail, program_told}
pub use Rattle.kpn_text.specs.Named.{array_named, call_named, channel_named, declarations_named, description_named, growth_named, instance_named, limit_named, literal_named, network_named, number_named, policy_named, process_named, row_name, row_name_or, statements_named, table_named, tables_named, term_named}
pub use Rattle.kpn_text.specs.Phases.{Cause, Refuses, TellsWhatIsFound, document_of, in_grammar, in_names, in_network, meant_in, network_cause, or_cause, program_or, programs_cause, tables_cause, unless}
pub use Rattle.kpn_text.specs.Proper.{AreNames, AreProper, HasBrackets, HasOperator, IsProper, IsProperDeclaration, IsProperInstance, IsProperItem, IsProperLimit, IsProperLiteral, IsProperNetwork, IsProperProcess, IsProperStatement, IsProperTable, IsProperTerm, is_called, stands_between}
pub use Rattle.kpn_text.specs.Spells.{IsOfSomeText, SpellsDocument}
pub use Rattle.kpn_text.specs.Text.{all_text, call_text, close_text, declaration_text, description_text, else_text, further_text, growth_text, indented, language_text, limit_text, list_text, literal_text, name_text, names_text, needs_no_parentheses, network_item_text, network_text, open_text, otherwise_text, outs_text, part_text, parts_text, policy_text, process_text, statement_text, statements_text, table_text, term_text, unindented_text, values_text, whole_text}
pub use Rattle.kpn_text.specs.Writing.{Writes}
pub use Rattle.kpn_text.specs.declared.fault.TextFault.{TextFault}
