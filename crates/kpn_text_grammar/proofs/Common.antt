-- The definitions that most proofs cite, passed on from one place. Declares nothing.
pub use Rattle.std.proofs.Common.{Bool, Err, IfOk, List, None, Ok, Option, Result, Some, [], ap, append_assoc, arith, codes, cond, drop, false, if◌then◌else◌, inl, inr, length, length-drop, map, min, nat_le, not, refl, subst, suc, sym, take, true, zero, ℕ, ◌&&◌, ◌*◌, ◌++◌, ◌+◌, ◌-◌, ◌<◌, ◌==◌, ◌||◌, ◌∙◌, ◌∷◌, ◌≡◌, ◌≤◌, ◌⊎◌}
pub use Rattle.std.proofs.lemmas.Bool.{and_from, and_parts, cond_both, eqb-true, le-leb, leb-false, leb-true, lt-leb, ne_eqb, or_parts}
pub use Rattle.std.proofs.lemmas.List.{append-nil, length-append, length-map, map-append}
pub use Rattle.std.proofs.lemmas.Result.{err_from_is_err_and}
pub use Rattle.std.specs.List.{AllByRecursion}
pub use Rattle.kpn_limits.specs.declared.TheConstants.{MAX_LEVELS}
pub use Rattle.kpn_lang.specs.declared.syntax.Op.{Op}
pub use Rattle.kpn_net.specs.declared.tables.Growth.{Growth}
pub use Rattle.kpn_net.specs.declared.tables.Policy.{Policy}
pub use Rattle.kpn_text_tokens.specs.Results.{and_then}
pub use Rattle.kpn_text_tokens.specs.declared.tokens.Keyword.{Keyword}
pub use Rattle.kpn_text_tokens.specs.declared.tokens.Language.{Language}
pub use Rattle.kpn_text_tokens.specs.declared.tokens.Lexeme.{Lexeme}
pub use Rattle.kpn_text_tokens.specs.declared.tokens.Mark.{Mark}
pub use Rattle.kpn_text_tokens.specs.declared.tokens.Token.{Token}
pub use Rattle.kpn_text_grammar.specs.Laws.{IsFaultAt, fault_place}
pub use Rattle.kpn_text_grammar.specs.Operators.{LOOSEST, OPERAND, left_side, loosest, operator_mark, right_side, tightness}
pub use Rattle.kpn_text_grammar.specs.Reading.{ReadingFails, ReadingGives, all_of, block, declaration, declares, description_of, first_is, further, goes_further, item, literal, name, numbered_process, one_statement, operator, operator_fits, processes, second_block, separated, shared_table, stands_in_block, tight, token_operator}
pub use Rattle.kpn_text_grammar.specs.Spelling.{DeclarationIsWithin, IsDescription, IsDescriptionWithin, IsWithinLimits, ProcessIsWithin, SpellsAll, SpellsProcess, SpellsTerm, SpellsTight, TableIsWithin, as_binary, as_call, as_complement, as_conditional, as_element, as_minus, as_name, as_negation, as_number, as_sides, in_parentheses, kinds, spell_all, spell_call, spell_declaration, spell_expression, spell_further, spell_growth, spell_item, spell_language, spell_later_part, spell_limit, spell_list, spell_literal, spell_name, spell_names, spell_network, spell_parts, spell_policy, spell_setting, spell_table, spell_term, spell_tight, spell_values, term_level}
pub use Rattle.kpn_text_grammar.specs.Syntax.{Declaration, Description, ExpressionNode, Item, Literal, NameBytes, NetworkNode, ProcessNode, Table, array, binary, channel, complement, conditional, element, instance, minus, negated, negation, numeral, plain, sink, source, table, variable}
pub use Rattle.kpn_text_grammar.specs.TokenTests.{is_keyword, is_mark, is_name, is_number_two, same_keyword, same_mark}
pub use Rattle.kpn_text_grammar.specs.View.{declaration_seen, declarations_seen, document, item_seen, items_seen, literal_seen, names_seen, process_seen, processes_seen, statement_seen, statements_seen, table_seen, tables_seen, term, term_step, tokens_from, values_seen}
pub use Rattle.kpn_text_grammar.specs.Words.{growth_spelled, growth_word, policy_spelled, policy_word}
pub use Rattle.kpn_text_grammar.specs.declared.fault.GrammarFault.{GrammarFault}
pub use Rattle.kpn_text_grammar.specs.declared.parser.Scope.{Scope}
