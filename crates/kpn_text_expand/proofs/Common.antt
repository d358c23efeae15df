-- The definitions that most proofs cite, passed on from one place. Declares nothing.
pub use Rattle.std.proofs.Common.{Bool, List, None, Ok, Option, Result, Some, [], ap, append-nil, append_assoc, arith, codes, drop, false, if◌then◌else◌, nat_le, refl, subst, sym, take, true, ℕ, ℤ, ◌++◌, ◌<◌, ◌^◌, ◌∙◌, ◌∷◌, ◌≡◌, ◌≤◌}
pub use Rattle.std.proofs.lemmas.Bool.{cond_both, leb-true}
pub use Rattle.std.proofs.lemmas.Result.{err_from_is_err_and}
pub use Rattle.std.specs.List.{AllByRecursion, find, fold}
pub use Rattle.std.specs.Prelude.{◌==◌}
pub use Rattle.kpn_text_grammar.specs.Spelling.{kinds, spell_all, spell_declaration, spell_description, spell_else, spell_expression, spell_further, spell_growth, spell_item, spell_later_part, spell_limit, spell_list, spell_literal, spell_name, spell_names, spell_network, spell_part, spell_parts, spell_policy, spell_process, spell_setting, spell_statement, spell_statements, spell_table, spell_term, spell_tight, spell_values}
pub use Rattle.kpn_text_grammar.specs.Syntax.{Declaration, Description, ExpressionNode, Item, Literal, NameBytes, NetworkNode, ProcessNode, StatementNode, Statements, Table, array, assign, binary, channel, choice, complement, conditional, element, instance, loop, minus, negated, negation, no_statements, numeral, plain, receive, send, sink, source, statement, store, table, variable}
pub use Rattle.kpn_text_tokens.specs.Laws.{HasSpelling}
pub use Rattle.kpn_text_tokens.specs.Spelling.{has_mark, mark_bytes}
pub use Rattle.kpn_text_tokens.specs.declared.tokens.Language.{Language}
pub use Rattle.kpn_text_tokens.specs.declared.tokens.Lexeme.{Lexeme}
pub use Rattle.kpn_text_tokens.specs.declared.tokens.Mark.{Mark}
pub use Rattle.kpn_text_tokens.specs.declared.tokens.Token.{Token}
pub use Rattle.kpn_text_expand.specs.Constants.{lexeme, steps, with_token}
pub use Rattle.kpn_text_expand.specs.Declaration.{nameless, with_nameless}
pub use Rattle.kpn_text_expand.specs.Expanding.{all_forms, expanded, without_forms}
pub use Rattle.kpn_text_expand.specs.Plain.{ArePlain, IsPlain, capless, not_assigned}
pub use Rattle.kpn_text_expand.specs.Results.{each}
pub use Rattle.kpn_text_expand.specs.Sums.{changes, with_sums}
pub use Rattle.kpn_text_expand.specs.declared.capacities.Capacities.{Capacities}
pub use Rattle.kpn_text_expand.specs.declared.capacities.HeadSpot.{HeadSpot}
pub use Rattle.kpn_text_expand.specs.declared.constants.ConstantPlace.{ConstantPlace}
pub use Rattle.kpn_text_expand.specs.declared.constants.Constants.{Constants}
pub use Rattle.kpn_text_expand.specs.declared.declaration.Constant.{Constant}
pub use Rattle.kpn_text_expand.specs.declared.fault.ExpandFault.{ExpandFault}
pub use Rattle.kpn_text_expand.specs.declared.sums.SumSpot.{SumSpot}
pub use Rattle.kpn_text_expand.specs.declared.sums.Sums.{Sums}
