-- What was read from a text is proper: each name is a name, and each number is in range.
use Rattle.kpn_text.proofs.Common.{◌≡◌, ℕ, ◌<◌, ◌^◌, true, List, [], ◌∷◌, length, Option, Some, None, Ok, subst, arith, AllByRecursion, Growth, Policy, MAX_LEVELS, Keyword, Language, Mark, Token, Lexeme, HasSpelling, lexemes_of, IsName, has_keyword, has_mark, operator_mark, NameBytes, ExpressionNode, numeral, variable, element, minus, negation, complement, binary, conditional, StatementNode, assign, store, receive, send, choice, loop, Statements, no_statements, statement, Table, Declaration, array, table, ProcessNode, Literal, plain, negated, Item, channel, source, sink, instance, NetworkNode, Description, expanded, IsProperTerm, IsProperStatement, AreProper, AreNames, IsProperTable, IsProperDeclaration, IsProperProcess, IsProperLiteral, IsProperItem, IsProperLimit, IsProperNetwork, IsProper, is_called, stands_between}
use Rattle.kpn_text_tokens.specs.declared.tokens.Keyword.TheVariants as keyword
use Rattle.kpn_text_tokens.specs.declared.tokens.Language.TheVariants as language
use Rattle.kpn_text_tokens.specs.declared.tokens.Mark.TheVariants as mark
use Rattle.kpn_text_tokens.specs.declared.tokens.Token.TheVariants as token
use Rattle.kpn_text_tokens.proofs.NumeralLaws.{number_small as is_below}
use Rattle.kpn_text_tokens.proofs.WithoutPlaces.{read_spelled}
use Rattle.kpn_text_expand.proofs.Spelled.{expanded_spelled}
use Rattle.kpn_text_grammar.specs.Spelling.{kinds, SpellsTight, as_number, as_name, as_element, as_minus, as_negation, as_complement, in_parentheses, as_call, as_sides, as_conditional, as_binary, SpellsStatement, as_assignment, as_store, as_read, as_write, as_if, as_while, SpellsStatements, nothing, one_more, SpellsElse, left_out, behind_else, SpellsSecond, with_braces, as_branch, SpellsProcess, SpellsAll, IsDescription, spell_all, spell_further, spell_list, spell_name, spell_names, spell_table, spell_declaration, spell_part, spell_later_part, spell_parts, spell_literal, spell_values, spell_item, spell_limit, spell_policy, spell_growth, spell_network, spell_language}
use Rattle.kpn_text.proofs.ReadingLaws.{are_tokens}

-- each of the tokens can be spelled
abbrev AreSpelled : Language → List Token → Type 0
AreSpelled l tokens = AllByRecursion (HasSpelling l) tokens

-- what comes before tokens is proper, and the tokens can be spelled
record And (l : Language) (P : Type 0) (tokens : List Token) : Type 0 where
  is : P
  rest : AreSpelled l tokens

number_small : (l : Language) (n : ℕ) → HasSpelling l (token.Number n) → n < 2 ^ 63
number_small l n h = is_below l n h.0 h.1

is_name : (l : Language) (x : NameBytes) → HasSpelling l (token.Name x) → IsName l x
is_name l x h = h.1.0

has_this : (l : Language) (m : Mark) → HasSpelling l (token.Mark m) → has_mark l m ≡ true
has_this l m h = h.1.0

has_word : (l : Language) (k : Keyword) → HasSpelling l (token.Keyword k) → has_keyword l k ≡ true
has_word l k h = h.1.0

-- an expression, by the rules
tight_is : {l : Language} {depth n : ℕ} (e : ExpressionNode) {tokens more : List Token} → SpellsTight l depth n e tokens more
    → AreSpelled l tokens → And l (IsProperTerm l e) more
tight_is {l} (numeral n) as_number h = record { is = number_small l n h.0; rest = h.1 }
tight_is {l} (variable x) as_name h = record { is = is_name l x h.0; rest = h.1 }
tight_is {l} (element x e) (as_element s) h =
    let inner = tight_is e s h.1.1 in
    record {
      is = (
        is_name l x h.0,
        record { left = has_this l mark.LeftBracket h.1.0; right = has_this l mark.RightBracket inner.rest.0 },
        inner.is,
      );
      rest = inner.rest.1;
    }
tight_is (minus e) (as_minus s) h =
    let inner = tight_is e s h.1 in
    record { is = inner.is; rest = inner.rest }
tight_is (negation e) (as_negation s) h =
    let inner = tight_is e s h.1 in
    record { is = inner.is; rest = inner.rest }
tight_is {l} (complement e) (as_complement s) h =
    let inner = tight_is e s h.1 in
    record { is = (has_this l mark.BitNot h.0, inner.is); rest = inner.rest }
tight_is e (in_parentheses two s) h =
    let inner = tight_is e s h.1 in
    record { is = inner.is; rest = inner.rest.1 }
tight_is {l} (binary op a b) (as_call {x = x} two named s t) h =
    let left = tight_is a s h.1.1 in
    let right = tight_is b t left.rest.1 in
    record { is = (is_called two named (is_name l x h.0), left.is, right.is); rest = right.rest.1 }
tight_is {l} (binary op a b) (as_sides one between s t) h =
    let left = tight_is a s h.1 in
    let right = tight_is b t left.rest.1 in
    record {
      is = (stands_between between (has_this l (operator_mark op) left.rest.0), left.is, right.is);
      rest = right.rest.1;
    }
tight_is {l} (conditional e a b) (as_conditional s t u) h =
    let test = tight_is e s h.1 in
    let first = tight_is a t test.rest.1 in
    let second = tight_is b u first.rest.1 in
    record {
      is = (
        has_this l mark.Question test.rest.0,
        has_this l mark.Colon first.rest.0,
        test.is,
        first.is,
        second.is,
      );
      rest = second.rest.1;
    }
tight_is {l} (binary op a b) (as_binary fits between s t) h =
    let left = tight_is a s h in
    let right = tight_is b t left.rest.1 in
    record {
      is = (stands_between between (has_this l (operator_mark op) left.rest.0), left.is, right.is);
      rest = right.rest;
    }

mutual
  statement_is : (l : Language) (s : StatementNode) {tokens more : List Token} → SpellsStatement MAX_LEVELS l s tokens more
      → AreSpelled l tokens → And l (IsProperStatement l s) more
  statement_is l (assign x e) (as_assignment s) h =
      let value = tight_is e s h.1.1 in
      record { is = (is_name l x h.0, value.is); rest = value.rest.1 }
  statement_is l (store x i e) (as_store at_e s t) h =
      let index = tight_is i s h.1.1 in
      let value = tight_is e t index.rest.1.1 in
      record {
        is = (
          is_name l x h.0,
          record { left = has_this l mark.LeftBracket h.1.0; right = has_this l mark.RightBracket index.rest.0 },
          index.is,
          value.is,
        );
        rest = value.rest.1;
      }
  statement_is l (receive i x) as_read h = record { is = (is_name l i h.1.0, is_name l x h.1.1.0); rest = h.1.1.1.1 }
  statement_is l (send o e) (as_write s) h =
      let value = tight_is e s h.1.1 in
      record { is = (is_name l o h.1.0, value.is); rest = value.rest.1 }
  statement_is l (choice e a b) (as_if s t u) h =
      let test = tight_is e s h.1 in
      let first = statements_are l a t test.rest.1 in
      let second = else_is l b u first.rest.1 in
      record { is = (test.is, first.is, second.is); rest = second.rest }
  statement_is l (loop e b) (as_while s t) h =
      let test = tight_is e s h.1 in
      let body = statements_are l b t test.rest.1 in
      record { is = (test.is, body.is); rest = body.rest.1 }

  statements_are : (l : Language) (ss : Statements) {tokens more : List Token} → SpellsStatements MAX_LEVELS l ss tokens more
      → AreSpelled l tokens → And l (AreProper l ss) more
  statements_are l no_statements nothing h = record { is = tt; rest = h }
  statements_are l (statement s ss) (one_more t u) h =
      let first = statement_is l s t h in
      let others = statements_are l ss u first.rest in
      record { is = (first.is, others.is); rest = others.rest }

  else_is : (l : Language) (b : Statements) {tokens more : List Token} → SpellsElse MAX_LEVELS l b tokens more
      → AreSpelled l tokens → And l (AreProper l b) more
  else_is l no_statements (left_out two ends) h = record { is = tt; rest = h }
  else_is l b (behind_else s) h = second_is l b s h.1

  second_is : (l : Language) (b : Statements) {tokens more : List Token} → SpellsSecond MAX_LEVELS l b tokens more
      → AreSpelled l tokens → And l (AreProper l b) more
  second_is l b (with_braces s) h =
      let inside = statements_are l b s h.1 in
      record { is = inside.is; rest = inside.rest.1 }
  second_is l (statement (choice e a b) no_statements) (as_branch two s) h =
      let branch = statement_is l (choice e a b) s h in
      record { is = (branch.is, tt); rest = branch.rest }

-- ---- lists, by their items

module _ (l : Language) {A : Type 0} (spell : A → List Token → List Token) (P : A → Type 0)
    (one : (x : A) (more : List Token) → AreSpelled l (spell x more) → And l (P x) more) where
  all_are : (xs : List A) (more : List Token) → AreSpelled l (spell_all spell xs more)
      → And l (AllByRecursion P xs) more
  all_are [] more h = record { is = tt; rest = h }
  all_are (x ∷ xs) more h =
      let first = one x _ h in
      let others = all_are xs more first.rest in
      record { is = (first.is, others.is); rest = others.rest }

  further_are : (xs : List A) (more : List Token) → AreSpelled l (spell_all (spell_further spell) xs more)
      → And l (AllByRecursion P xs) more
  further_are [] more h = record { is = tt; rest = h }
  further_are (x ∷ xs) more h =
      let first = one x _ h.1 in
      let others = further_are xs more first.rest in
      record { is = (first.is, others.is); rest = others.rest }

  list_are : (xs : List A) (more : List Token) → AreSpelled l (spell_list spell xs more)
      → And l (AllByRecursion P xs) more
  list_are [] more h = record { is = tt; rest = h }
  list_are (x ∷ xs) more h =
      let first = one x _ h in
      let others = further_are xs more first.rest in
      record { is = (first.is, others.is); rest = others.rest }

name_is : (l : Language) (x : NameBytes) (more : List Token) → AreSpelled l (spell_name x more) → And l (IsName l x) more
name_is l x more h = record { is = is_name l x h.0; rest = h.1 }

names_are : (l : Language) (xs : List NameBytes) (more : List Token) → AreSpelled l (spell_names xs more)
    → And l (AreNames l xs) more
names_are l = list_are l spell_name (IsName l) (name_is l)

-- ---- tables and arrays

literal_is : (l : Language) (v : Literal) (more : List Token) → AreSpelled l (spell_literal v more)
    → And l (IsProperLiteral v) more
literal_is l (plain n) more h = record { is = number_small l n h.0; rest = h.1 }
literal_is l (negated n) more h = record { is = number_small l n h.1.0; rest = h.1.1 }

table_is : (l : Language) (t : Table) (more : List Token) → AreSpelled l (spell_table t more)
    → And l (IsProperTable l t) more
table_is l t more h =
    let values = list_are l spell_literal IsProperLiteral (literal_is l) t.values _ h.1.1.1 in
    record {
      is = record { word = has_word l keyword.Table h.0; name = is_name l t.name h.1.0; values = values.is };
      rest = values.rest.1;
    }

declaration_is : (l : Language) (d : Declaration) (more : List Token) → AreSpelled l (spell_declaration d more)
    → And l (IsProperDeclaration l d) more
declaration_is l (array x n) more h =
    record {
      is = (
        has_word l keyword.Array h.0,
        is_name l x h.1.0,
        record { left = has_this l mark.LeftBracket h.1.1.0; right = has_this l mark.RightBracket h.1.1.1.1.0 },
        number_small l n h.1.1.1.0,
      );
      rest = h.1.1.1.1.1.1;
    }
declaration_is l (table t) more h =
    let inner = table_is l t more h in
    record { is = inner.is; rest = inner.rest }

-- ---- processes

part_is : (l : Language) (word : Keyword) (xs : List NameBytes) (more : List Token) → AreSpelled l (spell_part word xs more)
    → And l (AreNames l xs) more
part_is l word [] more h = record { is = tt; rest = h }
part_is l word (x ∷ xs) more h = names_are l (x ∷ xs) more h.1

later_part_is : (l : Language) (word : Keyword) (xs : List NameBytes) (more : List Token)
    → AreSpelled l (spell_later_part word xs more)
    → And l (AreNames l xs) more
later_part_is l word [] more h = record { is = tt; rest = h }
later_part_is l word (x ∷ xs) more h = names_are l (x ∷ xs) more h.1.1

record PartsAre (l : Language) (a b c : List NameBytes) : Type 0 where
  ins : AreNames l a
  outs : AreNames l b
  pars : AreNames l c

parts_are : (l : Language) (a b c : List NameBytes) (more : List Token) → AreSpelled l (spell_parts a b c more)
    → And l (PartsAre l a b c) more
parts_are l (x ∷ xs) b c more h =
    let ins = part_is l keyword.In (x ∷ xs) _ h in
    let outs = later_part_is l keyword.Out b _ ins.rest in
    let pars = later_part_is l keyword.Par c more outs.rest in
    record { is = record { ins = ins.is; outs = outs.is; pars = pars.is }; rest = pars.rest }
parts_are l [] (x ∷ xs) c more h =
    let outs = part_is l keyword.Out (x ∷ xs) _ h in
    let pars = later_part_is l keyword.Par c more outs.rest in
    record { is = record { ins = tt; outs = outs.is; pars = pars.is }; rest = pars.rest }
parts_are l [] [] c more h =
    let pars = part_is l keyword.Par c more h in
    record { is = record { ins = tt; outs = tt; pars = pars.is }; rest = pars.rest }

process_is : (l : Language) (p : ProcessNode) (tokens more : List Token) → SpellsProcess MAX_LEVELS l p tokens more
    → AreSpelled l tokens → And l (IsProperProcess l p) more
process_is l p tokens more s spelled =
    let h = subst (λ ts. AreSpelled l ts) s.head spelled in
    let parts = parts_are l p.ins p.outs p.pars _ h.1.1.1 in
    let declared = all_are l spell_declaration (IsProperDeclaration l) (declaration_is l) p.declarations _
    parts.rest.1.1 in
    let body = statements_are l p.body s.body declared.rest in
    record {
      is =
          record {
            name = is_name l p.name h.1.0;
            ins = parts.is.ins;
            outs = parts.is.outs;
            pars = parts.is.pars;
            declarations = declared.is;
            body = body.is;
          };
      rest = body.rest.1;
    }

processes_are : (l : Language) (ps : List ProcessNode) (tokens more : List Token)
    → SpellsAll (SpellsProcess MAX_LEVELS l) ps tokens more → AreSpelled l tokens
    → And l (AllByRecursion (IsProperProcess l) ps) more
processes_are l [] tokens more s h = record { is = tt; rest = subst (λ ts. AreSpelled l ts) s h }
processes_are l (p ∷ ps) tokens more s h =
    let first = process_is l p tokens s.0 s.1 h in
    let others = processes_are l ps s.0 more s.2 first.rest in
    record { is = (first.is, others.is); rest = others.rest }

-- ---- networks

values_are : (l : Language) (vs : List Literal) (more : List Token) → AreSpelled l (spell_values vs more)
    → And l (AllByRecursion IsProperLiteral vs) more
values_are l [] more h = record { is = tt; rest = h }
values_are l (v ∷ vs) more h = list_are l spell_literal IsProperLiteral (literal_is l) (v ∷ vs) more h.1

item_is : (l : Language) (item : Item) (more : List Token) → AreSpelled l (spell_item item more)
    → And l (IsProperItem l item) more
item_is l (channel c cap) more h = record { is = (is_name l c h.1.0, number_small l cap h.1.1.1.0); rest = h.1.1.1.1.1 }
item_is l (source c) more h = record { is = is_name l c h.1.0; rest = h.1.1.1 }
item_is l (sink c cap) more h = record { is = (is_name l c h.1.0, number_small l cap h.1.1.1.0); rest = h.1.1.1.1.1 }
item_is l (instance i) more h =
    let ins = names_are l i.ins _ h.1.1.1.1 in
    let outs = names_are l i.outs _ ins.rest.1 in
    let values = values_are l i.values _ outs.rest in
    record {
      is =
          record {
            name = is_name l i.name h.0;
            program = is_name l i.program h.1.1.0;
            ins = ins.is;
            outs = outs.is;
            values = values.is;
          };
      rest = values.rest.1.1;
    }

limit_is : (l : Language) (limit : Option ℕ) (more : List Token) → AreSpelled l (spell_limit limit more)
    → And l (IsProperLimit limit) more
limit_is l None more h = record { is = tt; rest = h }
limit_is l (Some n) more h = record { is = number_small l n h.1.0; rest = h.1.1.1 }

policy_is : (l : Language) (written : Option Policy) (more : List Token) → AreSpelled l (spell_policy written more)
    → AreSpelled l more
policy_is l None more h = h
policy_is l (Some q) more h = h.1.1.1

growth_is : (l : Language) (written : Option Growth) (more : List Token) → AreSpelled l (spell_growth written more)
    → AreSpelled l more
growth_is l None more h = h
growth_is l (Some g) more h = h.1.1.1

network_is : (l : Language) (n : NetworkNode) (more : List Token) → AreSpelled l (spell_network n more)
    → And l (IsProperNetwork l n) more
network_is l n more h =
    let limit = limit_is l n.limit _ h.1.1 in
    let growth = policy_is l n.policy _ limit.rest in
    let items = all_are l spell_item (IsProperItem l) (item_is l) n.items _ (growth_is l n.growth _ growth) in
    record { is = record { limit = limit.is; items = items.is }; rest = items.rest.1 }

-- the language of a text is spelled in front of it
language_is : (l : Language) (more : List Token) → AreSpelled l (spell_language l more) → AreSpelled l more
language_is language.One more h = h
language_is language.Two more h = h.1.1.1

pub description_is : (l : Language) (text : List ℕ) (read tokens : List Lexeme) (d : Description)
    → lexemes_of l text ≡ Ok read → expanded l (length text) read ≡ Ok tokens → IsDescription l (kinds tokens) d
    → IsProper l d
description_is l text read tokens d reads stands s =
    let rules = s.spelled in
    let was : AreSpelled l (kinds read) = read_spelled l text (kinds read) (are_tokens l text read reads) in
    let spelled = subst (λ ts. AreSpelled l ts) rules.opening
    (expanded_spelled l (length text) read tokens was stands) in
    let tables = all_are l spell_table (IsProperTable l) (table_is l) d.tables _ (language_is l _ spelled) in
    let processes = processes_are l d.processes _ _ rules.processes tables.rest in
    let network = network_is l d.network [] processes.rest in
    record { tables = tables.is; processes = processes.is; network = network.is }
