-- How printed tables, arrays and processes are read.
use Rattle.kpn_text.proofs.Common.{◌≡◌, ℕ, true, List, [], ◌∷◌, ◌++◌, codes, refl, decimal, Keyword, Language, Token, has_keyword, NameBytes, Literal, plain, negated, Table, Declaration, array, table, ProcessNode, spell_literal, spell_table, spell_declaration, spell_part, spell_later_part, spell_parts, spell_process, EndsWord, AreNames, IsProperLiteral, IsProperTable, IsProperDeclaration, IsProperProcess, literal_text, list_text, table_text, declaration_text, all_text, names_text, part_text, parts_text, statements_text, process_text}
use Rattle.kpn_text_tokens.specs.declared.tokens.Keyword.TheVariants as keyword
use Rattle.kpn_text_tokens.specs.declared.tokens.Mark.TheVariants as mark
use Rattle.kpn_text_tokens.specs.declared.tokens.Token.TheVariants as token
use Rattle.kpn_text.proofs.TokenLemmas.{IsReadAs, name_read, number_read, mark_read, keyword_read, space_read, indent_read}
use Rattle.kpn_text.proofs.StatementLemmas.{end_read, open_read, close_read, statements_read}
use Rattle.kpn_text.proofs.ListLemmas.{all_read, list_read, names_read}

-- ---- tables and arrays

pub literal_read : {l : Language} (v : Literal) (more : List ℕ) (tokens : List Token) → IsProperLiteral v
    → EndsWord more → IsReadAs l more tokens → IsReadAs l (literal_text v more) (spell_literal v tokens)
literal_read (plain n) more tokens is ends h = number_read n more tokens is ends h
literal_read (negated n) more tokens is ends h =
    mark_read mark.Minus (decimal n ++ more) _ refl tt (number_read n more tokens is ends h)

pub table_read : {l : Language} (t : Table) (more : List ℕ) (tokens : List Token) → IsProperTable l t
    → IsReadAs l more tokens → IsReadAs l (table_text t more) (spell_table t tokens)
table_read {l} t more tokens is h =
    let values =
    list_read literal_text spell_literal IsProperLiteral literal_read t.values (codes ";\n" ++ more) _ is.values refl
    (end_read more tokens h) in
    let inside = list_text literal_text t.values (codes ";\n" ++ more) in
    let sign =
    space_read _ _ (mark_read mark.Assign (codes " " ++ inside) _ refl refl (space_read _ _ values)) in
    let named = name_read t.name (codes " = " ++ inside) _ is.name refl sign in
    keyword_read keyword.Table (codes " " ++ (t.name ++ (codes " = " ++ inside))) _ is.word refl (space_read _ _ named)

declaration_read : {l : Language} (d : Declaration) (more : List ℕ) (tokens : List Token) → IsProperDeclaration l d
    → IsReadAs l more tokens → IsReadAs l (declaration_text d more) (spell_declaration d tokens)
declaration_read (array x n) more tokens is h =
    let shut = mark_read mark.RightBracket (codes ";\n" ++ more) _ is.2.right tt (end_read more tokens h) in
    let size = number_read n (codes "];\n" ++ more) _ is.3 refl shut in
    let inside = decimal n ++ (codes "];\n" ++ more) in
    let named = name_read x (codes "[" ++ inside) _ is.1 refl (mark_read mark.LeftBracket inside _ is.2.left tt size) in
    indent_read 1 _ _
    (keyword_read keyword.Array (codes " " ++ (x ++ (codes "[" ++ inside))) _ is.0 refl (space_read _ _ named))
declaration_read (table t) more tokens is h = indent_read 1 _ _ (table_read t more tokens is h)

-- ---- processes

part_read : {l : Language} (word : Keyword) (xs : List NameBytes) (more : List ℕ) (tokens : List Token)
    → has_keyword l word ≡ true → AreNames l xs → EndsWord more
    → IsReadAs l more tokens → IsReadAs l (part_text [] word xs more) (spell_part word xs tokens)
part_read word [] more tokens has are ends h = h
part_read word (x ∷ xs) more tokens has are ends h =
    keyword_read word (codes " " ++ names_text (x ∷ xs) more) _ has refl
    (space_read _ _ (names_read (x ∷ xs) more tokens are ends h))

later_part_read : {l : Language} (word : Keyword) (xs : List NameBytes) (more : List ℕ) (tokens : List Token)
    → has_keyword l word ≡ true → AreNames l xs
    → EndsWord more → IsReadAs l more tokens
    → IsReadAs l (part_text (codes "; ") word xs more) (spell_later_part word xs tokens)
later_part_read word [] more tokens has are ends h = h
later_part_read word (x ∷ xs) more tokens has are ends h =
    mark_read mark.Semicolon (codes " " ++ part_text [] word (x ∷ xs) more) _ refl tt
    (space_read _ _ (part_read word (x ∷ xs) more tokens has are ends h))

-- a part ends before the next
later_part_ends : (word : Keyword) (xs : List NameBytes) (more : List ℕ) → EndsWord more
    → EndsWord (part_text (codes "; ") word xs more)
later_part_ends word [] more ends = ends
later_part_ends word (x ∷ xs) more ends = refl

parts_read : {l : Language} (ins outs pars : List NameBytes) (more : List ℕ) (tokens : List Token) → AreNames l ins
    → AreNames l outs
    → AreNames l pars → EndsWord more → IsReadAs l more tokens
    → IsReadAs l (parts_text ins outs pars more) (spell_parts ins outs pars tokens)
parts_read (x ∷ xs) outs pars more tokens a b c ends h =
    let last_ends = later_part_ends keyword.Par pars more ends in
    let last = later_part_read keyword.Par pars more tokens refl c ends h in
    let second = later_part_read keyword.Out outs _ _ refl b last_ends last in
    part_read keyword.In (x ∷ xs) _ _ refl a (later_part_ends keyword.Out outs _ last_ends) second
parts_read [] (x ∷ xs) pars more tokens a b c ends h =
    let last = later_part_read keyword.Par pars more tokens refl c ends h in
    part_read keyword.Out (x ∷ xs) _ _ refl b (later_part_ends keyword.Par pars more ends) last
parts_read [] [] pars more tokens a b c ends h = part_read keyword.Par pars more tokens refl c ends h

pub process_read : {l : Language} (p : ProcessNode) (more : List ℕ) (tokens : List Token) → IsProperProcess l p
    → IsReadAs l more tokens
    → IsReadAs l (process_text l p more) (spell_process l p tokens)
process_read {l} p more tokens is h =
    let end : IsReadAs l (codes "}\n" ++ more) (token.Mark mark.RightBrace ∷ tokens) = close_read 0 more tokens h in
    let body = statements_read 1 p.body _ _ is.body end in
    let declared = all_read declaration_text spell_declaration (IsProperDeclaration l) declaration_read p.declarations
    _ _
    is.declarations body in
    let inside = all_text declaration_text p.declarations (statements_text l 1 p.body (codes "}\n" ++ more)) in
    let opened = mark_read mark.RightParen (codes " {\n" ++ inside) _ refl tt (open_read _ _ declared) in
    let head = parts_read p.ins p.outs p.pars _ _ is.ins is.outs is.pars refl opened in
    let named = name_read p.name _ _ is.name refl (mark_read mark.LeftParen _ _ refl tt head) in
    keyword_read keyword.Process _ _ refl refl (space_read _ _ named)
