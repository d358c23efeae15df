-- How a printed network is read, and a whole description.
use Rattle.kpn_text.proofs.Common.{◌≡◌, ℕ, ◌<◌, ◌^◌, List, [], ◌∷◌, ◌++◌, codes, Option, Some, None, true, refl, lit≤, arith, decimal, AllByRecursion, Growth, Policy, Keyword, Language, Token, IsName, NameBytes, Literal, InstanceNode, Item, channel, source, sink, instance, Table, ProcessNode, NetworkNode, Description, spell_literal, spell_table, spell_names, spell_values, spell_call, spell_item, spell_limit, spell_policy, spell_growth, spell_network, spell_process, spell_language, spell_description, EndsWord, AreNames, IsProperLiteral, IsProperInstance, IsProperItem, IsProperLimit, IsProperNetwork, IsProperTable, IsProperProcess, IsProper, literal_text, list_text, outs_text, values_text, call_text, network_item_text, limit_text, policy_text, growth_text, network_text, table_text, process_text, all_text, language_text, description_text}
use Rattle.kpn_net.specs.declared.tables.Growth.TheVariants as growth
use Rattle.kpn_net.specs.declared.tables.Policy.TheVariants as policy
use Rattle.kpn_text_tokens.specs.declared.tokens.Keyword.TheVariants as keyword
use Rattle.kpn_text_tokens.specs.declared.tokens.Language.TheVariants as language
use Rattle.kpn_text_tokens.specs.declared.tokens.Mark.TheVariants as mark
use Rattle.kpn_text_tokens.specs.declared.tokens.Token.TheVariants as token
use Rattle.kpn_text_tokens.specs.Lexing.{piece_of}
use Rattle.kpn_text_tokens.specs.Spelling.{has_keyword, keyword_bytes, keyword_of, mark_at}
use Rattle.kpn_text_tokens.specs.Opening.{language_of}
use Rattle.kpn_text_tokens.proofs.Openings.{network_told, process_told, two_told}
use Rattle.kpn_text_grammar.specs.Words.{growth_word, policy_word}
use Rattle.kpn_text.proofs.TokenLemmas.{IsReadAs, nothing_read, token_read, name_read, number_read, mark_read, keyword_read, space_read, indent_read}
use Rattle.kpn_text.proofs.StatementLemmas.{end_read, open_read, close_read}
use Rattle.kpn_text.proofs.ListLemmas.{all_read, list_read, names_read}
use Rattle.kpn_text.proofs.ProcessLemmas.{literal_read, table_read, process_read}

outs_read : {l : Language} (xs : List NameBytes) (more : List ℕ) (tokens : List Token) → AreNames l xs → EndsWord more
    → IsReadAs l more tokens → IsReadAs l (outs_text xs more) (spell_names xs tokens)
outs_read [] more tokens are ends h = h
outs_read (x ∷ xs) more tokens are ends h = space_read _ _ (names_read (x ∷ xs) more tokens are ends h)

values_read : {l : Language} (vs : List Literal) (more : List ℕ) (tokens : List Token)
    → AllByRecursion IsProperLiteral vs
    → EndsWord more → IsReadAs l more tokens → IsReadAs l (values_text vs more) (spell_values vs tokens)
values_read [] more tokens are ends h = h
values_read (v ∷ vs) more tokens are ends h =
    mark_read mark.Semicolon (codes " " ++ list_text literal_text (v ∷ vs) more) _ refl tt
    (space_read _ _
    (list_read literal_text spell_literal IsProperLiteral literal_read (v ∷ vs) more tokens are ends h))

values_end : (vs : List Literal) (more : List ℕ) → EndsWord more → EndsWord (values_text vs more)
values_end [] more ends = ends
values_end (v ∷ vs) more ends = refl

call_read : {l : Language} (i : InstanceNode) (more : List ℕ) (tokens : List Token) → IsProperInstance l i
    → IsReadAs l more tokens
    → IsReadAs l (call_text i more) (spell_call i tokens)
call_read {l} i more tokens is h =
    let closed : IsReadAs l (codes ")" ++ more) (token.Mark mark.RightParen ∷ tokens) =
    mark_read mark.RightParen more tokens refl tt h in
    let values = values_read i.values (codes ")" ++ more) _ is.values refl closed in
    let outs = outs_read i.outs _ _ is.outs (values_end i.values (codes ")" ++ more) refl) values in
    let ins =
    names_read i.ins (codes ";" ++ outs_text i.outs (values_text i.values (codes ")" ++ more))) _ is.ins refl
    (mark_read mark.Semicolon _ _ refl tt outs) in
    name_read i.program _ _ is.program refl (mark_read mark.LeftParen _ _ refl tt ins)

-- one level in
line_read : {l : Language} (more : List ℕ) (tokens : List Token) → IsReadAs l more tokens
    → IsReadAs l (codes "  " ++ more) tokens
line_read = indent_read 1

-- a name after a word
word_name_read : {l : Language} (word : Keyword) (c more : List ℕ) (tokens : List Token) → has_keyword l word ≡ true
    → IsName l c → EndsWord more
    → IsReadAs l more tokens
    → IsReadAs l (keyword_bytes word ++ (codes " " ++ (c ++ more))) (token.Keyword word ∷ token.Name c ∷ tokens)
word_name_read word c more tokens has is ends h =
    keyword_read word (codes " " ++ (c ++ more)) _ has refl (space_read _ _ (name_read c more tokens is ends h))

-- a number after a word, up to the end of its line
word_number_read : {l : Language} (word : Keyword) (n : ℕ) (more : List ℕ) (tokens : List Token)
    → has_keyword l word ≡ true
    → n < 2 ^ 63 → IsReadAs l more tokens
    → IsReadAs l (keyword_bytes word ++ (codes " " ++ (decimal n ++ (codes ";\n" ++ more))))
    (token.Keyword word ∷ token.Number n ∷ token.Mark mark.Semicolon ∷ tokens)
word_number_read word n more tokens has small h =
    keyword_read word (codes " " ++ (decimal n ++ (codes ";\n" ++ more))) _ has refl
    (space_read _ _ (number_read n (codes ";\n" ++ more) _ small refl (end_read more tokens h)))

item_read : {l : Language} (item : Item) (more : List ℕ) (tokens : List Token) → IsProperItem l item
    → IsReadAs l more tokens
    → IsReadAs l (network_item_text item more) (spell_item item tokens)
item_read (channel c cap) more tokens is h =
    line_read _ _
    (word_name_read keyword.Channel c _ _ refl is.0 refl
    (space_read _ _ (word_number_read keyword.Cap cap more tokens refl is.1 h)))
item_read (source c) more tokens is h =
    line_read _ _ (word_name_read keyword.Source c (codes ";\n" ++ more) _ refl is refl (end_read more tokens h))
item_read (sink c cap) more tokens is h =
    line_read _ _
    (word_name_read keyword.Sink c _ _ refl is.0 refl
    (space_read _ _ (word_number_read keyword.Cap cap more tokens refl is.1 h)))
item_read (instance i) more tokens is h =
    let call = call_read i (codes ";\n" ++ more) _ is (end_read more tokens h) in
    let sign =
    space_read _ _
    (mark_read mark.Assign (codes " " ++ call_text i (codes ";\n" ++ more)) _ refl refl (space_read _ _ call)) in
    line_read _ _ (name_read i.name _ _ is.name refl sign)

limit_read : {l : Language} (limit : Option ℕ) (more : List ℕ) (tokens : List Token) → IsProperLimit limit
    → IsReadAs l more tokens
    → IsReadAs l (limit_text limit more) (spell_limit limit tokens)
limit_read None more tokens is h = h
limit_read (Some n) more tokens is h = line_read _ _ (word_number_read keyword.Limit n more tokens refl is h)

-- the word of a policy is a name in each language
policy_is_name : (l : Language) (q : Policy) → IsName l (policy_word q)
unfolding keyword_of
policy_is_name language.One policy.Cycles =
    record { word = record { begins = refl; goes_on = refl }; short = lit≤ tt; free = refl }
policy_is_name language.One policy.All =
    record { word = record { begins = refl; goes_on = refl }; short = lit≤ tt; free = refl }
policy_is_name language.Two policy.Cycles =
    record { word = record { begins = refl; goes_on = refl }; short = lit≤ tt; free = refl }
policy_is_name language.Two policy.All =
    record { word = record { begins = refl; goes_on = refl }; short = lit≤ tt; free = refl }

policy_read : {l : Language} (written : Option Policy) (more : List ℕ) (tokens : List Token) → IsReadAs l more tokens
    → IsReadAs l (policy_text written more) (spell_policy written tokens)
policy_read None more tokens h = h
policy_read {l} (Some q) more tokens h =
    line_read _ _
    (word_name_read keyword.Policy (policy_word q) (codes ";\n" ++ more) _ refl (policy_is_name l q) refl
    (end_read more tokens h))

-- the word of a growth is a name in each language
growth_is_name : (l : Language) (g : Growth) → IsName l (growth_word g)
unfolding keyword_of
growth_is_name language.One growth.One =
    record { word = record { begins = refl; goes_on = refl }; short = lit≤ tt; free = refl }
growth_is_name language.One growth.Double =
    record { word = record { begins = refl; goes_on = refl }; short = lit≤ tt; free = refl }
growth_is_name language.Two growth.One =
    record { word = record { begins = refl; goes_on = refl }; short = lit≤ tt; free = refl }
growth_is_name language.Two growth.Double =
    record { word = record { begins = refl; goes_on = refl }; short = lit≤ tt; free = refl }

growth_read : {l : Language} (written : Option Growth) (more : List ℕ) (tokens : List Token) → IsReadAs l more tokens
    → IsReadAs l (growth_text written more) (spell_growth written tokens)
growth_read None more tokens h = h
growth_read {l} (Some g) more tokens h =
    line_read _ _
    (word_name_read keyword.Grow (growth_word g) (codes ";\n" ++ more) _ refl (growth_is_name l g) refl
    (end_read more tokens h))

network_read : {l : Language} (n : NetworkNode) (more : List ℕ) (tokens : List Token) → IsProperNetwork l n
    → IsReadAs l more tokens
    → IsReadAs l (network_text n more) (spell_network n tokens)
network_read {l} n more tokens is h =
    let items =
    all_read network_item_text spell_item (IsProperItem l) item_read n.items _ _ is.items (close_read 0 more tokens h) in
    let policy = policy_read n.policy _ _ (growth_read n.growth _ _ items) in
    keyword_read keyword.Network _ _ refl refl (open_read _ _ (limit_read n.limit _ _ is.limit policy))

-- the line that a text begins with
language_read : (l : Language) (more : List ℕ) (tokens : List Token) → IsReadAs l more tokens
    → IsReadAs l (language_text l more) (spell_language l tokens)
language_read language.One more tokens h = h
language_read language.Two more tokens h =
    keyword_read keyword.Language (codes " 2;\n" ++ more) _ refl refl
    (space_read _ _
    (token_read (token.Number 2) (codes "2") (codes ";\n" ++ more) (token.Mark mark.Semicolon ∷ tokens)
    (record { begins = refl; goes_on = refl; has_value = refl }) refl
    (end_read more tokens h)))

pub description_read : (l : Language) (d : Description) → IsProper l d
    → IsReadAs l (description_text l d) (spell_description l d)
description_read l d is =
    language_read l _ _
    (all_read table_text spell_table (IsProperTable l) table_read d.tables _ _ is.tables
    (all_read (process_text l) (spell_process l) (IsProperProcess l) process_read d.processes _ _ is.processes
    (network_read d.network [] [] is.network (nothing_read l))))

table_told : (rest : List ℕ) → language_of (codes "table " ++ rest) ≡ language.One
unfolding language_of piece_of keyword_of mark_at
table_told rest = refl

-- a text of language 1 begins with another word
words_told : (ts : List Table) (ps : List ProcessNode) (n : NetworkNode)
    → language_of (all_text table_text ts (all_text (process_text language.One) ps (network_text n [])))
    ≡ language.One
words_told [] [] n = network_told _
words_told [] (p ∷ ps) n = process_told _
words_told (t ∷ ts) ps n = table_told _

-- a printed description tells its language
pub description_told : (l : Language) (d : Description) → language_of (description_text l d) ≡ l
description_told language.One d = words_told d.tables d.processes d.network
description_told language.Two d =
    two_told
    (codes "\n"
    ++ all_text table_text d.tables (all_text (process_text language.Two) d.processes (network_text d.network [])))
