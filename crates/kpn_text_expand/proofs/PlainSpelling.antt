-- The spelling of a tree has no short form.
use Rattle.kpn_text_expand.proofs.Common.{◌≡◌, ℕ, nat_le, Bool, true, false, if◌then◌else◌, List, [], ◌∷◌, Option, Some, None, refl, cond_both, Language, Token, NameBytes, ExpressionNode, numeral, variable, element, minus, negation, complement, binary, conditional, StatementNode, assign, store, receive, send, choice, loop, Statements, no_statements, statement, Literal, plain, negated, Table, Declaration, array, table, ProcessNode, Item, channel, source, sink, instance, NetworkNode, Description, spell_term, spell_tight, spell_expression, spell_else, spell_statement, spell_statements, spell_all, spell_further, spell_list, spell_name, spell_names, spell_literal, spell_table, spell_declaration, spell_part, spell_later_part, spell_parts, spell_process, spell_values, spell_item, spell_setting, spell_limit, spell_policy, spell_growth, spell_network, spell_description, IsPlain, ArePlain, capless, not_assigned, changes}
use Rattle.kpn_lang.specs.declared.syntax.Op.{Op}
use Rattle.kpn_text_tokens.specs.declared.tokens.Keyword.{Keyword}
use Rattle.kpn_text_tokens.specs.declared.tokens.Keyword.TheVariants as keyword
use Rattle.kpn_text_tokens.specs.declared.tokens.Language.TheVariants as language
use Rattle.kpn_text_tokens.specs.declared.tokens.Mark.TheVariants as mark
use Rattle.kpn_text_tokens.specs.declared.tokens.Token.TheVariants as token
use Rattle.kpn_text_grammar.specs.Operators.{left_side, operator_mark, operator_name, right_side, tightness, LOOSEST, OPERAND}
use Rattle.kpn_text_grammar.proofs.Steps.{by_form}
use Rattle.kpn_text_grammar.specs.Words.{growth_word, policy_word}
use Rattle.kpn_text_expand.specs.declared.capacities.HeadSpot.TheVariants as spot
use Rattle.kpn_text_expand.proofs.PlainCapacities.{first_none}

-- tokens in front of others add no short form
abbrev Adds : (List Token → List Token) → Type 0
Adds spell = (more : List Token) → ArePlain more → ArePlain (spell more)

-- ---- expressions

-- no expression begins with `=`
term_begins : (e : ExpressionNode) (more : List Token) → not_assigned (spell_term e more) ≡ true
term_begins (numeral n) more = refl
term_begins (variable x) more = refl
term_begins (element x e) more = refl
term_begins (minus e) more = refl
term_begins (negation e) more = refl
term_begins (complement e) more = refl
term_begins (binary op a b) more = refl
term_begins (conditional c a b) more = refl

tight_begins : (n : ℕ) (e : ExpressionNode) (more : List Token) → not_assigned (spell_tight n e more) ≡ true
tight_begins n (numeral k) more = refl
tight_begins n (variable x) more = refl
tight_begins n (element x e) more = refl
tight_begins n (minus e) more = refl
tight_begins n (negation e) more = refl
tight_begins n (complement e) more = refl
tight_begins n (binary op a b) more =
    by_form (λ (ts : List Token). not_assigned ts ≡ true) (operator_name op) _ _ (λ x e. refl)
    (λ none. cond_both (nat_le n (tightness op)) _ _ (λ ts. not_assigned ts ≡ true)
    (λ e. tight_begins (left_side op) a _) (λ e. refl))
tight_begins n (conditional c a b) more = refl

either : (b r : Bool) → r ≡ true → (if b then r else true) ≡ true
either true r e = e
either false r e = refl

-- so an operator in front of one is plain
term_operator : (op : Op) (b : ExpressionNode) (more : List Token)
    → IsPlain (token.Mark (operator_mark op)) (spell_term b more)
term_operator op b more = either (changes (operator_mark op)) (not_assigned (spell_term b more)) (term_begins b more)

tight_operator : (op : Op) (b : ExpressionNode) (more : List Token)
    → IsPlain (token.Mark (operator_mark op)) (spell_tight (right_side op) b more)
tight_operator op b more =
    either (changes (operator_mark op)) (not_assigned (spell_tight (right_side op) b more))
    (tight_begins (right_side op) b more)

term : (e : ExpressionNode) → Adds (spell_term e)
term (numeral n) more h = (refl, h)
term (variable x) more h = (refl, h)
term (element x e) more h = (refl, (refl, term e _ (refl, h)))
term (minus e) more h = (term_begins e more, term e _ h)
term (negation e) more h = (refl, term e _ h)
term (complement e) more h = (refl, term e _ h)
term (binary op a b) more h =
    (refl, term a _ (term_operator op b (token.Mark mark.RightParen ∷ more), term b _ (refl, h)))
term (conditional c a b) more h = (refl, term c _ (refl, term a _ (refl, term b _ (refl, h))))

tight : (n : ℕ) (e : ExpressionNode) → Adds (spell_tight n e)
tight n (numeral k) more h = (refl, h)
tight n (variable x) more h = (refl, h)
tight n (element x e) more h = (refl, (refl, tight LOOSEST e _ (refl, h)))
tight n (minus e) more h = (tight_begins OPERAND e more, tight OPERAND e _ h)
tight n (negation e) more h = (refl, tight OPERAND e _ h)
tight n (complement e) more h = (refl, tight OPERAND e _ h)
tight n (binary op a b) more h =
    by_form ArePlain (operator_name op) _ _
    (λ x e. (refl, (refl, tight LOOSEST a _ (refl, tight LOOSEST b _ (refl, h)))))
    (λ none. cond_both (nat_le n (tightness op)) _ _ ArePlain
    (λ e. tight (left_side op) a _ (tight_operator op b more, tight (right_side op) b _ h))
    (λ e. (
      refl,
      tight (left_side op) a _
          (tight_operator op b (token.Mark mark.RightParen ∷ more), tight (right_side op) b _ (refl, h)),
    )))
tight n (conditional c a b) more h =
    (refl, tight LOOSEST c _ (refl, tight LOOSEST a _ (refl, tight LOOSEST b _ (refl, h))))

expression : (l : Language) (e : ExpressionNode) → Adds (spell_expression l e)
expression language.One e more h = term e more h
expression language.Two e more h = tight LOOSEST e more h

-- ---- statements

block : (inside : List Token → List Token) → Adds inside → (more : List Token) → ArePlain more
    → ArePlain (token.Keyword keyword.Else ∷ token.Mark mark.LeftBrace ∷ inside (token.Mark mark.RightBrace ∷ more))
block inside adds more h = (refl, (refl, adds _ (refl, h)))

second : (l : Language) (b : Statements) (inside : List Token → List Token) → Adds inside → Adds (spell_else l b inside)
second language.One b inside adds more h = block inside adds more h
second language.Two no_statements inside adds more h = h
second language.Two (statement (choice e a b) no_statements) inside adds more h = (refl, adds more h)
second language.Two (statement (choice e a b) (statement s ss)) inside adds more h = block inside adds more h
second language.Two (statement (assign x e) ss) inside adds more h = block inside adds more h
second language.Two (statement (store x i e) ss) inside adds more h = block inside adds more h
second language.Two (statement (receive i x) ss) inside adds more h = block inside adds more h
second language.Two (statement (send o e) ss) inside adds more h = block inside adds more h
second language.Two (statement (loop e b) ss) inside adds more h = block inside adds more h

mutual
  one : (l : Language) (s : StatementNode) → Adds (spell_statement l s)
  one l (assign x e) more h = (refl, (refl, expression l e _ (refl, h)))
  one l (store x i e) more h = (refl, (refl, expression l i _ (refl, (refl, expression l e _ (refl, h)))))
  one l (receive i x) more h = (refl, (refl, (refl, (refl, h))))
  one l (send o e) more h = (refl, (refl, expression l e _ (refl, h)))
  one l (choice e a b) more h = (
    refl,
    expression l e _ (
      refl,
      statements l a _
          (refl, second l b (spell_statements l b) (λ others k. statements l b others k) more h),
    ),
  )
  one l (loop e b) more h = (refl, expression l e _ (refl, statements l b _ (refl, h)))

  statements : (l : Language) (ss : Statements) → Adds (spell_statements l ss)
  statements l no_statements more h = h
  statements l (statement s ss) more h = one l s _ (statements l ss more h)

-- ---- lists

module _ {A : Type 0} (spell : A → List Token → List Token) (adds : (x : A) → Adds (spell x)) where
  pub all : (xs : List A) → Adds (spell_all spell xs)
  all [] more h = h
  all (x ∷ xs) more h = adds x _ (all xs more h)

  further : (xs : List A) → Adds (spell_all (spell_further spell) xs)
  further [] more h = h
  further (x ∷ xs) more h = (refl, adds x _ (further xs more h))

  pub list : (xs : List A) → Adds (spell_list spell xs)
  list [] more h = h
  list (x ∷ xs) more h = adds x _ (further xs more h)

names : (xs : List NameBytes) → Adds (spell_names xs)
names = list spell_name (λ x more h. (refl, h))

literal : (v : Literal) → Adds (spell_literal v)
literal (plain n) more h = (refl, h)
literal (negated n) more h = (refl, (refl, h))

-- ---- processes

one_table : (t : Table) → Adds (spell_table t)
one_table t more h = (refl, (refl, (refl, list spell_literal literal t.values _ (refl, h))))

declaration : (d : Declaration) → Adds (spell_declaration d)
declaration (array x n) more h = (refl, (refl, (refl, (refl, (refl, (refl, h))))))
declaration (table t) more h = one_table t more h

part : (word : Keyword) → ((ts : List Token) → IsPlain (token.Keyword word) ts) → (xs : List NameBytes)
    → Adds (spell_part word xs)
part word is [] more h = h
part word is (x ∷ xs) more h = (is _, names (x ∷ xs) more h)

later_part : (word : Keyword) → ((ts : List Token) → IsPlain (token.Keyword word) ts) → (xs : List NameBytes)
    → Adds (spell_later_part word xs)
later_part word is [] more h = h
later_part word is (x ∷ xs) more h = (refl, (is _, names (x ∷ xs) more h))

parts : (ins outs pars : List NameBytes) → Adds (spell_parts ins outs pars)
parts (x ∷ xs) outs pars more h =
    part keyword.In (λ ts. refl) (x ∷ xs) _
    (later_part keyword.Out (λ ts. refl) outs _ (later_part keyword.Par (λ ts. refl) pars more h))
parts [] (x ∷ xs) pars more h =
    part keyword.Out (λ ts. refl) (x ∷ xs) _ (later_part keyword.Par (λ ts. refl) pars more h)
parts [] [] pars more h = part keyword.Par (λ ts. refl) pars more h

process : (l : Language) (p : ProcessNode) → Adds (spell_process l p)
process l p more h = (
  refl,
  (
    refl,
    (
      refl,
      parts p.ins p.outs p.pars _
          (refl, (refl, all spell_declaration declaration p.declarations _ (statements l p.body _ (refl, h)))),
    ),
  ),
)

-- ---- networks

values : (vs : List Literal) → Adds (spell_values vs)
values [] more h = h
values (v ∷ vs) more h = (refl, list spell_literal literal (v ∷ vs) more h)

item : (i : Item) → Adds (spell_item i)
item (channel c cap) more h = (refl, (refl, (refl, (refl, (refl, h)))))
item (source c) more h = (refl, (refl, (refl, h)))
item (sink c cap) more h = (refl, (refl, (refl, (refl, (refl, h)))))
item (instance i) more h =
    (refl, (refl, (refl, (refl, names i.ins _ (refl, names i.outs _ (values i.values _ (refl, (refl, h))))))))

module _ {A : Type 0} (word : Keyword) (spelled : A → Token) (is : (ts : List Token) → IsPlain (token.Keyword word) ts)
    (one : (x : A) (ts : List Token) → IsPlain (spelled x) ts) where
  pub setting : (value_written : Option A) → Adds (spell_setting word spelled value_written)
  setting None more h = h
  setting (Some x) more h = (is _, (one x _, (refl, h)))

-- no capacity stands among the settings
items_head : (is : List Item) (more : List Token)
    → capless spot.Head (spell_all spell_item is (token.Mark mark.RightBrace ∷ more)) ≡ true
items_head [] more = first_none more
items_head (channel c cap ∷ is) more = refl
items_head (source c ∷ is) more = refl
items_head (sink c cap ∷ is) more = refl
items_head (instance i ∷ is) more = refl

module _ {A : Type 0} (word : Keyword) (spelled : A → Token)
    (heads : (x : A) (more : List Token) → capless spot.Head more ≡ true
    → capless spot.Head (token.Keyword word ∷ spelled x ∷ token.Mark mark.Semicolon ∷ more) ≡ true) where
  pub setting_head : (value_written : Option A) (more : List Token) → capless spot.Head more ≡ true
      → capless spot.Head (spell_setting word spelled value_written more) ≡ true
  setting_head None more h = h
  setting_head (Some x) more h = heads x more h

network_head : (n : NetworkNode) (more : List Token)
    → capless spot.Head (spell_limit n.limit (spell_policy n.policy (spell_growth n.growth
    (spell_all spell_item n.items (token.Mark mark.RightBrace ∷ more))))) ≡ true
network_head n more =
    let items : List Token = spell_all spell_item n.items (token.Mark mark.RightBrace ∷ more) in
    let growth : List Token = spell_growth n.growth items in
    setting_head keyword.Limit token.Number (λ n more h. h) n.limit (spell_policy n.policy growth)
    (setting_head keyword.Policy (λ q. token.Name (policy_word q)) (λ q more h. h) n.policy growth
    (setting_head keyword.Grow (λ g. token.Name (growth_word g)) (λ g more h. h) n.growth items
    (items_head n.items more)))

network : (n : NetworkNode) → Adds (spell_network n)
network n more h = (
  network_head n more,
  (
    refl,
    setting keyword.Limit token.Number (λ ts. refl) (λ k ts. refl) n.limit _
        (setting keyword.Policy (λ q. token.Name (policy_word q)) (λ ts. refl) (λ q ts. refl) n.policy _
        (setting keyword.Grow (λ g. token.Name (growth_word g)) (λ ts. refl) (λ g ts. refl) n.growth _
        (all spell_item item n.items _ (refl, h)))),
  ),
)

contents : (l : Language) (d : Description)
    → ArePlain (spell_all spell_table d.tables (spell_all (spell_process l) d.processes (spell_network d.network [])))
contents l d =
    all spell_table one_table d.tables _ (all (spell_process l) (process l) d.processes _ (network d.network [] tt))

pub spelling_plain : (l : Language) (d : Description) → ArePlain (spell_description l d)
spelling_plain language.One d = contents language.One d
spelling_plain language.Two d = (refl, (refl, (refl, contents language.Two d)))
