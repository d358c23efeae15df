-- The items of a network and the network: what is read is spelled so, and what is spelled so is read.
use Rattle.kpn_text_grammar.proofs.Common.{◌≡◌, ◌⊎◌, inl, inr, Bool, true, false, List, [], ◌∷◌, Option, Some, None, refl, sym, ap, Lexeme, Token, Keyword, Growth, Policy, Scope, NameBytes, Literal, Item, channel, source, sink, instance, growth_word, growth_spelled, policy_word, policy_spelled, spell_all, spell_values, spell_call, spell_item, spell_setting, spell_limit, spell_policy, spell_growth, spell_network, is_keyword}
use Rattle.kpn_text_tokens.specs.declared.tokens.Token.TheVariants as token
use Rattle.kpn_text_tokens.specs.declared.tokens.Mark.TheVariants as mark_
use Rattle.kpn_text_tokens.specs.declared.tokens.Keyword.TheVariants as keyword_
use Rattle.kpn_net.specs.declared.tables.Growth.TheVariants as growth
use Rattle.kpn_net.specs.declared.tables.Policy.TheVariants as policy
use Rattle.kpn_text_grammar.specs.Reading.{Read, all_of, number, stands_in_block, with_capacity, optional_values, call, instance_behind, item_behind, item, token_word, read_as, setting, network}
use Rattle.kpn_text_grammar.proofs.Steps.{is_keyword_same, Spells, growths_spelled, policies_spelled}
use Rattle.kpn_text_grammar.proofs.Lookahead.{lower, Anything}
use Rattle.kpn_text_grammar.proofs.Readers.{this_mark, this_keyword, Reads, HasRoom, Free, Unless, done, behind, value, bind, reads, a_name, a_number, a_token, optional, maybe_some, either, spell_either, Either, Arms, arm, no_arm, Begun, by_token, token_longer, Exactly, exactly, begins, Elements, each_of, all_free, is_comma}
use Rattle.kpn_text_grammar.proofs.HeadLaws.{semicolon, Closes, closes_not, optional_names_reads}
use Rattle.kpn_text_grammar.proofs.ValueLaws.{values_reads}

-- ---- instances

optional_values_reads : (s : Scope) → Reads s spell_values Free Closes optional_values
unfolding optional_values
optional_values_reads s =
    maybe_some semicolon spell_values (behind (this_mark s mark_.Semicolon) (values_reads s))
    (λ more may. (closes_not is_comma more may refl, closes_not semicolon more may refl))
    (λ x xs more. refl) (λ more. refl) (λ x xs more. refl)

values_begin : (goes : Token → Bool) (vs : List Literal) (more : List Token) → goes (token.Mark mark_.Semicolon) ≡ false
    → Closes more → goes (token.Mark mark_.RightParen) ≡ false → Unless goes (spell_values vs more)
values_begin goes [] more other may closes = closes_not goes more may closes
values_begin goes (v ∷ vs) more other may closes = other

call_reads : (s : Scope) (x : NameBytes) → Reads s spell_call (λ i. i.name ≡ x) Anything (λ s. call s x)
unfolding call
call_reads s x =
    reads (value (a_name s) (λ f. behind (this_mark s mark_.LeftParen) (bind (optional_names_reads s)
    (λ ins. behind (this_mark s mark_.Semicolon) (bind (optional_names_reads s) (λ outs. bind (optional_values_reads s)
    (λ vs. behind (this_mark s mark_.RightParen)
    (done (record { name = x; program = f; ins = ins; outs = outs; values = vs })))
    (λ x z more within may. (more, refl)))
    (λ x z more within may. (values_begin _ z.0 _ refl (more, refl) refl, values_begin _ z.0 _ refl (more, refl) refl))))
    (λ x z more within may. (refl, refl)))))
    (λ z more within. (refl, refl))
    (λ i more same. (
      (i.program, (i.ins, (i.outs, (i.values, tt)))),
      ap (λ n. record { name = n; program = i.program; ins = i.ins; outs = i.outs; values = i.values }) (sym same),
      (tt, (tt, (tt, (tt, tt)))),
    ))

-- ---- items

item_arms : (s : Scope) → Arms s (Exactly spell_item Free) Anything item_behind
unfolding item_behind with_capacity instance_behind
item_arms s (token.Keyword keyword_.Channel) =
    arm (λ start. value (a_name s) (λ x. behind (this_keyword s keyword_.Cap) (value (a_number s)
    (λ n. behind (this_mark s mark_.Semicolon) (done (channel x n)))))) (λ z more within. (tt, refl))
item_arms s (token.Keyword keyword_.Source) =
    arm (λ start. value (a_name s) (λ x. behind (this_mark s mark_.Semicolon) (done (source x))))
    (λ z more within. (tt, refl))
item_arms s (token.Keyword keyword_.Sink) =
    arm (λ start. value (a_name s) (λ x. behind (this_keyword s keyword_.Cap) (value (a_number s)
    (λ n. behind (this_mark s mark_.Semicolon) (done (sink x n)))))) (λ z more within. (tt, refl))
item_arms s (token.Name x) =
    arm (λ start. behind (this_mark s mark_.Assign) (value (call_reads s x)
    (λ i. behind (this_mark s mark_.Semicolon) (done (instance i)))))
    (λ z more within. (
      tt,
      ap (λ n. token.Name n ∷ token.Mark mark_.Assign ∷ spell_call z.0
          (token.Mark mark_.Semicolon ∷ more)) (sym within.0),
    ))
item_arms s _ = no_arm

item_parts : (s : Scope) (x : Item) (tokens more : List Token) → Exactly spell_item Free x tokens more
    → Begun (item_arms s) x tokens more
unfolding item_arms
item_parts s (channel x n) tokens more is =
    ((token.Keyword keyword_.Channel, (x, (n, tt))), refl, (tt, (tt, tt)), sym is.1)
item_parts s (source x) tokens more is = ((token.Keyword keyword_.Source, (x, tt)), refl, (tt, tt), sym is.1)
item_parts s (sink x n) tokens more is =
    ((token.Keyword keyword_.Sink, (x, (n, tt))), refl, (tt, (tt, tt)), sym is.1)
item_parts s (instance i) tokens more is = ((token.Name i.name, (i, tt)), refl, (refl, tt), sym is.1)

item_reads : (s : Scope) → Reads s spell_item Free Anything item
unfolding item item_arms
item_reads s = exactly (by_token s (item_arms s) (token.Keyword keyword_.Source) tt (item_parts s))

item_starts : (x : Item) (more : List Token) → begins stands_in_block (spell_item x more) ≡ true
item_starts (channel x n) more = refl
item_starts (source x) more = refl
item_starts (sink x n) more = refl
item_starts (instance i) more = refl

pub item_ones : (s : Scope) → Elements s.end (HasRoom s) stands_in_block (λ x. x) spell_item (λ x more. Free x) Anything
    (λ i. item (lower s)) (λ i. item s)
item_ones s = record {
  laws = λ i. item_reads s;
  starts = λ x more within. item_starts x more;
  longer = λ x more within. token_longer (item_arms s) (item_parts s) x _ more (within, refl);
  next = λ x more within. tt;
  last = λ more ends. tt;
}

items_reads : (s : Scope) → Reads s (spell_all spell_item) Free (Unless stands_in_block)
    (λ s. all_of stands_in_block (item s))
unfolding all_of
items_reads s =
    reads (each_of (item_ones s) 0) (λ xs more within. (tt, refl)) (λ xs more within. (xs, refl, all_free xs))

-- ---- settings

setting_reads : {A : Type 0} (k : Keyword) (spelled : A → Token) (one : Scope → List Lexeme → Read A) (s : Scope)
    → Reads s (λ x more. spelled x ∷ more) Free Anything one
    → Reads s (spell_setting k spelled) Free (Unless (is_keyword k)) (setting k one)
unfolding setting
setting_reads {A} k spelled one s row =
    reads (optional (is_keyword k) None (behind (this_keyword s k) (value row
    (λ x. behind (this_mark s mark_.Semicolon) (done {May = Anything} (Some x)))))
    (λ more may. (tt, may)) (λ z more within. is_keyword_same k)) back parts where
      back : (z : (A × Unit {0}) ⊎ Unit {0}) (more : List Token)
          → Either (λ z more. Unit {0} × Unit {0}) (λ u more. Unit {0}) z more
          → Unit {0} × (spell_either (λ z more. token.Keyword k ∷ spelled z.0 ∷ token.Mark mark_.Semicolon ∷ more)
          (λ u more. more) z more ≡ spell_setting k spelled (either (λ z. Some z.0) (λ (u : Unit {0}). None) z) more)
      back (inl z) more within = (tt, refl)
      back (inr u) more within = (tt, refl)

      parts : (x : Option A) (more : List Token) → Unit {0} → (z : (A × Unit {0}) ⊎ Unit {0})
          × (either (λ z. Some z.0) (λ (u : Unit {0}). None) z ≡ x)
          × Either (λ z more. Unit {0} × Unit {0}) (λ u more. Unit {0}) z more
      parts None more within = (inr tt, refl, tt)
      parts (Some x) more within = (inl (x, tt), refl, (tt, tt))

word_reads : {A : Type 0} (meant : NameBytes → Option A) (spelled : A → NameBytes) → Spells meant spelled → A →
    (s : Scope)
    → Reads s (λ x more. token.Name (spelled x) ∷ more) Free Anything (read_as (token_word meant))
word_reads {A} meant spelled table x s =
    a_token s (token_word meant) (λ x. token.Name (spelled x)) means (λ x within. table.found x) x tt where
      means : (t : Token) (x : A) → token_word meant t ≡ Some x → (t ≡ token.Name (spelled x)) × Free x
      means (token.Name n) x h = (ap token.Name (table.back n x h), tt)
      means (token.Number n) x h = absurd cc
      means (token.Mark m) x h = absurd cc
      means (token.Keyword k) x h = absurd cc

limit_reads : (s : Scope) → Reads s spell_limit Free (Unless (is_keyword keyword_.Limit))
    (setting keyword_.Limit number)
limit_reads s = setting_reads keyword_.Limit token.Number number s (a_number s)

policy_reads : (s : Scope)
    → Reads s spell_policy Free (Unless (is_keyword keyword_.Policy))
    (setting keyword_.Policy (read_as (token_word policy_spelled)))
policy_reads s =
    setting_reads keyword_.Policy (λ q. token.Name (policy_word q)) (read_as (token_word policy_spelled)) s
    (word_reads policy_spelled policy_word policies_spelled policy.All s)

growth_reads : (s : Scope)
    → Reads s spell_growth Free (Unless (is_keyword keyword_.Grow))
    (setting keyword_.Grow (read_as (token_word growth_spelled)))
growth_reads s =
    setting_reads keyword_.Grow (λ g. token.Name (growth_word g)) (read_as (token_word growth_spelled)) s
    (word_reads growth_spelled growth_word growths_spelled growth.One s)

-- ---- the network

-- neither an item nor the closing brace begins with a word of this kind
record NoItemBegins (goes : Token → Bool) : Type 0 where
  at_channel : goes (token.Keyword keyword_.Channel) ≡ false
  at_source : goes (token.Keyword keyword_.Source) ≡ false
  at_sink : goes (token.Keyword keyword_.Sink) ≡ false
  at_instance : (x : NameBytes) → goes (token.Name x) ≡ false
  at_brace : goes (token.Mark mark_.RightBrace) ≡ false

items_begin : (goes : Token → Bool) → NoItemBegins goes → (xs : List Item) (more : List Token)
    → Unless goes (spell_all spell_item xs (token.Mark mark_.RightBrace ∷ more))
items_begin goes none [] more = none.at_brace
items_begin goes none (channel x n ∷ xs) more = none.at_channel
items_begin goes none (source x ∷ xs) more = none.at_source
items_begin goes none (sink x n ∷ xs) more = none.at_sink
items_begin goes none (instance i ∷ xs) more = none.at_instance i.name

-- what stands behind the growth, the policy and the limit
abbrev at_items : List Item → List Token → List Token
at_items xs more = spell_all spell_item xs (token.Mark mark_.RightBrace ∷ more)

no_growth : (xs : List Item) (more : List Token) → Unless (is_keyword keyword_.Grow) (at_items xs more)
no_growth = items_begin (is_keyword keyword_.Grow)
    (record { at_channel = refl; at_source = refl; at_sink = refl; at_instance = λ x. refl; at_brace = refl })

no_policy : (g : Option Growth) (xs : List Item) (more : List Token)
    → Unless (is_keyword keyword_.Policy) (spell_growth g (at_items xs more))
no_policy (Some g) xs more = refl
no_policy None xs more = items_begin (is_keyword keyword_.Policy)
    (record { at_channel = refl; at_source = refl; at_sink = refl; at_instance = λ x. refl; at_brace = refl }) xs more

no_limit : (q : Option Policy) (g : Option Growth) (xs : List Item) (more : List Token)
    → Unless (is_keyword keyword_.Limit) (spell_policy q (spell_growth g (at_items xs more)))
no_limit (Some q) g xs more = refl
no_limit None (Some g) xs more = refl
no_limit None None xs more = items_begin (is_keyword keyword_.Limit)
    (record { at_channel = refl; at_source = refl; at_sink = refl; at_instance = λ x. refl; at_brace = refl }) xs more

pub network_reads : (s : Scope) → Reads s spell_network Free Anything network
unfolding network
network_reads s =
    reads (behind (this_keyword s keyword_.Network) (behind (this_mark s mark_.LeftBrace) (bind (limit_reads s)
    (λ n. bind (policy_reads s) (λ q. bind (growth_reads s) (λ g. bind (items_reads s)
    (λ found. behind (this_mark s mark_.RightBrace)
    (done (record { limit = n; policy = q; growth = g; items = found })))
    (λ x z more within may. refl))
    (λ x z more within may. no_growth z.0 more))
    (λ x z more within may. no_policy z.0 z.1.0 more))
    (λ x z more within may. no_limit z.0 z.1.0 z.1.1.0 more))))
    (λ z more within. (tt, refl))
    (λ n more within. ((n.limit, (n.policy, (n.growth, (n.items, tt)))), refl, (tt, (tt, (tt, (tt, tt))))))
