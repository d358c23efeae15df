-- Arrays and tables: what is read is spelled so, and what is spelled so is read.
use Rattle.kpn_text_grammar.proofs.Common.{◌≡◌, ℕ, zero, suc, ◌==◌, ◌<◌, Bool, true, false, cond, List, ◌∷◌, Some, None, refl, sym, ap, arith, AllByRecursion, ne_eqb, Token, Scope, Table, Declaration, array, table, spell_all, spell_list, spell_literal, spell_table, spell_declaration, TableIsWithin, DeclarationIsWithin, is_keyword}
use Rattle.kpn_text_tokens.specs.declared.tokens.Token.TheVariants as token
use Rattle.kpn_text_tokens.specs.declared.tokens.Mark.TheVariants as mark_
use Rattle.kpn_text_tokens.specs.declared.tokens.Keyword.TheVariants as keyword_
use Rattle.kpn_text_grammar.specs.Reading.{all_of, token_size, read_as, array_behind, table_behind, declaration_behind, declaration, declares, shared_table}
use Rattle.kpn_text_grammar.proofs.Lookahead.{lower, Anything}
use Rattle.kpn_text_grammar.proofs.Readers.{this_mark, this_keyword, Reads, HasRoom, spell_number, Unless, done, behind, value, bind, reads, a_name, a_token, Arms, arm, no_arm, Begun, by_token, token_longer, Exactly, exactly, begins, Elements, each_of}
use Rattle.kpn_text_grammar.proofs.ValueLaws.{values_reads}

-- ---- the size of an array

size_if : (b : Bool) (m n : ℕ) → cond b None (Some m) ≡ Some n → (b ≡ false) × (m ≡ n)
size_if true m n h = absurd cc
size_if false m n h = (refl, cc)

above_zero : (n : ℕ) → (n == 0) ≡ false → 0 < n
above_zero zero h = absurd cc
above_zero (suc n) h = omega arith

token_size_is : (t : Token) (n : ℕ) → token_size t ≡ Some n → (t ≡ token.Number n) × (0 < n)
token_size_is (token.Number m) n h =
    let p = size_if (m == 0) m n h in
    let some : 0 < m = above_zero m p.0 in
    (ap token.Number p.1, omega (arith, some, p.1))
token_size_is (token.Name x) n h = absurd cc
token_size_is (token.Mark m) n h = absurd cc
token_size_is (token.Keyword k) n h = absurd cc

sized : (n : ℕ) → 0 < n → token_size (token.Number n) ≡ Some n
sized zero some = absurd (omega (arith, some))
sized (suc n) some =
    let differs : (suc n == 0) ≡ false = ne_eqb (suc n) 0 (λ e. absurd (omega (arith, e))) in
    rw differs refl

size_reads : (s : Scope) → Reads s spell_number (λ n. 0 < n) Anything (read_as token_size)
size_reads s = a_token s token_size token.Number token_size_is sized 1 (omega arith)

-- ---- tables

-- behind the word
abbrev spell_behind_table : Table → List Token → List Token
spell_behind_table t more =
    token.Name t.name ∷ token.Mark mark_.Assign ∷ spell_list spell_literal t.values (token.Mark mark_.Semicolon ∷ more)

table_reads : (s : Scope) → Reads s spell_behind_table TableIsWithin Anything table_behind
unfolding table_behind
table_reads s =
    reads (value (a_name s) (λ x. behind (this_mark s mark_.Assign) (bind (values_reads s)
    (λ vs. behind (this_mark s mark_.Semicolon) (done (record { name = x; values = vs })))
    (λ x z more within may. refl))))
    (λ z more within. (within.1.0, refl)) (λ t more within. ((t.name, (t.values, tt)), refl, (tt, (within, tt))))

-- the tables in front of the processes
pub shared_ones : (s : Scope)
    → Elements s.end (HasRoom s) (is_keyword keyword_.Table) (λ t. t) spell_table (λ t more. TableIsWithin t) Anything
    (λ i. shared_table (lower s)) (λ i. shared_table s)
unfolding shared_table
shared_ones s = record {
  laws = λ i. behind (this_keyword s keyword_.Table) (table_reads s);
  starts = λ t more within. refl;
  longer = λ t more within. omega (arith, (table_reads s).laws.no_gap t more within);
  next = λ t more within. tt;
  last = λ more ends. tt;
}

pub shared_reads : (s : Scope) → Reads s (spell_all spell_table) (AllByRecursion TableIsWithin)
    (Unless (is_keyword keyword_.Table)) (λ s. all_of (is_keyword keyword_.Table) (shared_table s))
unfolding all_of
shared_reads s = each_of (shared_ones s) 0

-- ---- the arrays and tables of a process

declaration_arms : (s : Scope) → Arms s (Exactly spell_declaration DeclarationIsWithin) Anything declaration_behind
unfolding declaration_behind array_behind
declaration_arms s (token.Keyword keyword_.Array) =
    arm (λ start. value (a_name s) (λ x. behind (this_mark s mark_.LeftBracket) (value (size_reads s)
    (λ n. behind (this_mark s mark_.RightBracket) (behind (this_mark s mark_.Semicolon) (done (array x n)))))))
    (λ z more within. (within.1.0, refl))
declaration_arms s (token.Keyword keyword_.Table) =
    arm (λ start. value (table_reads s) (λ t. done (table t))) (λ z more within. (within.0, refl))
declaration_arms s _ = no_arm

declaration_parts : (s : Scope) (d : Declaration) (tokens more : List Token)
    → Exactly spell_declaration DeclarationIsWithin d tokens more
    → Begun (declaration_arms s) d tokens more
unfolding declaration_arms
declaration_parts s (array x n) tokens more is =
    ((token.Keyword keyword_.Array, (x, (n, tt))), refl, (tt, (is.0, tt)), sym is.1)
declaration_parts s (table t) tokens more is = ((token.Keyword keyword_.Table, (t, tt)), refl, (is.0, tt), sym is.1)

declaration_reads : (s : Scope) → Reads s spell_declaration DeclarationIsWithin Anything declaration
unfolding declaration declaration_arms
declaration_reads s = exactly (by_token s (declaration_arms s) (token.Keyword keyword_.Table) tt (declaration_parts s))

declaration_starts : (d : Declaration) (more : List Token) → begins declares (spell_declaration d more) ≡ true
declaration_starts (array x n) more = refl
declaration_starts (table t) more = refl

pub declaration_ones : (s : Scope)
    → Elements s.end (HasRoom s) declares (λ d. d) spell_declaration (λ d more. DeclarationIsWithin d) Anything
    (λ i. declaration (lower s)) (λ i. declaration s)
declaration_ones s = record {
  laws = λ i. declaration_reads s;
  starts = λ d more within. declaration_starts d more;
  longer = λ d more within.
      token_longer (declaration_arms s) (declaration_parts s) d _ more (within, refl);
  next = λ d more within. tt;
  last = λ more ends. tt;
}

pub declarations_reads : (s : Scope) → Reads s (spell_all spell_declaration) (AllByRecursion DeclarationIsWithin)
    (Unless declares) (λ s. all_of declares (declaration s))
unfolding all_of
declarations_reads s = each_of (declaration_ones s) 0
