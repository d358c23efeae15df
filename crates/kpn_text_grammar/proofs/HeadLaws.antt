-- Lists of names and the head of a process: what is read is spelled so, and what is spelled so is read.
use Rattle.kpn_text_grammar.proofs.Common.{◌≡◌, ◌⊎◌, inl, inr, ◌+◌, ◌<◌, Bool, false, List, [], ◌∷◌, length, refl, sym, ap, subst, ◌∙◌, arith, Token, Scope, NameBytes, spell_names, spell_later_part, spell_parts, is_mark, is_name, and_then}
use Rattle.kpn_text_tokens.specs.declared.tokens.Token.TheVariants as token
use Rattle.kpn_text_tokens.specs.declared.tokens.Mark.TheVariants as mark_
use Rattle.kpn_text_tokens.specs.declared.tokens.Keyword.TheVariants as keyword_
use Rattle.kpn_text_grammar.specs.Reading.{next, name, separated, optional_names, HeadParts, after_outs, outs_or_pars, after_ins, parts_behind, parts}
use Rattle.kpn_text_grammar.proofs.Lookahead.{lower}
use Rattle.kpn_text_grammar.proofs.Readers.{this_mark, this_keyword, Row, Reads, HasRoom, Free, Unless, as_seen, done, behind, bind, As, recast, reads, choice, optional, mapped, maybe_some, a_name, Arms, arm, no_arm, rearm, Begun, by_token, Exactly, exactly, begins, either, spell_either, Either, Some_of, some_of, is_comma, with_commas}

-- ---- names

names_reads : (s : Scope) → Reads s spell_names Some_of (Unless is_comma) (λ s. separated s (name s))
names_reads s = some_of (with_commas s (a_name s))

-- no name and no comma follows
abbrev pub NoNames : List Token → Type 0
NoNames more = Unless is_name more × Unless is_comma more

pub optional_names_reads : (s : Scope) → Reads s spell_names Free NoNames optional_names
unfolding optional_names
optional_names_reads s =
    maybe_some is_name spell_names (names_reads s) (λ more may. (may.1, may.0)) (λ x xs more. refl) (λ more. refl)
    (λ x xs more. refl)

-- ---- the parts of a head

abbrev pub semicolon : Token → Bool
semicolon = is_mark mark_.Semicolon

-- a head of these parts
abbrev of_parts : (ins outs pars : List NameBytes) → HeadParts
of_parts ins outs pars = record { ins = ins; outs = outs; pars = pars }

-- the closing parenthesis follows
abbrev pub Closes : List Token → Type 0
Closes more = (rest : List Token) × (more ≡ token.Mark mark_.RightParen ∷ rest)

pub closes_not : (goes : Token → Bool) (more : List Token) → Closes more → goes (token.Mark mark_.RightParen) ≡ false
    → Unless goes more
closes_not goes more may h = ap (begins goes) may.1 ∙ h

-- behind the out ports, which are known: the parameters
after_outs_row : (s : Scope) (ins outs : List NameBytes)
    → Row s.end (HasRoom s) (of_parts ins outs) (spell_later_part keyword_.Par) (λ pars more. Unit {0}) Closes
    (after_outs (lower s) ins outs) (after_outs s ins outs)
unfolding after_outs
after_outs_row s ins outs =
    maybe_some semicolon (spell_later_part keyword_.Par) (behind (this_mark s mark_.Semicolon)
    (behind (this_keyword s keyword_.Par) (mapped (of_parts ins outs) (names_reads s) (λ more may. may))))
    (λ more may. (closes_not is_comma more may refl, closes_not semicolon more may refl))
    (λ x xs more. refl) (λ more. refl) (λ x xs more. refl)

pars_end : (pars : List NameBytes) (more : List Token) → Closes more
    → Unless is_comma (spell_later_part keyword_.Par pars more)
pars_end [] more may = closes_not is_comma more may refl
pars_end (x ∷ xs) more may = refl

outs_end : (outs pars : List NameBytes) (more : List Token) → Closes more
    → Unless is_comma (spell_later_part keyword_.Out outs (spell_later_part keyword_.Par pars more))
outs_end [] pars more may = pars_end pars more may
outs_end (x ∷ xs) pars more may = refl

-- behind the in ports, which are known, from a first token on: out ports or parameters
record Behind (ins : List NameBytes) (p : HeadParts) : Type 0 where
  same : p.ins ≡ ins
  some : 0 < length p.outs + length p.pars

abbrev spell_behind : HeadParts → List Token → List Token
spell_behind p = spell_parts [] p.outs p.pars

spell_outs : (outs pars : List NameBytes) (more : List Token) → Some_of outs → token.Keyword keyword_.Out
    ∷ spell_names outs (spell_later_part keyword_.Par pars more) ≡ spell_parts [] outs pars more
spell_outs [] pars more some = absurd (omega (arith, some))
spell_outs (x ∷ xs) pars more some = refl

spell_pars : (pars : List NameBytes) (more : List Token) → Some_of pars
    → token.Keyword keyword_.Par ∷ spell_names pars more ≡ spell_parts [] [] pars more
spell_pars [] more some = absurd (omega (arith, some))
spell_pars (x ∷ xs) more some = refl

outs_arms : (s : Scope) (ins : List NameBytes) → Arms s (Exactly spell_behind (Behind ins)) Closes
    (λ s. outs_or_pars s ins)
unfolding outs_or_pars
outs_arms s ins (token.Keyword keyword_.Out) =
    arm (λ start. bind (names_reads s) (after_outs_row s ins) (λ outs pars more within may. pars_end pars more may))
    (λ z more within.
    (record { same = refl; some = omega (arith, within.0) }, spell_outs z.0 z.1 more within.0))
outs_arms s ins (token.Keyword keyword_.Par) =
    arm (λ start. mapped (of_parts ins []) (names_reads s) (λ more may. closes_not is_comma more may refl))
    (λ pars more within. (record { same = refl; some = omega (arith, within) }, spell_pars pars more within))
outs_arms s ins _ = no_arm

outs_begin : (s : Scope) (ins outs pars : List NameBytes) (tokens more : List Token) → 0 < length outs + length pars
    → tokens ≡ spell_parts [] outs pars more → Begun (outs_arms s ins) (of_parts ins outs pars) tokens more
unfolding outs_arms
outs_begin s ins [] [] tokens more some h = absurd (omega (arith, some))
outs_begin s ins [] (x ∷ xs) tokens more some h = ((token.Keyword keyword_.Par, x ∷ xs), refl, omega arith, sym h)
outs_begin s ins (x ∷ xs) pars tokens more some h =
    ((token.Keyword keyword_.Out, (x ∷ xs, pars)), refl, (omega arith, tt), sym h)

with_ins : (p : HeadParts) (ins : List NameBytes) → p.ins ≡ ins → of_parts ins p.outs p.pars ≡ p
with_ins p ins h = ap (λ xs. of_parts xs p.outs p.pars) (sym h)

outs_reads : (s : Scope) (ins : List NameBytes) → Reads s spell_behind (Behind ins) Closes
    (λ s ls. and_then (next s ls) (λ l. outs_or_pars s ins l.0.token l.0.start l.1))
unfolding outs_arms
outs_reads s ins =
    exactly (by_token s (outs_arms s ins) (token.Keyword keyword_.Par) tt
    (λ p tokens more is. subst (λ q. Begun (outs_arms s ins) q tokens more)
    (with_ins p ins is.0.same) (outs_begin s ins p.outs p.pars tokens more is.0.some is.1)))

-- the same behind its semicolon, or nothing
abbrev spell_after_ins : List NameBytes × List NameBytes → List Token → List Token
spell_after_ins z more = spell_later_part keyword_.Out z.0 (spell_later_part keyword_.Par z.1 more)

later_outs : (outs pars : List NameBytes) (more : List Token) → 0 < length outs + length pars
    → spell_after_ins (outs, pars) more ≡ token.Mark mark_.Semicolon ∷ spell_parts [] outs pars more
later_outs [] [] more some = absurd (omega (arith, some))
later_outs [] (x ∷ xs) more some = refl
later_outs (x ∷ xs) pars more some = refl

after_ins_row : (s : Scope) (ins : List NameBytes)
    → Row {Z = List NameBytes × List NameBytes} s.end (HasRoom s) (λ z. of_parts ins z.0 z.1) spell_after_ins
    (λ z more. Unit {0}) Closes (after_ins (lower s) ins) (after_ins s ins)
unfolding after_ins
after_ins_row s ins =
    recast (optional semicolon (of_parts ins [] []) (behind (this_mark s mark_.Semicolon) (outs_reads s ins))
    (λ more may. (may, closes_not semicolon more may refl)) (λ p more is. refl)) there back where
      there : (z : HeadParts ⊎ Unit {0}) (more : List Token) → Either (λ p more. Behind ins p) (λ u more. Unit {0}) z more
          → As (either (λ p. p) (λ (u : Unit {0}). of_parts ins [] []))
          (spell_either (λ p more. token.Mark mark_.Semicolon ∷ spell_behind p more) (λ u more. more))
          (λ (w : List NameBytes × List NameBytes). of_parts ins w.0 w.1) spell_after_ins (λ w more. Unit {0}) z more
      there (inl p) more is = ((p.outs, p.pars), with_ins p ins is.same, tt, later_outs p.outs p.pars more is.some)
      there (inr u) more is = (([], []), refl, tt, refl)

      back : (w : List NameBytes × List NameBytes) (more : List Token) → Unit {0}
          → As (λ (w : List NameBytes × List NameBytes). of_parts ins w.0 w.1) spell_after_ins
          (either (λ p. p) (λ (u : Unit {0}). of_parts ins [] []))
          (spell_either (λ p more. token.Mark mark_.Semicolon ∷ spell_behind p more) (λ u more. more))
          (Either (λ p more. Behind ins p) (λ u more. Unit {0})) w more
      back ([], []) more is = (inr tt, refl, tt, refl)
      back ([], x ∷ xs) more is =
          (inl (of_parts ins [] (x ∷ xs)), refl, record { same = refl; some = omega arith }, refl)
      back (x ∷ xs, pars) more is =
          (inl (of_parts ins (x ∷ xs) pars), refl, record { same = refl; some = omega arith }, refl)

-- from the first token on
abbrev spell_head_parts : HeadParts → List Token → List Token
spell_head_parts p = spell_parts p.ins p.outs p.pars

abbrev IsSome : HeadParts → Type 0
IsSome p = 0 < length p.ins + (length p.outs + length p.pars)

spell_ins : (ins outs pars : List NameBytes) (more : List Token) → Some_of ins
    → token.Keyword keyword_.In ∷ spell_names ins (spell_after_ins (outs, pars) more) ≡ spell_parts ins outs pars more
spell_ins [] outs pars more some = absurd (omega (arith, some))
spell_ins (x ∷ xs) outs pars more some = refl

parts_arms : (s : Scope) → Arms s (Exactly spell_head_parts IsSome) Closes parts_behind
unfolding parts_behind
parts_arms s (token.Keyword keyword_.In) =
    arm (λ start. bind (names_reads s) (after_ins_row s) (λ x z more within may. outs_end z.0 z.1 more may))
    (λ z more within. (omega (arith, within.0), spell_ins z.0 z.1.0 z.1.1 more within.0))
parts_arms s t =
    rearm (outs_arms s [] t) (λ p tokens more is.
    (omega (arith, is.0.some), is.1 ∙ ap (λ xs. spell_parts xs p.outs p.pars more) (sym is.0.same)))

parts_begin : (s : Scope) (ins outs pars : List NameBytes) (tokens more : List Token)
    → 0 < length ins + (length outs + length pars) → tokens ≡ spell_parts ins outs pars more
    → Begun (parts_arms s) (of_parts ins outs pars) tokens more
unfolding parts_arms outs_arms
parts_begin s [] [] [] tokens more some h = absurd (omega (arith, some))
parts_begin s [] [] (x ∷ xs) tokens more some h = ((token.Keyword keyword_.Par, x ∷ xs), refl, omega arith, sym h)
parts_begin s [] (x ∷ xs) pars tokens more some h =
    ((token.Keyword keyword_.Out, (x ∷ xs, pars)), refl, (omega arith, tt), sym h)
parts_begin s (x ∷ xs) outs pars tokens more some h =
    ((token.Keyword keyword_.In, (x ∷ xs, (outs, pars))), refl, (omega arith, tt), sym h)

parts_open : (ins outs pars : List NameBytes) (more : List Token) → 0 < length ins + (length outs + length pars)
    → begins (is_mark mark_.RightParen) (spell_parts ins outs pars more) ≡ false
parts_open [] [] [] more some = absurd (omega (arith, some))
parts_open [] [] (x ∷ xs) more some = refl
parts_open [] (x ∷ xs) pars more some = refl
parts_open (x ∷ xs) outs pars more some = refl

-- ports and parameters up to the closing parenthesis
pub parts_reads : (s : Scope) → Reads s spell_head_parts Free Closes parts
unfolding parts parts_arms outs_arms
parts_reads s =
    reads (choice (is_mark mark_.RightParen) (as_seen (done {May = Closes} (of_parts [] [] [])))
    (exactly (by_token s (parts_arms s) (token.Keyword keyword_.Par) tt
    (λ p tokens more is. parts_begin s p.ins p.outs p.pars tokens more is.0 is.1)))
    (λ u more within may. ap (begins (is_mark mark_.RightParen)) may.1)
    (λ p more some may. parts_open p.ins p.outs p.pars more some)) back
    (λ p more free. parts_of p.ins p.outs p.pars more) where
      back : (z : Unit {0} ⊎ HeadParts) (more : List Token) → Either (λ u more. Unit {0}) (λ p more. IsSome p) z more
          → Unit {0} × (spell_either (λ u more. more) spell_head_parts z more
          ≡ spell_head_parts (either (λ (u : Unit {0}). of_parts [] [] []) (λ p. p) z) more)
      back (inl u) more within = (tt, refl)
      back (inr p) more within = (tt, refl)

      parts_of : (ins outs pars : List NameBytes) (more : List Token) → (z : Unit {0} ⊎ HeadParts)
          × (either (λ (u : Unit {0}). of_parts [] [] []) (λ p. p) z ≡ of_parts ins outs pars)
          × Either (λ u more. Unit {0}) (λ p more. IsSome p) z more
      parts_of [] [] [] more = (inl tt, refl, tt)
      parts_of [] [] (x ∷ xs) more = (inr (of_parts [] [] (x ∷ xs)), refl, omega arith)
      parts_of [] (x ∷ xs) pars more = (inr (of_parts [] (x ∷ xs) pars), refl, omega arith)
      parts_of (x ∷ xs) outs pars more = (inr (of_parts (x ∷ xs) outs pars), refl, omega arith)
