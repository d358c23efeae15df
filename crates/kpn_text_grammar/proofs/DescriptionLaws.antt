-- A whole description: it is read if and only if the tokens spell it within the limits, and tokens spell one at most.
use Rattle.kpn_text_grammar.proofs.Common.{◌≡◌, ◌<◌, ◌≤◌, ◌+◌, ◌-◌, inl, inr, ℕ, zero, suc, List, [], ◌∷◌, ◌++◌, map, take, Some, Result, Ok, Err, refl, sym, ap, subst, ◌∙◌, arith, map-append, MAX_LEVELS, Language, Lexeme, Token, GrammarFault, Scope, Table, ProcessNode, NetworkNode, Description, kinds, SpellsAll, SpellsProcess, spell_all, spell_table, spell_language, spell_network, IsWithinLimits, IsDescriptionWithin, IsDescription, is_keyword, fault_place, IsFaultAt}
use Rattle.kpn_text_tokens.specs.declared.tokens.Language.TheVariants as language
use Rattle.kpn_text_tokens.specs.declared.tokens.Mark.TheVariants as mark_
use Rattle.kpn_text_tokens.specs.declared.tokens.Keyword.TheVariants as keyword_
use Rattle.kpn_text_grammar.specs.declared.fault.GrammarFault.TheVariants as fault
use Rattle.kpn_text_tokens.specs.Results.{and_then}
use Rattle.kpn_text_grammar.specs.Reading.{Read, language_at, all_of, shared_table, processes, network, at_end, contents, description, description_of}
use Rattle.kpn_text_grammar.proofs.Lookahead.{lower, Anything, ahead, Keeps, Refuses, Look, returns, refuses, forgets, nests, kept_too}
use Rattle.kpn_text_grammar.proofs.Steps.{bind_ok, bound, moved, no_value, ok_is}
use Rattle.kpn_text_grammar.proofs.Readers.{Step, passes_on, this_keyword, this_mark, this_two, no_step, Row, ReadsBy, HasRoom, Unless, behind, bind, mapped, reads_by, begins}
use Rattle.kpn_text_grammar.proofs.DeclarationLaws.{shared_reads}
use Rattle.kpn_text_grammar.proofs.ProcessLaws.{processes_reads}
use Rattle.kpn_text_grammar.proofs.NetworkLaws.{network_reads}

at_end_takes : (ls : List Lexeme) (u : Unit {0}) → at_end ls ≡ Ok u → kinds ls ≡ []
unfolding at_end
at_end_takes [] u h = refl
at_end_takes (l ∷ ls) u h = absurd cc

at_end_again : (ls : List Lexeme) → kinds ls ≡ [] → at_end ls ≡ Ok tt
unfolding at_end
at_end_again [] h = refl
at_end_again (l ∷ ls) h = absurd cc

language_passes : {ok : Type 0} (s : Scope) (l : Language)
    → Step s.end ok (spell_language l) (language_at (lower s) l) (language_at s l)
unfolding language_at
language_passes s language.One = no_step
language_passes s language.Two =
    passes_on (this_keyword s keyword_.Language) (passes_on (this_two s) (this_mark s mark_.Semicolon))

-- ---- a description and the tokens after it

abbrev of_parts : List Table → List ProcessNode → NetworkNode → Description
of_parts ts ps n = record { tables = ts; processes = ps; network = n }

abbrev ContentsOf : Scope → Description → List Token → List Token → Type 0
ContentsOf s d tokens more = (inside : List Token) × (tokens ≡ spell_all spell_table d.tables inside)
    × SpellsAll (SpellsProcess s.levels s.language) d.processes inside (spell_network d.network more)
    × IsWithinLimits s.levels d

-- a process or the network begins with its word
no_table : (levels : ℕ) (l : Language) (ps : List ProcessNode) (n : NetworkNode) (tokens more : List Token)
    → SpellsAll (SpellsProcess levels l) ps tokens (spell_network n more) → Unless (is_keyword keyword_.Table) tokens
no_table levels l [] n tokens more h = ap (λ ts. begins (is_keyword keyword_.Table) ts) h
no_table levels l (p ∷ ps) n tokens more (others, first, rest) = ap
    (λ ts. begins (is_keyword keyword_.Table) ts) first.head

abbrev inside : Scope → List Lexeme → Read Description
inside s ls =
    and_then (all_of (is_keyword keyword_.Table) (shared_table s) ls) (λ ts. and_then (processes s ts.1)
    (λ ps. and_then (network s ps.1) (λ n. Ok (of_parts ts.0 ps.0 n.0, n.1))))

inside_reads : (s : Scope) → 0 < s.levels → ReadsBy s (ContentsOf s) Anything inside
inside_reads s some =
    reads_by (bind (shared_reads s) (λ ts. bind (processes_reads s some)
    (λ ps. mapped (of_parts ts ps) (network_reads s) (λ more may. may)) (λ x z more is may. refl))
    (λ x z more is may. no_table s.levels s.language z.0.0 z.1 z.0.1 more is.0.0))
    (λ z more is. (z.1.0.1, refl, is.1.0.0, record { tables = is.0; processes = is.1.0.1 }))
    (λ d tokens more is. (
      (d.tables, ((d.processes, is.0), d.network)),
      refl,
      (is.3.tables, ((is.2, is.3.processes), tt)),
      sym is.1,
    ))

abbrev all : Scope → List Lexeme → Read Description
all s ls = and_then (language_at s s.language ls) (inside s)

all_reads : (s : Scope) → 0 < s.levels → Row {Z = Description × List Token} s.end (HasRoom s) (λ z. z.0)
    (λ z more. spell_language s.language z.1) (λ z more. ContentsOf s z.0 z.1 more) Anything (all (lower s)) (all s)
all_reads s some = behind (language_passes s s.language) (inside_reads s some)

-- ---- nothing after it

abbrev last : Description × List Lexeme → Result Description GrammarFault
last d = and_then (at_end d.1) (λ u. Ok d.0)

and_last : {A : Type 0} (r : Result A GrammarFault) (f : A → Read Description) (g : A → Result Description GrammarFault)
    → ((x : A) → g x ≡ and_then (f x) last) → and_then r g ≡ and_then (and_then r f) last
unfolding and_then
and_last (Ok x) f g same = same x
and_last (Err e) f g same = refl

at_last : (d : Description × List Lexeme) → last d ≡ and_then (Ok d) last
unfolding and_then
at_last d = refl

description_is : (s : Scope) (ls : List Lexeme) → description s ls ≡ and_then (all s ls) last
unfolding description contents
description_is s ls =
    and_last (language_at s s.language ls) (inside s) (contents s) (λ rest. and_last _ _ _
    (λ ts. and_last _ _ _ (λ ps. and_last _ _ _ (λ n. at_last (of_parts ts.0 ps.0 n.0, n.1)))))

-- What is read is spelled so and within the limits.
pub description_takes : (s : Scope) (ls : List Lexeme) (d : Description) → 0 < s.levels → description s ls ≡ Ok d
    → IsDescriptionWithin s.levels s.language (kinds ls) d
description_takes s ls d some h =
    let a = bind_ok (all s ls) last d (sym (description_is s ls) ∙ h) in
    let e = bind_ok (at_end a.0.1) (λ u. Ok a.0.0) d a.2 in
    let t = (all_reads s some).laws.takes ls a.0.0 a.0.1 a.1 in
    moved (IsDescriptionWithin s.levels s.language (kinds ls)) a.0.0 d e.2
    (subst (IsDescriptionWithin s.levels s.language (kinds ls)) t.1
    (record {
      spelled = record {
        inside = t.2.0;
        opening = t.3 ∙ ap (spell_language s.language) t.2.1;
        processes = subst (λ (us : List Token). SpellsAll (SpellsProcess s.levels s.language) t.0.0.processes t.2.0 us)
            (ap (spell_network t.0.0.network) (at_end_takes a.0.1 e.0 e.1)) t.2.2;
      };
      within = t.2.3;
    }))

-- What is spelled so within the limits is read.
pub description_again : (s : Scope) (ls : List Lexeme) (d : Description) → 0 < s.levels
    → IsDescriptionWithin s.levels s.language (kinds ls) d → description s ls ≡ Ok d
description_again s ls d some is =
    let rules = is.spelled in
    let a = (all_reads s some).laws.again ls (d, spell_all spell_table d.tables rules.inside) []
    (rules.inside, refl, rules.processes, is.within) tt rules.opening in
    description_is s ls ∙ bound (all s ls) (d, a.0) last (Ok d) a.1
    (bound (at_end a.0) tt (λ u. Ok d) (Ok d) (at_end_again a.0 a.2) refl)

-- ---- tokens spell one description of a language at most

-- tokens at any places
placed : List Token → List Lexeme
placed ts = map (λ t. record { token = t; start = 0 }) ts

placed_kinds : (ts : List Token) → kinds (placed ts) ≡ ts
unfolding placed
placed_kinds [] = refl
placed_kinds (t ∷ ts) = ap (λ (us : List Token). t ∷ us) (placed_kinds ts)

-- the scope of a text with so many levels
abbrev with_levels : Language → ℕ → ℕ → Scope
with_levels l end levels = record { end = end; process = 0; language = l; levels = levels }

pub one_description : (l : Language) (ts : List Token) (d e : Description) → IsDescription l ts d
    → IsDescription l ts e → d ≡ e
one_description l ts d e is_d is_e =
    let s = with_levels l 0 MAX_LEVELS in
    let first = description_again s (placed ts) d (omega arith) (subst (λ (us : List Token). IsDescription l us d)
    (sym (placed_kinds ts)) is_d) in
    let second = description_again s (placed ts) e (omega arith) (subst (λ (us : List Token). IsDescription l us e)
    (sym (placed_kinds ts)) is_e) in
    ok_is d e (sym first ∙ second)

-- ---- the place of a fault

-- What a reader with a level more does where one refuses what stands in front of the rest: it refuses that, and all
-- that
-- begins like it, and reads the tokens before it in front of some others.
record Refused (s : Scope) (ls : List Lexeme) (at : ℕ) : Type 0 where
  before : List Lexeme
  rest : List Lexeme
  whole : ls ≡ before ++ rest
  place : at ≡ fault_place s.end rest
  again : (other : List Lexeme) → ahead other ≡ ahead rest → description s (before ++ other) ≡ Err (fault.Grammar at)
  fill : List Lexeme
  made : Description
  leads : description s (before ++ fill) ≡ Ok made

-- behind a description
refused_last : (s : Scope) (d : Description) (l : Lexeme) (before other : List Lexeme) → ahead other ≡ Some l
    → all s (before ++ other) ≡ Ok (d, other) → description s (before ++ other) ≡ Err (fault.Grammar l.start)
unfolding at_end and_then
refused_last s d l before [] h read = absurd cc
refused_last s d l before (m ∷ ms) h read =
    let same : m ≡ l = cc in
    description_is s (before ++ (m ∷ ms)) ∙ rw (read, same) refl

read_last : (s : Scope) (d : Description) (ls : List Lexeme) → all s ls ≡ Ok (d, []) → description s ls ≡ Ok d
unfolding at_end and_then
read_last s d ls read = description_is s ls ∙ rw read refl

no_fault : {A : Type 0} (x : A) (e : GrammarFault) → ◌≡◌ {A = Result A GrammarFault} (Ok x) (Err e) → ⊥
no_fault x e h = cc

faults_same : {A : Type 0} (d e : GrammarFault) → ◌≡◌ {A = Result A GrammarFault} (Err d) (Err e) → d ≡ e
faults_same d e h = cc

grammar_same : (at other : ℕ) → fault.Grammar at ≡ fault.Grammar other → at ≡ other
grammar_same at other h = cc

module _ (s : Scope) (has : HasRoom s) (ls : List Lexeme) where
  behind_all : (at : ℕ) (d : Description) (rest : List Lexeme) → Keeps Anything (all s) ls d rest
      → last (d, rest) ≡ Err (fault.Grammar at) → Refused s ls at
  unfolding at_end and_then
  behind_all at d [] k h = absurd (no_fault d (fault.Grammar at) h)
  behind_all at d (l ∷ rest) k h =
      let same = grammar_same l.start at (faults_same (fault.Grammar l.start) (fault.Grammar at) h) in
      record {
        before = k.before;
        rest = l ∷ rest;
        whole = k.whole;
        place = sym same;
        again = λ other ahead. refused_last s d l k.before other ahead (k.again other (inl ahead)) ∙ ap
            (λ n. Err (fault.Grammar n)) same;
        fill = [];
        made = d;
        leads = read_last s d (k.before ++ []) (k.again [] (inr tt));
      }

  within_all : (at other : ℕ) → Refuses s.end Anything (all s) ls other → other ≡ at → Refused s ls at
  unfolding and_then
  within_all at other f same = record {
    before = f.before;
    rest = f.rest;
    whole = f.whole;
    place = sym same ∙ f.place;
    again = λ ts ahead. description_is s (f.before ++ ts) ∙ rw (f.again ts ahead, same) refl;
    fill = f.leads.fill ++ [];
    made = f.leads.value;
    leads = read_last s f.leads.value (f.before ++ (f.leads.fill ++ [])) (f.leads.reads [] tt);
  }

  by_look : (at : ℕ) (r : Read Description) → Look s.end Anything (all s) ls r → and_then r last ≡ Err
      (fault.Grammar at)
      → Refused s ls at
  unfolding and_then
  by_look at r (returns {y} {rest} k) h = behind_all at y rest k h
  by_look at r (refuses {at = other} f) h =
      within_all at other f (grammar_same other at
      (faults_same {A = Description} (fault.Grammar other) (fault.Grammar at) h))
  by_look at r forgets h = absurd cc
  by_look at r nests h = absurd cc

  -- with a level more
  refused : (at : ℕ) → description (lower s) ls ≡ Err (fault.Grammar at) → Refused s ls at
  refused at h =
      by_look at (all (lower s) ls) (((all_reads s (omega (arith, has))).looks has).at ls)
      (sym (description_is (lower s) ls) ∙ h)

  refused_too : (at : ℕ) → description (lower s) ls ≡ Err (fault.Grammar at) → description s ls ≡ Err (fault.Grammar at)
  refused_too at h =
      let f = refused at h in
      subst (λ ts. description s ts ≡ Err (fault.Grammar at)) (sym f.whole) (f.again f.rest refl)

  read_too : (d : Description) → description (lower s) ls ≡ Ok d → description s ls ≡ Ok d
  unfolding and_then
  read_too d h =
      let a = bind_ok (all (lower s) ls) last d (sym (description_is (lower s) ls) ∙ h) in
      description_is s ls ∙ bound (all s ls) a.0 last (Ok d)
      (kept_too ((all_reads s (omega (arith, has))).looks has) a.1) a.2

-- with any number of levels more
module _ (l : Language) (end at : ℕ) (ls : List Lexeme) where
  abbrev read_with : ℕ → Result Description GrammarFault
  read_with levels = description (with_levels l end levels) ls

  one_less : (levels : ℕ) → lower (with_levels l end (suc levels)) ≡ with_levels l end levels
  one_less levels = ap (with_levels l end) (omega arith)

  refused_deeper : (more : ℕ) → read_with (suc MAX_LEVELS) ≡ Err (fault.Grammar at)
      → read_with (suc MAX_LEVELS + more) ≡ Err (fault.Grammar at)
  refused_deeper zero h = h
  refused_deeper (suc more) h =
      let before = refused_deeper more h in
      subst (λ n. read_with n ≡ Err (fault.Grammar at)) (omega arith)
      (refused_too (with_levels l end (suc (suc MAX_LEVELS + more))) (omega arith) ls at
      (subst (λ s. description s ls ≡ Err (fault.Grammar at)) (sym (one_less (suc MAX_LEVELS + more))) before))

  never_read : (levels : ℕ) (d : Description) → MAX_LEVELS ≤ levels → read_with (suc MAX_LEVELS) ≡ Err
      (fault.Grammar at)
      → read_with levels ≡ Ok d → ⊥
  never_read levels d enough h read =
      let deeper = read_too (with_levels l end (suc levels)) (omega (arith, enough)) ls d
      (subst (λ s. description s ls ≡ Ok d) (sym (one_less levels)) read) in
      let same : suc MAX_LEVELS + (levels - MAX_LEVELS) ≡ suc levels = omega (arith, enough) in
      no_value (fault.Grammar at) d
      (sym (subst (λ n. read_with n ≡ Err (fault.Grammar at)) same (refused_deeper (levels - MAX_LEVELS) h)) ∙ deeper)

module _ (s : Scope) (some : 0 < s.levels) (before rest : List Lexeme) (never : (other : List Lexeme) (d : Description)
    → ahead other ≡ ahead rest → description s (before ++ other) ≡ Ok d → ⊥) where
  not_so : (other : List Lexeme) (d : Description) → ahead other ≡ ahead rest
      → IsDescriptionWithin s.levels s.language (kinds before ++ kinds other) d → ⊥
  not_so other d same is =
      never other d same (description_again s (before ++ other) d some
      (subst (λ (ts : List Token). IsDescriptionWithin s.levels s.language ts d)
      (sym (map-append (λ l. l.token) before other)) is))

begins_none : (s : Scope) → 0 < s.levels → (before rest : List Lexeme)
    → ((other : List Lexeme) (d : Description) → ahead other ≡ ahead rest → description s (before ++ other) ≡ Ok d → ⊥)
    → (others : List Token) (d : Description) → take 1 others ≡ take 1 (kinds rest)
    → IsDescriptionWithin s.levels s.language (kinds before ++ others) d → ⊥
begins_none s some before [] never [] d same is = not_so s some before [] never [] d refl is
begins_none s some before [] never (t ∷ ts) d same is = absurd cc
begins_none s some before (l ∷ ls) never [] d same is = absurd cc
begins_none s some before (l ∷ ls) never (t ∷ ts) d same is =
    let first : l.token ≡ t = cc in
    let tokens : kinds (l ∷ placed ts) ≡ t ∷ ts = rw (first, placed_kinds ts) refl in
    not_so s some before (l ∷ ls) never (l ∷ placed ts) d refl
    (subst (λ (us : List Token). IsDescriptionWithin s.levels s.language (kinds before ++ us) d) (sym tokens) is)

-- A fault stands at the first token that may not be there.
pub description_fault : (l : Language) (end : ℕ) (ls : List Lexeme) (at : ℕ) → description_of l end ls ≡ Err
    (fault.Grammar at)
    → IsFaultAt l end ls at
description_fault l end ls at h =
    let s = with_levels l end (suc MAX_LEVELS) in
    let f = refused s (omega arith) ls at h in
    record {
      before = f.before;
      rest = f.rest;
      parts = f.whole;
      place = f.place;
      none = λ levels others d enough same is. begins_none (with_levels l end levels)
          (omega (arith, enough)) f.before f.rest
          (λ other e ahead read. never_read l end at (f.before ++ other) levels e enough (f.again other ahead) read)
          others d same is;
      some = (
        kinds f.fill,
        f.made,
        subst (λ (ts : List Token). IsDescriptionWithin (suc MAX_LEVELS) l ts f.made)
            (map-append (λ l. l.token) f.before f.fill)
            (description_takes s (f.before ++ f.fill) f.made (omega arith) f.leads),
      );
    }
