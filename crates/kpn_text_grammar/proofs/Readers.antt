-- Readers in a row: the laws of a reader, and how the laws of its steps make them. A reader is a chain of steps, a choice
-- by the token at the front, or a repetition, as `Reading` defines it.
use Rattle.kpn_text_grammar.proofs.Common.{◌≡◌, ◌⊎◌, inl, inr, ℕ, zero, suc, ◌+◌, ◌<◌, ◌≤◌, Bool, true, false, cond, List, [], ◌∷◌, ◌++◌, length, map, codes, Option, Some, None, Result, Ok, Err, refl, sym, ap, subst, ◌∙◌, arith, length-map, AllByRecursion, Lexeme, Token, Mark, Keyword, GrammarFault, Scope, kinds, spell_all, spell_further, spell_list, spell_name, SpellsAll, operator_mark, NameBytes, is_mark, is_keyword, is_number_two}
use Rattle.kpn_text_tokens.specs.declared.tokens.Token.TheVariants as token
use Rattle.kpn_text_tokens.specs.declared.tokens.Mark.TheVariants as mark_
use Rattle.kpn_text_grammar.specs.declared.fault.GrammarFault.TheVariants as fault
use Rattle.kpn_lang.specs.declared.syntax.Op.TheVariants as op
use Rattle.kpn_text_tokens.specs.Results.{and_then}
use Rattle.kpn_text_grammar.specs.Reading.{Read, first_is, next, mark, keyword, two, read_as, token_name, name, token_number, number, token_operator, operator, or_fault_at, many, further, separated}
use Rattle.kpn_text_grammar.proofs.Lookahead.{lower, Anything, Fills, Looks, Looking, Starts, CanStart, Meets, bind_fills, bind_looks, by_first, deep_looks, done_fills, done_looks, done_meets, each_looks, fills_as, first_looks, first_reads, kept_too, looks_same, pick_looks, start_fills, with_others}
use Rattle.kpn_text_grammar.proofs.Lookahead as look
use Rattle.kpn_text_grammar.proofs.Steps.{bind_ok, bound, by_test, found_is, kind_of, kinds_of, moved, next_takes, next_again, no_value, is_mark_true, is_mark_same, is_keyword_true, is_keyword_same, is_two_true, token_operator_is, token_operator_between, IsBetween, operator_back}

-- ---- the laws of a reader

-- What a reader returns is made of values z, which are spelled so, and what is spelled so it reads where these tokens may
-- follow. What holds of the values may depend on the tokens behind them.
pub record RowLaws {Z Y : Type 0} (make : Z → Y) (spell : Z → List Token → List Token) (Within : Z → List Token → Type 0)
    (May : List Token → Type 0) (one : List Lexeme → Read Y) : Type 0 where
  pub takes : (ls : List Lexeme) (y : Y) (rest : List Lexeme) → one ls ≡ Ok (y, rest)
      → (z : Z) × (make z ≡ y) × Within z (kinds rest) × (kinds ls ≡ spell z (kinds rest))
  pub again : (ls : List Lexeme) (z : Z) (more : List Token) → Within z more → May more → kinds ls ≡ spell z more
      → (rest : List Lexeme) × (one ls ≡ Ok (make z, rest)) × (kinds rest ≡ more)
  pub no_gap : (z : Z) (more : List Token) → Within z more → length more ≤ length (spell z more)

-- the same of the deeper one of two readers, and how far they look in a text of this length
pub record Seen {Z Y : Type 0} (end : ℕ) (ok : Type 0) (make : Z → Y) (spell : Z → List Token → List Token)
    (Within : Z → List Token → Type 0) (May : List Token → Type 0) (low one : List Lexeme → Read Y) : Type 0 where
  pub laws : RowLaws make spell Within May one
  pub looks : ok → Looks end May low one

-- the same, and tokens that the deeper one reads
pub record Row {Z Y : Type 0} (end : ℕ) (ok : Type 0) (make : Z → Y) (spell : Z → List Token → List Token)
    (Within : Z → List Token → Type 0) (May : List Token → Type 0) (low one : List Lexeme → Read Y) : Type 0 where
  pub laws : RowLaws make spell Within May one
  pub looks : ok → Looks end May low one
  pub sample : ok → Fills May one

-- a row of what is seen of one
pub sampled : {Z Y : Type 0} {end : ℕ} {ok : Type 0} {make : Z → Y} {spell : Z → List Token → List Token}
    {Within : Z → List Token → Type 0} {May : List Token → Type 0} {low one : List Lexeme → Read Y}
    → Seen end ok make spell Within May low one → (ok → Fills May one) → Row end ok make spell Within May low one
sampled seen sample = record { laws = seen.laws; looks = seen.looks; sample = sample }

-- a reader whose values are what it returns
abbrev pub Reader : {A : Type 0} → ℕ → Type 0 → (A → List Token → List Token) → (A → Type 0) → (List Token → Type 0)
    → (low one : List Lexeme → Read A) → Type 0
Reader {A} end ok spell Within May low one = Row end ok (λ (x : A). x) spell (λ x more. Within x) May low one

-- a reader of things that may have many spellings: the values are a thing and its tokens
abbrev pub ReaderBy : {A : Type 0} → ℕ → Type 0 → (A → List Token → List Token → Type 0) → (List Token → Type 0)
    → (low one : List Lexeme → Read A) → Type 0
ReaderBy {A} end ok Spells May low one =
    Row {Z = A × List Token} end ok (λ z. z.0) (λ z more. z.1) (λ z more. Spells z.0 z.1 more) May low one

-- a scope has a level that the one below it has not, and that one has one for the body of a process
abbrev pub HasRoom : Scope → Type 0
HasRoom s = 1 < s.levels

-- the same of a reader by its scope
abbrev pub Reads : {A : Type 0} → Scope → (A → List Token → List Token) → (A → Type 0) → (List Token → Type 0)
    → (Scope → List Lexeme → Read A) → Type 0
Reads s spell Within May one = Reader s.end (HasRoom s) spell Within May (one (lower s)) (one s)

abbrev pub ReadsBy : {A : Type 0} → Scope → (A → List Token → List Token → Type 0) → (List Token → Type 0)
    → (Scope → List Lexeme → Read A) → Type 0
ReadsBy s Spells May one = ReaderBy s.end (HasRoom s) Spells May (one (lower s)) (one s)

-- no limit
abbrev pub Free : {Z : Type 0} → Z → Type 0
Free z = Unit {0}

-- the tokens begin with one that passes this test
abbrev pub begins : (Token → Bool) → List Token → Bool
begins goes [] = false
begins goes (t ∷ ts) = goes t

pub first_begins : (goes : Token → Bool) (ls : List Lexeme) → first_is goes ls ≡ begins goes (kinds ls)
first_begins goes [] = refl
first_begins goes (l ∷ ls) = refl

abbrev pub Unless : (Token → Bool) → List Token → Type 0
Unless goes more = begins goes more ≡ false

pub kinds_length : (ls : List Lexeme) → length (kinds ls) ≡ length ls
kinds_length ls = length-map ls (λ l. l.token)

-- ---- chains

-- the end of a chain
pub done : {Y : Type 0} {end : ℕ} {ok : Type 0} {May : List Token → Type 0} (v : Y)
    → Row {Z = Unit {0}} end ok (λ z. v) (λ z more. more) (λ z more. Unit {0}) May (λ ls. Ok (v, ls)) (λ ls. Ok (v, ls))
done {Y} {end} {ok} {May} v = record {
  laws = record {
    takes = λ ls y rest h.
        moved (λ (p : Y × List Lexeme). (z : Unit {0}) × (v ≡ p.0) × Unit {0} × (kinds ls ≡ kinds p.1)) (v, ls) (y, rest) h
        (tt, refl, tt, refl);
    again = λ ls z more within may h. (ls, refl, h);
    no_gap = λ z more within. omega arith;
  };
  looks = λ so. done_looks v;
  sample = λ so. done_fills v;
}

-- values as others that make the same thing and are spelled the same
abbrev pub As : {Z W Y : Type 0} → (Z → Y) → (Z → List Token → List Token) → (W → Y) → (W → List Token → List Token)
    → (W → List Token → Type 0) → Z → List Token → Type 0
As {W = W} make spell other spell_other Other z more =
    (w : W) × (other w ≡ make z) × Other w more × (spell_other w more ≡ spell z more)

-- the same of a row where more is known, where less may follow, of readers that return the same, and by other values
module _ {Z Y : Type 0} {end : ℕ} {ok : Type 0} {make : Z → Y} {spell : Z → List Token → List Token}
    {Within : Z → List Token → Type 0} {May : List Token → Type 0} {low one : List Lexeme → Read Y}
    (row : Row end ok make spell Within May low one) where
  pub as_seen : Seen end ok make spell Within May low one
  as_seen = record { laws = row.laws; looks = row.looks }

  pub given : {also : Type 0} → (also → ok) → Row end also make spell Within May low one
  given known = record { laws = row.laws; looks = λ so. row.looks (known so); sample = λ so. row.sample (known so) }

  pub narrow : {Then : List Token → Type 0} → ((more : List Token) → Then more → May more)
      → Row end ok make spell Within Then low one
  narrow less = record {
    laws = record {
      takes = row.laws.takes;
      again = λ ls z more within may h. row.laws.again ls z more within (less more may) h;
      no_gap = row.laws.no_gap;
    };
    looks = λ so. looks_same less (λ ls. refl) (λ ls. refl) (row.looks so);
    sample = λ so. fills_as less (λ ts rest y e may. refl) (row.sample so);
  }

  pub same_row : {low_too one_too : List Lexeme → Read Y} → ((ls : List Lexeme) → low_too ls ≡ low ls)
      → ((ls : List Lexeme) → one_too ls ≡ one ls) → Row end ok make spell Within May low_too one_too
  same_row low_same same = record {
    laws = record {
      takes = λ ls y rest h. row.laws.takes ls y rest (sym (same ls) ∙ h);
      again = λ ls z more within may h. let a = row.laws.again ls z more within may h in (a.0, same ls ∙ a.1, a.2);
      no_gap = row.laws.no_gap;
    };
    looks = λ so. looks_same (λ more may. may) low_same same (row.looks so);
    sample = λ so. fills_as (λ more may. may) (λ ts rest y e may. same ts) (row.sample so);
  }

  pub recast : {W : Type 0} {other : W → Y} {spell_other : W → List Token → List Token}
      {Other : W → List Token → Type 0}
      → ((z : Z) (more : List Token) → Within z more → As make spell other spell_other Other z more)
      → ((w : W) (more : List Token) → Other w more → As other spell_other make spell Within w more)
      → Row end ok other spell_other Other May low one
  recast there back = record {
    laws = record {
      takes = λ ls y rest h.
          let t = row.laws.takes ls y rest h in
          let w = there t.0 (kinds rest) t.2 in
          (w.0, w.1 ∙ t.1, w.2, t.3 ∙ sym w.3);
      again = λ ls w more within may h.
          let z = back w more within in
          let a = row.laws.again ls z.0 more z.2 may (h ∙ sym z.3) in
          (a.0, subst (λ (v : Y). one ls ≡ Ok (v, a.0)) z.1 a.1, a.2);
      no_gap = λ w more within.
          let z = back w more within in
          subst (λ (ts : List Token). length more ≤ length ts) z.3 (row.laws.no_gap z.0 more z.2);
    };
    looks = row.looks;
    sample = row.sample;
  }

  -- the values as the parts of what is read
  pub reads : {spell_made : Y → List Token → List Token} {Made : Y → Type 0}
      → ((z : Z) (more : List Token) → Within z more → Made (make z) × (spell z more ≡ spell_made (make z) more))
      → ((y : Y) (more : List Token) → Made y → (z : Z) × (make z ≡ y) × Within z more)
      → Reader end ok spell_made Made May low one
  reads {spell_made = spell_made} back parts =
      recast (λ z more within. let is = back z more within in (make z, refl, is.0, sym is.1))
      (λ y more within.
      let p = parts y more within in
      (p.0, p.1, p.2, (back p.0 more p.2).1 ∙ ap (λ (v : Y). spell_made v more) p.1))

  -- the same where it may have many spellings
  pub reads_by : {Spells : Y → List Token → List Token → Type 0}
      → ((z : Z) (more : List Token) → Within z more → Spells (make z) (spell z more) more)
      → ((y : Y) (tokens more : List Token) → Spells y tokens more
      → (z : Z) × (make z ≡ y) × Within z more × (spell z more ≡ tokens))
      → ReaderBy end ok Spells May low one
  reads_by back parts =
      recast (λ z more within. ((make z, spell z more), refl, back z more within, refl))
      (λ y more within. parts y.0 y.1 more within)

-- a step that reads a value, and the others behind it
module _ {A X Z Y : Type 0} {end : ℕ} {ok : Type 0} {make_first : A → X} {spell_first : A → List Token → List Token}
    {First : A → List Token → Type 0} {MayFirst : List Token → Type 0} {low_first first : List Lexeme → Read X}
    {make : X → Z → Y}
    {spell : Z → List Token → List Token} {Within : X → Z → List Token → Type 0} {May : List Token → Type 0}
    {low one : X → List Lexeme → Read Y} (head : Row end ok make_first spell_first First MayFirst low_first first) where
  -- by what leads on from where the first one refuses
  pub bind_by : ((x : X) → Seen end ok (make x) spell (Within x) May (low x) (one x))
      → ((x : X) (z : Z) (more : List Token) → Within x z more → May more → MayFirst (spell z more))
      → (Meets MayFirst May one → ok → (before : List Lexeme) → Fills MayFirst (λ ts. first (before ++ ts))
      → Fills May (λ ts. and_then (first (before ++ ts)) (λ x. one x.0 x.1))) → Row {Z = A × Z} end ok
      (λ z. make (make_first z.0) z.1)
      (λ z more. spell_first z.0 (spell z.1 more))
      (λ z more. First z.0 (spell z.1 more) × Within (make_first z.0) z.1 more) May
      (λ ls. and_then (low_first ls) (λ x. low x.0 x.1)) (λ ls. and_then (first ls) (λ x. one x.0 x.1))
  bind_by then follows leads = record {
    laws = record {
      takes = λ ls y rest h.
          let b = bind_ok (first ls) (λ (x : X × List Lexeme). one x.0 x.1) (y, rest) h in
          let f = head.laws.takes ls b.0.0 b.0.1 b.1 in
          let m = (then b.0.0).laws.takes b.0.1 y rest b.2 in (
            (f.0, m.0),
            ap (λ (x : X). make x m.0) f.1 ∙ m.1,
            (subst (First f.0) m.3 f.2, subst (λ (x : X). Within x m.0 (kinds rest)) (sym f.1) m.2),
            f.3 ∙ ap (spell_first f.0) m.3,
          );
      again = λ ls z more within may h.
          let x = make_first z.0 in
          let f = head.laws.again ls z.0 (spell z.1 more) within.0 (follows x z.1 more within.1 may) h in
          let m = (then x).laws.again f.0 z.1 more within.1 may f.2 in
          (m.0, bound (first ls) (x, f.0) (λ (x : X × List Lexeme). one x.0 x.1) (Ok (make x z.1, m.0)) f.1 m.1, m.2);
      no_gap = λ z more within.
          omega (
            arith,
            head.laws.no_gap z.0 (spell z.1 more) within.0,
            (then (make_first z.0)).laws.no_gap z.1 more within.1,
          );
    };
    looks = λ so. bind_looks meets (leads meets so) (head.looks so) (λ x. (then x).looks so);
    sample = λ so. leads meets so [] (head.sample so);
  } where
    meets : Meets MayFirst May one
    meets x ts rest y e may =
        let t = (then x).laws.takes ts y rest e in
        subst MayFirst (sym t.3) (follows x t.0 (kinds rest) t.2 may)

  -- by tokens that the others read
  pub bind : ((x : X) → Row end ok (make x) spell (Within x) May (low x) (one x))
      → ((x : X) (z : Z) (more : List Token) → Within x z more → May more → MayFirst (spell z more)) → Row
      {Z = A × Z} end ok (λ z. make (make_first z.0) z.1)
      (λ z more. spell_first z.0 (spell z.1 more))
      (λ z more. First z.0 (spell z.1 more) × Within (make_first z.0) z.1 more) May
      (λ ls. and_then (low_first ls) (λ x. low x.0 x.1)) (λ ls. and_then (first ls) (λ x. one x.0 x.1))
  bind then follows =
      bind_by (λ x. as_seen (then x)) follows
      (λ meets so before f. bind_fills (λ ts. first (before ++ ts)) one meets f ((then f.value).sample so))

-- the same where anything may stand behind its value
pub value : {A X Z Y : Type 0} {end : ℕ} {ok : Type 0} {make_first : A → X} {spell_first : A → List Token → List Token}
    {First : A → List Token → Type 0} {low_first first : List Lexeme → Read X} {make : X → Z → Y}
    {spell : Z → List Token → List Token} {Within : Z → List Token → Type 0} {May : List Token → Type 0}
    {low one : X → List Lexeme → Read Y}
    → Row end ok make_first spell_first First Anything low_first first
    → ((x : X) → Row end ok (make x) spell Within May (low x) (one x))
    → Row {Z = A × Z} end ok (λ z. make (make_first z.0) z.1) (λ z more. spell_first z.0 (spell z.1 more))
    (λ z more. First z.0 (spell z.1 more) × Within z.1 more) May
    (λ ls. and_then (low_first ls) (λ x. low x.0 x.1)) (λ ls. and_then (first ls) (λ x. one x.0 x.1))
value head then = bind head then (λ x z more within may. tt)

-- what is made of the value of one reader
pub mapped : {Z X Y : Type 0} {end : ℕ} {ok : Type 0} {make : Z → X} {spell : Z → List Token → List Token}
    {Within : Z → List Token → Type 0}
    {MayFirst May : List Token → Type 0} {low one : List Lexeme → Read X} (to : X → Y)
    → Row end ok make spell Within MayFirst low one
    → ((more : List Token) → May more → MayFirst more)
    → Row end ok (λ z. to (make z)) spell Within May (λ ls. and_then (low ls) (λ x. Ok (to x.0, x.1)))
    (λ ls. and_then (one ls) (λ x. Ok (to x.0, x.1)))
mapped to row follows =
    recast (bind row (λ x. done (to x)) (λ x z more within may. follows more may))
    (λ z more within. (z.0, refl, within.0, refl)) (λ z more within. ((z, tt), refl, (within, tt), refl))

-- ---- one token

token_looks : {A : Type 0} (end start : ℕ) (found : Option A)
    → Starts end (Unit {0}) Anything start (λ ls. or_fault_at start ls found) (λ ls. or_fault_at start ls found)
token_looks end start (Some x) = inl (λ so. done_looks x)
token_looks end start None = inr (λ ls. (refl, refl))

-- a token that stands for something, as for this
pub a_token : {A : Type 0} {Within : A → Type 0} {ok : Type 0} (s : Scope) (what : Token → Option A)
    (spelled : A → Token)
    → ((t : Token) (x : A) → what t ≡ Some x → (t ≡ spelled x) × Within x)
    → ((x : A) → Within x → what (spelled x) ≡ Some x) → (x : A) → Within x
    → Reader s.end ok (λ x more. spelled x ∷ more) Within Anything (read_as what (lower s)) (read_as what s)
unfolding read_as
a_token {A} {Within} s what spelled means found x within = record {
  laws = record {
    takes = λ ls x rest h.
        let b = bind_ok (next s ls) (λ (l : Lexeme × List Lexeme). or_fault_at l.0.start l.1 (what l.0.token)) (x, rest) h in
        let f = found_is (what b.0.0.token) b.0.0.start b.0.1 x rest b.2 in
        let is = means b.0.0.token x f.0 in (
          x,
          refl,
          is.1,
          ap kinds (next_takes s ls b.0.0 b.0.1 b.1) ∙ ap (λ (t : Token). t ∷ kinds b.0.1) is.0
              ∙ ap (λ (r : List Lexeme). spelled x ∷ kinds r) f.1,
        );
    again = again;
    no_gap = λ x more within. omega arith;
  };
  looks = λ so. first_reads s from this from (Unit {0}) tt (λ l. token_looks s.end l.start (what l.token));
  sample = λ so. this;
} where
  from : Lexeme → List Lexeme → Read A
  from l ls = or_fault_at l.start ls (what l.token)

  this : Fills Anything (by_first s from)
  this = start_fills s from (record { token = spelled x; start = 0 })
      (record { fill = []; value = x; reads = λ other may. rw (found x within) refl })

  again : (ls : List Lexeme) (x : A) (more : List Token) → Within x → Anything more → kinds ls ≡ spelled x ∷ more
      → (rest : List Lexeme)
      × (and_then (next s ls) (λ l. or_fault_at l.0.start l.1 (what l.0.token)) ≡ Ok (x, rest)) × (kinds rest ≡ more)
  again [] x more within may h = absurd cc
  again (l ∷ ls) x more within may h =
      let is = ap what (kind_of l ls (spelled x) more h) ∙ found x within in (
        ls,
        bound (next s (l ∷ ls)) (l, ls) (λ (k : Lexeme × List Lexeme). or_fault_at k.0.start k.1 (what k.0.token))
            (Ok (x, ls)) (next_again s l ls) (rw is refl),
        kinds_of l ls (spelled x) more h,
      )

-- ---- a step, which passes tokens and reads no value

-- a step as a reader
abbrev pub stepped : (List Lexeme → Result (List Lexeme) GrammarFault) → List Lexeme → Read (Unit {0})
stepped step ls = and_then (step ls) (λ rest. Ok (tt, rest))

-- tokens that stand so in front of others, by their step and one with a level less
pub record Step (end : ℕ) (ok : Type 0) (spell : List Token → List Token)
    (low step : List Lexeme → Result (List Lexeme) GrammarFault) : Type 0 where
  pub row : Row {Z = Unit {0}} end ok (λ u. u) (λ u more. spell more) (λ u more. Unit {0}) Anything (stepped low)
      (stepped step)

pub behind_step : {Y : Type 0} (r : Result (List Lexeme) GrammarFault) (one : List Lexeme → Read Y)
    → and_then r one ≡ and_then (and_then {B = Unit {0} × List Lexeme} r (λ rest. Ok (tt, rest))) (λ x. one x.1)
unfolding and_then
behind_step (Ok rest) one = refl
behind_step (Err e) one = refl

-- a step, and a chain behind it
pub behind : {Z Y : Type 0} {end : ℕ} {ok : Type 0} {make : Z → Y} {spell : Z → List Token → List Token}
    {Within : Z → List Token → Type 0} {May : List Token → Type 0} {before : List Token → List Token}
    {low_step step : List Lexeme → Result (List Lexeme) GrammarFault} {low one : List Lexeme → Read Y}
    → Step end ok before low_step step → Row end ok make spell Within May low one
    → Row end ok make (λ z more. before (spell z more)) Within May (λ ls. and_then (low_step ls) low)
    (λ ls. and_then (step ls) one)
behind {low_step = low_step} {step} {low} {one} first then =
    same_row (recast (value first.row (λ u. then)) (λ z more within. (z.1, refl, within.1, refl))
    (λ w more within. ((tt, w), refl, (tt, within), refl))) (λ ls. behind_step (low_step ls) low)
    (λ ls. behind_step (step ls) one)

two_steps : (r : Result (List Lexeme) GrammarFault) (next : List Lexeme → Result (List Lexeme) GrammarFault)
    → and_then {B = Unit {0} × List Lexeme} (and_then r next) (λ rest. Ok (tt, rest)) ≡ and_then r (stepped next)
unfolding and_then
two_steps (Ok rest) next = refl
two_steps (Err e) next = refl

pub passes_on : {end : ℕ} {ok : Type 0} {spell_first spell_next : List Token → List Token}
    {low_first low_next first next : List Lexeme → Result (List Lexeme) GrammarFault}
    → Step end ok spell_first low_first first
    → Step end ok spell_next low_next next
    → Step end ok (λ more. spell_first (spell_next more)) (λ ls. and_then (low_first ls) low_next)
    (λ ls. and_then (first ls) next)
passes_on {low_first = low_first} {low_next} {first} {next} a b =
    record {
      row = same_row (behind a b.row) (λ ls. two_steps (low_first ls) low_next)
          (λ ls. two_steps (first ls) next);
    }

pub no_step : {end : ℕ} {ok : Type 0} → Step end ok (λ more. more) (λ ls. Ok ls) (λ ls. Ok ls)
unfolding and_then
no_step = record { row = same_row (done tt) (λ ls. refl) (λ ls. refl) }

-- the step that passes one token
passed_by : (goes : Token → Bool) (t : Token) → ((u : Token) → goes u ≡ true → u ≡ t) → (u : Token) (b : Bool) → goes u
    ≡ b
    → (x : Unit {0}) → cond b (Some tt) None ≡ Some x → (u ≡ t) × Free x
passed_by goes t only u true e x h = (only u e, tt)
passed_by goes t only u false e x h = absurd cc

by_goes : (b : Bool) (start : ℕ) (ls : List Lexeme)
    → and_then {B = Unit {0} × List Lexeme} (cond b (Ok ls) (Err (fault.Grammar start))) (λ rest. Ok (tt, rest))
    ≡ or_fault_at start ls (cond b (Some tt) None)
unfolding and_then
by_goes true start ls = refl
by_goes false start ls = refl

module _ (s : Scope) (goes : Token → Bool) where
  abbrev step_by : List Lexeme → Result (List Lexeme) GrammarFault
  step_by ls = and_then (next s ls) (λ x. cond (goes x.0.token) (Ok x.1) (Err (fault.Grammar x.0.start)))

  step_is : (ls : List Lexeme) → stepped step_by ls ≡ read_as (λ u. cond (goes u) (Some tt) None) s ls
  unfolding next read_as and_then
  step_is [] = refl
  step_is (l ∷ ls) = by_goes (goes l.token) l.start ls

passes : {ok : Type 0} (s : Scope) (goes : Token → Bool) (t : Token) → ((u : Token) → goes u ≡ true → u ≡ t) → goes t
    ≡ true
    → Step s.end ok (λ more. t ∷ more) (step_by (lower s) goes) (step_by s goes)
passes s goes t only here = record {
  row = same_row (a_token s (λ u. cond (goes u) (Some tt) None) (λ x. t)
      (λ u x h. passed_by goes t only u (goes u) refl x h)
      (λ x free. rw here refl) tt tt) (step_is (lower s) goes) (step_is s goes);
}

pub this_mark : {ok : Type 0} (s : Scope) (m : Mark) → Step s.end ok (λ more. token.Mark m ∷ more) (mark (lower s) m)
    (mark s m)
unfolding mark
this_mark s m = passes s (is_mark m) (token.Mark m) (is_mark_true m) (is_mark_same m)

pub this_keyword : {ok : Type 0} (s : Scope) (k : Keyword)
    → Step s.end ok (λ more. token.Keyword k ∷ more) (keyword (lower s) k) (keyword s k)
unfolding keyword
this_keyword s k = passes s (is_keyword k) (token.Keyword k) (is_keyword_true k) (is_keyword_same k)

pub this_two : {ok : Type 0} (s : Scope) → Step s.end ok (λ more. token.Number 2 ∷ more) (two (lower s)) (two s)
unfolding two
this_two s = passes s is_number_two (token.Number 2) is_two_true refl

-- ---- choices

-- a value of one kind or of another
abbrev pub either : {A B C : Type 0} → (A → C) → (B → C) → A ⊎ B → C
either f g (inl x) = f x
either f g (inr y) = g y

abbrev pub spell_either : {A B : Type 0} → (A → List Token → List Token) → (B → List Token → List Token) → A ⊎ B
    → List Token → List Token
spell_either f g (inl x) more = f x more
spell_either f g (inr y) more = g y more

abbrev pub Either : {A B : Type 0} → (A → List Token → Type 0) → (B → List Token → Type 0) → A ⊎ B → List Token → Type 0
Either P Q (inl x) more = P x more
Either P Q (inr y) more = Q y more

no_test : {A : Type 0} (b : Bool) (x y z : A) → b ≡ false → y ≡ z → cond b x y ≡ z
no_test b x y z h e = rw h e

test : {A : Type 0} (b : Bool) (x y z : A) → b ≡ true → x ≡ z → cond b x y ≡ z
test b x y z h e = rw h e

-- One reader or another, by a test. What holds of the values may tell what the test found.
pub choose : {Z W Y : Type 0} {end : ℕ} {ok : Type 0} (picks : List Lexeme → Bool) (looking : Looking picks)
    {make_one : Z → Y} {spell_one : Z → List Token → List Token} {One : Z → List Token → Type 0}
    {low_one one : List Lexeme → Read Y} {make_other : W → Y} {spell_other : W → List Token → List Token}
    {Other : W → List Token → Type 0} {low_other other : List Lexeme → Read Y} {May : List Token → Type 0}
    (First : Z → List Token → Type 0) (Second : W → List Token → Type 0)
    → Seen end ok make_one spell_one One May low_one one → Seen end ok make_other spell_other Other May low_other other
    → ((ls : List Lexeme) (z : Z) (more : List Token) → picks ls ≡ true → kinds ls ≡ spell_one z more → One z more
    → First z more)
    → ((ls : List Lexeme) (w : W) (more : List Token) → picks ls ≡ false → kinds ls ≡ spell_other w more → Other w more
    → Second w more)
    → ((ls : List Lexeme) (z : Z) (more : List Token) → kinds ls ≡ spell_one z more → First z more → May more
    → (picks ls ≡ true) × One z more)
    → ((ls : List Lexeme) (w : W) (more : List Token) → kinds ls ≡ spell_other w more → Second w more → May more
    → (picks ls ≡ false) × Other w more)
    → ((z : Z) (more : List Token) → First z more → One z more)
    → ((w : W) (more : List Token) → Second w more → Other w more)
    → ((ls ts : List Lexeme) (z : Z) (more : List Token) → picks ls ≡ true → kinds ts ≡ spell_one z more → One z more
    → May more → picks ts ≡ true)
    → ((ls ts : List Lexeme) (w : W) (more : List Token) → picks ls ≡ false → kinds ts ≡ spell_other w more
    → Other w more → May more → picks ts ≡ false)
    → Seen end ok (either make_one make_other) (spell_either spell_one spell_other) (Either First Second) May
    (λ ls. cond (picks ls) (low_one ls) (low_other ls)) (λ ls. cond (picks ls) (one ls) (other ls))
choose {Z} {W} {Y} {end} {ok} picks looking {make_one} {spell_one} {One} {low_one} {one} {make_other} {spell_other}
    {Other}
    {low_other} {other} {May} First Second first second picked passed pick pass as_one as_other picks_on passes_on = record {
      laws = record {
        takes = λ ls y rest h.
            by_test (picks ls) (one ls) (other ls) (Ok (y, rest)) h
            (λ b e. let t = first.laws.takes ls y rest e in (inl t.0, t.1, picked ls t.0 (kinds rest) b t.3 t.2, t.3))
            (λ b e. let t = second.laws.takes ls y rest e in (inr t.0, t.1, passed ls t.0 (kinds rest) b t.3 t.2, t.3));
        again = λ ls z more within may h. chosen ls more may z within h;
        no_gap = λ z more within. gapless more z within;
      };
      looks = λ so. pick_looks picks looking (first.looks so) (second.looks so)
          (λ ls ts rest y b e may. let t = first.laws.takes ts y rest e in picks_on ls ts t.0
          (kinds rest) b t.3 t.2 may)
          (λ ls ts rest y b e may. let t = second.laws.takes ts y rest e in passes_on ls ts t.0
          (kinds rest) b t.3 t.2 may);
    } where
      chosen : (ls : List Lexeme) (more : List Token) → May more → (z : Z ⊎ W) → Either First Second z more
          → kinds ls ≡ spell_either spell_one spell_other z more → (rest : List Lexeme)
          × (cond (picks ls) (one ls) (other ls) ≡ Ok (either make_one make_other z, rest)) × (kinds rest ≡ more)
      chosen ls more may (inl z) within h =
          let at = pick ls z more h within may in
          let a = first.laws.again ls z more at.1 may h in
          (a.0, test (picks ls) (one ls) (other ls) (Ok (make_one z, a.0)) at.0 a.1, a.2)
      chosen ls more may (inr w) within h =
          let at = pass ls w more h within may in
          let a = second.laws.again ls w more at.1 may h in
          (a.0, no_test (picks ls) (one ls) (other ls) (Ok (make_other w, a.0)) at.0 a.1, a.2)

      gapless : (more : List Token) (z : Z ⊎ W) → Either First Second z more
          → length more ≤ length (spell_either spell_one spell_other z more)
      gapless more (inl z) within = first.laws.no_gap z more (as_one z more within)
      gapless more (inr w) within = second.laws.no_gap w more (as_other w more within)

-- the same by the token at the front
module _ {Z W Y : Type 0} {end : ℕ} {ok : Type 0} (goes : Token → Bool) {make_one : Z → Y}
    {spell_one : Z → List Token → List Token}
    {One : Z → List Token → Type 0} {low_one one : List Lexeme → Read Y} {make_other : W → Y}
    {spell_other : W → List Token → List Token} {Other : W → List Token → Type 0}
    {low_other other : List Lexeme → Read Y}
    {May : List Token → Type 0} (first : Seen end ok make_one spell_one One May low_one one)
    (second : Seen end ok make_other spell_other Other May low_other other)
    (at_one : (z : Z) (more : List Token) → One z more → May more → begins goes (spell_one z more) ≡ true)
    (at_other : (w : W) (more : List Token) → Other w more → May more → begins goes (spell_other w more) ≡ false) where
  begun : (ls : List Lexeme) (z : Z) (more : List Token) → kinds ls ≡ spell_one z more → One z more → May more
      → first_is goes ls ≡ true
  begun ls z more h is may = first_begins goes ls ∙ ap (begins goes) h ∙ at_one z more is may

  missed : (ls : List Lexeme) (w : W) (more : List Token) → kinds ls ≡ spell_other w more → Other w more → May more
      → first_is goes ls ≡ false
  missed ls w more h is may = first_begins goes ls ∙ ap (begins goes) h ∙ at_other w more is may

  pub choice_seen : Seen end ok (either make_one make_other) (spell_either spell_one spell_other) (Either One Other) May
      (λ ls. cond (first_is goes ls) (low_one ls) (low_other ls)) (λ ls. cond (first_is goes ls) (one ls) (other ls))
  choice_seen =
      choose (first_is goes) (first_looks goes) One Other first second (λ ls z more b h is. is) (λ ls w more b h is. is)
      (λ ls z more h is may. (begun ls z more h is may, is)) (λ ls w more h is may. (missed ls w more h is may, is))
      (λ z more is. is) (λ w more is. is) (λ ls ts z more b h is may. begun ts z more h is may)
      (λ ls ts w more b h is may. missed ts w more h is may)

  -- what the second one reads
  pub passed_fills : Fills May other → Fills May (λ ls. cond (first_is goes ls) (one ls) (other ls))
  passed_fills f = fills_as (λ more may. may) (λ ts rest y e may.
      let t = second.laws.takes ts y rest e in
      no_test (first_is goes ts) (one ts) (other ts) (other ts) (missed ts t.0 (kinds rest) t.3 t.2 may) refl) f

pub choice : {Z W Y : Type 0} {end : ℕ} {ok : Type 0} (goes : Token → Bool) {make_one : Z → Y}
    {spell_one : Z → List Token → List Token}
    {One : Z → List Token → Type 0} {low_one one : List Lexeme → Read Y} {make_other : W → Y}
    {spell_other : W → List Token → List Token} {Other : W → List Token → Type 0}
    {low_other other : List Lexeme → Read Y}
    {May : List Token → Type 0}
    → Seen end ok make_one spell_one One May low_one one → Row end ok make_other spell_other Other May low_other other
    → ((z : Z) (more : List Token) → One z more → May more → begins goes (spell_one z more) ≡ true)
    → ((w : W) (more : List Token) → Other w more → May more → begins goes (spell_other w more) ≡ false)
    → Row end ok (either make_one make_other) (spell_either spell_one spell_other) (Either One Other) May
    (λ ls. cond (first_is goes ls) (low_one ls) (low_other ls)) (λ ls. cond (first_is goes ls) (one ls) (other ls))
choice goes first second at_one at_other =
    sampled (choice_seen goes first (as_seen second) at_one at_other)
    (λ so. passed_fills goes first (as_seen second) at_one at_other (second.sample so))

guarded_look : {Y : Type 0} {end : ℕ} {May : List Token → Type 0} {low one : List Lexeme → Read Y} (p : ℕ) (b d : Bool)
    → (b ≡ false → d ≡ false) → Looks end May low one
    → Looks end May (λ ls. cond b (Err (fault.TooDeep p)) (low ls)) (λ ls. cond d (Err (fault.TooDeep p)) (one ls))
guarded_look p true d less looks = deep_looks _
guarded_look p false false less looks = looks
guarded_look p false true less looks =
    let no : true ≡ false = less refl in
    absurd cc

-- a reader behind a test that must fail, and fails of the deeper one if it fails of the other
pub guarded : {Z Y : Type 0} {end : ℕ} {ok : Type 0} (stops_low stops : Bool) (process : ℕ) →
    (ok → stops_low ≡ false → stops ≡ false)
    → {make : Z → Y} {spell : Z → List Token → List Token} {Within : Z → List Token → Type 0}
    {May : List Token → Type 0}
    {low one : List Lexeme → Read Y} → Row end ok make spell Within May low one
    → Seen end ok make spell (λ z more. (stops ≡ false) × Within z more) May
    (λ ls. cond stops_low (Err (fault.TooDeep process)) (low ls))
    (λ ls. cond stops (Err (fault.TooDeep process)) (one ls))
guarded {Y = Y} stops_low stops process less {make} {one = one} row = record {
  laws = record {
    takes = λ ls y rest h.
        by_test stops (Err (fault.TooDeep process)) (one ls) (Ok (y, rest)) h
        (λ _ k. absurd (no_value {A = Y × List Lexeme} (fault.TooDeep process) (y, rest) k)) (λ b k. let t = row.laws.takes ls y rest k in (t.0, t.1, (b, t.2), t.3));
    again = λ ls z more within may h.
        let a = row.laws.again ls z more within.1 may h in
        (a.0, no_test stops (Err (fault.TooDeep process)) (one ls) (Ok (make z, a.0)) within.0 a.1, a.2);
    no_gap = λ z more within. row.laws.no_gap z more within.1;
  };
  looks = λ so. guarded_look process stops_low stops (less so) (row.looks so);
}

-- the same, or nothing, which makes this
pub optional : {Z Y : Type 0} {end : ℕ} {ok : Type 0} (goes : Token → Bool) {make : Z → Y}
    {spell : Z → List Token → List Token}
    {Within : Z → List Token → Type 0} {May : List Token → Type 0} {low one : List Lexeme → Read Y}
    {Then : List Token → Type 0}
    → (v : Y) → Row end ok make spell Within May low one →
    ((more : List Token) → Then more → May more × Unless goes more)
    → ((z : Z) (more : List Token) → Within z more → begins goes (spell z more) ≡ true)
    → Row end ok (either make (λ (z : Unit {0}). v)) (spell_either spell (λ z more. more))
    (Either Within (λ z more. Unit {0})) Then
    (λ ls. cond (first_is goes ls) (low ls) (Ok (v, ls))) (λ ls. cond (first_is goes ls) (one ls) (Ok (v, ls)))
optional goes v row ends starts =
    choice goes (as_seen (narrow row (λ more then. (ends more then).0))) (done v)
    (λ z more within then. starts z more within)
    (λ z more within then. (ends more then).1)

-- one or more, or nothing
abbrev pub Some_of : {A : Type 0} → List A → Type 0
Some_of xs = 0 < length xs

pub maybe_some : {A Y : Type 0} {end : ℕ} {ok : Type 0} (goes : Token → Bool) {make : List A → Y}
    {spell : List A → List Token → List Token}
    {May : List Token → Type 0} {low one : List Lexeme → Read Y} {Then : List Token → Type 0}
    (spell_any : List A → List Token → List Token) → Row end ok make spell (λ xs more. Some_of xs) May low one
    → ((more : List Token) → Then more → May more × Unless goes more)
    → ((x : A) (xs : List A) (more : List Token) → begins goes (spell (x ∷ xs) more) ≡ true)
    → ((more : List Token) → spell_any [] more ≡ more)
    → ((x : A) (xs : List A) (more : List Token) → spell_any (x ∷ xs) more ≡ spell (x ∷ xs) more)
    → Row end ok make spell_any (λ xs more. Unit {0}) Then (λ ls. cond (first_is goes ls) (low ls) (Ok (make [], ls)))
    (λ ls. cond (first_is goes ls) (one ls) (Ok (make [], ls)))
maybe_some {A} {Y} {end} {ok} goes {make} {spell} {May} {low} {one} {Then} spell_any row ends starts none some =
    recast (optional goes (make []) row ends begun) there back where
      begun : (xs : List A) (more : List Token) → Some_of xs → begins goes (spell xs more) ≡ true
      begun [] more within = absurd (omega (arith, within))
      begun (x ∷ xs) more within = starts x xs more

      there : (z : List A ⊎ Unit {0}) (more : List Token) → Either (λ xs more. Some_of xs) (λ u more. Unit {0}) z more
          → As (either make (λ (u : Unit {0}). make [])) (spell_either spell (λ u more. more)) make spell_any (λ xs more. Unit {0}) z more
      there (inl []) more within = absurd (omega (arith, within))
      there (inl (x ∷ xs)) more within = (x ∷ xs, refl, tt, some x xs more)
      there (inr u) more within = ([], refl, tt, none more)

      back : (xs : List A) (more : List Token) → Unit {0}
          → As make spell_any (either make (λ (u : Unit {0}). make [])) (spell_either spell (λ u more. more))
          (Either (λ xs more. Some_of xs) (λ u more. Unit {0})) xs more
      back [] more within = (inr tt, refl, tt, sym (none more))
      back (x ∷ xs) more within = (inl (x ∷ xs), refl, omega arith, sym (some x xs more))

-- ---- by the first token

-- What is read behind this token, which begins at any byte: the token and a row spell a thing.
pub record Arm {A : Type 0} (end : ℕ) (ok : Type 0) (Spells : A → List Token → List Token → Type 0)
    (May : List Token → Type 0) (t : Token)
    (low from : ℕ → List Lexeme → Read A) : Type 1 where
  pub Value : Type 0
  pub make : Value → A
  pub spell : Value → List Token → List Token
  pub Within : Value → List Token → Type 0
  pub laws : (start : ℕ) → RowLaws make spell Within May (from start)
  pub looks : (start : ℕ) → Starts end ok May start (low start) (from start)
  pub sample : (start : ℕ) → CanStart (looks start) → ok → Fills May (from start)
  pub back : (z : Value) (more : List Token) → Within z more → Spells (make z) (t ∷ spell z more) more

-- those of all tokens, by the scope
abbrev pub Arms : {A : Type 0} → Scope → (A → List Token → List Token → Type 0) → (List Token → Type 0)
    → (Scope → Token → ℕ → List Lexeme → Read A) → Type 1
Arms s Spells May from = (t : Token) → Arm s.end (HasRoom s) Spells May t (from (lower s) t) (from s t)

abbrev pub arm : {A Z : Type 0} {end : ℕ} {ok : Type 0} {Spells : A → List Token → List Token → Type 0}
    {May : List Token → Type 0}
    {t : Token} {low from : ℕ → List Lexeme → Read A} {make : Z → A} {spell : Z → List Token → List Token}
    {Within : Z → List Token → Type 0} → ((start : ℕ) → Row end ok make spell Within May (low start) (from start))
    → ((z : Z) (more : List Token) → Within z more → Spells (make z) (t ∷ spell z more) more)
    → Arm end ok Spells May t low from
arm {A} {Z} {end} {ok} {Spells} {May} {t} {low} {from} {make} {spell} {Within} row back = record {
  Value = Z;
  make = make;
  spell = spell;
  Within = Within;
  laws = λ start. (row start).laws;
  looks = λ start. inl (row start).looks;
  sample = λ start can so. (row start).sample so;
  back = back;
}

-- no thing begins with this token
abbrev pub no_arm : {A : Type 0} {end : ℕ} {ok : Type 0} {Spells : A → List Token → List Token → Type 0}
    {May : List Token → Type 0} {t : Token}
    → Arm {A = A} end ok Spells May t (λ start ls. Err (fault.Grammar start)) (λ start ls. Err (fault.Grammar start))
no_arm {A} {end} {ok} {Spells} {May} {t} = record {
  Value = ⊥;
  make = λ z. absurd z;
  spell = λ z more. more;
  Within = λ z more. ⊥;
  laws = λ start. record {
    takes = λ ls y rest h. absurd (no_value (fault.Grammar start) (y, rest) h);
    again = λ ls z more within may h. absurd within;
    no_gap = λ z more within. absurd within;
  };
  looks = λ start. inr (λ ls. (refl, refl));
  sample = λ start can so. absurd can;
  back = λ z more within. absurd within;
}

-- the same by another spelling
abbrev pub rearm : {A : Type 0} {end : ℕ} {ok : Type 0} {Of Spells : A → List Token → List Token → Type 0}
    {May : List Token → Type 0} {t : Token}
    {low from : ℕ → List Lexeme → Read A} → Arm end ok Of May t low from
    → ((x : A) (tokens more : List Token) → Of x tokens more → Spells x tokens more) → Arm end ok Spells May t low from
rearm {t = t} a same = record {
  Value = a.Value;
  make = a.make;
  spell = a.spell;
  Within = a.Within;
  laws = a.laws;
  looks = a.looks;
  sample = a.sample;
  back = λ z more within. same (a.make z) (t ∷ a.spell z more) more (a.back z more within);
}

module _ {A : Type 0} {end : ℕ} {ok : Type 0} {Spells : A → List Token → List Token → Type 0}
    {May : List Token → Type 0}
    {low from : Token → ℕ → List Lexeme → Read A} (arms : (t : Token) → Arm end ok Spells May t (low t) (from t)) where
  -- a thing by its first token and the values behind it
  abbrev pub Begun : A → List Token → List Token → Type 0
  Begun x tokens more = (z : (t : Token) × (arms t).Value) × ((arms z.0).make z.1 ≡ x) × (arms z.0).Within z.1 more
      × (z.0 ∷ (arms z.0).spell z.1 more ≡ tokens)

  pub token_longer : ((x : A) (tokens more : List Token) → Spells x tokens more → Begun x tokens more) → (x : A)
      (tokens more : List Token) → Spells x tokens more → length more < length tokens
  token_longer parts x tokens more is =
      let p = parts x tokens more is in
      omega (arith, ap length p.3, ((arms p.0.0).laws 0).no_gap p.0.1 more p.2)

module _ {A : Type 0} {Spells : A → List Token → List Token → Type 0} {May : List Token → Type 0} {ok : Type 0}
    (s : Scope)
    {low from : Token → ℕ → List Lexeme → Read A}
    (arms : (t : Token) → Arm s.end ok Spells May t (low t) (from t)) where
  module _ (first : Token) (can : CanStart ((arms first).looks 0)) where
    this : ok → Fills May (λ ls. and_then (next s ls) (λ l. from l.0.token l.0.start l.1))
    this so = start_fills s (λ l ls. from l.token l.start ls) (record { token = first; start = 0 })
        ((arms first).sample 0 can so)

    -- by the first token and the values behind it
    pub first_token : Row {Z = (t : Token) × (arms t).Value} s.end ok (λ z. (arms z.0).make z.1)
        (λ z more. z.0 ∷ (arms z.0).spell z.1 more)
        (λ z more. (arms z.0).Within z.1 more) May
        (λ ls. and_then (next (lower s) ls) (λ l. low l.0.token l.0.start l.1))
        (λ ls. and_then (next s ls) (λ l. from l.0.token l.0.start l.1))
    first_token = record {
      laws = record {
        takes = λ ls x rest h.
            let f = bind_ok (next s ls) (λ (l : Lexeme × List Lexeme). from l.0.token l.0.start l.1) (x, rest) h in
            let r = ((arms f.0.0.token).laws f.0.0.start).takes f.0.1 x rest f.2 in (
              (f.0.0.token, r.0),
              r.1,
              r.2,
              ap kinds (next_takes s ls f.0.0 f.0.1 f.1)
                  ∙ ap (λ (ts : List Token). f.0.0.token ∷ ts) r.3,
            );
        again = again;
        no_gap = λ z more within. omega (arith, ((arms z.0).laws 0).no_gap z.1 more within);
      };
      looks = λ so. first_reads s (λ l ls. from l.token l.start ls) (this so) (λ l ls. low l.token l.start ls) ok so
          (λ l. (arms l.token).looks l.start);
      sample = this;
    } where
      again : (ls : List Lexeme) (z : (t : Token) × (arms t).Value) (more : List Token) → (arms z.0).Within z.1 more
          → May more → kinds ls ≡ z.0 ∷ (arms z.0).spell z.1 more → (rest : List Lexeme)
          × (and_then (next s ls) (λ l. from l.0.token l.0.start l.1) ≡ Ok ((arms z.0).make z.1, rest)) ×
          (kinds rest ≡ more)
      again [] z more within may h = absurd cc
      again (l ∷ ls) z more within may h =
          let behind_it = (arms z.0).spell z.1 more in
          let a = ((arms z.0).laws l.start).again ls z.1 more within may (kinds_of l ls z.0 behind_it h) in (
            a.0,
            bound (next s (l ∷ ls)) (l, ls) (λ (k : Lexeme × List Lexeme). from k.0.token k.0.start k.1)
                (Ok ((arms z.0).make z.1, a.0)) (next_again s l ls)
                (subst (λ (k : Token). from k l.start ls ≡ Ok ((arms z.0).make z.1, a.0))
                (sym (kind_of l ls z.0 behind_it h)) a.1),
            a.2,
          )

    pub by_token : ((x : A) (tokens more : List Token) → Spells x tokens more → Begun arms x tokens more)
        → ReaderBy s.end ok Spells May (λ ls. and_then (next (lower s) ls) (λ l. low l.0.token l.0.start l.1))
        (λ ls. and_then (next s ls) (λ l. from l.0.token l.0.start l.1))
    by_token parts = reads_by first_token (λ z more within. (arms z.0).back z.1 more within) parts

-- the same of things that have one spelling
abbrev pub Exactly : {A : Type 0} → (A → List Token → List Token) → (A → Type 0) → A → List Token → List Token → Type 0
Exactly spell Within x tokens more = Within x × (tokens ≡ spell x more)

pub exactly : {A : Type 0} {end : ℕ} {ok : Type 0} {spell : A → List Token → List Token} {Within : A → Type 0}
    {May : List Token → Type 0}
    {low one : List Lexeme → Read A} → ReaderBy end ok (Exactly spell Within) May low one
    → Reader end ok spell Within May low one
exactly {A} {end} {ok} {spell} {Within} row =
    recast row (λ z more within. (z.0, refl, within.0, sym within.1))
    (λ x more within. ((x, spell x more), refl, (within, refl), refl))

token_name_is : (t : Token) (x : NameBytes) → token_name t ≡ Some x → (t ≡ token.Name x) × Free x
token_name_is (token.Name y) x h = (cc, tt)
token_name_is _ x h = absurd cc

pub a_name : {ok : Type 0} (s : Scope) → Reader s.end ok spell_name Free Anything (name (lower s)) (name s)
unfolding name
a_name s = a_token s token_name token.Name token_name_is (λ x free. refl) (codes "a") tt

abbrev pub spell_number : ℕ → List Token → List Token
spell_number n more = token.Number n ∷ more

token_number_is : (t : Token) (n : ℕ) → token_number t ≡ Some n → (t ≡ token.Number n) × Free n
token_number_is (token.Number m) n h = (cc, tt)
token_number_is _ n h = absurd cc

pub a_number : {ok : Type 0} (s : Scope) → Reader s.end ok spell_number Free Anything (number (lower s)) (number s)
unfolding number
a_number s = a_token s token_number token.Number token_number_is (λ n free. refl) 1 tt

pub an_operator : {ok : Type 0} (s : Scope)
    → Reader s.end ok (λ o more. token.Mark (operator_mark o) ∷ more) IsBetween Anything (operator (lower s)) (operator s)
unfolding operator
an_operator s =
    a_token s token_operator (λ o. token.Mark (operator_mark o))
    (λ t o h. (token_operator_is t o h, token_operator_between t o h)) (λ o between. operator_back o between) op.Add refl

-- ---- one after another

-- what holds of each, with those behind it
abbrev pub EachWithin : {Z : Type 0} → (Z → List Token → List Token) → (Z → List Token → Type 0) → List Z → List Token
    → Type 0
EachWithin spell Within [] more = Unit {0}
EachWithin spell Within (z ∷ zs) more = Within z (spell_all spell zs more) × EachWithin spell Within zs more

-- a reader of one by its number, whose spelling begins as this test says, and is longer than nothing
pub record Elements {Z A : Type 0} (end : ℕ) (ok : Type 0) (goes : Token → Bool) (make : Z → A)
    (spell : Z → List Token → List Token)
    (Within : Z → List Token → Type 0) (May : List Token → Type 0) (low one : ℕ → List Lexeme → Read A) : Type 0 where
  pub laws : (i : ℕ) → Row end ok make spell Within May (low i) (one i)
  pub starts : (z : Z) (more : List Token) → Within z more → begins goes (spell z more) ≡ true
  pub longer : (z : Z) (more : List Token) → Within z more → length more < length (spell z more)
  -- another may follow, and what does not go on
  pub next : (z : Z) (more : List Token) → Within z more → May (spell z more)
  pub last : (more : List Token) → Unless goes more → May more

module _ {Z A : Type 0} {end : ℕ} {ok : Type 0} {goes : Token → Bool} {make : Z → A}
    {spell : Z → List Token → List Token}
    {Within : Z → List Token → Type 0} {May : List Token → Type 0} {low one : ℕ → List Lexeme → Read A}
    (all : Elements end ok goes make spell Within May low one) where
  -- fewer tokens are left
  pub shortens : (i : ℕ) {ls : List Lexeme} {x : A} {rest : List Lexeme} → one i ls ≡ Ok (x, rest)
      → length rest < length ls
  shortens i {ls} {x} {rest} h =
      let t = (all.laws i).laws.takes ls x rest h in
      omega (arith, all.longer t.0 (kinds rest) t.2, ap length t.3, kinds_length ls, kinds_length rest)

  abbrev Taken : List Lexeme → List A → List Lexeme → Type 0
  Taken ls xs rest = (zs : List Z) × (map make zs ≡ xs) × EachWithin spell Within zs (kinds rest)
      × (kinds ls ≡ spell_all spell zs (kinds rest))

  all_taken : (i n : ℕ) (ls : List Lexeme) (xs : List A) (rest : List Lexeme) → many goes one i n ls ≡ Ok (xs, rest)
      → Taken ls xs rest
  unfolding many
  all_taken i zero ls xs rest h =
      moved (λ (p : List A × List Lexeme). Taken ls p.0 p.1) ([], ls) (xs, rest) h ([], refl, tt, refl)
  all_taken i (suc n) ls xs rest h =
      by_test (first_is goes ls) (and_then (one i ls) (λ x. and_then {B = List A × List Lexeme}
      (many goes one (i + 1) n x.1) (λ ys. Ok (x.0 ∷ ys.0, ys.1)))) (Ok ([], ls)) (Ok (xs, rest)) h
      (λ _ e.
      let a = bind_ok _ _ _ e in
      let b = bind_ok _ _ _ a.2 in
      let f = (all.laws i).laws.takes ls a.0.0 a.0.1 a.1 in
      let r = all_taken (i + 1) n a.0.1 b.0.0 b.0.1 b.1 in
      moved (λ (p : List A × List Lexeme). Taken ls p.0 p.1) (a.0.0 ∷ b.0.0, b.0.1) (xs, rest) b.2
      (f.0 ∷ r.0, rw (f.1, r.1) refl, (subst (Within f.0) r.3 f.2, r.2), f.3 ∙ ap (spell f.0) r.3))
      (λ _ e. moved (λ (p : List A × List Lexeme). Taken ls p.0 p.1) ([], ls) (xs, rest) e ([], refl, tt, refl))

  -- what is left to read may follow
  may_follow : (zs : List Z) (more : List Token) → EachWithin spell Within zs more → Unless goes more
      → May (spell_all spell zs more)
  may_follow [] more within ends = all.last more ends
  may_follow (z ∷ zs) more within ends = all.next z (spell_all spell zs more) within.0

  stop_at : (i n : ℕ) (ls : List Lexeme) → first_is goes ls ≡ false → many goes one i n ls ≡ Ok ([], ls)
  unfolding many
  stop_at i zero ls f = refl
  stop_at i (suc n) ls f = rw f refl

  turn_at : (i n : ℕ) (ls : List Lexeme) (x : A) (xs : List A) (rest after : List Lexeme) → first_is goes ls ≡ true
      → one i ls ≡ Ok (x, rest) → many goes one (i + 1) n rest ≡ Ok (xs, after)
      → many goes one i (suc n) ls ≡ Ok (x ∷ xs, after)
  unfolding many and_then
  turn_at i n ls x xs rest after f o m = rw (f, o, m) refl

  all_again : (i n : ℕ) (ls : List Lexeme) (zs : List Z) (more : List Token) → length ls ≤ n
      → EachWithin spell Within zs more → Unless goes more → kinds ls ≡ spell_all spell zs more
      → (rest : List Lexeme) × (many goes one i n ls ≡ Ok (map make zs, rest)) × (kinds rest ≡ more)
  all_again i n ls [] more room within ends h =
      (ls, stop_at i n ls (first_begins goes ls ∙ ap (begins goes) h ∙ ends), h)
  all_again i zero ls (z ∷ zs) more room within ends h =
      absurd (omega (arith, room, all.longer z (spell_all spell zs more) within.0, ap length h, kinds_length ls))
  all_again i (suc n) ls (z ∷ zs) more room within ends h =
      let o = (all.laws i).laws.again ls z (spell_all spell zs more) within.0 (may_follow zs more within.1 ends) h in
      let less = shortens i o.1 in
      let r = all_again (i + 1) n o.0 zs more (omega (arith, less, room)) within.1 ends o.2 in (
        r.0,
        turn_at i n ls (make z) (map make zs) o.0 r.0
            (first_begins goes ls ∙ ap (begins goes) h ∙ all.starts z (spell_all spell zs more) within.0) o.1 r.1,
        r.2,
      )

  each_gapless : (zs : List Z) (more : List Token) → EachWithin spell Within zs more
      → length more ≤ length (spell_all spell zs more)
  each_gapless [] more within = omega arith
  each_gapless (z ∷ zs) more within =
      omega (arith, all.longer z (spell_all spell zs more) within.0, each_gapless zs more within.1)

  starts_here : (i : ℕ) (ls rest : List Lexeme) (x : A) → one i ls ≡ Ok (x, rest) → first_is goes ls ≡ true
  starts_here i ls rest x h =
      let t = (all.laws i).laws.takes ls x rest h in
      first_begins goes ls ∙ ap (begins goes) t.3 ∙ all.starts t.0 (kinds rest) t.2

  meets : (i : ℕ) → Meets {X = A} {Y = List A} May (Unless goes) (with_others (look.each goes one i))
  meets i x ts rest y e ends =
      let b = bind_ok (many goes one i (length ts) ts) (λ (xs : List A × List Lexeme). Ok (x ∷ xs.0, xs.1))
      (y, rest) e in
      let t = all_taken i (length ts) ts b.0.0 b.0.1 b.1 in
      subst May (sym t.3) (may_follow t.0 (kinds b.0.1) t.2
      (done_meets (Unless goes) (λ (xs : List A). x ∷ xs) b.0.0 b.0.1 rest y b.2 ends))

  pub each : (i : ℕ) → Row {Z = List Z} end ok (λ zs. map make zs) (spell_all spell) (EachWithin spell Within)
      (Unless goes)
      (λ ls. many goes low i (length ls) ls) (λ ls. many goes one i (length ls) ls)
  each i = record {
    laws = record {
      takes = λ ls xs rest h. all_taken i (length ls) ls xs rest h;
      again = λ ls zs more within may h. all_again i (length ls) ls zs more (omega arith) within may h;
      no_gap = λ zs more within. each_gapless zs more within;
    };
    looks = λ so. each_looks goes low one
        (λ k ls x rest h. shortens k (kept_too ((all.laws k).looks so) h)) (λ k ls x rest h. shortens k h)
        (λ ls ends. first_begins goes ls ∙ ends)
        (λ k ts rest xs h.
        let b = bind_ok (one k ts) _ (xs, rest) h in starts_here k ts b.0.1 b.0.0 b.1)
        meets (λ k. (all.laws k).looks so) i;
    sample = λ so. record {
      fill = [];
      value = [];
      reads = λ other ends. stop_at i (length other) other
          (first_begins goes other ∙ ends);
    };
  }

map_same : {A : Type 0} (xs : List A) → map (λ x. x) xs ≡ xs
map_same [] = refl
map_same (x ∷ xs) = ap (λ ys. x ∷ ys) (map_same xs)

module _ {A : Type 0} (spell : A → List Token → List Token) (Within : A → Type 0) where
  all_of : (xs : List A) (more : List Token) → EachWithin spell (λ x more. Within x) xs more → AllByRecursion Within xs
  all_of [] more within = tt
  all_of (x ∷ xs) more within = (within.0, all_of xs more within.1)

  of_all : (xs : List A) (more : List Token) → AllByRecursion Within xs → EachWithin spell (λ x more. Within x) xs more
  of_all [] more within = tt
  of_all (x ∷ xs) more within = (within.0, of_all xs more within.1)

-- things that have one spelling
pub each_of : {A : Type 0} {end : ℕ} {ok : Type 0} {goes : Token → Bool} {spell : A → List Token → List Token}
    {Within : A → Type 0}
    {May : List Token → Type 0} {low one : ℕ → List Lexeme → Read A} → Elements end ok goes (λ x. x) spell
    (λ x more. Within x) May low one
    → (i : ℕ) → Reader end ok (spell_all spell) (AllByRecursion Within) (Unless goes)
    (λ ls. many goes low i (length ls) ls)
    (λ ls. many goes one i (length ls) ls)
each_of {A} {end} {ok} {goes} {spell} {Within} {May} {low} {one} all i =
    reads (each all i)
    (λ xs more within. (
      subst (AllByRecursion Within) (sym (map_same xs)) (all_of spell Within xs more within),
      ap (λ ys. spell_all spell ys more) (sym (map_same xs)),
    ))
    (λ xs more within. (xs, map_same xs, of_all spell Within xs more within))

-- things that may have many
module _ {A : Type 0} (Spells : A → List Token → List Token → Type 0) (Within : A → Type 0) where
  abbrev Both : A → List Token → List Token → Type 0
  Both x tokens more = Spells x tokens more × Within x

  abbrev tokens_of : A × List Token → List Token → List Token
  tokens_of z more = z.1

  abbrev All : List A → List Token → List Token → Type 0
  All xs tokens more = SpellsAll Spells xs tokens more × AllByRecursion Within xs

  all_by : (zs : List (A × List Token)) (more : List Token)
      → EachWithin tokens_of (λ z more. Both z.0 z.1 more) zs more
      → All (map (λ z. z.0) zs) (spell_all tokens_of zs more) more
  all_by [] more within = (refl, tt)
  all_by (z ∷ zs) more within =
      let r = all_by zs more within.1 in
      ((spell_all tokens_of zs more, within.0.0, r.0), (within.0.1, r.1))

  by_all : (xs : List A) (tokens more : List Token) → SpellsAll Spells xs tokens more → AllByRecursion Within xs
      → (zs : List (A × List Token)) × (map (λ z. z.0) zs ≡ xs)
      × EachWithin tokens_of (λ z more. Both z.0 z.1 more) zs more × (spell_all tokens_of zs more ≡ tokens)
  by_all [] tokens more h within = ([], refl, tt, sym h)
  by_all (x ∷ xs) tokens more (others, first, rest) within =
      let r = by_all xs others more rest within.1 in (
        (x, tokens) ∷ r.0,
        ap (λ ys. x ∷ ys) r.1,
        ((subst (Spells x tokens) (sym r.3) first, within.0), r.2),
        refl,
      )

  pub each_by : {end : ℕ} {ok : Type 0} {goes : Token → Bool} {May : List Token → Type 0}
      {low one : ℕ → List Lexeme → Read A}
      → Elements {Z = A × List Token} end ok goes (λ z. z.0) tokens_of (λ z more. Both z.0 z.1 more) May low one
      → (i : ℕ) → ReaderBy end ok All (Unless goes) (λ ls. many goes low i (length ls) ls)
      (λ ls. many goes one i (length ls) ls)
  each_by all i = reads_by (each all i) all_by (λ xs tokens more is. by_all xs tokens more is.0 is.1)

-- ---- one or more, with commas between them

abbrev pub is_comma : Token → Bool
is_comma = is_mark mark_.Comma

module _ {A : Type 0} {ok : Type 0} {spell : A → List Token → List Token} {Within : A → Type 0}
    {low one : List Lexeme → Read A}
    (s : Scope) (row : Reader s.end ok spell Within Anything low one) where
  pub further_ones : Elements s.end ok is_comma (λ x. x) (spell_further spell) (λ x more. Within x) Anything
      (λ i. further (lower s) low) (λ i. further s one)
  unfolding further
  further_ones = record {
    laws = λ i. behind (this_mark s mark_.Comma) row;
    starts = λ x more within. refl;
    longer = λ x more within. omega (arith, row.laws.no_gap x more within);
    next = λ x more within. tt;
    last = λ more ends. tt;
  }

  pub with_commas : Reader s.end ok (spell_list spell) (λ xs. (0 < length xs) × AllByRecursion Within xs)
      (Unless is_comma)
      (separated (lower s) low) (separated s one)
  unfolding separated
  with_commas =
      reads (bind row (λ x. bind (each_of further_ones 1) (λ xs. done (x ∷ xs)) (λ x z more within may. may))
      (λ x z more within may. tt))
      (λ z more within. ((omega arith, (within.0, within.1.0)), refl))
      parts where
        parts : (xs : List A) (more : List Token) → (0 < length xs) × AllByRecursion Within xs
            → (z : A × (List A × Unit {0})) × (z.0 ∷ z.1.0 ≡ xs)
            × (Within z.0 × (AllByRecursion Within z.1.0 × Unit {0}))
        parts [] more within = absurd (omega (arith, within.0))
        parts (x ∷ xs) more within = ((x, (xs, tt)), refl, (within.1.0, (within.1.1, tt)))

pub all_free : {A : Type 0} (xs : List A) → AllByRecursion Free xs
all_free [] = tt
all_free (x ∷ xs) = (tt, all_free xs)

pub some_of : {A : Type 0} {end : ℕ} {ok : Type 0} {spell : List A → List Token → List Token}
    {May : List Token → Type 0}
    {low one : List Lexeme → Read (List A)} → Reader end ok spell
    (λ xs. (0 < length xs) × AllByRecursion Free xs) May low one
    → Reader end ok spell Some_of May low one
some_of row = reads row (λ xs more within. (within.0, refl)) (λ xs more within. (xs, refl, (within, all_free xs)))
