-- How far a reader looks, and what leads on from where it refuses. It is compared with a deeper one, which has a level
-- more: what it returned that one returns too, in front of all tokens that may follow; where it refuses a token, that
-- one does too, and reads on from there with some other tokens.
use Rattle.kpn_text_grammar.proofs.Common.{◌≡◌, ◌⊎◌, inl, inr, ℕ, zero, suc, ◌+◌, ◌-◌, ◌<◌, ◌≤◌, Bool, true, false, cond, List, [], ◌∷◌, ◌++◌, length, Option, Some, None, Ok, Err, refl, sym, ap, subst, ◌∙◌, append_assoc, arith, Lexeme, Token, Scope, fault_place, kinds}
use Rattle.kpn_text_grammar.specs.declared.fault.GrammarFault.TheVariants as fault
use Rattle.kpn_text_tokens.specs.Results.{and_then}
use Rattle.kpn_text_grammar.specs.Reading.{Read, first_is, next, many}

-- the same with a level less
abbrev pub lower : Scope → Scope
lower s = record { end = s.end; process = s.process; language = s.language; levels = s.levels - 1 }

-- the token at the front, if there is one
abbrev pub ahead : List Lexeme → Option Lexeme
ahead [] = None
ahead (l ∷ ls) = Some l

ahead_behind : (before other rest : List Lexeme) → ahead other ≡ ahead rest → ahead (before ++ other) ≡ ahead (before ++ rest)
ahead_behind [] other rest h = h
ahead_behind (l ∷ ls) other rest h = refl

-- anything may follow
abbrev pub Anything : List Token → Type 0
Anything more = Unit {0}

-- tokens that a reader reads in front of all that may follow
pub record Fills {Y : Type 0} (May : List Token → Type 0) (call : List Lexeme → Read Y) : Type 0 where
  pub fill : List Lexeme
  pub value : Y
  pub reads : (other : List Lexeme) → May (kinds other) → call (fill ++ other) ≡ Ok (value, other)

-- the tokens begin as the rest does, or may follow
abbrev pub Near : (List Token → Type 0) → (rest other : List Lexeme) → Type 0
Near May rest other = (ahead other ≡ ahead rest) ⊎ May (kinds other)

-- what was read in front of the rest is read in front of others too
pub record Keeps {Y : Type 0} (May : List Token → Type 0) (call : List Lexeme → Read Y) (ls : List Lexeme) (y : Y)
    (rest : List Lexeme) : Type 0 where
  pub before : List Lexeme
  pub whole : ls ≡ before ++ rest
  pub again : (other : List Lexeme) → Near May rest other → call (before ++ other) ≡ Ok (y, other)

-- The call refuses what stands in front of the rest, and all that begins like it. The tokens before it lead on.
pub record Refuses {Y : Type 0} (end : ℕ) (May : List Token → Type 0) (call : List Lexeme → Read Y) (ls : List Lexeme)
    (at : ℕ) : Type 0 where
  pub before : List Lexeme
  pub rest : List Lexeme
  pub whole : ls ≡ before ++ rest
  pub place : at ≡ fault_place end rest
  pub again : (other : List Lexeme) → ahead other ≡ ahead rest → call (before ++ other) ≡ Err (fault.Grammar at)
  pub leads : Fills May (λ ts. call (before ++ ts))

-- what the deeper call keeps to, by what was returned
pub data Look {Y : Type 0} (end : ℕ) (May : List Token → Type 0) (call : List Lexeme → Read Y) (ls : List Lexeme)
    : Read Y → Type 0 where
  returns : {y : Y} {rest : List Lexeme} → Keeps May call ls y rest → Look end May call ls (Ok (y, rest))
  refuses : {at : ℕ} → Refuses end May call ls at → Look end May call ls (Err (fault.Grammar at))
  forgets : Look end May call ls (Err fault.NoMemory)
  nests : {p : ℕ} → Look end May call ls (Err (fault.TooDeep p))

pub record Looks {Y : Type 0} (end : ℕ) (May : List Token → Type 0) (one deeper : List Lexeme → Read Y) : Type 0 where
  pub at : (ls : List Lexeme) → Look end May deeper ls (one ls)

-- ---- the same where another call does as this one does

module _ {Y : Type 0} {May Then : List Token → Type 0} {call other : List Lexeme → Read Y}
    (narrow : (more : List Token) → Then more → May more)
    (read : (ts rest : List Lexeme) (y : Y) → call ts ≡ Ok (y, rest) → Then (kinds rest) → other ts ≡ call ts) where
  pub fills_as : Fills May call → Fills Then other
  fills_as f = record {
    fill = f.fill;
    value = f.value;
    reads = λ ts may.
        let e = f.reads ts (narrow (kinds ts) may) in
        read (f.fill ++ ts) ts f.value e may ∙ e;
  }

pub looks_as : {Y : Type 0} {end : ℕ} {May Then : List Token → Type 0} {call other : List Lexeme → Read Y}
    {ls : List Lexeme}
    → ((more : List Token) → Then more → May more)
    → ((ts : List Lexeme) → ahead ts ≡ ahead ls → other ts ≡ call ts)
    → ((ts rest : List Lexeme) (y : Y) → call ts ≡ Ok (y, rest) → Then (kinds rest) → other ts ≡ call ts)
    → {r : Read Y} → Look end May call ls r → Look end Then other ls r
looks_as {Y} {Then = Then} {call = call} {other} {ls} narrow near read (returns {y} {rest} k) =
    returns (record { before = k.before; whole = k.whole; again = again }) where
      again : (ts : List Lexeme) → Near Then rest ts → other (k.before ++ ts) ≡ Ok (y, ts)
      again ts (inl same) =
          near (k.before ++ ts) (ahead_behind k.before ts rest same ∙ sym (ap ahead k.whole)) ∙ k.again ts (inl same)
      again ts (inr may) =
          let e = k.again ts (inr (narrow (kinds ts) may)) in
          read (k.before ++ ts) ts y e may ∙ e
looks_as {Y} {call = call} {other} {ls} narrow near read (refuses f) = refuses (record {
  before = f.before;
  rest = f.rest;
  whole = f.whole;
  place = f.place;
  again = λ ts same.
      near (f.before ++ ts) (ahead_behind f.before ts f.rest same ∙ sym (ap ahead f.whole)) ∙ f.again ts same;
  leads = fills_as narrow (λ ts rest y e may. read (f.before ++ ts) rest y e may) f.leads;
})
looks_as narrow near read forgets = forgets
looks_as narrow near read nests = nests

pub looks_same : {Y : Type 0} {end : ℕ} {May Then : List Token → Type 0} {one one_too call other : List Lexeme → Read Y}
    → ((more : List Token) → Then more → May more) → ((ls : List Lexeme) → one_too ls ≡ one ls)
    → ((ls : List Lexeme) → other ls ≡ call ls) → Looks end May one call → Looks end Then one_too other
looks_same {end = end} {Then = Then} {other = other} narrow low high looks = record {
  at = λ ls. subst (Look end Then other ls) (sym (low ls))
      (looks_as narrow (λ ts h. high ts) (λ ts rest y e may. high ts) (looks.at ls));
}

-- what was read the deeper one reads too
pub kept_too : {Y : Type 0} {end : ℕ} {May : List Token → Type 0} {one deeper : List Lexeme → Read Y}
    → Looks end May one deeper
    → {ls : List Lexeme} {y : Y} {rest : List Lexeme} → one ls ≡ Ok (y, rest) → deeper ls ≡ Ok (y, rest)
kept_too {Y} {end} {May} {one} {deeper} looks {ls} {y} {rest} h = kept
    (subst (Look end May deeper ls) h (looks.at ls)) where
      kept : Look end May deeper ls (Ok (y, rest)) → deeper ls ≡ Ok (y, rest)
      kept (returns k) = ap deeper k.whole ∙ k.again rest (inl refl)

-- ---- the end of a chain, and one reader behind another

pub done_looks : {Y : Type 0} {end : ℕ} {May : List Token → Type 0} (v : Y) → Looks end May (λ ls. Ok (v, ls))
    (λ ls. Ok (v, ls))
done_looks v =
    record { at = λ ls. returns (record { before = []; whole = refl; again = λ other near. refl }) }

pub done_fills : {Y : Type 0} {May : List Token → Type 0} (v : Y) → Fills May (λ ls. Ok (v, ls))
done_fills v = record { fill = []; value = v; reads = λ other may. refl }

pub deep_looks : {Y : Type 0} {end p : ℕ} {May : List Token → Type 0} (call : List Lexeme → Read Y)
    → Looks end May (λ ls. Err (fault.TooDeep p)) call
deep_looks call = record { at = λ ls. nests }

joined : {X Y : Type 0} (r : Read X) (x : X × List Lexeme) (one : X → List Lexeme → Read Y) (y : Read Y) → r ≡ Ok x
    → one x.0 x.1 ≡ y → and_then r (λ x. one x.0 x.1) ≡ y
unfolding and_then
joined r x one y e h = rw e h

-- one reader, and another by what the first one read
abbrev pub both : {X Y : Type 0} → (List Lexeme → Read X) → (X → List Lexeme → Read Y) → List Lexeme → Read Y
both first one ls = and_then (first ls) (λ x. one x.0 x.1)

-- the second reader reads what may stand behind the first one
abbrev pub Meets : {X Y : Type 0} → (MayFirst May : List Token → Type 0) → (X → List Lexeme → Read Y) → Type 0
Meets {X} {Y} MayFirst May one =
    (x : X) (ts rest : List Lexeme) (y : Y) → one x ts ≡ Ok (y, rest) → May (kinds rest) → MayFirst (kinds ts)

module _ {X Y : Type 0} {MayFirst May : List Token → Type 0} (first : List Lexeme → Read X)
    (one : X → List Lexeme → Read Y)
    (meets : Meets MayFirst May one) where
  pub bind_fills : (f : Fills MayFirst first) → Fills May (one f.value) → Fills May
      (λ ls. and_then (first ls) (λ x. one x.0 x.1))
  bind_fills f n = record {
    fill = f.fill ++ n.fill;
    value = n.value;
    reads = λ other may.
        let tail = n.reads other may in
        let head = f.reads (n.fill ++ other) (meets f.value (n.fill ++ other) other n.value tail may) in
        rw (append_assoc f.fill n.fill other)
        (joined (first (f.fill ++ (n.fill ++ other))) (f.value, n.fill ++ other) one (Ok (n.value, other)) head tail);
  }

module _ {X Y : Type 0} {end : ℕ} {MayFirst May : List Token → Type 0} (call : List Lexeme → Read X)
    (deeper : X → List Lexeme → Read Y) (meets : Meets MayFirst May deeper)
    (finish : (before : List Lexeme) → Fills MayFirst (λ ts. call (before ++ ts))
    → Fills May (λ ts. and_then (call (before ++ ts)) (λ x. deeper x.0 x.1))) {ls : List Lexeme} where
  behind_kept : (x : X) (mid : List Lexeme) → Keeps MayFirst call ls x mid → {r : Read Y}
      → Look end May (deeper x) mid r → Look end May (both call deeper) ls r
  behind_kept x mid k (returns {y} {rest} m) = returns (record {
    before = k.before ++ m.before;
    whole = k.whole ∙ ap (λ ts. k.before ++ ts) m.whole ∙ sym (append_assoc k.before m.before rest);
    again = λ other near.
        let tail = m.again other near in
        rw (append_assoc k.before m.before other)
        (joined (call (k.before ++ (m.before ++ other))) (x, m.before ++ other) deeper (Ok (y, other))
        (k.again (m.before ++ other) (kept other near tail)) tail);
  }) where
    kept : (other : List Lexeme) → Near May rest other → deeper x (m.before ++ other) ≡ Ok (y, other)
        → Near MayFirst mid (m.before ++ other)
    kept other (inl same) tail = inl (ahead_behind m.before other rest same ∙ ap ahead (sym m.whole))
    kept other (inr may) tail = inr (meets x (m.before ++ other) other y tail may)
  behind_kept x mid k (refuses {at} f) = refuses (record {
    before = k.before ++ f.before;
    rest = f.rest;
    whole = k.whole ∙ ap (λ ts. k.before ++ ts) f.whole ∙ sym (append_assoc k.before f.before f.rest);
    place = f.place;
    again = λ other same.
        rw (append_assoc k.before f.before other)
        (joined (call (k.before ++ (f.before ++ other))) (x, f.before ++ other) deeper (Err (fault.Grammar at))
        (k.again (f.before ++ other) (inl (ahead_behind f.before other f.rest same ∙ ap ahead (sym f.whole))))
        (f.again other same));
    leads = record {
      fill = f.leads.fill;
      value = f.leads.value;
      reads = λ other may.
          let tail = f.leads.reads other may in
          let ts = f.before ++ (f.leads.fill ++ other) in
          rw (append_assoc k.before f.before (f.leads.fill ++ other))
          (joined (call (k.before ++ ts)) (x, ts) deeper (Ok (f.leads.value, other))
          (k.again ts (inr (meets x ts other f.leads.value tail may))) tail);
    };
  })
  behind_kept x mid k forgets = forgets
  behind_kept x mid k nests = nests

  pub in_turn : (one : X → List Lexeme → Read Y) (r : Read X) → Look end MayFirst call ls r
      → ((x : X) (mid : List Lexeme) → r ≡ Ok (x, mid) → Look end May (deeper x) mid (one x mid))
      → Look end May (both call deeper) ls (and_then r (λ x. one x.0 x.1))
  unfolding and_then
  in_turn one r (returns {y} {rest} k) tail = behind_kept y rest k (tail y rest refl)
  in_turn one r (refuses {at} f) tail = refuses (record {
    before = f.before;
    rest = f.rest;
    whole = f.whole;
    place = f.place;
    again = λ other same. rw (f.again other same) refl;
    leads = finish f.before f.leads;
  })
  in_turn one r forgets tail = forgets
  in_turn one r nests tail = nests

pub bind_looks : {X Y : Type 0} {end : ℕ} {MayFirst May : List Token → Type 0} {first call : List Lexeme → Read X}
    {one deeper : X → List Lexeme → Read Y} → Meets MayFirst May deeper
    → ((before : List Lexeme) → Fills MayFirst (λ ts. call (before ++ ts))
    → Fills May (λ ts. and_then (call (before ++ ts)) (λ x. deeper x.0 x.1)))
    → Looks end MayFirst first call → ((x : X) → Looks end May (one x) (deeper x))
    → Looks end May (λ ls. and_then (first ls) (λ x. one x.0 x.1)) (λ ls. and_then (call ls) (λ x. deeper x.0 x.1))
bind_looks {first = first} {call} {one} {deeper} meets finish head tail = record {
  at = λ ls. in_turn call deeper meets finish one (first ls) (head.at ls) (λ x mid e. (tail x).at mid);
}

-- ---- choices

-- a test looks at one token at most
abbrev pub Looking : (List Lexeme → Bool) → Type 0
Looking picks = (ls other : List Lexeme) → ahead other ≡ ahead ls → picks other ≡ picks ls

pub first_looks : (goes : Token → Bool) → Looking (first_is goes)
first_looks goes [] [] h = refl
first_looks goes [] (m ∷ ms) h = absurd cc
first_looks goes (l ∷ ls) [] h = absurd cc
first_looks goes (l ∷ ls) (m ∷ ms) h =
    let same : m ≡ l = cc in
    ap (λ (k : Lexeme). goes k.token) same

-- the test finds the same of all that this call reads
abbrev pub Finds : {Y : Type 0} → (List Lexeme → Bool) → Bool → (List Token → Type 0) → (List Lexeme → Read Y) → Type 0
Finds {Y} picks b May call =
    (ls ts rest : List Lexeme) (y : Y) → picks ls ≡ b → call ts ≡ Ok (y, rest) → May (kinds rest) → picks ts ≡ b

module _ {Y : Type 0} {end : ℕ} {May : List Token → Type 0} (picks : List Lexeme → Bool)
    {one call other call_other : List Lexeme → Read Y} (looking : Looking picks) (first : Looks end May one call)
    (second : Looks end May other call_other) (found : Finds picks true May call)
    (missed : Finds picks false May call_other) where
  by_pick : (ls : List Lexeme) (b : Bool) → picks ls ≡ b
      → Look end May (λ ts. cond (picks ts) (call ts) (call_other ts)) ls (cond b (one ls) (other ls))
  by_pick ls true e = looks_as (λ more may. may) (λ ts h. rw (looking ls ts h ∙ e) refl)
      (λ ts rest y read may. rw (found ls ts rest y e read may) refl) (first.at ls)
  by_pick ls false e = looks_as (λ more may. may) (λ ts h. rw (looking ls ts h ∙ e) refl)
      (λ ts rest y read may. rw (missed ls ts rest y e read may) refl) (second.at ls)

  pub pick_looks : Looks end May (λ ls. cond (picks ls) (one ls) (other ls))
      (λ ls. cond (picks ls) (call ls) (call_other ls))
  pick_looks = record { at = λ ls. by_pick ls (picks ls) refl }

-- ---- by the first token

-- what is read behind the first token, or that token is refused
abbrev pub Starts : {Y : Type 0} → (end : ℕ) → (ok : Type 0) → (May : List Token → Type 0) → ℕ →
    (from deeper : List Lexeme → Read Y) → Type 0
Starts {Y} end ok May start from deeper =
    (ok → Looks end May from deeper)
    ⊎ ((ls : List Lexeme) → (from ls ≡ Err (fault.Grammar start)) × (deeper ls ≡ Err (fault.Grammar start)))

abbrev pub CanStart : {A B : Type 0} → A ⊎ B → Type 0
CanStart (inl x) = Unit {0}
CanStart (inr y) = ⊥

-- one token more in front of what another call reads
pub passed : {Y : Type 0} {end : ℕ} {May : List Token → Type 0} {call deeper : List Lexeme → Read Y} (l : Lexeme)
    → ((ts : List Lexeme) → call (l ∷ ts) ≡ deeper ts) → {ls : List Lexeme} {r : Read Y} → Look end May deeper ls r
    → Look end May call (l ∷ ls) r
passed l same (returns k) = returns (record {
  before = l ∷ k.before;
  whole = ap (λ ts. l ∷ ts) k.whole;
  again = λ other near. same (k.before ++ other) ∙ k.again other near;
})
passed l same (refuses f) = refuses (record {
  before = l ∷ f.before;
  rest = f.rest;
  whole = ap (λ ts. l ∷ ts) f.whole;
  place = f.place;
  again = λ other h. same (f.before ++ other) ∙ f.again other h;
  leads = record {
    fill = f.leads.fill;
    value = f.leads.value;
    reads = λ other may. same (f.before ++ (f.leads.fill ++ other)) ∙ f.leads.reads other may;
  };
})
passed l same forgets = forgets
passed l same nests = nests

abbrev pub by_first : {Y : Type 0} → Scope → (Lexeme → List Lexeme → Read Y) → List Lexeme → Read Y
by_first s from ls = and_then (next s ls) (λ l. from l.0 l.1)

module _ {Y : Type 0} (s : Scope) (deeper : Lexeme → List Lexeme → Read Y) where
  own : (l : Lexeme) → ((ls : List Lexeme) → deeper l ls ≡ Err (fault.Grammar l.start)) → (other : List Lexeme)
      → ahead other ≡ Some l → by_first s deeper other ≡ Err (fault.Grammar l.start)
  unfolding next and_then
  own l fails [] h = absurd cc
  own l fails (m ∷ ms) h =
      let same : m ≡ l = cc in
      rw same (fails ms)

  none : (other : List Lexeme) → ahead other ≡ None → by_first s deeper other ≡ Err (fault.Grammar s.end)
  unfolding next and_then
  none [] h = refl
  none (m ∷ ms) h = absurd cc

  -- by a token that can start, what is read then
  pub start_fills : {May : List Token → Type 0} (l : Lexeme) → Fills May (deeper l) → Fills May (by_first s deeper)
  unfolding next and_then
  start_fills l f = record { fill = l ∷ f.fill; value = f.value; reads = f.reads }

  module _ {May : List Token → Type 0} (sample : Fills May (by_first s deeper)) where
    pub refused : (l : Lexeme) (ls : List Lexeme) → ((ts : List Lexeme) → deeper l ts ≡ Err (fault.Grammar l.start))
        → Look s.end May (by_first s deeper) (l ∷ ls) (Err (fault.Grammar l.start))
    refused l ls fails = refuses (record {
      before = [];
      rest = l ∷ ls;
      whole = refl;
      place = refl;
      again = own l fails;
      leads = record { fill = sample.fill; value = sample.value; reads = sample.reads };
    })

    started : (from : Lexeme → List Lexeme → Read Y) (ok : Type 0) → ok → (l : Lexeme) (ls : List Lexeme)
        → Starts s.end ok May l.start (from l) (deeper l) → Look s.end May (by_first s deeper) (l ∷ ls) (from l ls)
    unfolding next and_then
    started from ok so l ls (inl looks) = passed l (λ ts. refl) ((looks so).at ls)
    started from ok so l ls (inr fails) =
        subst (λ (r : Read Y). Look s.end May (by_first s deeper) (l ∷ ls) r) (sym (fails ls).0)
        (refused l ls (λ ts. (fails ts).1))

    pub first_reads : (from : Lexeme → List Lexeme → Read Y) (ok : Type 0) → ok →
        ((l : Lexeme) → Starts s.end ok May l.start (from l) (deeper l))
        → Looks s.end May (by_first (lower s) from) (by_first s deeper)
    unfolding next and_then
    first_reads from ok so starts = record { at = at } where
      at : (ls : List Lexeme) → Look s.end May (by_first s deeper) ls (by_first (lower s) from ls)
      at [] = refuses (record {
        before = [];
        rest = [];
        whole = refl;
        place = refl;
        again = none;
        leads = record { fill = sample.fill; value = sample.value; reads = sample.reads };
      })
      at (l ∷ ls) = started from ok so l ls (starts l)

pub starts_on : {X Y : Type 0} {end start : ℕ} {ok : Type 0} {MayFirst May : List Token → Type 0}
    {first call : List Lexeme → Read X}
    {one deeper : X → List Lexeme → Read Y} → Meets MayFirst May deeper
    → ((before : List Lexeme) → Fills MayFirst (λ ts. call (before ++ ts))
    → Fills May (λ ts. and_then (call (before ++ ts)) (λ x. deeper x.0 x.1)))
    → Starts end ok MayFirst start first call → (ok → (x : X) → Looks end May (one x) (deeper x))
    → Starts end ok May start (λ ls. and_then (first ls) (λ x. one x.0 x.1))
    (λ ls. and_then (call ls) (λ x. deeper x.0 x.1))
unfolding and_then
starts_on meets finish (inl looks) tail = inl (λ so. bind_looks meets finish (looks so) (tail so))
starts_on meets finish (inr fails) tail = inr (λ ls. (rw (fails ls).0 refl, rw (fails ls).1 refl))

-- ---- one after another

-- all of them from number i on, one more in front of those that a reader reads, and one and all others
abbrev pub each : {A : Type 0} → (Token → Bool) → (ℕ → List Lexeme → Read A) → ℕ → List Lexeme → Read (List A)
each goes one i ls = many goes one i (length ls) ls

abbrev pub with_others : {A : Type 0} → (List Lexeme → Read (List A)) → A → List Lexeme → Read (List A)
with_others others x ls = and_then (others ls) (λ xs. Ok (x ∷ xs.0, xs.1))

abbrev pub turn : {A : Type 0} → (Token → Bool) → (ℕ → List Lexeme → Read A) → ℕ → List Lexeme → Read (List A)
turn goes one i ls = and_then (one i ls) (λ x. with_others (each goes one (i + 1)) x.0 x.1)

module _ {A : Type 0} (goes : Token → Bool) (one : ℕ → List Lexeme → Read A)
    (shorter : (i : ℕ) (ls : List Lexeme) (x : A) (rest : List Lexeme) → one i ls ≡ Ok (x, rest)
    → length rest < length ls) where
  same_turn : (i n : ℕ) (fuel : List Lexeme → ℕ) (ls : List Lexeme)
      → ((ts : List Lexeme) → length ts < length ls → many goes one (i + 1) n ts ≡ many goes one (i + 1) (fuel ts) ts)
      → (r : Read A) → one i ls ≡ r
      → and_then r (λ x. and_then {B = List A × List Lexeme} (many goes one (i + 1) n x.1) (λ xs. Ok (x.0 ∷ xs.0, xs.1)))
      ≡ and_then r (λ x. and_then (many goes one (i + 1) (fuel x.1) x.1) (λ xs. Ok (x.0 ∷ xs.0, xs.1)))
  unfolding and_then
  same_turn i n fuel ls same (Ok x) e =
      ap (λ (read : Read (List A)). and_then {B = List A × List Lexeme} read (λ xs. Ok (x.0 ∷ xs.0, xs.1)))
      (same x.1 (shorter i ls x.0 x.1 e))
  same_turn i n fuel ls same (Err d) e = refl

  enough : (i n m : ℕ) (ls : List Lexeme) → length ls ≤ n → length ls ≤ m → many goes one i n ls ≡ many goes one i m ls
  unfolding many
  enough i zero zero ls a b = refl
  enough i zero (suc m) [] a b = refl
  enough i (suc n) zero [] a b = refl
  enough i zero m (l ∷ ls) a b = absurd (omega (arith, a))
  enough i n zero (l ∷ ls) a b = absurd (omega (arith, b))
  enough i (suc n) (suc m) ls a b =
      ap (λ (read : Read (List A)). cond (first_is goes ls) read (Ok ([], ls)))
      (same_turn i n (λ ts. m) ls (λ ts less. enough (i + 1) n m ts (omega (arith, a, less)) (omega (arith, b, less)))
      (one i ls) refl)

  pub each_is : (i : ℕ) (ls : List Lexeme) → each goes one i ls ≡ cond (first_is goes ls) (turn goes one i ls)
      (Ok ([], ls))
  unfolding many
  each_is i [] = refl
  each_is i (l ∷ ls) =
      ap (λ (read : Read (List A)). cond (first_is goes (l ∷ ls)) read (Ok ([], l ∷ ls)))
      (same_turn i (length ls) length (l ∷ ls)
      (λ ts less. enough (i + 1) (length ls) (length ts) ts (omega (arith, less)) (omega arith)) (one i (l ∷ ls)) refl)

same_rest : {Y : Type 0} (p q : Y × List Lexeme) → ◌≡◌ {A = Read Y} (Ok p) (Ok q) → p ≡ q
same_rest p q e = cc

pub done_meets : {X Y : Type 0} (May : List Token → Type 0) (f : X → Y) → Meets May May (λ x ts. Ok (f x, ts))
done_meets May f x ts rest y e may =
    subst (λ (us : List Lexeme). May (kinds us)) (sym (ap (λ p. p.1) (same_rest (f x, ts) (y, rest) e))) may

-- the other reader may have a level more
module _ {A : Type 0} {end : ℕ} {MayOne Stops : List Token → Type 0} (goes : Token → Bool)
    (one deeper : ℕ → List Lexeme → Read A)
    (shorter : (i : ℕ) (ls : List Lexeme) (x : A) (rest : List Lexeme) → one i ls ≡ Ok (x, rest)
    → length rest < length ls)
    (shorter_too : (i : ℕ) (ls : List Lexeme) (x : A) (rest : List Lexeme) → deeper i ls ≡ Ok (x, rest)
    → length rest < length ls)
    (stops : (ls : List Lexeme) → Stops (kinds ls) → first_is goes ls ≡ false)
    (goes_on : (i : ℕ) (ts rest : List Lexeme) (xs : List A) → turn goes deeper i ts ≡ Ok (xs, rest)
    → first_is goes ts ≡ true)
    (meets : (i : ℕ) → Meets {X = A} {Y = List A} MayOne Stops (with_others (each goes deeper i)))
    (looks : (i : ℕ) → Looks end MayOne (one i) (deeper i)) where
  pub no_more : (i : ℕ) → Fills Stops (each goes deeper i)
  no_more i = record {
    fill = [];
    value = [];
    reads = λ other may. each_is goes deeper shorter_too i other ∙ rw (stops other may) refl;
  }

  finish_rest : (i : ℕ) (x : A) (before : List Lexeme) → Fills Stops (λ ts. each goes deeper i (before ++ ts))
      → Fills Stops (λ ts. with_others (each goes deeper i) x (before ++ ts))
  finish_rest i x before f =
      bind_fills (λ ts. each goes deeper i (before ++ ts)) (λ xs ts. Ok (x ∷ xs, ts))
      (done_meets Stops (λ xs. x ∷ xs)) f
      (done_fills (x ∷ f.value))

  finish_turn : (i : ℕ) (before : List Lexeme) → Fills MayOne (λ ts. deeper i (before ++ ts))
      → Fills Stops (λ ts. turn goes deeper i (before ++ ts))
  finish_turn i before f =
      bind_fills (λ ts. deeper i (before ++ ts)) (with_others (each goes deeper (i + 1))) (meets (i + 1)) f
      (finish_rest (i + 1) f.value [] (no_more (i + 1)))

  each_by : (i : ℕ) (ls : List Lexeme) → ((ts : List Lexeme) → length ts < length ls
      → Look end Stops (each goes deeper (i + 1)) ts (each goes one (i + 1) ts)) → (b : Bool) → first_is goes ls ≡ b
      → Look end Stops (each goes deeper i) ls (cond b (turn goes one i ls) (Ok ([], ls)))
  each_by i ls below false e =
      looks_as (λ more may. may) (λ ts h. each_is goes deeper shorter_too i ts ∙ rw (first_looks goes ls ts h ∙ e) refl)
      (λ ts rest y read may. each_is goes deeper shorter_too i ts
      ∙ rw (stops ts (done_meets Stops (λ (y : List A). y) [] ts rest y read may)) refl)
      ((done_looks []).at ls)
  each_by i ls below true e =
      looks_as (λ more may. may) (λ ts h. each_is goes deeper shorter_too i ts ∙ rw (first_looks goes ls ts h ∙ e) refl)
      (λ ts rest y read may. each_is goes deeper shorter_too i ts ∙ rw (goes_on i ts rest y read) refl)
      (in_turn (deeper i) (with_others (each goes deeper (i + 1))) (meets (i + 1)) (finish_turn i)
      (with_others (each goes one (i + 1))) (one i ls) ((looks i).at ls)
      (λ x mid read. in_turn (each goes deeper (i + 1)) (λ xs ts. Ok (x ∷ xs, ts)) (done_meets Stops (λ xs. x ∷ xs))
      (finish_rest (i + 1) x) (λ xs ts. Ok (x ∷ xs, ts)) (each goes one (i + 1) mid)
      (below mid (shorter i ls x mid read))
      (λ xs rest _. (done_looks (x ∷ xs)).at rest)))

  each_in : (n i : ℕ) (ls : List Lexeme) → length ls ≤ n → Look end Stops (each goes deeper i) ls (each goes one i ls)
  each_in zero i ls room = subst (Look end Stops (each goes deeper i) ls) (sym (each_is goes one shorter i ls))
      (each_by i ls (λ ts less. absurd (omega (arith, room, less))) (first_is goes ls) refl)
  each_in (suc n) i ls room = subst (Look end Stops (each goes deeper i) ls) (sym (each_is goes one shorter i ls))
      (each_by i ls (λ ts less. each_in n (i + 1) ts (omega (arith, room, less))) (first_is goes ls) refl)

  pub each_looks : (i : ℕ) → Looks end Stops (each goes one i) (each goes deeper i)
  each_looks i = record { at = λ ls. each_in (length ls) i ls (omega arith) }
