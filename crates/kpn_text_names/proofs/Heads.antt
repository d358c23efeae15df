-- The head of a process, name by name, is its names if they are distinct.
use Rattle.kpn_text_names.proofs.Common.{◌≡◌, Bool, true, false, cond, not, ◌&&◌, ◌||◌, List, [], ◌∷◌, ◌++◌, Result, Ok, Err, refl, sym, ap, ◌∙◌, append_assoc, append-nil, list_any-append, bytes_eq, NameBytes, ProcessNode, NameScope, NameFault, has, are_new, scope_with, head_scope, is_taken, with_head_name, declared_in}
use Rattle.kpn_text_names.specs.declared.scope.HeadPart.{HeadPart}
use Rattle.kpn_text_names.specs.declared.scope.HeadPart.TheVariants.{In, Out, Parameter}
use Rattle.kpn_text_names.specs.Fault.{NameError, double, each, ResolvingFails}
use Rattle.kpn_text_tokens.specs.Results.{and_then}
use Rattle.kpn_text_names.proofs.Chains.{then_ok}
use Rattle.kpn_text_names.proofs.Steps.{fails_first}

-- the three parts in turn
abbrev head_by_parts : (shared ins outs pars : List NameBytes) → Result NameScope NameError
head_by_parts shared ins outs pars =
    and_then (each (declared_in shared In) (scope_with [] [] []) ins)
    (λ s. and_then (each (declared_in shared Out) s outs) (λ t. each (declared_in shared Parameter) t pars))

-- ---- names one after the other

and_assoc : (a b c : Bool) → ((a && b) && c) ≡ (a && (b && c))
and_assoc true b c = refl
and_assoc false b c = refl

are_new-append : (before xs ys : List NameBytes)
    → are_new before (xs ++ ys) ≡ (are_new before xs && are_new (before ++ xs) ys)
are_new-append before [] ys = ap (λ l. are_new l ys) (sym (append-nil before))
are_new-append before (x ∷ xs) ys =
    ap (λ b. not (has before x) && b) (are_new-append (before ++ x ∷ []) xs ys)
    ∙ ap (λ l. not (has before x) && (are_new (before ++ x ∷ []) xs && are_new l ys))
    (append_assoc before (x ∷ []) xs)
    ∙ sym (and_assoc (not (has before x)) (are_new (before ++ x ∷ []) xs) (are_new (before ++ x ∷ xs) ys))

-- the names with one more, if it is not taken
abbrev if_taken : Bool → NameScope → Result NameScope NameError
if_taken b s = cond b (Err double) (Ok s)

-- ---- a part of the head: `at` says where the names go, and `before` what comes before them

module _ (shared : List NameBytes) (part : HeadPart) (before : List NameBytes) (at : List NameBytes → NameScope)
    (taken : (names : List NameBytes) (x : NameBytes) → is_taken shared (at names) x ≡ has (before ++ names) x)
    (put : (names : List NameBytes) (x : NameBytes) → with_head_name part (at names) x ≡ at (names ++ x ∷ [])) where
  name_then : (names xs : List NameBytes) (x : NameBytes) (b : Bool)
      → each (declared_in shared part) (at (names ++ x ∷ [])) xs
      ≡ cond (are_new (before ++ (names ++ x ∷ [])) xs) (Ok (at ((names ++ x ∷ []) ++ xs))) (Err double)
      → and_then (if_taken b (with_head_name part (at names) x)) (λ s. each (declared_in shared part) s xs)
      ≡ cond (not b && are_new ((before ++ names) ++ x ∷ []) xs) (Ok (at (names ++ x ∷ xs))) (Err double)
  unfolding and_then
  name_then names xs x true rest = refl
  name_then names xs x false rest =
      ap (λ s. each (declared_in shared part) s xs) (put names x) ∙ rest
      ∙ (λ i.
      cond (are_new (sym (append_assoc before names (x ∷ [])) i) xs) (Ok (at (append_assoc names (x ∷ []) xs i)))
      (Err double))

  part_is : (names xs : List NameBytes)
      → each (declared_in shared part) (at names) xs
      ≡ cond (are_new (before ++ names) xs) (Ok (at (names ++ xs))) (Err double)
  unfolding each
  part_is names [] = ap (λ l. Ok (at l)) (sym (append-nil names))
  part_is names (x ∷ xs) =
      ap (λ b. and_then (if_taken b (with_head_name part (at names) x)) (λ s. each (declared_in shared part) s xs))
      (taken names x)
      ∙ name_then names xs x (has (before ++ names) x) (part_is (names ++ x ∷ []) xs)

-- ---- the three parts

or_false : (b : Bool) → (b || false) ≡ b
or_false true = refl
or_false false = refl

or_assoc : (a b c : Bool) → ((a || b) || c) ≡ (a || (b || c))
or_assoc true b c = refl
or_assoc false b c = refl

-- a name is taken by these, which are known before it
has_both : (xs ys : List NameBytes) (x : NameBytes) → (has xs x || has ys x) ≡ has (xs ++ ys) x
has_both xs ys x = sym (list_any-append (bytes_eq x) xs ys)

taken_by : (shared ins outs vars : List NameBytes) (x : NameBytes)
    → is_taken shared (scope_with ins outs vars) x ≡ has (((shared ++ ins) ++ outs) ++ vars) x
taken_by shared ins outs vars x =
    ap (λ b. b || ((has ins x || has outs x) || has vars x)) (or_false (has shared x))
    ∙ sym (or_assoc (has shared x) (has ins x || has outs x) (has vars x))
    ∙ ap (λ b. b || has vars x) (sym (or_assoc (has shared x) (has ins x) (has outs x)))
    ∙ ap (λ b. (b || has outs x) || has vars x) (has_both shared ins x)
    ∙ ap (λ b. b || has vars x) (has_both (shared ++ ins) outs x) ∙ has_both ((shared ++ ins) ++ outs) vars x

ins_are : (shared ins : List NameBytes)
    → each (declared_in shared In) (scope_with [] [] []) ins
    ≡ cond (are_new shared ins) (Ok (scope_with ins [] [])) (Err double)
ins_are shared ins =
    part_is shared In shared (λ names. scope_with names [] [])
    (λ names x. taken_by shared names [] [] x
    ∙ ap (λ l. has l x) (append-nil ((shared ++ names) ++ []) ∙ append-nil (shared ++ names))) (λ names x. refl) [] ins
    ∙ ap (λ l. cond (are_new l ins) (Ok (scope_with ins [] [])) (Err double)) (append-nil shared)

outs_are : (shared ins outs : List NameBytes)
    → each (declared_in shared Out) (scope_with ins [] []) outs
    ≡ cond (are_new (shared ++ ins) outs) (Ok (scope_with ins outs [])) (Err double)
outs_are shared ins outs =
    part_is shared Out (shared ++ ins) (λ names. scope_with ins names [])
    (λ names x. taken_by shared ins names [] x ∙ ap (λ l. has l x) (append-nil ((shared ++ ins) ++ names)))
    (λ names x. refl) [] outs
    ∙ ap (λ l. cond (are_new l outs) (Ok (scope_with ins outs [])) (Err double)) (append-nil (shared ++ ins))

pars_are : (shared ins outs pars : List NameBytes)
    → each (declared_in shared Parameter) (scope_with ins outs []) pars
    ≡ cond (are_new ((shared ++ ins) ++ outs) pars) (Ok (scope_with ins outs pars)) (Err double)
pars_are shared ins outs pars =
    part_is shared Parameter ((shared ++ ins) ++ outs) (λ names. scope_with ins outs names)
    (λ names x. taken_by shared ins outs names x) (λ names x. refl) [] pars
    ∙ ap (λ l. cond (are_new l pars) (Ok (scope_with ins outs pars)) (Err double))
    (append-nil ((shared ++ ins) ++ outs))

then_where : {A B : Type 0} (b : Bool) (s : A) (next : A → Result B NameError)
    → and_then (cond b (Ok s) (Err double)) next ≡ cond b (next s) (Err double)
unfolding and_then
then_where true s next = refl
then_where false s next = refl

all_three : {A : Type 0} (a b c : Bool) (r e : A) → cond a (cond b (cond c r e) e) e ≡ cond ((a && b) && c) r e
all_three true true c r e = refl
all_three true false c r e = refl
all_three false b c r e = refl

pub heads_are : (shared ins outs pars : List NameBytes) → head_by_parts shared ins outs pars
    ≡ cond (are_new shared (ins ++ outs ++ pars)) (Ok (scope_with ins outs pars)) (Err double)
heads_are shared ins outs pars =
    let last : NameScope → Result NameScope NameError = λ s. each (declared_in shared Parameter) s pars in
    let later : NameScope → Result NameScope NameError = λ s. and_then (each (declared_in shared Out) s outs) last in
    ap (λ r. and_then r later) (ins_are shared ins)
    ∙ then_where (are_new shared ins) (scope_with ins [] []) later
    ∙ ap (λ r. cond (are_new shared ins) (and_then r last) (Err double)) (outs_are shared ins outs)
    ∙ ap (λ r. cond (are_new shared ins) r (Err double))
    (then_where (are_new (shared ++ ins) outs) (scope_with ins outs []) last)
    ∙ ap (λ r. cond (are_new shared ins) (cond (are_new (shared ++ ins) outs) r (Err double)) (Err double))
    (pars_are shared ins outs pars)
    ∙ all_three (are_new shared ins) (are_new (shared ++ ins) outs) (are_new ((shared ++ ins) ++ outs) pars)
    (Ok (scope_with ins outs pars)) (Err double)
    ∙ ap (λ b. cond b (Ok (scope_with ins outs pars)) (Err double))
    (sym
    (are_new-append shared (ins ++ outs) pars
    ∙ ap (λ b. b && are_new (shared ++ (ins ++ outs)) pars) (are_new-append shared ins outs)
    ∙ ap (λ l. (are_new shared ins && are_new (shared ++ ins) outs) && are_new l pars)
    (sym (append_assoc shared ins outs))))

-- ---- what the code knows after each part

abbrev nothing : NameScope
nothing = scope_with [] [] []

pub head_is : (shared : List NameBytes) (p : ProcessNode) → head_scope shared p ≡ head_by_parts shared p.ins p.outs p.pars
head_is shared p = sym (heads_are shared p.ins p.outs p.pars)

pub fails_at_ins : (shared : List NameBytes) (e : NameFault) (p : ProcessNode) (s : NameScope) (ins : List NameBytes) → s ≡ nothing → ins ≡ p.ins
    → ResolvingFails e (each (declared_in shared In) s ins) → ResolvingFails e (head_scope shared p)
fails_at_ins shared e p s ins start is h =
    rw (head_is shared p, ← is, ← start)
    (fails_first e (each (declared_in shared In) s ins)
    (λ t. and_then (each (declared_in shared Out) t p.outs) (λ u. each (declared_in shared Parameter) u p.pars)) h)

pub fails_at_outs : (shared : List NameBytes) (e : NameFault) (p : ProcessNode) (s t : NameScope) (ins outs : List NameBytes) → s ≡ nothing → ins ≡ p.ins
    → outs ≡ p.outs
    → each (declared_in shared In) s ins ≡ Ok t → ResolvingFails e (each (declared_in shared Out) t outs) → ResolvingFails e (head_scope shared p)
fails_at_outs shared e p s t ins outs start is os first h =
    rw (
      head_is shared p,
      ← is,
      ← os,
      ← start,
      then_ok (each (declared_in shared In) s ins)
          (λ t. and_then (each (declared_in shared Out) t outs) (λ u. each (declared_in shared Parameter) u p.pars)) t first,
    )
    (fails_first e (each (declared_in shared Out) t outs) (λ u. each (declared_in shared Parameter) u p.pars) h)

pub made_of : (shared : List NameBytes) (p : ProcessNode) (s t u : NameScope) (ins outs pars : List NameBytes) → s ≡ nothing → ins ≡ p.ins → outs ≡ p.outs
    → pars ≡ p.pars
    → each (declared_in shared In) s ins ≡ Ok t → each (declared_in shared Out) t outs ≡ Ok u
    → head_scope shared p ≡ each (declared_in shared Parameter) u pars
made_of shared p s t u ins outs pars start is os ps first second =
    rw (head_is shared p, ← is, ← os, ← ps, ← start)
    (then_ok (each (declared_in shared In) s ins)
    (λ t. and_then (each (declared_in shared Out) t outs) (λ u. each (declared_in shared Parameter) u pars)) t first
    ∙ then_ok (each (declared_in shared Out) t outs) (λ u. each (declared_in shared Parameter) u pars) u second)
