-- Scaffolding: codes of terms, statements and the parts of a program. A code maps a type one to one into the stored
-- values, which are trees of numbers, so that a proof can tell two values of the type apart behind a reference.
use Rattle.std.specs.Prelude.{◌≡◌, ℕ, zero, suc, ℤ, pos, negsuc, List, [], ◌∷◌, slice_index_or, ◌⊎◌, refl}
use Rattle.std.specs.Coded.{Coded, code_by, coded_ℕ, coded_ℤ, coded×, coded⊎, coded_list}
use base.Stored.{Gv, gnil, gnum, gcons}
use mathlib.Core.Path.{sym, ◌∙◌, ap}
use mathlib.Core.Logic.{inl, inr}
use Rattle.kpn_lang.specs.declared.syntax.Op.{Op}
use Rattle.kpn_lang.specs.declared.syntax.Op.TheVariants.{Add, Sub, Mul, Div, Rem, Lt, Le, Gt, Ge, Eq, Ne, And, Or, BitAnd, BitOr, BitXor, Shl, Shr, Min, Max}
use Rattle.kpn_lang.specs.Syntax.{Term, Num, Var, Neg, Not, BitNot, Bin, Choice, Cell, Statement, Assign, Read, Write, If, While, Set}
use Rattle.kpn_lang.specs.Parts.{Parts}

-- ---- operators, by their places in one list

abbrev operators : List Op
operators =
    Add ∷ Sub ∷ Mul ∷ Div ∷ Rem ∷ Lt ∷ Le ∷ Gt ∷ Ge ∷ Eq ∷ Ne ∷ And ∷ Or ∷ BitAnd ∷ BitOr ∷ BitXor ∷ Shl ∷ Shr
    ∷ Min ∷ Max ∷ []

abbrev place_of : Op → ℕ
place_of Add = 0
place_of Sub = 1
place_of Mul = 2
place_of Div = 3
place_of Rem = 4
place_of Lt = 5
place_of Le = 6
place_of Gt = 7
place_of Ge = 8
place_of Eq = 9
place_of Ne = 10
place_of And = 11
place_of Or = 12
place_of BitAnd = 13
place_of BitOr = 14
place_of BitXor = 15
place_of Shl = 16
place_of Shr = 17
place_of Min = 18
place_of Max = 19

abbrev operator_at : ℕ → Op
operator_at n = slice_index_or operators n Or

pub operator_at-place_of : (op : Op) → operator_at (place_of op) ≡ op
operator_at-place_of Add = refl
operator_at-place_of Sub = refl
operator_at-place_of Mul = refl
operator_at-place_of Div = refl
operator_at-place_of Rem = refl
operator_at-place_of Lt = refl
operator_at-place_of Le = refl
operator_at-place_of Gt = refl
operator_at-place_of Ge = refl
operator_at-place_of Eq = refl
operator_at-place_of Ne = refl
operator_at-place_of And = refl
operator_at-place_of Or = refl
operator_at-place_of BitAnd = refl
operator_at-place_of BitOr = refl
operator_at-place_of BitXor = refl
operator_at-place_of Shl = refl
operator_at-place_of Shr = refl
operator_at-place_of Min = refl
operator_at-place_of Max = refl

-- ---- terms: each is stored as a kind, a number and three trees

abbrev stored : (kind number : ℕ) → (first second third : Gv) → Gv
stored kind number first second third =
    gcons (gnum kind) (gcons (gnum number) (gcons first (gcons second third)))

abbrev code_of : Term → Gv
code_of (Num (pos n)) = stored 0 n gnil gnil gnil
code_of (Num (negsuc n)) = stored 1 n gnil gnil gnil
code_of (Var x) = stored 2 x gnil gnil gnil
code_of (Neg e) = stored 3 0 (code_of e) gnil gnil
code_of (Not e) = stored 4 0 (code_of e) gnil gnil
code_of (BitNot e) = stored 5 0 (code_of e) gnil gnil
code_of (Bin op a b) = stored 6 (place_of op) (code_of a) (code_of b) gnil
code_of (Choice c a b) = stored 7 0 (code_of c) (code_of a) (code_of b)
code_of (Cell base size e) = stored 8 base (code_of e) (stored 2 size gnil gnil gnil) gnil

-- the number of a variable; any other term has an arbitrary one
abbrev variable_of : Term → ℕ
variable_of (Var x) = x
variable_of _ = 0

-- the term of a kind
abbrev of_kind : (kind number : ℕ) → (first second third : Term) → Term
of_kind zero n a b c = Num (pos n)
of_kind (suc zero) n a b c = Num (negsuc n)
of_kind (suc (suc zero)) n a b c = Var n
of_kind (suc (suc (suc zero))) n a b c = Neg a
of_kind (suc (suc (suc (suc zero)))) n a b c = Not a
of_kind (suc (suc (suc (suc (suc zero))))) n a b c = BitNot a
of_kind (suc (suc (suc (suc (suc (suc zero)))))) n a b c = Bin (operator_at n) a b
of_kind (suc (suc (suc (suc (suc (suc (suc zero))))))) n a b c = Choice a b c
of_kind (suc (suc (suc (suc (suc (suc (suc (suc kind)))))))) n a b c = Cell n (variable_of b) a

-- the term that is stored so; a value that stores no term stands for an arbitrary one
abbrev term_at : Gv → Term
term_at (gcons (gnum kind) (gcons (gnum n) (gcons first (gcons second third)))) =
    of_kind kind n (term_at first) (term_at second) (term_at third)
term_at _ = Var 0

pub term_at-code_of : (e : Term) → term_at (code_of e) ≡ e
term_at-code_of (Num (pos n)) = refl
term_at-code_of (Num (negsuc n)) = refl
term_at-code_of (Var x) = refl
term_at-code_of (Neg e) = ap Neg (term_at-code_of e)
term_at-code_of (Not e) = ap Not (term_at-code_of e)
term_at-code_of (BitNot e) = ap BitNot (term_at-code_of e)
term_at-code_of (Bin op a b) = λ i. Bin (operator_at-place_of op i) (term_at-code_of a i) (term_at-code_of b i)
term_at-code_of (Choice c a b) = λ i. Choice (term_at-code_of c i) (term_at-code_of a i) (term_at-code_of b i)
term_at-code_of (Cell base size e) = ap (Cell base size) (term_at-code_of e)

abbrev pub term_code : Coded Term
term_code = record { code = code_of; inj = λ x y p. sym (term_at-code_of x) ∙ ap term_at p ∙ term_at-code_of y }

-- ---- statements, as a sum of the tuples of their parts

abbrev Cases : Type 0
Cases = (ℕ × Term) ⊎ ((ℕ × ℕ) ⊎ ((ℕ × Term) ⊎ ((Term × (ℕ × ℕ)) ⊎ ((Term × ℕ) ⊎ ((ℕ × ℕ) × (Term × Term))))))

abbrev cases_code : Coded Cases
cases_code =
    coded⊎ (coded× coded_ℕ term_code) (coded⊎ (coded× coded_ℕ coded_ℕ) (coded⊎ (coded× coded_ℕ term_code)
    (coded⊎ (coded× term_code (coded× coded_ℕ coded_ℕ)) (coded⊎ (coded× term_code coded_ℕ)
    (coded× (coded× coded_ℕ coded_ℕ) (coded× term_code term_code))))))

abbrev cases_of : Statement → Cases
cases_of (Assign x e) = inl (x, e)
cases_of (Read i x) = inr (inl (i, x))
cases_of (Write o e) = inr (inr (inl (o, e)))
cases_of (If e a b) = inr (inr (inr (inl (e, (a, b)))))
cases_of (While e b) = inr (inr (inr (inr (inl (e, b)))))
cases_of (Set base size i e) = inr (inr (inr (inr (inr ((base, size), (i, e))))))

abbrev statement_at : Cases → Statement
statement_at (inl p) = Assign p.0 p.1
statement_at (inr (inl p)) = Read p.0 p.1
statement_at (inr (inr (inl p))) = Write p.0 p.1
statement_at (inr (inr (inr (inl p)))) = If p.0 p.1.0 p.1.1
statement_at (inr (inr (inr (inr (inl p))))) = While p.0 p.1
statement_at (inr (inr (inr (inr (inr p))))) = Set p.0.0 p.0.1 p.1.0 p.1.1

pub statement_at-cases_of : (s : Statement) → statement_at (cases_of s) ≡ s
statement_at-cases_of (Assign x e) = refl
statement_at-cases_of (Read i x) = refl
statement_at-cases_of (Write o e) = refl
statement_at-cases_of (If e a b) = refl
statement_at-cases_of (While e b) = refl
statement_at-cases_of (Set base size i e) = refl

abbrev pub statement_code : Coded Statement
statement_code = code_by Cases cases_code cases_of statement_at statement_at-cases_of

-- ---- the parts of a program, as the tuple of its fields

abbrev pub parts_code : Coded Parts
parts_code =
    code_by (ℕ × (ℕ × (ℕ × (ℕ × (ℕ × (List ℤ × List (List Statement)))))))
    (coded× coded_ℕ (coded× coded_ℕ (coded× coded_ℕ (coded× coded_ℕ (coded× coded_ℕ
    (coded× (coded_list coded_ℤ) (coded_list (coded_list statement_code))))))))
    (λ p. (p.ins, (p.outs, (p.pars, (p.vars, (p.free, (p.tables, p.blocks)))))))
    (λ t.
    record {
      ins = t.0;
      outs = t.1.0;
      pars = t.1.1.0;
      vars = t.1.1.1.0;
      free = t.1.1.1.1.0;
      tables = t.1.1.1.1.1.0;
      blocks = t.1.1.1.1.1.1;
    })
    (λ _. refl)
