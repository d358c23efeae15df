-- A process has its parameters among its variables: its body only adds variables.
use Rattle.kpn_text.proofs.Common.{◌≡◌, ℕ, ◌+◌, ◌<◌, ◌≤◌, max, Bool, true, false, cond, refl, Ok, List, [], ◌∷◌, ◌++◌, length, sym, ap, subst, ◌∙◌, arith, length-append, All, nat_eq, nat_tests, MAX_VARIABLES, All-nil, All-cons, All-append, All-map, Parts, Language, ProcessNode, Description, NameScope, declared, SharedTables, each, head_scope, declare, shared_of, tree_in, WrittenBody, body_of, wiring, ok_is, went, Grows, body_grows}
use Rattle.kpn_text_names.specs.Named.{Named, NamedProgram, Programs, free_of, values_of, with_uses, at_body, named_program, programs_of, with_named_process, resolve}
use Rattle.kpn_text_names.proofs.Steps.{keeps}

-- the parameters are among the variables, and with cells there are 64 of them
pub record HasItsParameters (p : NamedProgram) : Type 0 where
  pub counted : p.parts.pars ≤ p.parts.vars
  pub apart : p.parts.vars < MAX_VARIABLES → p.parts.free + length p.parts.tables ≡ 0

least_by : (b : Bool) (n : ℕ) → n ≤ cond b n (max n MAX_VARIABLES)
least_by true n = omega arith
least_by false n = omega arith

apart_by : (b : Bool) (n cells : ℕ) → nat_eq cells 0 ≡ b → cond b n (max n MAX_VARIABLES) < MAX_VARIABLES → cells ≡ 0
apart_by true n cells e h = grind (arith, nat_tests, e)
apart_by false n cells e h = absurd (omega (arith, h))

program_has : (l : Language) (shared : SharedTables) (p : ProcessNode) (q : NamedProgram) → named_program l shared p ≡ Ok q → HasItsParameters q
program_has l shared p q e =
    let h = went (head_scope shared.names p) _ q e in
    let s = went (each (declare shared.names) h.value p.declarations) _ q h.rest in
    let start : NameScope = at_body l shared s.value p.body in
    let body = went (body_of shared.names start p.body) _ q s.rest in
    let tree = went (tree_in shared.names start p.body) _ body.value body.first in
    let grown : Grows (with_uses shared s.value p.body) tree.value.0 =
    body_grows l shared.names (with_uses shared s.value p.body) p.body tree.value tree.first in
    let scope : tree.value.0 ≡ body.value.scope = ap (λ (v : WrittenBody). v.scope) (ok_is _ body.value tree.rest) in
    let longer : body.value.scope.vars ≡ s.value.vars ++ grown.more =
    ap (λ (t : NameScope). t.vars) (sym scope) ∙ grown.vars in
    let count : length body.value.scope.vars ≡ length (s.value.vars ++ grown.more) = ap length longer in
    let few : length s.value.vars ≤ length body.value.scope.vars =
    omega (arith, count, length-append s.value.vars grown.more) in
    let named : ℕ = length body.value.scope.vars in
    let cells : ℕ = free_of body.value.scope + length (values_of shared body.value.scope) in
    let least = least_by (nat_eq cells 0) named in
    subst HasItsParameters (ok_is _ q body.rest) (record {
      counted = omega (arith, few, least);
      apart = apart_by (nat_eq cells 0) named cells refl;
    })

-- the same of all of them
pub record HaveTheirParameters (p : Programs) : Type 0 where
  pub all : All HasItsParameters p.programs

process_has : (l : Language) (shared : SharedTables) (s t : Programs) (p : ProcessNode) → with_named_process l shared s p ≡ Ok t → HaveTheirParameters s
    → HaveTheirParameters t
process_has l shared s t p e h =
    let names = went (declared s.names p.name) _ t e in
    let made = went (named_program l shared p) _ t names.rest in
    let one = All-cons HasItsParameters made.value [] (program_has l shared p made.value made.first)
    (All-nil HasItsParameters) in
    subst HaveTheirParameters (ok_is _ t made.rest)
    (record { all = All-append HasItsParameters s.programs (made.value ∷ []) h.all one })

-- the parts keep what no rule of programs says
pub record AreCounted (p : Parts) : Type 0 where
  pub counted : p.pars ≤ p.vars
  pub apart : p.vars < MAX_VARIABLES → p.free + length p.tables ≡ 0

All-weaken : (ps : List NamedProgram) → All HasItsParameters ps → All (λ p. AreCounted p.parts) ps
All-weaken ps all = λ k d at. record { counted = (all k d at).counted; apart = (all k d at).apart }

-- a process has its parameters among its variables, wherever a description names it
pub resolved_has : (l : Language) (d : Description) (n : Named) → resolve l d ≡ Ok n → All AreCounted n.tables.programs
resolved_has l d n e =
    let shared = went (shared_of d.tables) _ n e in
    let p = went (programs_of l shared.value d.processes) _ n shared.rest in
    let w = went (wiring p.value.names d.network.items) _ n p.rest in
    let P : Named → Type 0 = λ m. All AreCounted m.tables.programs in
    let h : HaveTheirParameters p.value =
    keeps (with_named_process l shared.value) HaveTheirParameters (process_has l shared.value) d.processes
    (record { names = []; programs = [] }) p.value p.first (record { all = All-nil HasItsParameters }) in
    subst P (ok_is _ n w.rest)
    (All-map AreCounted (λ (q : NamedProgram). q.parts) p.value.programs (All-weaken p.value.programs h.all))
