-- A read says the next item of its port, and takes it from there.
use Rattle.kpn_step.proofs.Common.{◌≡◌, ℕ, ℤ, List, [], ◌∷◌, ◌++◌, length, take, drop, slice_get, Some, ap, subst, ◌∙◌, arith, Got, Statement, Lists, list_at, next_at, without_next, Stop, WantRead, Frame, StandsAt, IsGiven, Speaks}
use Rattle.std.proofs.lemmas.List.{append-nil, drop_all, take_all}

front : (items : List ℤ) (v : ℤ) → Some v ≡ slice_get items 0 → items ≡ v ∷ drop 1 items
front [] v first = absurd cc
front (x ∷ items) v first = let same : x ≡ v = cc in ap (λ y. y ∷ items) same

pub Speaks-got : (blocks : List (List Statement)) (f g : Frame) (stop : Stop) (port : ℕ) (v : ℤ) (lists rest : Lists) →
    StandsAt blocks f stop → stop ≡ WantRead port → IsGiven blocks f v g → Some v ≡ next_at lists port →
    rest ≡ without_next lists port → Speaks blocks f lists (Got port v) g rest
Speaks-got blocks f g stop port v lists rest stands is given first without =
    let s = subst (StandsAt blocks f) is stands in
    let items = list_at lists port in
    (s.0, drop 1 items, s.1.statement, front items v first, given port s.0 s.1.statement, without)

-- writing all elements of a slice back changes nothing else
pub written_back : (old new : List ℕ) → length new ≡ length old →
    take (length old) (new ++ drop (length new) old) ≡ new
written_back old new even =
    ap (λ xs. take (length old) (new ++ xs)) (drop_all (length new) old (omega arith))
    ∙ ap (λ xs. take (length old) xs) (append-nil new)
    ∙ take_all (length old) new (omega arith)
