use Rattle.kpn_pool_desk.proofs.Common.{◌≡◌, ◌+◌, List, [], ◌∷◌, ◌++◌, length, refl, ap, ◌∙◌, arith, rules, vec_len, sum_by, Seat}
use Rattle.std.proofs.lemmas.List.Sums.{sum_by-append}
use Rattle.kpn_pool_desk.proofs.desk.Desk.into_book.Goals as goal

-- the commits of the last seat and of the others
counted : (all others : List Seat) (last : Seat) → all ≡ others ++ last ∷ []
    → last.commits + sum_by (λ (s : Seat). s.commits) others ≡ sum_by (λ (s : Seat). s.commits) all
counted all others last is =
    let whole : sum_by (λ (s : Seat). s.commits) all
    ≡ sum_by (λ (s : Seat). s.commits) others + sum_by (λ (s : Seat). s.commits) (last ∷ []) =
    ap (λ xs. sum_by (λ (s : Seat). s.commits) xs) is ∙ sum_by-append (λ (s : Seat). s.commits) others (last ∷ []) in
    let one : sum_by (λ (s : Seat). s.commits) (last ∷ []) ≡ last.commits = omega arith in
    omega (arith, whole, one)

none_counted : (seats : List Seat) → length seats ≡ 0 → sum_by (λ (s : Seat). s.commits) seats ≡ 0
none_counted [] none = refl
none_counted (s ∷ seats) none = absurd (omega (arith, none))

pub loop-seat-init : goal.loop-seat-init
loop-seat-init g c =
    let one : vec_len c.pop.new.self + 1 ≡ vec_len c.args.workers = c.in-Some.ensures.len in
    let all : vec_len c.args.workers ≡ length c.args.workers.items = c.args.workers.ok.0 in
    let sum = counted c.args.workers.items c.pop.new.self.items c.in-Some.last c.in-Some.ensures.items in (
      omega (arith, c.into_share-all.ensures.parts, one, all, c.requires.0),
      ap (λ n. n + sum_by (λ (s : Seat). s.commits) c.pop.new.self.items) c.into_share-all.ensures.amount ∙ sum,
    )

pub loop-seat-preserved : goal.loop-seat-preserved
loop-seat-preserved g c =
    let one : vec_len c.pop-in-loop-seat.new.self + 1 ≡ vec_len c.loop-seat.workers = c.in-Some-pop.ensures.len in
    let sum = counted c.loop-seat.workers.items c.pop-in-loop-seat.new.self.items c.in-Some-pop.seat
    c.in-Some-pop.ensures.items in (
      omega (arith, c.merge.ensures.parts, c.into_share.ensures.parts, one, c.loop-seat.invariant.0),
      omega (arith, c.merge.ensures.amount, c.into_share.ensures.amount, sum, c.loop-seat.invariant.1),
    )

pub returns-clause-commits : goal.returns-clause-commits
returns-clause-commits g c =
    let none : vec_len c.loop-seat.workers ≡ 0 = search rules in
    let long : vec_len c.loop-seat.workers ≡ length c.loop-seat.workers.items = c.loop-seat.workers.ok.0 in
    let left = none_counted c.loop-seat.workers.items (omega (arith, none, long)) in
    let parts : c.loop-seat.all.parts + vec_len c.loop-seat.workers ≡ g.J.Ledger.parts = c.loop-seat.invariant.0 in
    let whole : c.loop-seat.all.amount ≡ c.self.inside.total.total =
    c.audit.ensures.whole (omega (arith, parts, none)) in
    let counts : c.self.inside.total.total ≡ c.self.inside.book.commits = c.self.invariant.counted in
    omega (arith, left, whole, counts, c.loop-seat.invariant.1)
