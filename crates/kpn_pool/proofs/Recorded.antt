-- What the workers did is recorded, one after the other.
use Rattle.kpn_pool.proofs.Common.{◌≡◌, ℕ, ◌+◌, ◌<◌, List, [], ◌∷◌, ◌++◌, length, map, take, get_or, sym, ap, ◌∙◌, arith, sum_by, take_more, map_more, sum_by_push, Seat, Worked, worked_of}

-- one worker more
pub recorded_more : (seats : List Seat) (records now : List Worked) (i : ℕ) (seat : Seat) (done : Worked)
    → i < length seats → seat ≡ get_or seats i seat
    → sum_by (λ (w : Worked). w.commits) records ≡ sum_by (λ (s : Seat). s.commits) (take i seats)
    → now ≡ records ++ done ∷ [] → done.commits ≡ seat.commits
    → sum_by (λ (w : Worked). w.commits) now ≡ sum_by (λ (s : Seat). s.commits) (take (i + 1) seats)
recorded_more seats records now i seat done below at so_far pushed same =
    let more = ap (sum_by (λ (w : Worked). w.commits)) pushed ∙ sum_by_push (λ (w : Worked). w.commits) records done in
    let all =
    ap (sum_by (λ (s : Seat). s.commits)) (take_more seats i seat below)
    ∙ sum_by_push (λ (s : Seat). s.commits) (take i seats) (get_or seats i seat) in
    let commits = ap (λ (s : Seat). s.commits) at in
    omega arith

-- a record is what its seat says
record_equal : (done : Worked) (seat : Seat) → done.why ≡ seat.why → done.commits ≡ seat.commits → done ≡ worked_of seat
record_equal done seat why commits = λ k. record { why = why k; commits = commits k }

-- the same of all that it did
pub each_more : (seats : List Seat) (records now : List Worked) (i : ℕ) (seat : Seat) (done : Worked)
    → i < length seats → seat ≡ get_or seats i seat → records ≡ map worked_of (take i seats)
    → now ≡ records ++ done ∷ [] → done.why ≡ seat.why → done.commits ≡ seat.commits
    → now ≡ map worked_of (take (i + 1) seats)
each_more seats records now i seat done below at so_far pushed why commits =
    let is : done ≡ worked_of seat = record_equal done seat why commits in
    pushed ∙ ap (λ xs. xs ++ done ∷ []) so_far
    ∙ ap (λ x. map worked_of (take i seats) ++ x ∷ []) (is ∙ ap worked_of at)
    ∙ sym (map_more worked_of seats i seat below)
