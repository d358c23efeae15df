-- A picture of few ticks has only small numbers. And what is drawn of a box, whose places are known.
use Rattle.kpn_command_views.proofs.Common.{◌≡◌, ℕ, ℤ, ◌+◌, ◌-◌, ◌≤◌, Bool, true, false, nat_eq, if◌then◌else◌, List, [], ◌++◌, min, arith, refl, ap, subst, ◌∙◌, ne_eqb, min-le_right, two_pieces, three_pieces, Clocks, latest_of, Bar, Scale, tick_width, longest_below, scale_for, ticks_in, box_front, box_name, whole_box, shown_box, item_box, wait_box, last_wait_box, move_boxes, row_of_process}
use Rattle.kpn_command_views.specs.declared.boxes.ProcessRow.{ProcessRow}
use Rattle.kpn_command_views.specs.Drawable.{IsDrawable}

either : (b : Bool) (x y most : ℕ) → x ≤ most → y ≤ most → (if b then x else y) ≤ most
either true x y most one other = one
either false x y most one other = other

width_is_small : (ticks : ℕ) → tick_width ticks ≤ 44
width_is_small ticks =
    either _ 44 _ 44 (omega arith)
    (either _ 20 _ 44 (omega arith) (either _ 10 _ 44 (omega arith) (either _ 5 2 44 (omega arith) (omega arith))))

one_more_room : (most length front : ℕ) → min most length - front ≤ 2000 → min most (length + 1) - front ≤ 2001
one_more_room most length front few = omega (arith, few)

pub is_drawable : (names : List (List ℕ)) (processes first last length : ℕ)
    → ticks_in (scale_for names processes first last length) ≤ 2000
    → IsDrawable (scale_for names processes first last length)
is_drawable names processes first last length few =
    let short = min-le_right (longest_below names processes) 32 in
    record {
      ticks = few;
      room = one_more_room last length (first - 1) few;
      left = omega (arith, short);
      wide = width_is_small (min last length - (first - 1));
    }

otherwise : (b : Bool) (xs ys : List ℕ) → b ≡ false → ys ≡ if b then xs else ys
otherwise true xs ys none = absurd cc
otherwise false xs ys none = refl

-- the box of a bar that is wide, piece by piece
pub shown_pieces : (kind : List ℕ) (bar : Bar) (title name start one two whole : List ℕ) → (bar.wide ≡ 0 → ⊥)
    → one ≡ start ++ box_front kind bar.x (bar.row + 6) bar.wide → two ≡ one ++ title
    → whole ≡ two ++ box_name kind bar.x (bar.row + 19) bar.wide name → whole ≡ start ++ shown_box kind bar title name
shown_pieces kind bar title name start one two whole some first second third =
    three_pieces start (box_front kind bar.x (bar.row + 6) bar.wide) title
    (box_name kind bar.x (bar.row + 19) bar.wide name) one two whole first second third
    ∙ ap (λ (t : List ℕ). start ++ t)
    (otherwise (nat_eq bar.wide 0) [] (whole_box kind bar title name) (ne_eqb bar.wide 0 some))

-- the wait and the box of a get or put, by what the row, the tick, the name and the item are
pub moved : (s : Scale) (k : Clocks) (p q : ℕ) (row : ProcessRow) (tick m : ℕ) (word kind what name n : List ℕ)
    (item v : ℤ) (start one whole : List ℕ) → p ≡ q → row ≡ row_of_process s k p → tick ≡ m → name ≡ n → item ≡ v
    → one ≡ start ++ wait_box row.scale row.p row.latest tick kind what name
    → whole ≡ one ++ item_box row.scale row.p tick word name item
    → whole ≡ start ++ move_boxes s q (latest_of k q) m word kind what n v
moved s k p q row tick m word kind what name n item v start one whole same is at called valued first second =
    let now : whole ≡ start ++ move_boxes row.scale row.p row.latest tick word kind what name item =
    two_pieces start (wait_box row.scale row.p row.latest tick kind what name)
    (item_box row.scale row.p tick word name item) one whole first second in
    subst (λ x. whole ≡ start ++ move_boxes s x (latest_of k x) m word kind what n v) same
    (subst (λ x. whole ≡ start ++ move_boxes s p (latest_of k p) x word kind what n v) at
    (subst (λ x. whole ≡ start ++ move_boxes s p (latest_of k p) tick word kind what x v) called
    (subst (λ (x : ℤ). whole ≡ start ++ move_boxes s p (latest_of k p) tick word kind what name x) valued
    (subst (λ (r : ProcessRow). whole ≡ start ++ move_boxes r.scale r.p r.latest tick word kind what name item) is
    now))))

-- the box of a wait at the end
pub lasted : (Added : List ℕ → Type 0) (s : Scale) (k : Clocks) (p : ℕ) (row : ProcessRow) (last m : ℕ)
    (kind what name n : List ℕ) → row ≡ row_of_process s k p → last ≡ m → name ≡ n
    → Added (last_wait_box row.scale row.p row.latest last kind what name)
    → Added (last_wait_box s p (latest_of k p) m kind what n)
lasted Added s k p row last m kind what name n is at called added =
    subst (λ x. Added (last_wait_box s p (latest_of k p) x kind what n)) at
    (subst (λ x. Added (last_wait_box s p (latest_of k p) last kind what x)) called
    (subst (λ (r : ProcessRow). Added (last_wait_box r.scale r.p r.latest last kind what name)) is added))
