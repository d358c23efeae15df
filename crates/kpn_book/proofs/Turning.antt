-- What a run on one thread does, as the events that happen: what supplies the sources, what the outside takes from the
-- sinks after a turn, and how many commits the turns are.
use Rattle.std.proofs.Common.{◌≡◌, ℕ, zero, suc, ◌+◌, ◌<◌, ◌≤◌, Bool, true, false, ◌||◌, cond, ℤ, List, [], ◌∷◌, ◌++◌, length, map, slice_get, Option, Some, None, refl, sym, ap, ◌∙◌, subst, inl, inr, arith, append-nil, append_assoc}
use Rattle.kpn_book.proofs.Common.{flat_map, range_with_len, cases_eq, ne_eqb, drop_all, Tables, channel_at, is_source, is_sink, Family, Event, Feed, Close, Take, written_on, read_on, unread_on, is_closed, is_close_of, is_closed-next, Done, Book, Happens, AllHappen, ClaimsNobody, IsStep, supply_of, takes_of, takes_from_sinks, IsFrontStepped, IsLeftToItself}
use Rattle.std.proofs.lemmas.Grind.{flat_map-append}
use Rattle.kpn_book.proofs.Queueing.{range_next}
use Rattle.kpn_book.proofs.Happening.{happens_closed, join, one}

-- ---- a source is supplied

-- feeds close nothing
pub open_after_feeds : (c k : ℕ) (items : List ℤ) (before after : Book) → AllHappen (map (Feed k) items) before after
    → is_closed before.history c ≡ false → is_closed after.history c ≡ false
open_after_feeds c k [] before after same unclosed = ap (λ b. is_closed b.history c) same ∙ unclosed
open_after_feeds c k (v ∷ vs) before after happen unclosed =
    open_after_feeds c k vs happen.0 after happen.2
    (happens_closed (Feed k v) before happen.0 happen.1 c ∙ is_closed-next before.history (Feed k v) c
    ∙ ap (λ b. b || false) unclosed)

pub open_elsewhere : (c k : ℕ) → (c ≡ k → ⊥) → (items : List ℤ) (before after : Book)
    → AllHappen (map (Feed k) items ++ Close k ∷ []) before after → is_closed before.history c ≡ false
    → is_closed after.history c ≡ false
open_elsewhere c k other [] before after happen unclosed =
    ap (λ b. is_closed b.history c) happen.2
    ∙ happens_closed (Close k) before happen.0 happen.1 c ∙ is_closed-next before.history (Close k) c
    ∙ ap (λ b. b || is_close_of c (Close k)) unclosed
    ∙ ne_eqb k c (λ same. other (sym same))
open_elsewhere c k other (v ∷ vs) before after happen unclosed =
    open_elsewhere c k other vs happen.0 after happen.2
    (happens_closed (Feed k v) before happen.0 happen.1 c ∙ is_closed-next before.history (Feed k v) c
    ∙ ap (λ b. b || false) unclosed)

-- one source more
pub supplies_next : (t : Tables) (given : Family) (k : ℕ) (first before after : Book)
    → AllHappen (flat_map (supply_of t given) (range_with_len 0 k)) first before
    → AllHappen (supply_of t given k) before after
    → AllHappen (flat_map (supply_of t given) (range_with_len 0 (k + 1))) first after
supplies_next t given k first before after so_far more =
    subst (λ es. AllHappen es first after)
    (ap (λ es. flat_map (supply_of t given) (range_with_len 0 k) ++ es) (sym (append-nil (supply_of t given k)))
    ∙ sym (flat_map-append (supply_of t given) (range_with_len 0 k) (k ∷ []))
    ∙ ap (flat_map (supply_of t given)) (sym (range_next k)))
    (join (flat_map (supply_of t given) (range_with_len 0 k)) (supply_of t given k) first before after so_far more)

pub supplies_none : (t : Tables) (given : Family) (k : ℕ) (b : Book) → is_source (channel_at t k) ≡ false
    → AllHappen (supply_of t given k) b b
supplies_none t given k b none =
    subst (λ x. AllHappen (cond x (map (Feed k) (given k) ++ Close k ∷ []) []) b b) (sym none) refl

pub supplies_one : (t : Tables) (given : Family) (k : ℕ) (items : List ℤ) (before between after : Book)
    → is_source (channel_at t k) ≡ true → items ≡ given k → AllHappen (map (Feed k) items) before between
    → Happens (Close k) between after → AllHappen (supply_of t given k) before after
supplies_one t given k items before between after source same fed closed =
    subst (λ x. AllHappen (cond x (map (Feed k) (given k) ++ Close k ∷ []) []) before after) (sym source)
    (subst (λ xs. AllHappen (map (Feed k) xs ++ Close k ∷ []) before after) same
    (join (map (Feed k) items) (Close k ∷ []) before between after fed (one (Close k) between after closed)))

-- ---- what is unread on the sinks

nowhere : {A : Type 0} (f : ℕ → List A) → ((d : ℕ) → f d ≡ []) → (xs : List ℕ) → flat_map f xs ≡ []
nowhere f none [] = refl
nowhere f none (x ∷ xs) = ap (λ l. l ++ flat_map f xs) (none x) ∙ nowhere f none xs

module _ {A : Type 0} (f : ℕ → List A) (c : ℕ) (none : (d : ℕ) → (d ≡ c → ⊥) → f d ≡ []) where
  past : (n start : ℕ) → c < start → flat_map f (range_with_len start n) ≡ []
  past zero start above = refl
  past (suc n) start above =
      ap (λ l. l ++ flat_map f (range_with_len (start + 1) n)) (none start (λ same. omega arith))
      ∙ past n (start + 1) (omega arith)

  only : (n start : ℕ) → start ≤ c → c < start + n → flat_map f (range_with_len start n) ≡ f c
  only zero start from below = absurd (omega arith)
  only (suc n) start from below =
      elim (cases_eq start c) [
        | inl same ↦
            ap (λ l. f start ++ l) (past n (start + 1) (omega arith)) ∙ append-nil (f start) ∙ ap f same
        | inr other ↦
            ap (λ l. l ++ flat_map f (range_with_len (start + 1) n)) (none start other)
            ∙ only n (start + 1) (omega arith) (omega arith)
      ]

pub nothing_lies : (t : Tables) (H : List Event) (c : ℕ)
    → (is_sink (channel_at t c) ≡ true → length (written_on H c) ≤ length (read_on H c)) → takes_of t H c ≡ []
nothing_lies t H c all = by (is_sink (channel_at t c)) refl
  where
    by : (b : Bool) → is_sink (channel_at t c) ≡ b → cond b (map (Take c) (unread_on H c)) [] ≡ []
    by true e = ap (map (Take c)) (drop_all (length (read_on H c)) (written_on H c) (all e))
    by false e = refl

-- if nothing is unread on any sink, nothing is taken
pub takes_nothing : (b : Book) → IsLeftToItself b → AllHappen (takes_from_sinks b.tables b.history) b b
takes_nothing b to_itself =
    subst (λ es. AllHappen es b b)
    (sym (nowhere (takes_of b.tables b.history)
    (λ c. nothing_lies b.tables b.history c (λ sink. to_itself.all_read c sink))
    (range_with_len 0 (length b.tables.channels))))
    refl

-- if something is unread on only one sink, that is taken
pub takes_there : (b after : Book) (c : ℕ) → c < length b.tables.channels → is_sink (channel_at b.tables c) ≡ true
    → ((d : ℕ) → (d ≡ c → ⊥) → takes_of b.tables b.history d ≡ []) → (items : List ℤ) → unread_on b.history c ≡ items
    → AllHappen (map (Take c) items) b after → AllHappen (takes_from_sinks b.tables b.history) b after
takes_there b after c there sink elsewhere items unread appends =
    subst (λ es. AllHappen es b after)
    (sym (only (takes_of b.tables b.history) c elsewhere (length b.tables.channels) 0 (omega arith) (omega arith)
    ∙ ap (λ x. cond x (map (Take c) (unread_on b.history c)) []) sink ∙ ap (map (Take c)) unread))
    appends

pub the_one : (xs : List ℤ) (v : ℤ) → slice_get xs 0 ≡ Some v → length xs ≤ 1 → xs ≡ v ∷ []
the_one [] v is short = absurd cc
the_one (x ∷ []) v is short = let same : x ≡ v = cc in ap (λ y. y ∷ []) same
the_one (x ∷ y ∷ ys) v is short = absurd (omega arith)

-- ---- the turns

-- somebody is stepped
pub front_stepped : (quota : ℕ) (answer : Option Done) (before after : Book) → (ClaimsNobody before → ⊥)
    → IsStep quota answer before after → IsFrontStepped quota before after
front_stepped quota None before after some step = absurd (some step.0)
front_stepped quota (Some answer) before after some step = (answer, step)
