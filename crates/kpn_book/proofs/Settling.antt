-- What becomes of the processes of a batch: each is committed where it stands, or put back.
use Rattle.std.proofs.Common.{◌≡◌, ℕ, ◌+◌, ◌<◌, ◌≤◌, Bool, true, false, ◌&&◌, eqb, eq-eqb, List, [], ◌∷◌, ◌++◌, length, Option, Some, None, refl, sym, ap, ◌∙◌, subst, inl, inr, arith}
use Rattle.kpn_book.proofs.Common.{false≢true, false_from_ne_true, eqb-true, Tables, program_of, Frame, StandsAt, IsAtPort, Stop, Event, is_of, is_held, frame_in, IsFrameAfter, Stands, is_in_region, frame_at, Batch, IsBatch, stop_in, state_at, Done, Book, IsHeld, with_one_commit, AppendsAll, IsGrowthOwed, HasToWait, IsAnswer, HandlesStop, ready_if_paused, IsKept, is_but_reserved}
use Rattle.kpn_history.specs.declared.event.Event.TheVariants as event
use Rattle.kpn_book.specs.declared.answers.Done.TheVariants as done
use Rattle.kpn_book.specs.Regions.{commits_or_not, goes_to, has_part, settles_if, Settles, SettleBelow, none_yet, one_more}
use Rattle.kpn_book.proofs.Answering.{IsAtStop}
use Rattle.kpn_book.proofs.Appended.{tables_stay, base_tables}
use Rattle.kpn_book.proofs.Regions.{and_left, and_right, held_of_test}
use Rattle.kpn_book.proofs.Committing.{kept_reserved, held_reserved, tables_reserved, frame_reserved, handles_reserved}

-- a process that is held at its stop, once memory for it is reserved
pub at_stop_here : (b o : Book) (p : ℕ) (s : Stop) → IsKept b → IsHeld b p → is_but_reserved s b o
    → IsAtStop p s (λ answer z. HandlesStop p s answer b z) o
at_stop_here b o p s kept held but = record {
  kept = kept_reserved s b o but kept;
  held = held_reserved s b o but p held;
  commits = λ answer z handles. handles_reserved s b o but p answer z handles;
}

pub stands_reserved : (b o : Book) (p : ℕ) (s : Stop) → is_but_reserved s b o → Stands b.tables b.machine p s
    → Stands o.tables o.machine p s
stands_reserved b o p s but stands =
    subst (λ f. StandsAt (program_of o.tables p).blocks f s) (sym (frame_reserved s b o but p))
    (subst (λ t. StandsAt (program_of t p).blocks (frame_in b.machine p) s) (sym (tables_reserved s b o but))
    stands)

-- ---- the other processes stay where they are

same_frame_after : (e : Event) (a b : Book) (q : ℕ) → is_of q e ≡ false
    → IsFrameAfter a.tables e q (frame_in a.machine q) (frame_in b.machine q)
    → frame_in b.machine q ≡ frame_in a.machine q
same_frame_after (event.Get p c v) a b q other is = is.1 (λ same. false≢true (sym other ∙ eq-eqb p q same))
same_frame_after (event.Put p c v) a b q other is = is.1 (λ same. false≢true (sym other ∙ eq-eqb p q same))
same_frame_after (event.WaitEmpty p c) a b q other is = is
same_frame_after (event.WaitFull p c) a b q other is = is
same_frame_after (event.Ended p how) a b q other is = is
same_frame_after (event.Feed c v) a b q other is = is
same_frame_after (event.Close c) a b q other is = is
same_frame_after (event.Take c v) a b q other is = is
same_frame_after (event.Leave c) a b q other is = is
same_frame_after (event.Grow p c n) a b q other is = is

-- none of these events is of process q
abbrev pub AreOfOthers : (q : ℕ) → List Event → Type 0
AreOfOthers q [] = Unit {0}
AreOfOthers q (e ∷ events) = (is_of q e ≡ false) × AreOfOthers q events

pub frames_stay : (q : ℕ) (events : List Event) (b a : Book) → AppendsAll events b a → AreOfOthers q events
    → q < length b.tables.instances → frame_in a.machine q ≡ frame_in b.machine q
frames_stay q [] b a appends others there = ap (λ x. frame_in x.machine q) appends
frames_stay q (e ∷ events) b a appends others there =
    frames_stay q events appends.0 a appends.2 others.1
    (subst (λ t. q < length t.instances) (sym appends.1.tables) there)
    ∙ same_frame_after e b appends.0 q others.0 (appends.1.machine.frames q there)

module _ (p q : ℕ) (apart : q ≡ p → ⊥) where
  not_of : eqb p q ≡ false
  not_of = false_from_ne_true (eqb p q) (λ same. apart (sym (eqb-true p q same)))

  wait_of_other : (b : Book) (s : Stop) (wait : Event) → HasToWait b p s wait → is_of q wait ≡ false
  wait_of_other b s wait (inl is) = ap (is_of q) is.is ∙ not_of
  wait_of_other b s wait (inr is) = ap (is_of q) is.is ∙ not_of

  growth_of_none : (t : Tables) (H growth : List Event) → IsGrowthOwed t H growth → AreOfOthers q growth
  growth_of_none t H [] owed = tt
  growth_of_none t H (event.Grow r d n ∷ []) owed = (refl, tt)
  growth_of_none t H growth owed = absurd owed

  are_of_others : (answer : Done) (b : Book) (s : Stop) (events : List Event) → IsAnswer b p s answer events
      → AreOfOthers q events
  are_of_others (done.Got v) b s events is = subst (AreOfOthers q) (sym is.appends) (not_of, tt)
  are_of_others done.Put b s events is = subst (AreOfOthers q) (sym is.appends) (not_of, tt)
  are_of_others done.Blocked b s events is =
      subst (AreOfOthers q) (sym is.appends) (wait_of_other b s is.wait is.waits, tt)
  are_of_others (done.Grew d) b s events is =
      subst (AreOfOthers q) (sym is.appends) (wait_of_other b s is.wait is.waits, (refl, tt))
  are_of_others done.Ended b s events is =
      subst (AreOfOthers q) (sym is.appends)
      (not_of, growth_of_none b.tables (b.history ++ event.Ended p is.how ∷ []) is.growth is.owed)
  are_of_others done.Paused b s events is = subst (AreOfOthers q) (sym is.appends) tt

  base_frame : (answer : Done) (b : Book)
      → frame_in (ready_if_paused p answer b).machine q ≡ frame_in b.machine q
  base_frame done.Paused b = refl
  base_frame other b = refl

  pub commit_elsewhere : (answer : Done) (s : Stop) (b a : Book) → q < length b.tables.instances
      → HandlesStop p s answer b a → frame_in a.machine q ≡ frame_in b.machine q
  commit_elsewhere answer s b a there is =
      frames_stay q is.events (ready_if_paused p answer (with_one_commit b)) a is.appends
      (are_of_others answer b s is.events is.answers)
      (subst (λ t. q < length t.instances) (sym (base_tables answer p (with_one_commit b))) there)
      ∙ base_frame answer (with_one_commit b)

  by_memory : (memory : Bool) (s : Stop) (b a : Book) → q < length b.tables.instances → commits_or_not memory p s b a
      → frame_in a.machine q ≡ frame_in b.machine q
  by_memory true s b a there is = commit_elsewhere is.0 s b a there is.1
  by_memory false s b a there is = ap (λ x. frame_in x.machine q) is.1

  by_stop : (memory : Bool) (o : Option Stop) (b a : Book) → q < length b.tables.instances → goes_to memory p o b a
      → frame_in a.machine q ≡ frame_in b.machine q
  by_stop memory (Some s) b a there is = by_memory memory s b a there is
  by_stop memory None b a there is = ap (λ x. frame_in x.machine q) is.1

  by_part : (part memory : Bool) (batch : Batch) (b a : Book) → q < length b.tables.instances
      → settles_if part memory batch p b a → frame_in a.machine q ≡ frame_in b.machine q
  by_part true memory batch b a there is = by_stop memory (stop_in batch p) b a there is
  by_part false memory batch b a there is = ap (λ x. frame_in x.machine q) is.1

  pub settles_elsewhere : (memory : Bool) (batch : Batch) (b a : Book) → q < length b.tables.instances
      → Settles memory batch p b a → frame_in a.machine q ≡ frame_in b.machine q
  settles_elsewhere memory batch b a there is = by_part (has_part batch p b) memory batch b a there is

-- ---- the network stays

commit_network : (p : ℕ) (answer : Done) (s : Stop) (b a : Book) → HandlesStop p s answer b a → a.tables ≡ b.tables
commit_network p answer s b a is =
    tables_stay is.events (ready_if_paused p answer (with_one_commit b)) a is.appends ∙ base_tables answer p (with_one_commit b)

network_by_memory : (memory : Bool) (p : ℕ) (s : Stop) (b a : Book) → commits_or_not memory p s b a
    → a.tables ≡ b.tables
network_by_memory true p s b a is = commit_network p is.0 s b a is.1
network_by_memory false p s b a is = ap (λ x. x.tables) is.1

network_by_stop : (memory : Bool) (p : ℕ) (o : Option Stop) (b a : Book) → goes_to memory p o b a
    → a.tables ≡ b.tables
network_by_stop memory p (Some s) b a is = network_by_memory memory p s b a is
network_by_stop memory p None b a is = ap (λ x. x.tables) is.1

network_by_part : (part memory : Bool) (batch : Batch) (p : ℕ) (b a : Book) → settles_if part memory batch p b a
    → a.tables ≡ b.tables
network_by_part true memory batch p b a is = network_by_stop memory p (stop_in batch p) b a is
network_by_part false memory batch p b a is = ap (λ x. x.tables) is.1

-- ---- process after process

-- what is so once the processes below n are settled
pub record IsSettledBelow (batch : Batch) (first : Book) (n : ℕ) (memory : Bool) (b : Book) : Type 0 where
  pub settle : SettleBelow batch first n memory b
  pub kept : IsKept b
  pub tables : b.tables ≡ first.tables
  pub frames : (q : ℕ) → n ≤ q → q < length first.tables.instances → is_in_region batch.now q ≡ true
      → frame_in b.machine q ≡ frame_at batch.now q

pub settled_at_first : (batch : Batch) (b : Book) → IsKept b
    → ((q : ℕ) → is_in_region batch.now q ≡ true → frame_in b.machine q ≡ frame_at batch.now q)
    → IsSettledBelow batch b 0 true b
settled_at_first batch b kept frames =
    record { settle = none_yet; kept = kept; tables = refl; frames = λ q above there within. frames q within }

pub settled_next : (batch : Batch) (first b a : Book) (n : ℕ) (memory enough : Bool)
    → IsSettledBelow batch first n memory b → Settles enough batch n b a → IsKept a
    → IsSettledBelow batch first (n + 1) (memory && enough) a
settled_next batch first b a n memory enough is settles kept = record {
  settle = one_more enough b a is.settle settles;
  kept = kept;
  tables = network_by_part (has_part batch n b) enough batch n b a settles ∙ is.tables;
  frames = λ q above there within.
      settles_elsewhere n q (λ same. omega (arith, above, same)) enough batch b a
      (subst (λ t. q < length t.instances) (sym is.tables) there) settles
      ∙ is.frames q (omega (arith, above)) there within;
}

-- ---- one process

pub settles_not : (batch : Batch) (p : ℕ) (b : Book) → has_part batch p b ≡ false → Settles true batch p b b
settles_not batch p b is = subst (λ part. settles_if part true batch p b b) (sym is) (refl, refl)

pub settles_by : (batch : Batch) (p : ℕ) (b a : Book) (memory : Bool) (o : Option Stop) → has_part batch p b ≡ true
    → o ≡ stop_in batch p → goes_to memory p o b a → Settles memory batch p b a
settles_by batch p b a memory o part is goes =
    subst (λ h. settles_if h memory batch p b a) (sym part) (subst (λ x. goes_to memory p x b a) is goes)

-- it is of the region and held
pub part_within : (batch : Batch) (p : ℕ) (b : Book) → has_part batch p b ≡ true → is_in_region batch.now p ≡ true
part_within batch p b is = and_left (is_in_region batch.now p) (is_held (state_at b.schedule.states p)) is

pub part_held : (batch : Batch) (p : ℕ) (b : Book) → has_part batch p b ≡ true → IsHeld b p
part_held batch p b is =
    held_of_test b p (and_right (is_in_region batch.now p) (is_held (state_at b.schedule.states p)) is)

-- it stands at its stop in the batch
pub record IsStuckHere (b : Book) (p : ℕ) (s : Stop) : Type 0 where
  pub stands : Stands b.tables b.machine p s
  pub port : (f : Frame) × IsAtPort (program_of b.tables p) f s

pub stuck_here : (batch : Batch) (p : ℕ) (b : Book) (s : Stop) → IsBatch batch → batch.tables ≡ b.tables
    → p < length b.tables.instances
    → (is_in_region batch.now p ≡ true → frame_in b.machine p ≡ frame_at batch.now p)
    → has_part batch p b ≡ true → stop_in batch p ≡ Some s → IsStuckHere b p s
stuck_here batch p b s is tables there frame part stop =
    let stuck = is.stuck p s (subst (λ t. p < length t.instances) (sym tables) there) stop in
    record {
      stands =
          subst (λ f. StandsAt (program_of b.tables p).blocks f s) (sym (frame (part_within batch p b part)))
          (subst (λ t. StandsAt (program_of t p).blocks (frame_at batch.now p) s) tables stuck.stands);
      port = (
        frame_at batch.now p,
        subst (λ t. IsAtPort (program_of t p) (frame_at batch.now p) s) tables stuck.port,
      );
    }
