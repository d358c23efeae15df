-- What a worker does with several processes, one turn after the other.
use Rattle.kpn_pool_desk.proofs.Common.{◌≡◌, ◌≢◌, ℕ, zero, suc, ◌+◌, ◌-◌, ◌<◌, Option, Some, None, List, [], ◌∷◌, ◌++◌, length, take, drop, get_or, inl, inr, refl, sym, ap, ◌∙◌, subst, arith, IfSome, All, slice_set, slice_get, cases_order, take_more, take_more_set, All-append, Stop, Advanced, advanced_of, Book, IsHeld, IsOwnAdvance, RefusesCommit, Refused, Desk, EndsFor, with_book, with_commit, with_total, On, Abandon, Turn, HeldTurns, IsTurnOf, made_of, steps_of, CommitsOrDrops, PutsBack, InTurn, IsEnd, SettlesTurns, claimed_by, ComesBackWithTurns, LetsThrough}
use Rattle.kpn_lang.specs.Parts.{Parts}
use Rattle.kpn_book.specs.declared.answers.Refused.TheVariants as refused
use Rattle.kpn_pool_desk.specs.declared.seat.Why.{Why}
use Rattle.kpn_pool_desk.specs.declared.turn.Stepped.{Stepped}
use Rattle.kpn_pool_desk.specs.declared.phases.NextMove.{NextMove}
use Rattle.kpn_pool_desk.specs.declared.gate.Go.{Go}

-- ---- one turn more

then_one : (Does : Turn → Book → Book → Type 0) (turns : List Turn) (turn : Turn) (before between after : Book)
    → InTurn Does turns before between → Does turn between after → InTurn Does (turns ++ turn ∷ []) before after
then_one Does [] turn before between after so_far does = (after, subst (λ b. Does turn b after) so_far does, refl)
then_one Does (t ∷ turns) turn before between after so_far does =
    (so_far.0, so_far.1, then_one Does turns turn so_far.0 between after so_far.2 does)

pub one_more : (Does : Turn → Book → Book → Type 0) (turns : List Turn) (i : ℕ) (turn : Turn)
    (before between after : Book)
    → i < length turns → turn ≡ get_or turns i turn → InTurn Does (take i turns) before between
    → Does turn between after → InTurn Does (take (i + 1) turns) before after
one_more Does turns i turn before between after there is so_far does =
    subst (λ xs. InTurn Does xs before after) (sym (take_more turns i turn there))
    (then_one Does (take i turns) (get_or turns i turn) before between after so_far
    (subst (λ t. Does t between after) is does))

-- where the turn itself changes
pub one_more_set : (Does : Turn → Book → Book → Type 0) (turns : List Turn) (i : ℕ) (turn : Turn)
    (before between after : Book) → i < length turns → InTurn Does (take i turns) before between
    → Does turn between after → InTurn Does (take (i + 1) (slice_set turns i turn)) before after
one_more_set Does turns i turn before between after there so_far does =
    subst (λ xs. InTurn Does xs before after) (sym (take_more_set turns i turn there))
    (then_one Does (take i turns) turn before between after so_far does)

-- what holds of the first turns holds of one more, which was changed
pub all_more_set : (P : Turn → Type 0) (turns : List Turn) (i : ℕ) (turn : Turn) → i < length turns
    → All P (take i turns) → P turn → All P (take (i + 1) (slice_set turns i turn))
all_more_set P turns i turn there so_far holds =
    subst (All P) (sym (take_more_set turns i turn there))
    (All-append P (take i turns) (turn ∷ []) so_far alone)
  where
    alone : (k : ℕ) (d : Turn) → k < 1 → P (get_or (turn ∷ []) k d)
    alone zero d less = holds
    alone (suc k) d less = absurd (omega (arith, less))

-- ---- the gate

-- a turn of the same process in the place of another
pub claimed_by-set : (turns : List Turn) (i : ℕ) (turn d : Turn) → i < length turns
    → turn.process ≡ (get_or turns i d).process → claimed_by (slice_set turns i turn) ≡ claimed_by turns
claimed_by-set [] i turn d below same = absurd (omega (arith, below))
claimed_by-set (t ∷ turns) zero turn d below same = ap (λ p. p ∷ claimed_by turns) same
claimed_by-set (t ∷ turns) (suc i) turn d below same =
    ap (λ ps. t.process ∷ ps) (claimed_by-set turns i turn d (omega (arith, below)) same)

-- the process of a turn
pub claimed_at : (turns : List Turn) (i : ℕ) (d : Turn) → i < length turns
    → slice_get (claimed_by turns) i ≡ Some (get_or turns i d).process
claimed_at [] i d below = absurd (omega (arith, below))
claimed_at (t ∷ turns) zero d below = refl
claimed_at (t ∷ turns) (suc i) d below = claimed_at turns i d (omega (arith, below))

same_process : (o : Option ℕ) (p q : ℕ) → o ≡ Some p → o ≡ Some q → p ≡ q
same_process o p q a b = let e : ◌≡◌ {A = Option ℕ} (Some p) (Some q) = sym a ∙ b in cc

-- one process more was let through
pub through_more : (may : ℕ → Go → Type 0) (processes : List ℕ) (i p : ℕ) → slice_get processes i ≡ Some p → may p On
    → ((j q : ℕ) → j < i → slice_get processes j ≡ Some q → may q On)
    → (j q : ℕ) → j < i + 1 → slice_get processes j ≡ Some q → may q On
through_more may processes i p there answer so_far j q less at =
    elim (cases_order j i) [
      | inl same ↦
          let is : slice_get processes i ≡ Some q = subst (λ n. slice_get processes n ≡ Some q) same at in
          subst (λ x. may x On) (same_process (slice_get processes i) p q there is) answer
      | inr (inl earlier) ↦ so_far j q earlier at
      | inr (inr later) ↦ absurd (omega (arith, less, later))
    ]

-- the gate has made the worker end at this one
pub stopped_at : (may : ℕ → Go → Type 0) (processes : List ℕ) (i p held : ℕ) → slice_get processes i ≡ Some p
    → may p Abandon → ((j q : ℕ) → j < i → slice_get processes j ≡ Some q → may q On)
    → LetsThrough may i held processes
stopped_at may processes i p held there answer so_far = record {
  through = so_far;
  next = λ q less at. subst (λ x. may x Abandon) (same_process (slice_get processes i) p q there at) answer;
}

-- it has let all of them through
pub let_all : (may : ℕ → Go → Type 0) (processes : List ℕ) (held : ℕ)
    → ((j q : ℕ) → j < held → slice_get processes j ≡ Some q → may q On) → LetsThrough may held held processes
let_all may processes held all = record { through = all; next = λ q less at. absurd (omega (arith, less)) }

-- ---- the desk

-- a commit changes the book and the total, and a note changes nothing
pub commit_alone : (before done after : Desk) → done ≡ with_commit done.book before → after ≡ done
    → after ≡ with_total after.book after.total before
commit_alone before done after same is =
    subst (λ (d : Desk). d ≡ with_total d.book d.total before) (sym is)
    (same ∙ ap (λ n. with_total done.book n before) (sym (ap (λ (d : Desk). d.total) same)))

pub commits_on : (first before after : Desk) → before ≡ with_total before.book before.total first
    → after ≡ with_total after.book after.total before → after ≡ with_total after.book after.total first
commits_on first before after so_far same = same ∙ ap (λ (d : Desk). with_total after.book after.total d) so_far

-- turns that were committed, and others that were put back
pub keeps_halts : (before between after : Desk) → between ≡ with_total between.book between.total before
    → after ≡ with_book after.book between → after.halts ≡ before.halts
keeps_halts before between after one two = ap (λ (d : Desk). d.halts) two ∙ ap (λ (d : Desk). d.halts) one

-- ---- a batch

pub settled : (b : HeldTurns) (why : Option Why) (before between after end : Desk) (turns : List Turn) (committed : ℕ)
    → turns ≡ b.turns
    → InTurn CommitsOrDrops (take committed (take b.passed turns)) before.book between.book
    → InTurn PutsBack (take (b.held - committed) (drop committed turns)) between.book after.book
    → between ≡ with_total between.book between.total before → after ≡ with_book after.book between
    → end ≡ record after { halts = end.halts } → IsEnd committed b before end why → SettlesTurns b why before end
settled b why before between after end turns committed same commits back one two is ends = record {
  committed = committed;
  between = between.book;
  commits =
      subst (λ xs. InTurn CommitsOrDrops (take committed (take b.passed xs)) before.book between.book) same commits;
  back =
      subst (λ x. InTurn PutsBack (take (b.held - committed) (drop committed b.turns)) between.book x)
      (sym (ap (λ (d : Desk). d.book) is))
      (subst (λ xs. InTurn PutsBack (take (b.held - committed) (drop committed xs)) between.book after.book) same back);
  end = ends;
  keeps = record {
    takers =
        ap (λ (d : Desk). d.takers) is ∙ ap (λ (d : Desk). d.takers) two ∙ ap (λ (d : Desk). d.takers) one;
    workers =
        ap (λ (d : Desk). d.workers) is ∙ ap (λ (d : Desk). d.workers) two ∙ ap (λ (d : Desk). d.workers) one;
    working =
        ap (λ (d : Desk). d.working) is ∙ ap (λ (d : Desk). d.working) two ∙ ap (λ (d : Desk). d.working) one;
  };
}

-- ---- the steps of a turn

pub steps_made : (program : Parts) (o : Option Stepped) (last : Stepped) (made : ℕ × Stop) → o ≡ Some last
    → last.made ≡ Some made → IfSome o (IsTurnOf program)
    → steps_of o ≡ Some (advanced_of program last.claim.frame last.to made.0 made.1)
steps_made program o last made there is all =
    let turn = subst (λ x. IfSome x (IsTurnOf program)) there all in
    ap steps_of there ∙ ap (made_of last.claim.program.now last.claim.frame last.to) is
    ∙ ap (λ p. Some (advanced_of p last.claim.frame last.to made.0 made.1)) turn.program_is

-- a commit that is refused for another cause than memory is one of foreign steps
pub foreign_unless : (p : ℕ) (x : Advanced) (b : Book) (cause : Refused) → RefusesCommit p x b cause
    → cause ≢ refused.NoMemory → ¬ (IsHeld b p × IsOwnAdvance b p x)
foreign_unless p x b refused.NotHeld why other = λ may. why may.0
foreign_unless p x b refused.Stranger why other = λ may. why.1 may.1
foreign_unless p x b refused.NoMemory why other = λ may. other refl
foreign_unless p x b refused.NoSuchEnd why other = absurd why
foreign_unless p x b refused.SourceClosed why other = absurd why
foreign_unless p x b (refused.Full item) why other = absurd why
foreign_unless p x b refused.SinkLeft why other = absurd why

-- ---- a worker that is back

-- its batch is settled, and nothing else changes
pub comes_back : (most : ℕ) (b : HeldTurns) (then : NextMove) (before between cut after : Desk)
    → SettlesTurns b None before between → cut ≡ between → after ≡ cut → EndsFor cut most then
    → ComesBackWithTurns most b then before after
comes_back most b then before between cut after settles same is ends = record {
  why = None;
  settles = subst (SettlesTurns b None before) (sym (is ∙ same)) settles;
  goes_on = subst (λ d. EndsFor d most then) (sym is) ends;
}
