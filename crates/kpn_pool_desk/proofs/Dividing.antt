-- Regions are committed: the network stays, and commits are only added. Then items are taken from sinks.
use Rattle.kpn_pool_desk.proofs.Common.{◌≡◌, ℕ, ◌+◌, ◌≤◌, ℤ, Bool, true, false, Option, Some, None, refl, ap, ◌∙◌, subst, arith, Stop, Book, with_one_commit, HandlesStop, ready_if_paused, base_tables, base_commits, commits_stay, tables_stay, Takes, Desk, with_book, TakesOn, no_take, one_take_more}
use Rattle.kpn_region.specs.Batch.{Batch}
use Rattle.kpn_book.specs.declared.answers.Done.{Done}
use Rattle.kpn_book.specs.Regions.{commits_or_not, goes_to, settles_if, has_part, SettleBelow, none_yet, one_more}
use Rattle.kpn_book.specs.RegionCalls.{CommitsRegion}
use Rattle.kpn_region.specs.Batch.{stop_in}
use Rattle.kpn_pool_desk.specs.declared.taking.Takers.{Takers}
use Rattle.kpn_pool_desk.specs.declared.taking.Takers.TheVariants.{Workers}

-- ---- a commit

-- the network is the same, and no commit is taken back
pub record IsFurther (before after : Book) : Type 0 where
  pub tables : after.tables ≡ before.tables
  pub commits : before.commits ≤ after.commits

stays : (before after : Book) → after ≡ before → IsFurther before after
stays before after same =
    let is = ap (λ (b : Book). b.commits) same in
    record { tables = ap (λ (b : Book). b.tables) same; commits = omega (arith, is) }

then_further : (a b c : Book) → IsFurther a b → IsFurther b c → IsFurther a c
then_further a b c one two =
    let first = one.commits in
    let second = two.commits in
    record { tables = two.tables ∙ one.tables; commits = omega (arith, first, second) }

handled : (p : ℕ) (s : Stop) (answer : Done) (before after : Book) → HandlesStop p s answer before after
    → IsFurther before after
handled p s answer before after is =
    let base = ready_if_paused p answer (with_one_commit before) in
    let more : after.commits ≡ before.commits + 1 =
    commits_stay is.events base after is.appends ∙ base_commits answer p (with_one_commit before) in
    record {
      tables = tables_stay is.events base after is.appends ∙ base_tables answer p (with_one_commit before);
      commits = omega (arith, more);
    }

by_memory : (memory : Bool) (p : ℕ) (s : Stop) (before after : Book) → commits_or_not memory p s before after
    → IsFurther before after
by_memory true p s before after is = handled p s is.0 before after is.1
by_memory false p s before after is =
    let same = ap (λ (b : Book). b.commits) is.1 in
    record { tables = ap (λ (b : Book). b.tables) is.1; commits = omega (arith, same) }

by_stop : (memory : Bool) (p : ℕ) (o : Option Stop) (before after : Book) → goes_to memory p o before after
    → IsFurther before after
by_stop memory p (Some s) before after is = by_memory memory p s before after is
by_stop memory p None before after is =
    let same = ap (λ (b : Book). b.commits) is.1 in
    record { tables = ap (λ (b : Book). b.tables) is.1; commits = omega (arith, same) }

by_part : (part memory : Bool) (batch : Batch) (p : ℕ) (before after : Book)
    → settles_if part memory batch p before after → IsFurther before after
by_part true memory batch p before after is = by_stop memory p (stop_in batch p) before after is
by_part false memory batch p before after is = stays before after is.1

settled_further : (batch : Batch) (first : Book) {n : ℕ} {memory : Bool} {after : Book}
    → SettleBelow batch first n memory after → IsFurther first after
settled_further batch first none_yet = stays first first refl
settled_further batch first (one_more {n} enough before after so_far settles) =
    then_further first before after (settled_further batch first so_far)
    (by_part (has_part batch n before) enough batch n before after settles)

pub region_further : (batch : Batch) (memory : Bool) (before after : Book) → CommitsRegion batch memory before after
    → IsFurther before after
region_further batch memory before after is =
    let rest = settled_further batch _ is.settle in
    let more = rest.commits in
    record { tables = rest.tables; commits = omega (arith, more) }

-- ---- takes

-- one take more, if the workers take
pub one_take_on : (takers : Takers) (wanted : Option ℕ) (sink : ℕ) (first before after : Book)
    → takers ≡ Workers wanted → TakesOn takers first before → (item : ℤ) × Takes sink (Some item) before after
    → TakesOn takers first after
one_take_on takers wanted sink first before after may so_far take =
    one_take_more before after wanted sink take.0 may so_far take.1

takes_then : (takers : Takers) (first between : Book) {b : Book} → TakesOn takers first between
    → TakesOn takers between b → TakesOn takers first b
takes_then takers first between one no_take = one
takes_then takers first between one (one_take_more before after wanted sink item may so_far take) =
    one_take_more before after wanted sink item may (takes_then takers first between one so_far) take

pub takes_on_from : (first before after : Desk) → before ≡ with_book before.book first
    → TakesOn first.takers first.book before.book → TakesOn before.takers before.book after.book
    → TakesOn first.takers first.book after.book
takes_on_from first before after same one two =
    takes_then first.takers first.book before.book one
    (subst (λ takers. TakesOn takers before.book after.book) (ap (λ d. d.takers) same) two)
