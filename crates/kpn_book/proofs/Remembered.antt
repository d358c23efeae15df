-- What a book keeps, it keeps through all calls.
use Rattle.kpn_book.proofs.Common.{◌≡◌, ℕ, ◌<◌, Bool, true, false, List, [], ◌∷◌, length, Option, Some, None, sym, ap, ◌∙◌, subst, inl, inr, Advanced, Stop, Event, Batch, stop_in, Done, Book, IsClaimed, standing_at, put_back, with_one_commit, Appends, AppendsAll, Happens, AllHappen, ready_if_paused, HandlesStop, Commits, StepsNext, IsSameBook, ClaimsRegion, CommitsRegion, with_batch, Remembers, RemembersAsMuch}
use Rattle.kpn_history.specs.Keeping.{keeps_items}
use Rattle.kpn_book.specs.declared.answers.Done.TheVariants as done
use Rattle.kpn_book.specs.InARow.{StepsInRow, no_step, one_step_more, ends_row, RunsInRow, RunsInVain}
use Rattle.kpn_book.specs.Regions.{SettleBelow, none_yet, one_more, Settles, settles_if, goes_to, commits_or_not, has_part}

pub same_much : (before after : Book) → after ≡ before → RemembersAsMuch before after
same_much before after same keeping is = subst (λ b. Remembers keeping b) (sym same) is

pub much-trans : (a b c : Book) → RemembersAsMuch a b → RemembersAsMuch b c → RemembersAsMuch a c
much-trans a b c one two keeping is = two keeping (one keeping is)

-- ---- events

pub appends_much : (e : Event) (before after : Book) → Appends e before after → RemembersAsMuch before after
appends_much e before after is keeping kept = record {
  events = is.keeps_events ∙ kept.events;
  items = λ c there.
      let below : c < length before.tables.channels = subst (λ t. c < length t.channels) is.tables there in
      (is.machine.channels c below).kept ∙ kept.items c below ∙ ap (λ t. keeps_items keeping t c) (sym is.tables);
}

pub all_much : (events : List Event) (before after : Book) → AppendsAll events before after
    → RemembersAsMuch before after
all_much [] before after same = same_much before after same
all_much (e ∷ events) before after is =
    much-trans before is.0 after (appends_much e before is.0 is.1) (all_much events is.0 after is.2)

pub happens_much : (e : Event) (before after : Book) → Happens e before after → RemembersAsMuch before after
happens_much e before after is = all_much (e ∷ is.growth) before after is.appends

pub happen_much : (events : List Event) (before after : Book) → AllHappen events before after
    → RemembersAsMuch before after
happen_much [] before after same = same_much before after same
happen_much (e ∷ events) before after is =
    much-trans before is.0 after (happens_much e before is.0 is.1) (happen_much events is.0 after is.2)

-- ---- commits and steps

back_much : (p : ℕ) (b : Book) → RemembersAsMuch b (put_back p b)
back_much p b keeping is = record { events = is.events; items = is.items }

ready_much : (p : ℕ) (answer : Done) (b : Book) → RemembersAsMuch b (ready_if_paused p answer b)
ready_much p done.Paused b = back_much p b
ready_much p other b = λ keeping is. is

pub handles_much : (p : ℕ) (s : Stop) (answer : Done) (before after : Book) → HandlesStop p s answer before after
    → RemembersAsMuch before after
handles_much p s answer before after is =
    much-trans before (ready_if_paused p answer (with_one_commit before)) after
    (λ keeping kept.
    ready_much p answer (with_one_commit before) keeping (record { events = kept.events; items = kept.items }))
    (all_much is.events (ready_if_paused p answer (with_one_commit before)) after is.appends)

pub commits_much : (p : ℕ) (a : Advanced) (answer : Done) (before after : Book) → Commits p a answer before after
    → RemembersAsMuch before after
commits_much p a answer before after is keeping kept =
    handles_much p a.stop answer (standing_at p a.to before) after is.handles keeping
    (record { events = kept.events; items = kept.items })

pub claimed_much : (p : ℕ) (before after : Book) → IsClaimed p before after → RemembersAsMuch before after
claimed_much p before after is keeping kept =
    subst (λ b. Remembers keeping b) (sym is.same) (record { events = kept.events; items = kept.items })

pub steps_much : (quota : ℕ) (answer : Done) (before after : Book) → StepsNext quota answer before after
    → RemembersAsMuch before after
steps_much quota answer before after is =
    much-trans before is.between after (claimed_much is.process before is.between is.steps.claimed)
    (commits_much is.process is.advance answer is.between after is.commits)

-- ---- rows

row_much : (quota : ℕ) (first : Book) {n : ℕ} {last : Book} → StepsInRow quota first n last → RemembersAsMuch first last
row_much quota first no_step = λ keeping is. is
row_much quota first (one_step_more before after row step) =
    much-trans first before after (row_much quota first row)
    (steps_much quota step.answer before after step.steps)

pub runs_much : (quota most : ℕ) (sink : Option ℕ) (before after : Book) → RunsInRow quota most sink before after
    → RemembersAsMuch before after
runs_much quota most sink before after is =
    much-trans before is.last after (row_much quota before is.row) (ends sink is.ends)
  where
    ends : (sink : Option ℕ) → ends_row quota sink is.last after → RemembersAsMuch is.last after
    ends (Some c) step = steps_much quota step.answer is.last after step.steps
    ends None same = same_much is.last after same

pub in_vain_much : (quota most : ℕ) (before after : Book) → RunsInVain quota most before after
    → RemembersAsMuch before after
in_vain_much quota most before after is =
    much-trans before is.last after (row_much quota before is.row)
    (elim is.ends [
      | inl same ↦ same_much is.last after same
      | inr stepped ↦ λ keeping kept.
          subst (λ b. Remembers keeping b) (sym stepped.there) (record { events = kept.events; items = kept.items })
    ])

-- ---- regions

pub claims_much : (of : List ℕ) (most : ℕ) (drains : Bool) (batch : Batch) (before after : Book)
    → ClaimsRegion of most drains batch before after → RemembersAsMuch before after
claims_much of most drains batch before after is keeping kept =
    subst (λ b. Remembers keeping b) (sym is.held)
    (let roomy = same_book before is.roomy is.same keeping kept in record { events = roomy.events; items = roomy.items })
  where
    same_book : (before after : Book) → IsSameBook before after → RemembersAsMuch before after
    same_book before after is keeping kept =
        subst (λ b. Remembers keeping b) (sym is.same) (record {
          events = kept.events;
          items = λ c there. ap (λ ch. ch.is_kept) (is.channels c).same ∙ kept.items c there;
        })

settles_much : (memory : Bool) (batch : Batch) (p : ℕ) (before after : Book) → Settles memory batch p before after
    → RemembersAsMuch before after
settles_much memory batch p before after = by_part (has_part batch p before)
  where
    by_memory : (memory : Bool) (s : Stop) → commits_or_not memory p s before after → RemembersAsMuch before after
    by_memory true s is = handles_much p s is.0 before after is.1
    by_memory false s is = λ keeping kept.
        subst (λ b. Remembers keeping b) (sym is.1) (back_much p before keeping kept)

    by_stop : (o : Option Stop) → goes_to memory p o before after → RemembersAsMuch before after
    by_stop (Some s) is = by_memory memory s is
    by_stop None is = λ keeping kept.
        subst (λ b. Remembers keeping b) (sym is.1) (back_much p before keeping kept)

    by_part : (part : Bool) → settles_if part memory batch p before after → RemembersAsMuch before after
    by_part true is = by_stop (stop_in batch p) is
    by_part false is = same_much before after is.1

settle_much : (batch : Batch) (first : Book) {n : ℕ} {memory : Bool} {last : Book}
    → SettleBelow batch first n memory last → RemembersAsMuch first last
settle_much batch first none_yet = λ keeping is. is
settle_much batch first (one_more {n} enough before after below settles) =
    much-trans first before after (settle_much batch first below)
    (settles_much enough batch n before after settles)

pub region_much : (batch : Batch) (memory : Bool) (before after : Book) → batch.tables ≡ before.tables
    → CommitsRegion batch memory before after → RemembersAsMuch before after
region_much batch memory before after tables is =
    much-trans before (with_batch batch is.joined before) after
    (λ keeping kept. record {
      events = kept.events;
      items = λ c there.
          (is.joins.each_channel c (subst (λ t. c < length t.channels) (sym tables) there)).kept ∙ kept.items c there;
    })
    (settle_much batch (with_batch batch is.joined before) is.settle)
