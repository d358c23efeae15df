-- The report of a run that was left to itself has what a report promises.
use Rattle.kpn_book.proofs.Common.{◌≡◌, ℕ, ◌+◌, ◌<◌, ◌≤◌, max, Bool, ℤ, List, length, Some, sym, ap, ◌∙◌, subst, arith, [], take, map, get_or, true, false, count_by, take_all, length-map-range_with_len, get_or-map-range_with_len, IsPrefix-same, length_of_prefix, Tables, channel_at, is_source, given_by, IsPrefixOnSources, AgreeOnSources, list_of, IsNetwork, written_on, read_on, is_closed, is_left, Legal, OwesNothing, process_events, Agrees, is_held, Event, Verdict, View, reads_begin_writes, take-prefix, Book, held_count, AllHappen, IsBook, Limits, Outcome, Stopped, Report, IsOutcome, verdict_of, events_of, read_of_sinks, IsWrittenFrom, AreSupplied, IsReport, sink_numbers, IsFedBelow, ComesToOutcome, first_read, ReadsWithin}
use Rattle.kpn_book.specs.RunHere.{supplies, takes_from_sinks, IsTurn, Turns, no_turn, one_turn_more, IsNewBook, IsReportHere}
use Rattle.kpn_book.proofs.Agreeing.{same_list}
use Rattle.kpn_book.proofs.Happening.{all_commits}
use Rattle.kpn_book.proofs.Committing.{source_there}
use Rattle.kpn_book.proofs.Ends.{closed_stays, closed_later}
use Rattle.kpn_book.proofs.Parts.{sink_below}
use Rattle.kpn_book.proofs.Stepped.{step_commits}

-- ---- what was read, by a view

module _ {A : Type 0} (t : Tables) (H : List Event) (legal : Legal t H) (view : View A) (agrees : Agrees t H view) where
  pub journals_there : length view.journals ≡ length t.channels
  journals_there = ap length agrees.journals ∙ length-map-range_with_len (written_on H) 0 (length t.channels)

  pub reads_there : length view.read ≡ length t.channels
  reads_there = ap length agrees.read ∙ length-map-range_with_len (λ c. length (read_on H c)) 0 (length t.channels)

  read_is : (c : ℕ) → c < length t.channels → get_or view.read c 0 ≡ length (read_on H c)
  read_is c below =
      ap (λ ns. get_or ns c 0) agrees.read
      ∙ get_or-map-range_with_len (λ c. length (read_on H c)) 0 (length t.channels) c c 0 below (omega arith)

  journal_is : (c : ℕ) → c < length t.channels → get_or view.journals c [] ≡ written_on H c
  journal_is = list_of t (written_on H) view.journals agrees.journals

  pub within : (c : ℕ) → c < length t.channels → ReadsWithin view c
  within c below =
      let read = read_is c below in
      let journal = ap length (journal_is c below) in
      let most = length_of_prefix (read_on H c) (written_on H c) (reads_begin_writes t H legal c) in
      omega arith

  first_read_is : (c : ℕ) → c < length t.channels → first_read view c ≡ read_on H c
  first_read_is c below =
      ap (λ n. take n (get_or view.journals c [])) (read_is c below)
      ∙ ap (take (length (read_on H c))) (journal_is c below)
      ∙ sym (take-prefix (read_on H c) (written_on H c) (reads_begin_writes t H legal c) (length (read_on H c))
      (omega arith))
      ∙ take_all (length (read_on H c)) (read_on H c) (omega arith)

  pub reads_of_sinks : map (first_read view) (sink_numbers t) ≡ read_of_sinks t H
  reads_of_sinks =
      same_list (first_read view) (read_on H) (sink_numbers t) (λ c h. first_read_is c (sink_below t c h))

-- ---- all of it

-- take a book in which nobody is held and which has come to an outcome; if the sources were fed as promised, its report
-- has what a report promises
module _ (t : Tables) (b : Book) (tables : b.tables ≡ t) (book : IsBook b) (outcome : Outcome) (report : Report)
    (tells : IsWrittenFrom b outcome report) where
  same : b.history ≡ events_of report
  same = sym tells.history

  pub told_legal : Legal t (events_of report)
  told_legal = subst (Legal t) same (subst (λ t. Legal t b.history) tables book.kept.in_step.run.legal)

  pub told_view : Agrees t (events_of report) report.view
  told_view = subst (λ H. Agrees t H report.view) same (subst (λ t. Agrees t b.history report.view) tables tells.view)

  pub IsReport-of : (lists : List (List ℤ)) (limits : Limits) → held_count b ≡ 0
      → IsOutcome b.tables b.history b.commits limits (Some outcome)
      → ((c : ℕ) → is_left b.history c ≡ false)
      → IsPrefixOnSources t (written_on (events_of report)) (given_by t lists)
      → ((verdict : Verdict) → verdict_of report.outcome ≡ Some verdict
      → AgreeOnSources t (written_on (events_of report)) (given_by t lists))
      → IsReport t lists limits report
  IsReport-of lists limits none_held comes_to stays fed all_fed = record {
    legal = told_legal;
    nothing_owed =
        subst (OwesNothing t) same (subst (λ t. OwesNothing t b.history) tables book.kept.nothing_owed);
    view = told_view;
    nobody_held = tells.view.counts.held ∙ ap (count_by is_held) tells.states ∙ none_held;
    fed = fed;
    all_fed = all_fed;
    taken = tells.taken ∙ ap (λ t. read_of_sinks t b.history) tables ∙ ap (read_of_sinks t) same;
    stays = λ c. ap (λ H. is_left H c) tells.history ∙ stays c;
    committed =
        subst (λ H. process_events H ≤ report.commits) same
        (subst (λ n. process_events b.history ≤ n) (sym tells.commits) book.kept.committed);
    outcome =
        subst (λ H. IsOutcome t H report.commits limits (Some report.outcome)) same
        (subst (λ n. IsOutcome t b.history n limits (Some report.outcome)) (sym tells.commits)
        (subst (λ o. IsOutcome t b.history b.commits limits (Some o)) (sym tells.is)
        (subst (λ t. IsOutcome t b.history b.commits limits (Some outcome)) tables comes_to)));
  }

-- ---- turns

turn_commits : (quota : ℕ) (before after : Book) → IsTurn quota before after → after.commits ≡ before.commits + 1
turn_commits quota before after turn =
    all_commits (takes_from_sinks turn.stepped.tables turn.stepped.history) turn.stepped after turn.takes
    ∙ step_commits (max quota 1) turn.answer before turn.stepped turn.steps

-- each turn is a commit
pub commits_are_turns : (limits : Limits) (first : Book) {n : ℕ} {last : Book} → Turns limits first n last
    → last.commits ≡ first.commits + n
commits_are_turns limits first no_turn = omega arith
commits_are_turns limits first (one_turn_more before after so_far is goes_on turn) =
    let more = turn_commits limits.quota before after turn in
    let same = commits_are_turns limits first so_far in
    omega arith

-- no more are made than commits are allowed
turns_below : (limits : Limits) (first : Book) → first.commits ≡ 0 → {n : ℕ} {last : Book} → Turns limits first n last
    → n ≤ limits.commits
turns_below limits first none no_turn = omega arith
turns_below limits first none (one_turn_more before after so_far is goes_on turn) =
    let below = goes_on.2 in
    let same = commits_are_turns limits first so_far in
    omega arith

module _ (t : Tables) (lists : List (List ℤ)) (limits : Limits) (report : Report)
    (is : IsReportHere t lists limits report)
  where
    none_when_fed : is.runs.fed.commits ≡ 0
    none_when_fed =
        all_commits (supplies t (given_by t lists)) is.runs.first is.runs.fed is.runs.supplied
        ∙ is.runs.begins.commits

    pub turns_within : report.commits ≤ limits.commits
    turns_within = turns_below limits is.runs.fed none_when_fed is.runs.made

    pub turns_to_limit : report.outcome ≡ Stopped → report.commits ≡ limits.commits
    turns_to_limit e =
        let last = is.last in
        let reached =
        (subst (λ o. IsOutcome last.tables last.history last.commits limits (Some o)) e is.runs.comes_to).2 in
        let none = none_when_fed in
        let same = commits_are_turns limits is.runs.fed is.runs.made in
        let most = turns_within in
        omega arith

-- ---- a run that was left to itself

-- the same of a run that was left to itself: its sources were fed their whole lists
module _ (t : Tables) (network : IsNetwork t) (lists : List (List ℤ)) (limits : Limits) (in_order : Bool)
    (outcome : Outcome) (fed after : Book) (sources : IsFedBelow t (given_by t lists) (length t.channels) fed)
    (comes : ComesToOutcome limits in_order outcome fed after) (book : IsBook after) where
  same_tables : after.tables ≡ t
  same_tables = comes.later.tables ∙ sources.tables

  whole_list : (c : ℕ) → is_source (channel_at t c) ≡ true → written_on after.history c ≡ given_by t lists c
  whole_list c source =
      let there = source_there t c source in
      closed_stays t network fed.history after.history comes.later.history
      (subst (λ t. Legal t after.history) same_tables book.kept.in_step.run.legal) c source
      (sources.closed c there source)
      ∙ sources.fed c there source

  pub IsReport-told : (report : Report) → IsWrittenFrom after outcome report → IsReport t lists limits report
  IsReport-told report tells =
      let whole : (c : ℕ) → is_source (channel_at t c) ≡ true
      → written_on (events_of report) c ≡ given_by t lists c =
      λ c source. ap (λ H. written_on H c) tells.history ∙ whole_list c source in
      IsReport-of t after same_tables book outcome report tells lists limits comes.nobody_held comes.comes_to
      (λ c. comes.later.stays c (sources.stays c))
      (record {
        each = λ c source.
            IsPrefix-same (written_on (events_of report) c) (given_by t lists c) (whole c source);
      })
      (λ verdict is. record { each = whole })

  -- whatever the outcome
  pub AreSupplied-told : (report : Report) → IsWrittenFrom after outcome report
      → AreSupplied t lists (events_of report)
  AreSupplied-told report tells = record {
    whole = record { each = λ c source. ap (λ H. written_on H c) tells.history ∙ whole_list c source };
    closed = λ c source.
        ap (λ H. is_closed H c) tells.history
        ∙ closed_later fed.history after.history comes.later.history c
        (sources.closed c (source_there t c source) source);
  }

  made_turns : in_order ≡ true → (report : Report) → IsWrittenFrom after outcome report
      → Turns limits fed report.commits after
  made_turns ordered report tells =
      let turns = comes.made ordered in
      let made = commits_are_turns limits fed turns.1 in
      let none = sources.commits in
      let same = tells.commits in
      let all : turns.0 ≡ report.commits = omega arith in
      subst (λ n. Turns limits fed n after) all turns.1

  pub IsReportHere-told : (first : Book) → IsNewBook t first → AllHappen (supplies t (given_by t lists)) first fed
      → in_order ≡ true → (report : Report) → IsWrittenFrom after outcome report → IsReportHere t lists limits report
  IsReportHere-told first begins supplied ordered report tells = record {
    last = after;
    runs = record {
      first = first;
      begins = begins;
      fed = fed;
      supplied = supplied;
      made = made_turns ordered report tells;
      comes_to =
          subst (λ o. IsOutcome after.tables after.history after.commits limits (Some o)) (sym tells.is)
          comes.comes_to;
    };
    written = subst (λ o. IsWrittenFrom after o report) (sym tells.is) tells;
  }
