-- What the report of a run on one thread has made, if its limit of commits allows as many rounds as another history
-- takes.
use Rattle.kpn_book.proofs.Common.{◌≡◌, ◌≢◌, ℕ, ◌+◌, ◌*◌, ◌<◌, ◌≤◌, max, true, ℤ, List, length, Option, Some, None, refl, sym, ap, ◌∙◌, subst, inl, inr, arith, length-append, IsPrefix, IsPrefix-same, IsPrefix-trans, length_of_prefix, rest_of_prefix, same_from_prefix, prefixes_of_one, Tables, channel_at, is_sink, instance_at, program_of, IsNetwork, Family, given_by, start_frame, Event, read_in, written_on, read_on, IsRunFrom, HasMadeNoMore, HasMade, IsCaughtUp, all_read, reads_begin_writes, made_no_more, run_begun, made_later, no_more_if_made, frame_in, Book, Limits, Enough, Stopped, Report, IsEnough, IsOutcome, events_of, AreSupplied, IsReport, TakesRounds}
use Rattle.std.proofs.lemmas.List.Concat.{flat_map-append}
use Rattle.kpn_book.specs.RunHere.{supplies, IsBeforeTurn, Turns, no_turn, one_turn_more, IsNewBook, IsReportHere}
use Rattle.kpn_book.proofs.Completing.{fed_from}
use Rattle.kpn_book.proofs.FinalReports.{final_run, reads_as_much, enough_too, lacking, Kind, is_verdict, is_enough, is_stopped, kind_of}
use Rattle.kpn_book.proofs.Told.{turns_to_limit}
use Rattle.kpn_book.proofs.Progress.{IsOnWay, AreOnWay, happening_on_way, supplies_of_nobody}
use Rattle.kpn_book.proofs.RoundOfQueue.{all_tables, turn_prefix, turns_tables}
use Rattle.kpn_book.proofs.MadeInTime.{made_in_time}

-- at the start each process is on its way
pub new_on_way : (t : Tables) (b : Book) → IsNewBook t b → AreOnWay b
new_on_way t b is p there =
    let below : p < length t.instances = subst (λ t. p < length t.instances) is.tables there in
    subst (λ x. IsOnWay x p b.history (frame_in b.machine p)) (sym is.tables)
    (subst (λ H. IsOnWay t p H (frame_in b.machine p)) (sym is.history)
    (record {
      from = start_frame (program_of t p) (instance_at t p).pars;
      after = refl;
      steps = 0;
      stepped = is.frames p below;
      halts = λ e last halt. absurd cc;
    }))

-- the book before the last turn
record LastTurn (limits : Limits) (first last : Book) (turns : ℕ) : Type 0 where
  before : Book
  made : ℕ
  is : made + 1 ≡ turns
  so_far : Turns limits first made before
  ready : IsBeforeTurn before
  goes_on : IsOutcome before.tables before.history before.commits limits None
  later : IsPrefix before.history last.history

last_turn : (limits : Limits) (first : Book) {n : ℕ} {last : Book} → Turns limits first n last → 0 < n
    → LastTurn limits first last n
last_turn limits first no_turn some = absurd (omega (arith, some))
last_turn limits first (one_turn_more {n} before after so_far ready goes_on turn) some = record {
  before = before;
  made = n;
  is = refl;
  so_far = so_far;
  ready = ready;
  goes_on = goes_on;
  later = turn_prefix limits.quota before after ready turn;
}

module _ (t : Tables) (network : IsNetwork t) (lists : List (List ℤ)) (limits : Limits) (report : Report)
    (is : IsReport t lists limits report) (here : IsReportHere t lists limits report)
    (supplied : AreSupplied t lists (events_of report)) (H : List Event) (run : IsRunFrom t (given_by t lists) H)
    (rounds : ℕ) (takes : TakesRounds t (max limits.quota 1) H rounds)
    (enough : rounds * length t.instances < limits.commits) where
  abbrev given : Family
  given = given_by t lists

  run_here : IsRunFrom t given (events_of report)
  run_here = record { legal = is.legal; fed = fed_from t network lists limits report is supplied }

  fed_tables : here.runs.fed.tables ≡ t
  fed_tables =
      all_tables (supplies t given) here.runs.first here.runs.fed here.runs.supplied ∙ here.runs.begins.tables

  fed_on_way : AreOnWay here.runs.fed
  fed_on_way =
      happening_on_way (supplies t given) (supplies_of_nobody t given) here.runs.first here.runs.fed here.runs.supplied
      (new_on_way t here.runs.first here.runs.begins)

  module _ (stopped : report.outcome ≡ Stopped) where
    last : LastTurn limits here.runs.fed here.last report.commits
    last =
        let all = turns_to_limit t lists limits report here stopped in
        last_turn limits here.runs.fed here.runs.made (omega (arith, all, enough))

    begins : IsPrefix last.before.history (events_of report)
    begins = subst (IsPrefix last.before.history) (sym here.written.history) last.later

    run_before_last : IsRunFrom t given last.before.history
    run_before_last = run_begun t network given last.before.history (events_of report) begins run_here

    made_before : HasMade t H last.before.history
    made_before =
        let all = turns_to_limit t lists limits report here stopped in
        let one = last.is in
        subst (λ x. IsNetwork x → TakesRounds x (max limits.quota 1) H rounds → IsRunFrom x given H
        → IsRunFrom x given last.before.history → rounds * length x.instances ≤ last.made
        → HasMade x H last.before.history) fed_tables
        (λ network' takes' run' run_b few.
        made_in_time limits here.runs.fed fed_on_way network' given takes' run' last.so_far last.ready run_b few)
        network takes run run_before_last (omega (arith, all, enough, one))

    made_if_stopped : HasMadeNoMore t H (events_of report)
    made_if_stopped =
        no_more_if_made t network given H (events_of report) run run_here supplied.closed
        (made_later t network given H last.before.history (events_of report) begins run_here made_before)

    before_tables : last.before.tables ≡ t
    before_tables = turns_tables limits here.runs.fed last.so_far ∙ fed_tables

    served : IsCaughtUp t last.before.history
    served = subst (λ x. IsCaughtUp x last.before.history) before_tables last.ready.served

    -- before the last turn there was not enough
    not_enough : ¬ IsEnough t last.before.history limits.take
    not_enough = subst (λ x. ¬ IsEnough x last.before.history limits.take) before_tables last.goes_on.0

    read_as_much : (c : ℕ) → is_sink (channel_at t c) ≡ true
        → length (read_on H c) ≤ length (read_on last.before.history c)
    read_as_much c sink =
        let no_more = no_more_if_made t network given H last.before.history run run_before_last served.closed
        made_before in
        let read = length_of_prefix (read_on H c) (written_on H c) (reads_begin_writes t H run.legal c) in
        let written = length_of_prefix (written_on H c) (written_on last.before.history c) (no_more.written c) in
        let all = ap length (all_read t last.before.history run_before_last.legal c (served.taken c sink)) in
        omega arith

    enough_before : (wanted : Option ℕ) → IsEnough t H wanted → IsEnough t last.before.history wanted
    enough_before None has = has
    enough_before (Some items) has = λ c there sink.
        let read = has c there sink in let more = read_as_much c sink in omega arith

  -- as much was read of a sink
  read_at_last : report.outcome ≢ Enough → (c : ℕ) → c < length t.channels → is_sink (channel_at t c) ≡ true
      → length (read_on H c) ≤ length (read_on (events_of report) c)
  read_at_last other c there sink = by_kind (kind_of t network lists report.outcome)
    where
      by_kind : Kind t network lists report.outcome → length (read_on H c) ≤ length (read_on (events_of report) c)
      by_kind (is_verdict v e) =
          reads_as_much t network lists H (events_of report) run (final_run t network lists limits report is v e) c
          there sink (is.stays c)
      by_kind (is_enough e) = absurd (other e)
      by_kind (is_stopped e) =
          let rest = rest_of_prefix (last e).before.history (events_of report) (begins e) in
          let all = ap (λ G. length (read_on G c)) (sym rest.1)
          ∙ ap length (flat_map-append (read_in c) (last e).before.history rest.0)
          ∙ length-append (read_on (last e).before.history c) (read_on rest.0 c) in
          let read = read_as_much e c sink in
          omega arith

  pub made_if_not_enough : report.outcome ≢ Enough → HasMadeNoMore t H (events_of report)
  made_if_not_enough other = by_kind (kind_of t network lists report.outcome)
    where
      by_kind : Kind t network lists report.outcome → HasMadeNoMore t H (events_of report)
      by_kind (is_verdict v e) =
          made_no_more t network given (events_of report) (final_run t network lists limits report is v e) H run
      by_kind (is_enough e) = absurd (other e)
      by_kind (is_stopped e) = made_if_stopped e

  pub taken_if_not_enough : report.outcome ≢ Enough → (c : ℕ) → c < length t.channels
      → is_sink (channel_at t c) ≡ true → IsPrefix (read_on H c) (read_on (events_of report) c)
  taken_if_not_enough other c there sink =
      let made = made_if_not_enough other in
      let G = events_of report in
      elim (prefixes_of_one (read_on H c) (read_on G c) (written_on G c)
      (IsPrefix-trans (read_on H c) (written_on H c) (written_on G c) (reads_begin_writes t H run.legal c)
      (made.written c))
      (reads_begin_writes t G is.legal c)) [
        | inl begins ↦ begins
        | inr back ↦
            IsPrefix-same _ _
            (sym (same_from_prefix (read_on G c) (read_on H c) back (read_at_last other c there sink)))
      ]

  pub enough_in_time : IsEnough t H limits.take → report.outcome ≡ Enough
  enough_in_time wanted = by_kind (kind_of t network lists report.outcome)
    where
      by_kind : Kind t network lists report.outcome → report.outcome ≡ Enough
      by_kind (is_verdict v e) =
          absurd
          (lacking t network lists limits report is report.outcome refl v e
          (enough_too t network lists H (events_of report) run
          (final_run t network lists limits report is v e) is.stays limits.take wanted))
      by_kind (is_enough e) = e
      by_kind (is_stopped e) = absurd (not_enough e (enough_before e limits.take wanted))
