-- What a step of a process does to the sinks, and what a take does then.
use Rattle.kpn_book.proofs.Common.{◌≡◌, ◌↔◌, ℕ, ◌+◌, ◌<◌, ◌≤◌, max, Bool, true, false, cond, IsTrue, ℤ, List, [], ◌∷◌, ◌++◌, length, drop, slice_get, Option, Some, None, refl, sym, ap, ◌∙◌, subst, inl, inr, arith, length-append, length-drop, cases_eq, both_ways, false≢true, list_any, list_any-append, IsPrefix, IsPrefix-append, IsPrefix-trans, IsPrefix-refl, Tables, channel_at, is_source, is_sink, IsNetwork, Event, written_in, read_in, written_on, read_on, unread_on, is_leave_of, is_left, Legal, growth_after, IsOwn-last, written_on-push, written_on-same, read_on-push, read_on-same, item_here, unread_length, channel_in, Stop, unread, Done, Book, held_count, standing_at, IsBook, IsGrowthOwed, AllHappen, HasToWait, IsAnswer, Takes, takes_item, ClaimsNobody, IsStep, StepsNext, Limits, IsEnough, IsLeftToItself, IsFrontStepped, IsLater, IsCommitted, HasPut, HasPutOn, KeepsSinks, sinks_after, has_put, ReadsOneMore, IsStepped, takes_of, takes_from_sinks, RemembersAsMuch}
use Rattle.kpn_history.specs.declared.event.Event.TheVariants as event
use Rattle.kpn_history.proofs.Journals.{no_sink, none_elsewhere}
use Rattle.kpn_book.specs.declared.answers.Done.TheVariants as done
use Rattle.kpn_book.proofs.Appended.{commit_tables, commit_history, commit_commits}
use Rattle.kpn_book.proofs.Ends.{AddNothing, nothing_more, sink_there, closed_later}
use Rattle.kpn_book.proofs.Held.{held_after_step, held_after_take}
use Rattle.kpn_book.proofs.Remembered.{same_much, much-trans, happens_much, steps_much}
use Rattle.kpn_book.proofs.Happening.{happens_left, happens_tables, happens_prefix, happens_commits, happens_written, happens_read, one}
use Rattle.kpn_book.proofs.Turning.{nothing_lies, takes_nothing, takes_there, the_one, front_stepped}

-- ---- what was read

-- if as much was read, there is enough
enough_same : (t : Tables) (G H : List Event)
    → ((c : ℕ) → is_sink (channel_at t c) ≡ true → length (read_on H c) ≡ length (read_on G c)) → (wanted : Option ℕ)
    → IsEnough t H wanted → IsEnough t G wanted
enough_same t G H same None enough = enough
enough_same t G H same (Some items) enough =
    λ c below sink. let long = same c sink in let most = enough c below sink in omega arith

-- ---- the same run, later

pub IsLater-refl : (b : Book) → IsLater b b
IsLater-refl b =
    record {
      tables = refl;
      history = IsPrefix-refl b.history;
      stays = λ c stays. stays;
      keeps = λ keeping is. is;
    }

pub IsLater-trans : (a b c : Book) → IsLater a b → IsLater b c → IsLater a c
IsLater-trans a b c first second = record {
  tables = second.tables ∙ first.tables;
  history = IsPrefix-trans a.history b.history c.history first.history second.history;
  stays = λ d stays. second.stays d (first.stays d stays);
  keeps = much-trans a b c first.keeps second.keeps;
}

pub IsLater-events : (before after : Book) (es : List Event) → after.tables ≡ before.tables
    → after.history ≡ before.history ++ es → ((c : ℕ) → list_any (is_leave_of c) es ≡ false)
    → RemembersAsMuch before after → IsLater before after
IsLater-events before after es tables history none much = record {
  tables = tables;
  history = subst (IsPrefix before.history) (sym history) (IsPrefix-append before.history es);
  stays = λ c stays.
      ap (λ H. is_left H c) history ∙ list_any-append (is_leave_of c) before.history es
      ∙ rw (stays, none c) refl;
  keeps = much;
}

-- ---- a step

module _ (quota : ℕ) (answer : Done) (before after : Book) (steps : StepsNext quota answer before after) where
  abbrev events : List Event
  events = steps.commits.handles.events

  abbrev stood : Book
  stood = standing_at steps.process steps.advance.to steps.between

  pub step_tables : after.tables ≡ before.tables
  step_tables =
      commit_tables steps.process steps.advance answer steps.between after steps.commits
      ∙ ap (λ b. b.tables) steps.steps.claimed.same

  pub step_history : after.history ≡ before.history ++ events
  step_history =
      commit_history steps.process steps.advance answer steps.between after steps.commits
      ∙ ap (λ b. b.history ++ events) steps.steps.claimed.same

  pub step_commits : after.commits ≡ before.commits + 1
  step_commits =
      commit_commits steps.process steps.advance answer steps.between after steps.commits
      ∙ ap (λ b. b.commits + 1) steps.steps.claimed.same

-- waits and growths read and write nothing
wait_writes : (b : Book) (p : ℕ) (s : Stop) (wait : Event) → HasToWait b p s wait → (c : ℕ)
    → (written_in c wait ≡ []) × (read_in c wait ≡ [])
wait_writes b p s wait waits c =
    elim waits [
      | inl empty ↦ (ap (written_in c) empty.is, ap (read_in c) empty.is)
      | inr full ↦ (ap (written_in c) full.is, ap (read_in c) full.is)
    ]

growth_writes : (t : Tables) (H growth : List Event) → IsGrowthOwed t H growth → (c : ℕ)
    → AddNothing (written_in c) growth
growth_writes t H [] owed c = tt
growth_writes t H (event.Grow p d n ∷ []) owed c = (refl, tt)
growth_writes t H growth owed c = absurd owed

growth_reads : (t : Tables) (H growth : List Event) → IsGrowthOwed t H growth → (c : ℕ)
    → AddNothing (read_in c) growth
growth_reads t H [] owed c = tt
growth_reads t H (event.Grow p d n ∷ []) owed c = (refl, tt)
growth_reads t H growth owed c = absurd owed

-- and leave no sink
wait_leaves : (b : Book) (p : ℕ) (s : Stop) (wait : Event) → HasToWait b p s wait → (c : ℕ)
    → is_leave_of c wait ≡ false
wait_leaves b p s wait waits c =
    elim waits [
      | inl empty ↦ ap (is_leave_of c) empty.is
      | inr full ↦ ap (is_leave_of c) full.is
    ]

growth_leaves : (t : Tables) (H growth : List Event) → IsGrowthOwed t H growth → (c : ℕ)
    → list_any (is_leave_of c) growth ≡ false
growth_leaves t H [] owed c = refl
growth_leaves t H (event.Grow p d n ∷ []) owed c = refl
growth_leaves t H growth owed c = absurd owed

answer_leaves : (b : Book) (p : ℕ) (s : Stop) (answer : Done) (es : List Event) → IsAnswer b p s answer es → (c : ℕ)
    → list_any (is_leave_of c) es ≡ false
answer_leaves b p s (done.Got v) es got c = ap (list_any (is_leave_of c)) got.appends
answer_leaves b p s done.Put es put c = ap (list_any (is_leave_of c)) put.appends
answer_leaves b p s done.Blocked es blocked c =
    ap (list_any (is_leave_of c)) blocked.appends
    ∙ rw (wait_leaves b p s blocked.wait blocked.waits c) refl
answer_leaves b p s (done.Grew d) es grew c =
    ap (list_any (is_leave_of c)) grew.appends ∙ rw (wait_leaves b p s grew.wait grew.waits c) refl
answer_leaves b p s done.Ended es ended c =
    ap (list_any (is_leave_of c)) ended.appends
    ∙ growth_leaves b.tables (b.history ++ event.Ended p ended.how ∷ []) ended.growth ended.owed c
answer_leaves b p s done.Paused es paused c = ap (list_any (is_leave_of c)) paused.appends

-- a process reads no sink
got_elsewhere : (t : Tables) → IsNetwork t → (B : List Event) (p c : ℕ) (v : ℤ)
    → Legal t (B ++ event.Get p c v ∷ []) → (d : ℕ) → is_sink (channel_at t d) ≡ true
    → read_in d (event.Get p c v) ≡ []
got_elsewhere t network B p c v legal d sink =
    none_elsewhere c d v
    (λ same. no_sink t c d p (IsOwn-last t network B (event.Get p c v) legal) sink (sym same))

module _ (before after : Book) where
  keeps_sinks : (es : List Event) → after.history ≡ before.history ++ es
      → ((c : ℕ) → is_sink (channel_at before.tables c) ≡ true
      → AddNothing (written_in c) es × AddNothing (read_in c) es) → KeepsSinks before after
  keeps_sinks es history none = record {
    written = λ c sink.
        ap (λ H. written_on H c) history ∙ nothing_more (written_in c) es before.history (none c sink).0;
    read = λ c sink. ap (λ H. read_on H c) history ∙ nothing_more (read_in c) es before.history (none c sink).1;
  }

  module _ (was : IsBook before) (is : IsBook after) (tables : after.tables ≡ before.tables) (b : Book) (p : ℕ)
      (s : Stop) (es : List Event) (history : after.history ≡ before.history ++ es) where
    with_events : (own : List Event) → es ≡ own → after.history ≡ before.history ++ own
    with_events own same = history ∙ ap (λ es. before.history ++ es) same

    sinks_by : (answer : Done) → IsAnswer b p s answer es → sinks_after (has_put (Some answer)) before after
    sinks_by (done.Got v) got =
        let own = with_events (event.Get p got.channel v ∷ []) got.appends in
        let legal : Legal before.tables (before.history ++ event.Get p got.channel v ∷ []) =
        subst (λ t. Legal t (before.history ++ event.Get p got.channel v ∷ [])) tables
        (subst (Legal after.tables) own is.kept.in_step.run.legal) in
        keeps_sinks (event.Get p got.channel v ∷ []) own
        (λ c sink. (
          (refl, tt),
          (got_elsewhere before.tables was.network before.history p got.channel v legal c sink, tt),
        ))
    sinks_by done.Put put =
        record {
          process = p;
          channel = put.channel;
          item = put.item;
          history = with_events (event.Put p put.channel put.item ∷ []) put.appends;
        }
    sinks_by done.Blocked blocked =
        keeps_sinks (blocked.wait ∷ []) (with_events (blocked.wait ∷ []) blocked.appends)
        (λ c sink.
        let none = wait_writes b p s blocked.wait blocked.waits c in
        ((none.0, tt), (none.1, tt)))
    sinks_by (done.Grew d) grew =
        keeps_sinks (grew.wait ∷ growth_after b.tables (b.history ++ grew.wait ∷ []) grew.grower d ∷ [])
        (with_events (grew.wait ∷ growth_after b.tables (b.history ++ grew.wait ∷ []) grew.grower d ∷ []) grew.appends)
        (λ c sink.
        let none = wait_writes b p s grew.wait grew.waits c in
        ((none.0, (refl, tt)), (none.1, (refl, tt))))
    sinks_by done.Ended ended =
        keeps_sinks (event.Ended p ended.how ∷ ended.growth)
        (with_events (event.Ended p ended.how ∷ ended.growth) ended.appends)
        (λ c sink. (
          (refl, growth_writes b.tables (b.history ++ event.Ended p ended.how ∷ []) ended.growth ended.owed c),
          (refl, growth_reads b.tables (b.history ++ event.Ended p ended.how ∷ []) ended.growth ended.owed c),
        ))
    sinks_by done.Paused paused = keeps_sinks [] (with_events [] paused.appends) (λ c sink. (tt, tt))

pub stepped : (quota : ℕ) (answer : Option Done) (before after : Book) → IsBook before → IsBook after
    → held_count before ≡ 0 → (ClaimsNobody before → ⊥) → IsStep quota answer before after
    → IsCommitted before after × sinks_after (has_put answer) before after
stepped quota None before after was is held some steps = absurd (some steps.0)
stepped quota (Some answer) before after was is held some steps = (
  record {
    later = IsLater-events before after (events quota answer before after steps)
        (step_tables quota answer before after steps) (step_history quota answer before after steps)
        (answer_leaves (stood quota answer before after steps) steps.process steps.advance.stop answer
        (events quota answer before after steps) steps.commits.handles.answers)
        (steps_much quota answer before after steps);
    commits = step_commits quota answer before after steps;
    nobody_held = held_after_step quota answer before after was steps ∙ held;
  },
  sinks_by before after was is (step_tables quota answer before after steps)
      (stood quota answer before after steps) steps.process steps.advance.stop (events quota answer before after steps)
      (step_history quota answer before after steps) answer steps.commits.handles.answers,
)

-- ---- nothing was put on a sink

module _ (limits : Limits) (before after : Book) (to_itself : IsLeftToItself before)
    (committed : IsCommitted before after)
  where
    source_before : (c : ℕ) → is_source (channel_at after.tables c) ≡ true
        → is_source (channel_at before.tables c) ≡ true
    source_before c source = subst (λ t. is_source (channel_at t c) ≡ true) committed.later.tables source

    sink_before : (c : ℕ) → is_sink (channel_at after.tables c) ≡ true → is_sink (channel_at before.tables c) ≡ true
    sink_before c sink = subst (λ t. is_sink (channel_at t c) ≡ true) committed.later.tables sink

    left_then : KeepsSinks before after → IsLeftToItself after
    left_then keeps = record {
      nobody_held = committed.nobody_held;
      closed = λ c source.
          closed_later before.history after.history committed.later.history c
          (to_itself.closed c (source_before c source));
      all_read = λ c sink.
          let is = sink_before c sink in
          let all = to_itself.all_read c is in
          let written = ap length (keeps.written c is) in
          let read = ap length (keeps.read c is) in
          omega arith;
    }

    pub not_put : (in_order : Bool) → (in_order ≡ true → IsFrontStepped (max limits.quota 1) before after)
        → KeepsSinks before after → (IsEnough before.tables before.history limits.take → ⊥)
        → IsStepped limits in_order false before after
    not_put in_order front keeps few = record {
      turn = λ is. record {
        answer = (front is).0;
        stepped = after;
        steps = (front is).1;
        takes = takes_nothing after (left_then keeps);
      };
      later = committed.later;
      commits = committed.commits;
      to_itself = left_then keeps;
      decides = (
        λ is. absurd (false≢true is),
        λ enough.
            absurd (few (enough_same before.tables before.history after.history
            (λ c sink. ap length (keeps.read c sink)) limits.take
            (subst (λ t. IsEnough t after.history limits.take) committed.later.tables enough))),
      );
    }

-- a turn of a run that goes on: who was stepped, what was committed, and what it has done to the sinks
pub turned : (limits : Limits) (quota : ℕ) (answer : Option Done) (before after : Book) → quota ≡ max limits.quota 1
    → IsBook before → IsBook after → held_count before ≡ 0 → (ClaimsNobody before → ⊥) → IsStep quota answer before after
    → IsFrontStepped (max limits.quota 1) before after × IsCommitted before after
    × sinks_after (has_put answer) before after
turned limits quota answer before after most was is held some step =
    let committed = stepped quota answer before after was is held some step in (
      subst (λ n. IsFrontStepped n before after) most (front_stepped quota answer before after some step),
      committed.0,
      committed.1,
    )

-- ---- an item was put

module _ (before now : Book) (p c : ℕ) (v : ℤ) (put : now.history ≡ before.history ++ event.Put p c v ∷ []) where
  put_written : written_on now.history c ≡ written_on before.history c ++ v ∷ []
  put_written =
      ap (λ H. written_on H c) put ∙ written_on-push before.history (event.Put p c v) c
      ∙ ap (λ xs. written_on before.history c ++ xs) (item_here c v)

  put_elsewhere : (d : ℕ) → (c ≡ d → ⊥) → written_on now.history d ≡ written_on before.history d
  put_elsewhere d other =
      ap (λ H. written_on H d) put ∙ written_on-same before.history (event.Put p c v) d (none_elsewhere c d v other)

  put_read : (d : ℕ) → read_on now.history d ≡ read_on before.history d
  put_read d = ap (λ H. read_on H d) put ∙ read_on-same before.history (event.Put p c v) d refl

-- what was put on a sink was taken
pub record IsTaken (before after : Book) (c : ℕ) : Type 0 where
  pub tables : after.tables ≡ before.tables
  pub history : IsPrefix before.history after.history
  pub stays : (d : ℕ) → is_left before.history d ≡ false → is_left after.history d ≡ false
  pub keeps : RemembersAsMuch before after
  pub commits : after.commits ≡ before.commits
  pub written : (d : ℕ) → written_on after.history d ≡ written_on before.history d
  pub all : length (written_on after.history c) ≤ length (read_on before.history c) + 1
      → length (written_on after.history c) ≤ length (read_on after.history c)
  pub most : length (read_on after.history c) ≤ length (read_on before.history c) + 1
  pub elsewhere : (d : ℕ) → (c ≡ d → ⊥) → read_on after.history d ≡ read_on before.history d

nothing_unread : (b : Book) → IsBook b → (c : ℕ) → c < length b.tables.channels
    → unread (channel_in b.machine c) ≡ []
    → length (written_on b.history c) ≤ length (read_on b.history c)
nothing_unread b book c there none =
    let holds = book.kept.in_step.run.leads.channels c there in
    let ch = channel_in b.machine c in
    let long = length-drop ch.read ch.journal in
    let zero = ap length none in
    let written = ap length holds.journal in
    let read = holds.read in
    omega arith

pub taken : (c : ℕ) (item : Option ℤ) (before after : Book) → IsBook before → Takes c item before after
    → IsTaken before after c
taken c item before after book takes = by item takes.takes
  where
    by : (item : Option ℤ) → takes_item c item before after → IsTaken before after c
    by None same = record {
      tables = ap (λ b. b.tables) same.1;
      history = subst (λ b. IsPrefix before.history b.history) (sym same.1) (IsPrefix-refl before.history);
      stays = λ d stays. ap (λ b. is_left b.history d) same.1 ∙ stays;
      keeps = same_much before after same.1;
      commits = ap (λ b. b.commits) same.1;
      written = λ d. ap (λ b. written_on b.history d) same.1;
      all = λ bound.
          subst (λ b. length (written_on b.history c) ≤ length (read_on b.history c)) (sym same.1)
          (nothing_unread before book c (sink_there before.tables c takes.sink.sink) same.0);
      most = let long = ap (λ b. length (read_on b.history c)) same.1 in omega arith;
      elsewhere = λ d other. ap (λ b. read_on b.history d) same.1;
    }
    by (Some v) takes =
        let is = takes.1 in
        let e : Event = event.Take c v in
        let here : read_on after.history c ≡ read_on before.history c ++ v ∷ [] =
        happens_read e before after is c ∙ read_on-push before.history e c
        ∙ ap (λ xs. read_on before.history c ++ xs) (item_here c v) in
        let long = ap length here in
        let one = length-append (read_on before.history c) (v ∷ []) in
        record {
          tables = happens_tables e before after is;
          history = happens_prefix e before after is;
          stays = λ d. happens_left d e refl before after is;
          keeps = happens_much e before after is;
          commits = happens_commits e before after is;
          written = λ d. happens_written e before after is d ∙ written_on-same before.history e d refl;
          all = λ bound. omega arith;
          most = omega arith;
          elsewhere = λ d other.
              happens_read e before after is d ∙ read_on-same before.history e d (none_elsewhere c d v other);
        }

-- what was put on a sink was taken: of this sink at most one item more was read, and the outside has nothing to do
module _ (limits : Limits) (before now after : Book) (to_itself : IsLeftToItself before)
    (committed : IsCommitted before now)
    (p c : ℕ) (v : ℤ) (put : now.history ≡ before.history ++ event.Put p c v ∷ []) (book : IsBook now)
    (item : Option ℤ) (takes : Takes c item now after) where
  abbrev took : IsTaken now after c
  took = taken c item now after book takes

  pub put_taken_tables : after.tables ≡ before.tables
  put_taken_tables = took.tables ∙ committed.later.tables

  pub put_taken_more : ReadsOneMore after.tables c before.history after.history
  put_taken_more =
      let here = ap length (put_read before now p c v put c) in
      let most = took.most in
      record {
        here = omega arith;
        elsewhere = λ d sink other.
            ap length (took.elsewhere d (λ same. other (sym same)) ∙ put_read before now p c v put d);
      }

  sinks_read : (d : ℕ) → is_sink (channel_at after.tables d) ≡ true
      → length (written_on after.history d) ≤ length (read_on after.history d)
  sinks_read d sink =
      let was = to_itself.all_read d (subst (λ t. is_sink (channel_at t d) ≡ true) put_taken_tables sink) in
      elim (cases_eq c d) [
        | inl same ↦
            let bound = to_itself.all_read c
            (subst (λ x. is_sink (channel_at before.tables x) ≡ true) (sym same)
            (subst (λ t. is_sink (channel_at t d) ≡ true) put_taken_tables sink)) in
            let written = ap length (took.written c ∙ put_written before now p c v put) in
            let one = length-append (written_on before.history c) (v ∷ []) in
            let read = ap length (put_read before now p c v put c) in
            subst (λ x. length (written_on after.history x) ≤ length (read_on after.history x)) same
            (took.all (omega arith))
        | inr other ↦
            let written = ap length (took.written d ∙ put_elsewhere before now p c v put d other) in
            let read = ap length (took.elsewhere d other ∙ put_read before now p c v put d) in
            omega arith
      ]

  -- what is unread on the sinks is the item that was put, and it is taken
  unread_now : unread (channel_in now.machine c) ≡ unread_on now.history c
  unread_now =
      let holds = book.kept.in_step.run.leads.channels c (sink_there now.tables c takes.sink.sink) in
      let ch = channel_in now.machine c in
      ap (λ n. drop n ch.journal) holds.read ∙ ap (drop (length (read_on now.history c))) holds.journal

  few_unread : length (unread_on now.history c) ≤ 1
  few_unread =
      let was =
      to_itself.all_read c (subst (λ t. is_sink (channel_at t c) ≡ true) committed.later.tables takes.sink.sink) in
      let written = ap length (put_written before now p c v put) in
      let one = length-append (written_on before.history c) (v ∷ []) in
      let read = ap length (put_read before now p c v put c) in
      let unread = unread_length now.history c in
      omega arith

  others_empty : (d : ℕ) → (d ≡ c → ⊥) → takes_of now.tables now.history d ≡ []
  others_empty d other =
      nothing_lies now.tables now.history d
      (λ sink.
      let was = to_itself.all_read d (subst (λ t. is_sink (channel_at t d) ≡ true) committed.later.tables sink) in
      let written = ap length (put_elsewhere before now p c v put d (λ same. other (sym same))) in
      let read = ap length (put_read before now p c v put d) in
      omega arith)

  put_takes : AllHappen (takes_from_sinks now.tables now.history) now after
  put_takes = by item takes.takes
    where
      there : c < length now.tables.channels
      there = sink_there now.tables c takes.sink.sink

      by : (item : Option ℤ) → takes_item c item now after
          → AllHappen (takes_from_sinks now.tables now.history) now after
      by None same =
          takes_there now after c there takes.sink.sink others_empty [] (sym unread_now ∙ same.0) same.1
      by (Some w) taken =
          takes_there now after c there takes.sink.sink others_empty (w ∷ [])
          (sym unread_now
          ∙ the_one (unread (channel_in now.machine c)) w
          (ap (λ b. cond b None (slice_get (unread (channel_in now.machine c)) 0)) (sym takes.sink.not_left)
          ∙ taken.0)
          (subst (λ xs. length xs ≤ 1) (sym unread_now) few_unread))
          (one (event.Take c w) now after taken.1)

  pub put_taken : (in_order : Bool) → (in_order ≡ true → IsFrontStepped (max limits.quota 1) before now)
      → (enough : Bool) → (IsTrue enough ↔ IsEnough after.tables after.history limits.take)
      → IsStepped limits in_order enough before after
  put_taken in_order front enough decides = record {
    turn = λ is. record { answer = (front is).0; stepped = now; steps = (front is).1; takes = put_takes };
    later =
        IsLater-trans before now after committed.later
        (record { tables = took.tables; history = took.history; stays = took.stays; keeps = took.keeps });
    commits = took.commits ∙ committed.commits;
    to_itself = record {
      nobody_held = held_after_take now book c item after takes ∙ committed.nobody_held;
      closed = λ d source.
          closed_later now.history after.history took.history d
          (closed_later before.history now.history committed.later.history d
          (to_itself.closed d (subst (λ t. is_source (channel_at t d) ≡ true) put_taken_tables source)));
      all_read = sinks_read;
    };
    decides = decides;
  }

-- ---- all of it

module _ (limits : Limits) (in_order : Bool) (before now : Book) (to_itself : IsLeftToItself before)
    (front : in_order ≡ true → IsFrontStepped (max limits.quota 1) before now) (committed : IsCommitted before now)
    (few : IsEnough before.tables before.history limits.take → ⊥) where
  pub put_taken_stepped : (sink : ℕ) → HasPutOn sink before now → IsBook now → (item : Option ℤ)
      (after : Book) → Takes sink item now after → (enough : Bool)
      → ((B : List Event) → ReadsOneMore after.tables sink B after.history
      → (IsEnough after.tables B limits.take → ⊥) → IsTrue enough ↔ IsEnough after.tables after.history limits.take)
      → IsStepped limits in_order enough before after
  put_taken_stepped sink put book item after takes enough decides =
      put_taken limits before now after to_itself committed put.process sink put.item put.history book item takes
      in_order front enough
      (decides before.history
      (put_taken_more limits before now after to_itself committed put.process sink put.item put.history book item takes)
      (λ has.
      few (subst (λ t. IsEnough t before.history limits.take)
      (put_taken_tables limits before now after to_itself committed put.process sink put.item put.history book item
      takes) has)))

  -- it was put on a channel between processes
  pub put_inside_stepped : (put : HasPut before now) → is_sink (channel_at before.tables put.channel) ≡ false
      → IsStepped limits in_order false before now
  put_inside_stepped put inside =
      not_put limits before now to_itself committed in_order front
      (record {
        written = λ d sink.
            put_elsewhere before now put.process put.channel put.item put.history d
            (λ same.
            both_ways (is_sink (channel_at before.tables d))
            (subst (λ x. is_sink (channel_at before.tables x) ≡ false) same inside) sink);
        read = λ d sink. put_read before now put.process put.channel put.item put.history d;
      })
      few
