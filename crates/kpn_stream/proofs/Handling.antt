-- What becomes of what a device answers.
use Rattle.std.proofs.Common.{◌≡◌, ℕ, zero, suc, ◌+◌, ◌<◌, ◌≤◌, Bool, true, false, cond, ℤ, List, [], ◌∷◌, ◌++◌, length, slice_get, get_or, is_some, is_err, IfOk, OnErr, IfSome, IfNone, Option, Some, None, Result, Ok, Err, refl, sym, ap, ◌∙◌, subst, inl, inr, append-nil, append_assoc, arith}
use Rattle.kpn_stream.proofs.Common.{filter, range_with_len, cases_lt, false≢true, get_or_default, Tables, channel_at, is_source, is_sink, channel_numbers, ChannelState, unread, next_item, Event, written_in, is_left, none_elsewhere, channel_in, Book, Happens, Takes, Leaves, leaves_by, Limits, happens_tables, happens_commits, happens_history, SourceFault, SinkFault, StreamEnding, SourceFailed, SinkFailed, is_elsewhere, is_no_growth, is_of_sink, HasGiven, MayRead, MayReadItem, MayTell, Fed, by_item, by_end, by_fault, by_no_memory, ServedSince, none_yet, took, took_not, took_in_vain, flushed, flushed_not, left, left_not, had_enough, had_enough_not, IsFlushed, AreFlushed, EndsFlushed, answered, end_numbers, AreLeft, IsSinkTaken, AreTaken, MayEndWell, IsHandled, IsLeaving, leaves, stays, Serves, IsUnfed, ReadsSource}
use Rattle.std.proofs.lemmas.List.Elements.{filter-append}
use Rattle.std.proofs.lemmas.List.FromFn.{length-range_with_len, get_or-range_with_len}
use Rattle.kpn_book.proofs.Queueing.{range_next}
use Rattle.kpn_net.specs.declared.tables.ChannelSpec.{ChannelSpec}
use Rattle.kpn_net.specs.declared.tables.ChannelSpec.TheVariants as channel
use Rattle.kpn_history.specs.declared.event.Event.TheVariants as event
use Rattle.kpn_book.proofs.Parts.{kept_member}
use Rattle.kpn_book.proofs.Agreeing.{number_below}
use Rattle.kpn_stream.specs.declared.faults.SourceFault.TheVariants as source_fault
use Rattle.kpn_stream.specs.declared.faults.SinkFault.TheVariants.{Gone, NoSample, Write, NoMemory}
use Rattle.kpn_stream.proofs.Going.{besides-refl, happens_besides, growth_none, fed_happens, served_happens, ends_flushed}
use Rattle.kpn_stream.proofs.Moments.{happens_taken, left_then}

-- ---- the ends by number

-- an end of this kind is one, and its number is there
pub end_is : (is_end : ChannelSpec → Bool) (t : Tables) (i d : ℕ) → i < length (end_numbers is_end t)
    → (is_end (channel_at t (get_or (end_numbers is_end t) i d)) ≡ true)
    × (get_or (end_numbers is_end t) i d < length t.channels)
end_is is_end t i d below =
    let r = kept_member (λ c. is_end (channel_at t c)) (channel_numbers t) i d below in
    (r.0, number_below (length t.channels) (get_or (end_numbers is_end t) i d) r.1)

-- what passes the test is among those that are kept
kept_at : (f : ℕ → Bool) (xs : List ℕ) (k d : ℕ) → k < length xs → f (get_or xs k d) ≡ true
    → (j : ℕ) × (j < length (filter f xs)) × (get_or (filter f xs) j d ≡ get_or xs k d)
kept_at f [] k d below is = absurd (omega arith)
kept_at f (x ∷ xs) zero d below is = by (f x) is
  where
    by : (b : Bool) → b ≡ true
        → (j : ℕ) × (j < length (cond b (x ∷ filter f xs) (filter f xs)))
        × (get_or (cond b (x ∷ filter f xs) (filter f xs)) j d ≡ x)
    by true e = (0, omega arith, refl)
    by false e = absurd cc
kept_at f (x ∷ xs) (suc k) d below is = by (f x) (kept_at f xs k d (omega arith) is)
  where
    by : (b : Bool) → (j : ℕ) × (j < length (filter f xs)) × (get_or (filter f xs) j d ≡ get_or xs k d)
        → (j : ℕ) × (j < length (cond b (x ∷ filter f xs) (filter f xs)))
        × (get_or (cond b (x ∷ filter f xs) (filter f xs)) j d ≡ get_or xs k d)
    by true r = (suc r.0, let below = r.1 in omega arith, r.2)
    by false r = r

-- what holds of each end in the list holds of each end
pub each_end : (is_end : ChannelSpec → Bool) (t : Tables) (P : ℕ → Type 0)
    → ((j : ℕ) → j < length (end_numbers is_end t) → P (get_or (end_numbers is_end t) j 0)) → (c : ℕ)
    → c < length t.channels → is_end (channel_at t c) ≡ true → P c
each_end is_end t P holds c below is =
    let n = length t.channels in
    let long = length-range_with_len 0 n in
    let at : get_or (range_with_len 0 n) c 0 ≡ c =
    let e = get_or-range_with_len 0 n c 0 (omega arith) in omega (arith, e) in
    let r =
    kept_at (λ x. is_end (channel_at t x)) (range_with_len 0 n) c 0 (omega arith)
    (subst (λ x. is_end (channel_at t x) ≡ true) (sym at) is) in
    subst P (r.2 ∙ at) (holds r.0 r.1)

-- one channel more is looked at
pub end_more : (is_end : ChannelSpec → Bool) (t : Tables) (c : ℕ) (before after : List ℕ) (b : Bool)
    → before ≡ filter (λ c. is_end (channel_at t c)) (range_with_len 0 c) → b ≡ is_end (channel_at t c)
    → after ≡ before ++ cond b (c ∷ []) []
    → after ≡ filter (λ c. is_end (channel_at t c)) (range_with_len 0 (c + 1))
end_more is_end t c before after b so_far is added =
    added ∙ ap (λ xs. xs ++ cond b (c ∷ []) []) so_far
    ∙ ap (λ x. filter (λ c. is_end (channel_at t c)) (range_with_len 0 c) ++ cond x (c ∷ []) []) is
    ∙ sym
    (ap (filter (λ c. is_end (channel_at t c))) (range_next c)
    ∙ filter-append (λ c. is_end (channel_at t c)) (range_with_len 0 c) (c ∷ []))

-- a number in the list is that of an end
pub listed : (is_end : ChannelSpec → Bool) (t : Tables) (xs : List ℕ) (i c : ℕ) → xs ≡ end_numbers is_end t
    → i < length xs → c ≡ get_or xs i c → (is_end (channel_at t c) ≡ true) × (c < length t.channels)
listed is_end t xs i c same below at =
    let r = end_is is_end t i c (subst (λ ys. i < length ys) same below) in
    let e : c ≡ get_or (end_numbers is_end t) i c = subst (λ ys. c ≡ get_or ys i c) same at in
    (subst (λ x. is_end (channel_at t x) ≡ true) (sym e) r.0, subst (λ x. x < length t.channels) (sym e) r.1)

-- what holds of the first ends in the list holds of one more
pub one_more_end : (P : ℕ → Type 0) (xs : List ℕ) (i c : ℕ) → i < length xs → c ≡ get_or xs i c
    → ((j : ℕ) → j < i → P (get_or xs j 0)) → P c → (j : ℕ) → j < i + 1 → P (get_or xs j 0)
one_more_end P xs i c below at so_far here j less =
    elim (cases_lt j i) [
      | inl before ↦ so_far j before
      | inr past ↦
          let same : j ≡ i = omega arith in
          subst (λ k. P (get_or xs k 0)) (sym same) (subst P (at ∙ get_or_default xs i c 0 below) here)
    ]

pub all_ends : (is_end : ChannelSpec → Bool) (t : Tables) (P : ℕ → Type 0) (xs : List ℕ) (i : ℕ)
    → xs ≡ end_numbers is_end t → length xs ≤ i → ((j : ℕ) → j < i → P (get_or xs j 0)) → (c : ℕ)
    → c < length t.channels → is_end (channel_at t c) ≡ true → P c
all_ends is_end t P xs i same past holds c below is =
    each_end is_end t P
    (λ j less. subst (λ ys. P (get_or ys j 0)) same (holds j (let long = ap length same in omega arith))) c below is

-- ---- answers

pub if_done : {T E : Type 0} (r : Result T E) (P : Type 0) → IfOk r (λ _. P) → is_err r ≡ false → P
if_done (Ok x) P is fine = is
if_done (Err e) P is fine = absurd (false≢true (sym fine))

pub if_refused : {T E : Type 0} (r : Result T E) (P : Type 0) → OnErr r P → is_err r ≡ true → P
if_refused (Ok x) P is failed = absurd (false≢true failed)
if_refused (Err e) P is failed = is

-- ---- all sinks were left

-- the devices of sinks that were left hand on nothing
none_flushed : {K : Type 0} (flushes : K → ℕ → Result (Unit {0}) SinkFault → K → Type 0) (xs : List ℕ)
    (H : List Event) (k : K) → ((j : ℕ) → j < length xs → is_left H (get_or xs j 0) ≡ true)
    → AreFlushed flushes xs H k H k
none_flushed flushes [] H k gone = (refl, refl)
none_flushed flushes (x ∷ xs) H k gone = (
  H,
  k,
  inl (gone 0 (omega arith), refl, refl),
  none_flushed flushes xs H k (λ j less. gone (suc j) (omega arith)),
)

pub all_left : {K : Type 0} (flushes : K → ℕ → Result (Unit {0}) SinkFault → K → Type 0) (t : Tables)
    (H : List Event) (k : K) → AreLeft t H → AreFlushed flushes (end_numbers is_sink t) H k H k
all_left flushes t H k gone =
    none_flushed flushes (end_numbers is_sink t) H k
    (λ j less. gone (get_or (end_numbers is_sink t) j 0) (end_is is_sink t j 0 less).0)

-- ---- items

-- a channel with a next item was not left
pub is_there : (ch : ChannelState) (v : ℤ) → Some v ≡ next_item ch → ch.is_retired ≡ false
is_there ch v = by ch.is_retired refl
  where
    by : (b : Bool) → ch.is_retired ≡ b → Some v ≡ cond b None (slice_get (unread ch) 0) → ch.is_retired ≡ false
    by true is next = absurd cc
    by false is next = is

-- what is taken is the next item
pub takes_next : (c : ℕ) (v w : ℤ) (before after : Book) → next_item (channel_in before.machine c) ≡ Some v
    → Takes c (Some w) before after → Happens (event.Take c v) before after
takes_next c v w before after next takes =
    let is = takes.takes.0 in
    let same : w ≡ v = cc in
    subst (λ x. Happens (event.Take c x) before after) same takes.takes.1

-- a sink that was not left is left now
pub leaves_open : (c : ℕ) (before after : Book) → (channel_in before.machine c).is_retired ≡ false
    → Leaves c before after → Happens (event.Leave c) before after
leaves_open c before after not_left is = subst (λ b. leaves_by b c before after) not_left is.leaves

-- ---- a sink

module _ {K : Type 0} (takes : K → ℕ → ℤ → Result (Unit {0}) SinkFault → K → Type 0)
    (flushes : K → ℕ → Result (Unit {0}) SinkFault → K → Type 0) (limits : Limits) where
  -- an item was taken
  pub serves_item : (c : ℕ) (v : ℤ) (before after : Book) (k now : K)
      → (HasGiven limits.take before.history c → ⊥) → takes k c v (Ok tt) now → Happens (event.Take c v) before after
      → Serves takes flushes limits None before after k now
  serves_item c v before after k now few answer is = record {
    besides = happens_besides is_elsewhere (λ p d n. refl) (event.Take c v) refl before after is;
    commits = happens_commits (event.Take c v) before after is;
    sinks_go_on =
        served_happens takes flushes limits.take before.history k None now (event.Take c v) before after is
        (took before.history c v k now none_yet few answer);
    no_source = refl;
    stay_taken = λ d. happens_taken (event.Take c v) d refl before after is;
    ending = tt;
    flushed = tt;
  }

  -- its items were handed on
  pub serves_flush : (c : ℕ) (b : Book) (k now : K) → flushes k c (Ok tt) now
      → Serves takes flushes limits None b b k now
  serves_flush c b k now answer = record {
    besides = besides-refl is_elsewhere b;
    commits = refl;
    sinks_go_on = flushed b.history c k now none_yet answer;
    no_source = refl;
    stay_taken = λ d taken. taken;
    ending = tt;
    flushed = tt;
  }

  serves_over : (c : ℕ) (fault : SinkFault) (ended : Option StreamEnding) (before after : Book) (k now : K)
      → ServedSince takes flushes limits.take before.history k before.history (Some (c, fault)) now
      → after ≡ before → ended ≡ Some (SinkFailed c fault) → Serves takes flushes limits ended before after k now
  serves_over c fault ended before after k now fails same over =
      subst (λ e. Serves takes flushes limits e before after k now) (sym over)
      (subst (λ b. Serves takes flushes limits (Some (SinkFailed c fault)) before b k now) (sym same)
      (record {
        besides = besides-refl is_elsewhere before;
        commits = refl;
        sinks_go_on = fails;
        no_source = refl;
        stay_taken = λ d taken. taken;
        ending = (tt, tt);
        flushed = tt;
      }))

  -- memory ran out before the item could be taken
  pub serves_in_vain : (c : ℕ) (v : ℤ) (before after : Book) (k now : K)
      → (HasGiven limits.take before.history c → ⊥) → takes k c v (Ok tt) now → after ≡ before
      → Serves takes flushes limits (Some (SinkFailed c NoMemory)) before after k now
  serves_in_vain c v before after k now few answer same =
      serves_over c NoMemory (Some (SinkFailed c NoMemory)) before after k now
      (took_in_vain before.history c v k now none_yet few answer) same refl

  -- the sink was left
  serves_left : (c : ℕ) (ended : Option StreamEnding) (before after : Book) (k now : K)
      → ServedSince takes flushes limits.take before.history k (before.history ++ event.Leave c ∷ []) None now
      → Happens (event.Leave c) before after → MayEndWell limits ended after
      → (is_some ended ≡ true → AreLeft after.tables after.history)
      → Serves takes flushes limits ended before after k now
  serves_left c ended before after k now served is ends all = record {
    besides = happens_besides is_elsewhere (λ p d n. refl) (event.Leave c) refl before after is;
    commits = happens_commits (event.Leave c) before after is;
    sinks_go_on =
        subst (λ f. ServedSince takes flushes limits.take before.history k after.history f now) (sym ends.no_sink)
        later;
    no_source = ends.no_source;
    stay_taken = λ d. happens_taken (event.Leave c) d refl before after is;
    ending = ends.ending;
    flushed = by ended all;
  }
    where
      later : ServedSince takes flushes limits.take before.history k after.history None now
      later = served_happens takes flushes limits.take before.history k None now (event.Leave c) before after is served

      by : (ended : Option StreamEnding) → (is_some ended ≡ true → AreLeft after.tables after.history)
          → EndsFlushed takes flushes limits.take after.tables before.history k ended after.history now
      by None all = tt
      by (Some ending) all =
          ends_flushed takes flushes limits.take before.history k after.tables (Some ending) after.history now
          (record {
            before = after.history;
            then = now;
            served = later;
            last = all_left flushes after.tables after.history now (all refl);
          })

  -- the device has failed
  serves_failed : (c : ℕ) (fault : SinkFault) (ended : Option StreamEnding) (before after : Book) (k now : K)
      → ServedSince takes flushes limits.take before.history k before.history (Some (c, fault)) now
      → IsHandled limits c fault ended before after → Serves takes flushes limits ended before after k now
  serves_failed c Gone ended before after k now fails (leaves is ends all) =
      serves_left c ended before after k now (left before.history c now fails) is ends all
  serves_failed c Gone ended before after k now fails (stays same over) =
      serves_over c NoMemory ended before after k now (left_not before.history c now fails) same over
  serves_failed c (NoSample v) ended before after k now fails is =
      serves_over c (NoSample v) ended before after k now fails is.0 is.1
  serves_failed c Write ended before after k now fails is =
      serves_over c Write ended before after k now fails is.0 is.1
  serves_failed c NoMemory ended before after k now fails is =
      serves_over c NoMemory ended before after k now fails is.0 is.1

  pub serves_not : (c : ℕ) (v : ℤ) (fault : SinkFault) (ended : Option StreamEnding) (before after : Book) (k now : K)
      → (HasGiven limits.take before.history c → ⊥) → takes k c v (Err fault) now
      → IsHandled limits c fault ended before after → Serves takes flushes limits ended before after k now
  serves_not c v fault ended before after k now few answer is =
      serves_failed c fault ended before after k now
      (took_not before.history c v fault k now none_yet few answer) is

  pub flushes_not : (c : ℕ) (fault : SinkFault) (ended : Option StreamEnding) (before after : Book) (k now : K)
      → flushes k c (Err fault) now → IsHandled limits c fault ended before after
      → Serves takes flushes limits ended before after k now
  flushes_not c fault ended before after k now answer is =
      serves_failed c fault ended before after k now
      (flushed_not before.history c fault k now none_yet answer) is

  -- its device has handed on as many items as are wanted
  pub serves_enough : (c : ℕ) (ended : Option StreamEnding) (before after : Book) (k now : K)
      → HasGiven limits.take before.history c → flushes k c (Ok tt) now → IsLeaving limits c ended before after
      → Serves takes flushes limits ended before after k now
  serves_enough c ended before after k now enough answer (leaves is ends all) =
      serves_left c ended before after k now (had_enough before.history c k now none_yet enough answer) is ends all
  serves_enough c ended before after k now enough answer (stays same over) =
      serves_over c NoMemory ended before after k now (had_enough_not before.history c k now none_yet enough answer)
      same over

no_ending : (ending : StreamEnding) (ended : Option StreamEnding) → ended ≡ Some ending → ended ≡ None → ⊥
no_ending ending ended over on = let clash : Some ending ≡ None = sym over ∙ on in cc

-- a sink that is left was taken, or the stream has ended
pub leaving_taken : (limits : Limits) (c : ℕ) (ended : Option StreamEnding) (before after : Book)
    → IsLeaving limits c ended before after → ended ≡ None → IsSinkTaken after.history c
leaving_taken limits c ended before after (leaves is ends all) on = left_then c before after is
leaving_taken limits c ended before after (stays same over) on =
    absurd (no_ending (SinkFailed c NoMemory) ended over on)

-- a sink whose device has failed was left, or the stream has ended
pub handled_taken : (limits : Limits) (c : ℕ) (fault : SinkFault) (ended : Option StreamEnding) (before after : Book)
    → IsHandled limits c fault ended before after → ended ≡ None → IsSinkTaken after.history c
handled_taken limits c Gone ended before after is on = leaving_taken limits c ended before after is on
handled_taken limits c (NoSample v) ended before after is on =
    absurd (no_ending (SinkFailed c (NoSample v)) ended is.1 on)
handled_taken limits c Write ended before after is on = absurd (no_ending (SinkFailed c Write) ended is.1 on)
handled_taken limits c NoMemory ended before after is on = absurd (no_ending (SinkFailed c NoMemory) ended is.1 on)

-- a sink whose device can't hand on was left, or the stream has ended
pub handled_flushed : {K : Type 0} (flushes : K → ℕ → Result (Unit {0}) SinkFault → K → Type 0) (limits : Limits)
    (c : ℕ) (fault : SinkFault) (ended : Option StreamEnding) (before after : Book) (k now : K) → flushes k c (Err fault) now
    → IsHandled limits c fault ended before after → ended ≡ None
    → IsFlushed flushes c before.history k after.history now
handled_flushed flushes limits c Gone ended before after k now answer (leaves h ends all) on =
    inr (inr (
      answer,
      h.growth,
      growth_none is_no_growth (λ p d n. refl) before.tables (before.history ++ event.Leave c ∷ []) h.growth h.owed,
      happens_history (event.Leave c) before after h,
    ))
handled_flushed flushes limits c Gone ended before after k now answer (stays same over) on =
    absurd (no_ending (SinkFailed c NoMemory) ended over on)
handled_flushed flushes limits c (NoSample v) ended before after k now answer is on =
    absurd (no_ending (SinkFailed c (NoSample v)) ended is.1 on)
handled_flushed flushes limits c Write ended before after k now answer is on =
    absurd (no_ending (SinkFailed c Write) ended is.1 on)
handled_flushed flushes limits c NoMemory ended before after k now answer is on =
    absurd (no_ending (SinkFailed c NoMemory) ended is.1 on)

-- ---- a source

-- no source is a sink
no_sink_too : (it : ChannelSpec) → is_source it ≡ true → is_sink it ≡ true → ⊥
no_sink_too channel.Source source sink = absurd cc
no_sink_too (channel.Inner cap) source sink = absurd cc
no_sink_too (channel.Sink cap) source sink = absurd cc

-- an item on a source is none on a sink
feed_elsewhere : (t : Tables) (c d : ℕ) (v : ℤ) → is_source (channel_at t c) ≡ true → is_sink (channel_at t d) ≡ true
    → written_in d (event.Feed c v) ≡ []
feed_elsewhere t c d v source sink =
    none_elsewhere c d v
    (λ same. no_sink_too (channel_at t d) (subst (λ x. is_source (channel_at t x) ≡ true) same source) sink)

module _ {S : Type 0} (gives : S → ℕ → Result (Option ℤ) SourceFault → S → Type 0) (looks : S → ℕ → S → Type 0)
    (c : ℕ) (before : Book) (s now : S) (taken : AreTaken before.tables before.history) where
  -- an event of the source follows its answer
  reads_event : (e : Event) (answer : Result (Option ℤ) SourceFault) (after : Book) → answered c answer ≡ e ∷ []
      → gives s c answer now → is_of_sink e ≡ false
      → ((d : ℕ) → is_sink (channel_at before.tables d) ≡ true → written_in d e ≡ []) → Happens e before after
      → ((first : S) → Fed before.tables gives looks first before.history None s
      → Fed before.tables gives looks first (before.history ++ e ∷ []) None now)
      → ReadsSource gives looks c None before after s now
  reads_event e answer after follows gave other writes_none is feeds = record {
    besides = happens_besides is_of_sink (λ p d n. refl) e other before after is;
    commits = happens_commits e before after is;
    sources_go_on = λ first fed. fed_happens gives looks first None now e before after is (feeds first fed);
    ends = inl refl;
    taken = λ d sink.
        let here : is_sink (channel_at before.tables d) ≡ true =
        subst (λ t. is_sink (channel_at t d) ≡ true) (happens_tables e before after is) sink in
        happens_taken e d (writes_none d here) before after is (taken d here);
    answer = answer;
    answers = gave;
    events = e ∷ [];
    follows = inl (sym follows);
    growth = is.growth;
    grown = growth_none is_no_growth (λ p d n. refl) before.tables (before.history ++ e ∷ []) is.growth is.owed;
    then = happens_history e before after is ∙ sym (append_assoc before.history (e ∷ []) is.growth);
  }

  reads_over : (fault : SourceFault) (answer : Result (Option ℤ) SourceFault) → gives s c answer now
      → ((first : S) → Fed before.tables gives looks first before.history None s
      → Fed before.tables gives looks first before.history (Some (c, fault)) now)
      → ReadsSource gives looks c (Some (SourceFailed c fault)) before before s now
  reads_over fault answer gave fails = record {
    besides = besides-refl is_of_sink before;
    commits = refl;
    sources_go_on = fails;
    ends = inr (fault, refl);
    taken = taken;
    answer = answer;
    answers = gave;
    events = [];
    follows = inr refl;
    growth = [];
    grown = tt;
    then = sym (append-nil (before.history ++ []) ∙ append-nil before.history);
  }

  pub reads_fault : MayRead before.tables before.history c → (fault : SourceFault) → gives s c (Err fault) now
      → ReadsSource gives looks c (Some (SourceFailed c fault)) before before s now
  reads_fault may fault answer =
      reads_over fault (Err fault) answer
      (λ first fed. by_fault before.history c fault s now fed may answer)

  unfed : (given : Option ℤ) → MayTell before.tables before.history c given → (ending : StreamEnding) (after : Book)
      → gives s c (Ok given) now → IsUnfed c before after ending
      → ReadsSource gives looks c (Some ending) before after s now
  unfed given may ending after answer is =
      subst (λ e. ReadsSource gives looks c (Some e) before after s now) (sym is.0)
      (subst (λ b. ReadsSource gives looks c (Some (SourceFailed c source_fault.NoMemory)) before b s now) (sym is.1)
      (reads_over source_fault.NoMemory (Ok given) answer
      (λ first fed. by_no_memory before.history c given s now fed may answer)))

  pub reads_item : MayReadItem before.tables before.history c → is_source (channel_at before.tables c) ≡ true
      → (v : ℤ) (ended : Option StreamEnding) (after : Book) → gives s c (Ok (Some v)) now
      → IfNone ended (Happens (event.Feed c v) before after) → IfSome ended (IsUnfed c before after)
      → ReadsSource gives looks c ended before after s now
  reads_item may source v None after answer fed refused =
      reads_event (event.Feed c v) (Ok (Some v)) after refl answer refl
      (λ d. feed_elsewhere before.tables c d v source) fed
      (λ first so_far. by_item before.history c v s now so_far may answer)
  reads_item may source v (Some ending) after answer fed refused = unfed (Some v) may ending after answer refused

  pub reads_end : MayRead before.tables before.history c → (ended : Option StreamEnding) (after : Book)
      → gives s c (Ok None) now
      → IfNone ended (Happens (event.Close c) before after) → IfSome ended (IsUnfed c before after)
      → ReadsSource gives looks c ended before after s now
  reads_end may None after answer closed refused =
      reads_event (event.Close c) (Ok None) after refl answer refl (λ d _. refl) closed
      (λ first so_far. by_end before.history c s now so_far may answer)
  reads_end may (Some ending) after answer closed refused = unfed None may ending after answer refused
