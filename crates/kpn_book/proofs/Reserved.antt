-- An item that is reserved on a channel changes nothing of what an event does.
use Rattle.kpn_book.proofs.Common.{◌≡◌, ℕ, ◌+◌, ◌<◌, ◌||◌, ℤ, IsTrue, List, [], ◌∷◌, ◌++◌, length, refl, sym, ap, ◌∙◌, subst, inl, inr, cases_eq, get_or-set_same, get_or-set_other, Tables, Stop, ChannelState, with_room, is_channel_full, next_item, unread, most_after, Event, written_in, read_in, channel_in, IsChannelAfter, Done, Book, with_one_commit, Appends, AppendsAll, HasToWait, IsAnswer, ready_if_paused, HandlesStop, reserved_on}
use Rattle.kpn_step.specs.declared.stop.Stop.TheVariants as stop
use Rattle.kpn_history.specs.AfterEvent.{capacity_then, takes_reader}
use Rattle.kpn_book.specs.declared.answers.Done.TheVariants as done

channel_before : (t : Tables) (e : Event) (d : ℕ) (x y after : ChannelState) → x.journal ≡ y.journal → x.read ≡ y.read
    → x.capacity ≡ y.capacity → x.is_retired ≡ y.is_retired → (IsTrue y.is_reserved → IsTrue x.is_reserved)
    → ((items : List ℤ) → most_after items x ≡ most_after items y) → x.is_kept ≡ y.is_kept
    → IsChannelAfter t e d x after → IsChannelAfter t e d y after
channel_before t e d x y after journal read capacity retired reserved most kept is = record {
  journal = is.journal ∙ ap (λ z. z ++ written_in d e) journal;
  read = is.read ∙ ap (λ z. z + length (read_in d e)) read;
  capacity = is.capacity ∙ ap (capacity_then t d e) capacity;
  retired = is.retired ∙ ap (λ z. z || takes_reader t d e) retired;
  reserved = λ none some. is.reserved none (reserved some);
  most = is.most ∙ most (written_in d e);
  kept = is.kept ∙ kept;
}

module _ (b : Book) (c : ℕ) (below : c < length b.machine.channels) where
  -- a function that does not look at the reservation has the same value
  pub sees_same : {X : Type 0} (f : ChannelState → X) → ((ch : ChannelState) → f (with_room ch) ≡ f ch) → (d : ℕ)
      → f (channel_in (reserved_on c b).machine d) ≡ f (channel_in b.machine d)
  sees_same f keeps d =
      elim (cases_eq d c) [
        | inl same ↦
            subst (λ z. f (channel_in (reserved_on c b).machine z) ≡ f (channel_in b.machine z)) (sym same)
            (ap f (get_or-set_same b.machine.channels c (with_room (channel_in b.machine c)) _ below)
            ∙ keeps (channel_in b.machine c))
        | inr other ↦
            ap f (get_or-set_other b.machine.channels c d (with_room (channel_in b.machine c)) _ other)
      ]

  pub is_reserved_here : IsTrue (channel_in (reserved_on c b).machine c).is_reserved
  is_reserved_here =
      ap (λ ch. ch.is_reserved)
      (get_or-set_same b.machine.channels c (with_room (channel_in b.machine c)) _ below)

  reserved_most : (items : List ℤ) (ch : ChannelState) → most_after items (with_room ch) ≡ most_after items ch
  reserved_most [] ch = refl
  reserved_most (item ∷ rest) ch = refl

  stays_reserved : (d : ℕ) → IsTrue (channel_in b.machine d).is_reserved
      → IsTrue (channel_in (reserved_on c b).machine d).is_reserved
  stays_reserved d some =
      elim (cases_eq d c) [
        | inl same ↦ subst (λ z. IsTrue (channel_in (reserved_on c b).machine z).is_reserved) (sym same)
            is_reserved_here
        | inr other ↦
            ap (λ ch. ch.is_reserved)
            (get_or-set_other b.machine.channels c d (with_room (channel_in b.machine c)) _ other) ∙ some
      ]

  pub appends_unreserved : (e : Event) (a : Book) → Appends e (reserved_on c b) a → Appends e b a
  appends_unreserved e a is = record {
    tables = is.tables;
    history = is.history;
    machine = record {
      channels = λ d there.
          channel_before b.tables e d (channel_in (reserved_on c b).machine d) (channel_in b.machine d)
          (channel_in a.machine d) (sees_same (λ ch. ch.journal) (λ ch. refl) d)
          (sees_same (λ ch. ch.read) (λ ch. refl) d) (sees_same (λ ch. ch.capacity) (λ ch. refl) d)
          (sees_same (λ ch. ch.is_retired) (λ ch. refl) d) (stays_reserved d)
          (λ items. sees_same (most_after items) (reserved_most items) d) (sees_same (λ ch. ch.is_kept) (λ ch. refl) d)
          (is.machine.channels d there);
      closed = is.machine.closed;
      waits = is.machine.waits;
      ends = is.machine.ends;
      frames = is.machine.frames;
    };
    schedule = is.schedule;
    commits = is.commits;
    keeps_events = is.keeps_events;
  }

  waits_unreserved : (p : ℕ) (s : Stop) (wait : Event) → HasToWait (reserved_on c b) p s wait → HasToWait b p s wait
  waits_unreserved p s wait is =
      elim is [
        | inl w ↦ inl (record {
          channel = w.channel;
          asks = w.asks;
          empty = sym (sees_same unread (λ ch. refl) w.channel) ∙ w.empty;
          is = w.is;
        })
        | inr w ↦ inr (record {
          channel = w.channel;
          item = w.item;
          asks = w.asks;
          full = sym (sees_same is_channel_full (λ ch. refl) w.channel) ∙ w.full;
          is = w.is;
        })
      ]

  answer_unreserved : (answer : Done) (p : ℕ) (s : Stop) (events : List Event)
      → IsAnswer (reserved_on c b) p s answer events → IsAnswer b p s answer events
  answer_unreserved (done.Got v) p s events is = record {
    channel = is.channel;
    asks = is.asks;
    item = sym (sees_same next_item (λ ch. refl) is.channel) ∙ is.item;
    appends = is.appends;
  }
  answer_unreserved done.Put p s events is = record {
    channel = is.channel;
    item = is.item;
    asks = is.asks;
    ready = sym (sees_same is_channel_full (λ ch. refl) is.channel) ∙ is.ready;
    appends = is.appends;
  }
  answer_unreserved done.Blocked p s events is = record {
    wait = is.wait;
    waits = waits_unreserved p s is.wait is.waits;
    nothing = is.nothing;
    appends = is.appends;
  }
  answer_unreserved (done.Grew d) p s events is = record {
    wait = is.wait;
    waits = waits_unreserved p s is.wait is.waits;
    grower = is.grower;
    owed = is.owed;
    appends = is.appends;
  }
  answer_unreserved done.Ended p s events is =
      record { how = is.how; asks = is.asks; growth = is.growth; owed = is.owed; appends = is.appends }
  answer_unreserved done.Paused p s events is = is

cons_is_some : (e : Event) (es events : List Event) → events ≡ e ∷ es → events ≡ [] → ⊥
cons_is_some e es events is none = let clash : (e ∷ es) ≡ [] = sym is ∙ none in absurd cc

module _ (b : Book) (c : ℕ) (below : c < length b.machine.channels) where
  all_unreserved : (events : List Event) (a : Book) → (events ≡ [] → ⊥)
      → AppendsAll events (with_one_commit (reserved_on c b)) a → AppendsAll events (with_one_commit b) a
  all_unreserved [] a some is = absurd (some refl)
  all_unreserved (e ∷ events) a some is = (is.0, appends_unreserved (with_one_commit b) c below e is.0 is.1, is.2)

  appended_unreserved : (answer : Done) (p : ℕ) (s : Stop) (events : List Event) (a : Book) → (s ≡ stop.Paused → ⊥)
      → IsAnswer b p s answer events
      → AppendsAll events (ready_if_paused p answer (with_one_commit (reserved_on c b))) a
      → AppendsAll events (ready_if_paused p answer (with_one_commit b)) a
  appended_unreserved (done.Got v) p s events a some is h =
      all_unreserved events a (cons_is_some _ _ events is.appends) h
  appended_unreserved done.Put p s events a some is h = all_unreserved events a (cons_is_some _ _ events is.appends) h
  appended_unreserved done.Blocked p s events a some is h =
      all_unreserved events a (cons_is_some _ _ events is.appends) h
  appended_unreserved (done.Grew d) p s events a some is h =
      all_unreserved events a (cons_is_some _ _ events is.appends) h
  appended_unreserved done.Ended p s events a some is h =
      all_unreserved events a (cons_is_some _ _ events is.appends) h
  appended_unreserved done.Paused p s events a some is h = absurd (some is.asks)

  pub handles_unreserved : (p : ℕ) (s : Stop) (answer : Done) (a : Book) → (s ≡ stop.Paused → ⊥)
      → HandlesStop p s answer (reserved_on c b) a → HandlesStop p s answer b a
  handles_unreserved p s answer a some is =
      let same = answer_unreserved b c below answer p s is.events is.answers in
      record {
        events = is.events;
        answers = same;
        appends = appended_unreserved answer p s is.events a some same is.appends;
      }
