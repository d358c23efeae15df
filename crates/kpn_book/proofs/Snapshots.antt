-- What a view that agrees with a legal history shows of its journals, without the history.
use Rattle.kpn_book.proofs.Common.{◌≡◌, ◌⊎◌, ℕ, ℤ, ◌<◌, true, cond, List, [], length, get_or, sym, ap, ◌∙◌, subst, inl, inr, arith, get_or-map-range_with_len, All-get_or, IsPrefix, Tables, channel_at, is_source, IsNetwork, IsBelowLeast, IsLeast, AgreeOnSources, Event, State, View, Legal, has_ended, IsQuiet, WaitsOnEmpty, Agrees, IsStateOf, fed-source, ended_by, below_least, least_if_quiet_given, channel_in, Book, IsBook}
use Rattle.std.specs.List.{All}
use Rattle.kpn_net.proofs.Monotone.{IsPrefixOnSources-agree}
use Rattle.kpn_net.proofs.Networks.{source_there}
use Rattle.kpn_history.specs.declared.state.State.TheVariants.{Ready, Held, WaitsEmpty, WaitsFull, Ended}
use Rattle.kpn_history.specs.Channels.{written_on, fed}
use Rattle.kpn_book.specs.Snapshot.{ShowsARun, ShowsJournals, shown_on, shown_fed, IsBelowKahn, IsAtRest, IsKahnAtRest}

-- the journal that is shown is what was written
shown-written : {A : Type 0} (t : Tables) (H : List Event) (view : View A) → Agrees t H view → (c : ℕ)
    → c < length t.channels → shown_on view c ≡ written_on H c
shown-written t H view agrees c there =
    ap (λ xs. get_or xs c []) agrees.journals
    ∙ get_or-map-range_with_len (written_on H) 0 (length t.channels) c c [] there (omega arith)

shown_fed-source : {A : Type 0} (t : Tables) (view : View A) (c : ℕ) → is_source (channel_at t c) ≡ true
    → shown_fed t view c ≡ shown_on view c
shown_fed-source t view c source = ap (λ b. cond b (shown_on view c) []) source

-- what is shown as fed was fed
fed-shown : {A : Type 0} (t : Tables) (H : List Event) (view : View A) → Agrees t H view
    → AgreeOnSources t (fed t H) (shown_fed t view)
fed-shown t H view agrees =
    record {
      each = λ c source.
          fed-source t H c source ∙ sym (shown-written t H view agrees c (source_there t c source))
          ∙ sym (shown_fed-source t view c source);
    }

at_rest : (t : Tables) (H : List Event) (p : ℕ) (state : State) → IsStateOf t H p state → IsAtRest state
    → (has_ended H p ≡ true) ⊎ WaitsOnEmpty t H p
at_rest t H p (WaitsEmpty c) is rest = inr (record { channel = c; blocked = is.1 })
at_rest t H p (Ended how) is rest = inl (ended_by H p how is)
at_rest t H p Ready is rest = absurd rest
at_rest t H p Held is rest = absurd rest
at_rest t H p (WaitsFull c) is rest = absurd rest

quiet : {A : Type 0} (t : Tables) (H : List Event) (view : View A) → Agrees t H view → All IsAtRest view.states
    → IsQuiet t H
quiet t H view agrees rest =
    record {
      each = λ p there.
          at_rest t H p (get_or view.states p Ready) (agrees.states p there)
          (All-get_or IsAtRest view.states p Ready (let n = agrees.processes in omega arith) rest);
    }

module _ {A : Type 0} (t : Tables) (network : IsNetwork t) (H : List Event) (legal : Legal t H) (view : View A)
    (agrees : Agrees t H view) where
  pub below : IsBelowKahn t view
  below c there =
      subst (IsBelowLeast t (shown_fed t view) c) (sym (shown-written t H view agrees c there))
      (below_least t network H legal (shown_fed t view)
      (IsPrefixOnSources-agree t (fed t H) (shown_fed t view) (fed-shown t H view agrees)) c)

  pub at_rest_least : IsKahnAtRest t view
  at_rest_least rest c there =
      subst (IsLeast t (shown_fed t view) c) (sym (shown-written t H view agrees c there))
      (least_if_quiet_given t network H legal (quiet t H view agrees rest) (shown_fed t view)
      (fed-shown t H view agrees) c)

-- the view shows the journals of a book, if they are what was written
pub shows_journals : {A : Type 0} (b : Book)
    → ((c : ℕ) → c < length b.tables.channels → (channel_in b.machine c).journal ≡ written_on b.history c)
    → (view : View A) → Agrees b.tables b.history view → ShowsJournals b view
shows_journals b written view agrees c there =
    shown-written b.tables b.history view agrees c there ∙ sym (written c there)

pub begins_shown : {A : Type 0} (b : Book) (view : View A) → ShowsJournals b view → (c : ℕ)
    → is_source (channel_at b.tables c) ≡ true → (items : List ℤ)
    → IsPrefix items (channel_in b.machine c).journal
    → IsPrefix items (shown_on view c)
begins_shown b view shows c source items begins =
    subst (IsPrefix items) (sym (shows c (source_there b.tables c source))) begins

-- the same, if the tables are those of a book
module _ {A : Type 0} (t : Tables) (b : Book) (same : b.tables ≡ t) (book : IsBook b) (legal : Legal b.tables b.history)
    (view : View A) (agrees : Agrees b.tables b.history view) where
  pub run_of : ShowsARun t view
  run_of =
      subst (λ u. ShowsARun u view) same
      (record { history = b.history; legal = legal; nothing_owed = book.kept.nothing_owed; agrees = agrees })

  pub below_of : IsBelowKahn t view
  below_of = subst (λ u. IsBelowKahn u view) same (below b.tables book.network b.history legal view agrees)

  pub at_rest_of : IsKahnAtRest t view
  at_rest_of = subst (λ u. IsKahnAtRest u view) same (at_rest_least b.tables book.network b.history legal view agrees)

-- for the book of a view
module _ {A : Type 0} (b : Book) (book : IsBook b) (view : View A) (agrees : Agrees b.tables b.history view) where
  pub run_shown : ShowsARun b.tables view
  run_shown = record {
    history = b.history;
    legal = book.kept.in_step.run.legal;
    nothing_owed = book.kept.nothing_owed;
    agrees = agrees;
  }

  pub below_shown : IsBelowKahn b.tables view
  below_shown = below b.tables book.network b.history book.kept.in_step.run.legal view agrees

  pub at_rest_shown : IsKahnAtRest b.tables view
  at_rest_shown = at_rest_least b.tables book.network b.history book.kept.in_step.run.legal view agrees
