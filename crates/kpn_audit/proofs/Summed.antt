-- What a machine shows of the history that led to it.
use Rattle.kpn_audit.proofs.Common.{◌≡◌, ◌↔◌, ℕ, zero, suc, ◌+◌, ◌<◌, true, List, [], ◌∷◌, length, map, slice_index_or, Option, None, refl, sym, ap, ◌∙◌, subst, arith, range_with_len, get_or-map-range_with_len, length-map-range_with_len, ChannelState, Tables, IsNetwork, IsLeast, Event, written_on, read_on, capacity_after, fed, Machine, channel_in, wait_in, end_in, IsEndOf, IsRun, by_number, Audit, IsAudit, AreLeast}
use Rattle.kpn_history.specs.declared.event.How.{How}
use Rattle.kpn_history.specs.Waiting.{wait_of}
use Rattle.kpn_history.specs.Ends.{IsQuiet}
use Rattle.kpn_history.proofs.Kahn.{least_if_quiet}
use Rattle.kpn_audit.specs.Shown.{ShowsLists}

-- entries that are the same one by one
same_entries : {X : Type 0} (f g : ℕ → X) (a n m : ℕ) → a + n ≡ m → ((c : ℕ) → c < m → f c ≡ g c)
    → map f (range_with_len a n) ≡ map g (range_with_len a n)
same_entries f g a zero m fits same = refl
same_entries f g a (suc n) m fits same =
    ap (λ x. x ∷ map f (range_with_len (a + 1) n)) (same a (omega arith))
    ∙ ap (λ xs. g a ∷ xs) (same_entries f g (a + 1) n m (omega arith) same)

-- the entries of a machine are those of the history
pub shown : {A : Type 0} (t : Tables) (H : List Event) (s : Machine) → IsRun t H s → (audit : Audit A)
    → audit.journals ≡ map (λ (channel : ChannelState). channel.journal) s.channels
    → ShowsLists t H s audit → ((audit.exact ≡ true) ↔ IsQuiet t H) → IsAudit t H audit
shown t H s run audit journals lists exact =
    record {
      legal = run.legal;
      journals =
          journals ∙ by_number (λ (channel : ChannelState). channel.journal) s (length t.channels)
          (sym run.shape.channels)
          ∙ same_entries (λ c. (channel_in s c).journal) (written_on H) 0 (length t.channels)
          (length t.channels) (omega arith) (λ c below. (run.leads.channels c below).journal);
      reads =
          lists.reads ∙ same_entries (λ c. (channel_in s c).read) (λ c. length (read_on H c)) 0 (length t.channels)
          (length t.channels) (omega arith) (λ c below. (run.leads.channels c below).read);
      caps =
          lists.caps ∙ same_entries (λ c. (channel_in s c).capacity) (capacity_after t H) 0 (length t.channels)
          (length t.channels) (omega arith) (λ c below. (run.leads.channels c below).capacity);
      complete = lists.complete;
      waits =
          lists.waits ∙ same_entries (wait_in s) (wait_of t H) 0 (length t.instances) (length t.instances) (omega arith)
          run.leads.waits;
      process_count =
          ap (λ (xs : List (Option How)). length xs) lists.ends
          ∙ length-map-range_with_len (end_in s) 0 (length t.instances);
      ends = λ p below.
          subst (IsEndOf H p)
          (sym (ap (λ (xs : List (Option How)). slice_index_or xs p None) lists.ends
          ∙ get_or-map-range_with_len (end_in s) 0 (length t.instances) p p None below (omega arith)))
          (run.leads.ends p below);
      exact = exact;
    }

-- the journals of a quiet history are the least solution for what was fed
pub least_where_exact : {A : Type 0} (t : Tables) → IsNetwork t → (H : List Event) (audit : Audit A)
    → IsAudit t H audit → audit.exact ≡ true → AreLeast t H audit
least_where_exact t network H audit is exact =
    record {
      each = λ c below.
          subst (λ xs. IsLeast t (fed t H) c xs)
          (sym (ap (λ lists. slice_index_or lists c []) is.journals
          ∙ get_or-map-range_with_len (written_on H) 0 (length t.channels) c c [] below (omega arith)))
          (least_if_quiet t network H is.legal (is.exact.0 exact) c);
    }
