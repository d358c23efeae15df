-- At the start: the empty history leads to the machine in which nothing has happened.
use Rattle.kpn_machine.proofs.Common.{◌≡◌, ℕ, ◌+◌, ◌<◌, ◌≤◌, length-append, Bool, true, false, not, IsTrue, List, [], ◌∷◌, ◌++◌, length, get_or, map, replicate, Option, Some, None, is_some, refl, sym, ap, ◌∙◌, subst, inl, inr, arith, unwrap_or, option_map, cases_eq, length-replicate, get_or-replicate, get_or_append_left, get_or_push, get_or-map, length-map, ext_get_or, ChannelSpec, End, Process, Source, Sink, Tables, channel_at, is_source, capacity, reader_of, instance_at, program_of, IsNetwork, waits-nobody, IsProgram-of, IsInstance-of, reader_is_no_source, capacity_in_range, start_frame, fits, IsAfter, AreWaits, fits-start, IsAfter-start, ChannelState, opened, opened_as, keeps_items, reader_lives, lives, after_growths, Legal-nil, Machine, channel_in, wait_in, frame_in, HoldsChannel, IsEndOf, StandsAfter, IsRun}
use Rattle.kpn_net.specs.declared.tables.ChannelSpec.TheVariants as channel
use Rattle.kpn_net.specs.declared.wait.Wait.TheVariants.{Nobody, Full}
use Rattle.kpn_history.specs.declared.keeping.Keeping.{Keeping}

-- one more at the end of a list
pub len_push : {X : Type 0} (xs ys : List X) (x : X) (n : ℕ) → ys ≡ xs ++ x ∷ [] → length xs ≡ n → length ys ≡ n + 1
len_push xs ys x n is len = ap length is ∙ length-append xs (x ∷ []) ∙ ap (λ n. n + 1) len

-- of things by number
pub each_push : {X : Type 0} (Q : ℕ → X → Type 0) (xs ys : List X) (x d : X) (n : ℕ) → ys ≡ xs ++ x ∷ []
    → length xs ≡ n → ((k : ℕ) → k < n → Q k (get_or xs k d)) → Q n x → (k : ℕ) → k < n + 1 → Q k (get_or ys k d)
each_push Q xs ys x d n is len each last k below =
    subst (λ zs. Q k (get_or zs k d)) (sym is)
    (elim (cases_eq k n) [
      | inl same ↦ subst (λ m. Q m (get_or (xs ++ x ∷ []) m d)) (sym same)
          (subst (λ y. Q n y) (sym (get_or_push xs x d n len)) last)
      | inr differ ↦ let less : k < n =
          omega arith in subst (λ y. Q k y) (sym (get_or_append_left xs (x ∷ []) d k (omega arith))) (each k less)
    ])

module _ (keeping : Keeping) (t : Tables) (network : IsNetwork t) (s : Machine)
    (channels : length s.channels ≡ length t.channels)
    (opens : (c : ℕ) → c < length t.channels
    → channel_in s c ≡ opened_as (keeps_items keeping t c) (capacity (channel_at t c)) (channel_in s c).is_reserved)
    (closed : s.closed ≡ replicate (length t.channels) false)
    (waits : s.waits ≡ replicate (length t.instances) Nobody)
    (ends : s.ends ≡ replicate (length t.instances) None)
    (frames : length s.frames ≡ length t.instances)
    (starts : (p : ℕ) → p < length t.instances → frame_in s p ≡ start_frame (program_of t p) (instance_at t p).pars)
  where
    has_capacity : (spec : ChannelSpec) → is_some (capacity spec) ≡ not (is_source spec)
    has_capacity (channel.Inner n) = refl
    has_capacity channel.Source = refl
    has_capacity (channel.Sink n) = refl

    no_growth : (o : Option ℕ) → o ≡ option_map (after_growths t 0) o
    no_growth None = refl
    no_growth (Some n) = refl

    reader_there : (c : ℕ) → c < length t.channels → reader_lives t [] c ≡ true
    reader_there c below = by_end (reader_of t c) refl
      where
        by_end : (x : End) → reader_of t c ≡ x → lives [] c x ≡ true
        by_end (Process p) is = refl
        by_end Source is = absurd (reader_is_no_source t network c below is)
        by_end Sink is = refl

    holds : (c : ℕ) → c < length t.channels → HoldsChannel t [] c (channel_in s c)
    holds c below =
        record {
          journal = ap (λ x. x.journal) (opens c below);
          read = ap (λ x. x.read) (opens c below);
          capacity = ap (λ x. x.capacity) (opens c below) ∙ no_growth (capacity (channel_at t c));
          retired = ap (λ x. x.is_retired) (opens c below) ∙ sym (ap not (reader_there c below));
        }

    stands : (p : ℕ) → p < length t.instances → StandsAfter t [] p (frame_in s p)
    stands p below =
        record {
          said = [];
          ports = tt;
          talk = refl;
          after =
              subst (λ f. IsAfter (program_of t p) (instance_at t p).pars [] f) (sym (starts p below))
              (IsAfter-start (program_of t p) (instance_at t p).pars (IsProgram-of t network p below));
        }

    replicated : {X : Type 0} (x d : X) (n k : ℕ) → k < n → get_or (replicate n x) k d ≡ x
    replicated x d n k below = get_or-replicate n k x d below

    waits_for_nobody : (p : ℕ) → p < length t.instances → wait_in s p ≡ Nobody
    waits_for_nobody p below =
        ap (λ ws. get_or ws p Nobody) waits ∙ replicated Nobody Nobody (length t.instances) p below

    pub IsRun-start : IsRun t [] s
    IsRun-start =
        record {
          legal = Legal-nil t;
          shape = record {
            channels = channels;
            closed = ap length closed ∙ length-replicate (length t.channels) false;
            ends = ap length ends ∙ length-replicate (length t.instances) None;
            frames = frames;
            waits = subst (λ ws. AreWaits t ws) (sym waits) (waits-nobody t);
            bounded = λ c below. ap (λ x. is_some x.capacity) (opens c below) ∙ has_capacity (channel_at t c);
            positive =
                λ c cap below is.
                (capacity_in_range t network c cap below (sym (ap (λ x. x.capacity) (opens c below)) ∙ is)).positive;
            within = λ c cap below is. subst (λ x. x.most ≤ cap) (sym (opens c below)) (omega arith);
            fit =
                λ p below.
                subst (λ f. IsTrue (fits (program_of t p) f)) (sym (starts p below))
                (fits-start (program_of t p) (instance_at t p).pars (IsProgram-of t network p below)
                (IsInstance-of t network p below).pars);
            reserved =
                λ p c below channel is.
                let none : Full c ≡ Nobody = sym is ∙ waits_for_nobody p below in absurd cc;
          };
          leads = record {
            channels = holds;
            closed =
                λ c below. ap (λ xs. get_or xs c false) closed ∙ replicated false false (length t.channels) c below;
            waits = waits_for_nobody;
            ends =
                λ p below.
                subst (λ o. IsEndOf [] p o)
                (sym (ap (λ xs. get_or xs p None) ends ∙ replicated None None (length t.instances) p below))
                refl;
            frames = stands;
          };
        }

-- the second list of capacities at the start
pub mirror_at_start : (keeping : Keeping) (t : Tables) (channels : List ChannelState) (caps : List ℕ)
    → length channels ≡ length t.channels → length caps ≡ length t.channels
    → ((c : ℕ) → c < length t.channels
    → get_or channels c (opened None false)
    ≡ opened_as (keeps_items keeping t c) (capacity (channel_at t c)) (get_or channels c (opened None false)).is_reserved)
    → ((c : ℕ) → c < length t.channels → get_or caps c 0 ≡ unwrap_or (capacity (channel_at t c)) 0)
    → caps ≡ map (λ x. unwrap_or x.capacity 0) channels
mirror_at_start keeping t channels caps len count opens each =
    let mapped = length-map channels (λ x. unwrap_or x.capacity 0) in
    ext_get_or 0 caps (map (λ x. unwrap_or x.capacity 0) channels) (omega arith)
    (λ c below.
    let there : c < length t.channels = omega arith in
    each c there
    ∙ ap (λ x. unwrap_or x.capacity 0) (sym (opens c there))
    ∙ sym (get_or-map (λ x. unwrap_or x.capacity 0) channels c (opened None false) 0 (omega arith)))
