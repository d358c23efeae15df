-- The sources are fed and closed, one after the other.
use Rattle.std.proofs.Common.{◌≡◌, ℕ, ◌+◌, ◌<◌, Bool, true, false, ℤ, List, [], ◌∷◌, ◌++◌, length, map, count_by, refl, sym, ap, ◌∙◌, subst, inl, inr, arith, append_assoc}
use Rattle.kpn_book.proofs.Common.{cases_eq, both_ways, Tables, channel_at, is_source, is_sink, Family, Feed, Close, written_on, is_closed, is_close_of, is_left, is_held, written_on-push, written_on-same, is_closed-next, none_elsewhere, item_here, closed_in, all_ready, Book, IsBook, Happens, AllHappen, Feeds, Closes, closes_by, IsSupplied, IsFedBelow, IsLeftToItself}
use Rattle.kpn_book.proofs.Tallies.{AreCounts-ready}
use Rattle.std.proofs.lemmas.Bool.{eq-eqb, or_right}
use Rattle.kpn_book.proofs.Committing.{source_there}
use Rattle.kpn_book.proofs.Ends.{sink_is_no_source, closed_next}
use Rattle.kpn_book.proofs.Happening.{happens_left, happens_tables, happens_commits, happens_written, happens_closed}
use Rattle.kpn_book.proofs.Held.{held_after_feed, held_after_close}
use Rattle.kpn_book.proofs.Turning.{open_elsewhere}

-- ---- one source

pub IsSupplied-fed : (c : ℕ) (items : List ℤ) (item : ℤ) (bound : ℕ) (before between after : Book) → IsBook between
    → IsSupplied c items before between → Feeds c item bound between after
    → IsSupplied c (items ++ item ∷ []) before after
IsSupplied-fed c items item bound before between after book so_far feeds = record {
  tables = feeds.appends.tables ∙ so_far.tables;
  held = held_after_feed between book c item bound after feeds ∙ so_far.held;
  here =
      ap (λ H. written_on H c) feeds.appends.history
      ∙ written_on-push between.history (Feed c item) c
      ∙ ap (λ xs. written_on between.history c ++ xs) (item_here c item)
      ∙ ap (λ xs. xs ++ item ∷ []) so_far.here
      ∙ append_assoc (written_on before.history c) items (item ∷ []);
  elsewhere = λ d other.
      ap (λ H. written_on H d) feeds.appends.history
      ∙ written_on-same between.history (Feed c item) d (none_elsewhere c d item (λ same. other (sym same)))
      ∙ so_far.elsewhere d other;
  closed = λ d closed.
      ap (λ H. is_closed H d) feeds.appends.history
      ∙ closed_next between.history (Feed c item) d (so_far.closed d closed);
  commits = feeds.appends.commits ∙ so_far.commits;
}

-- ---- it is closed

closes_kept : (c : ℕ) (items : List ℤ) (before between after : Book) → IsBook between
    → IsSupplied c items before between → (b : Bool) → closes_by b c between after → IsSupplied c items before after
closes_kept c items before between after book so_far true same =
    subst (IsSupplied c items before) (sym same) so_far
closes_kept c items before between after book so_far false is = record {
  tables = happens_tables (Close c) between after is ∙ so_far.tables;
  held = held_after_close between book c after is ∙ so_far.held;
  here =
      happens_written (Close c) between after is c ∙ written_on-same between.history (Close c) c refl ∙ so_far.here;
  elsewhere = λ d other.
      happens_written (Close c) between after is d
      ∙ written_on-same between.history (Close c) d refl
      ∙ so_far.elsewhere d other;
  closed = λ d closed.
      happens_closed (Close c) between after is d ∙ closed_next between.history (Close c) d (so_far.closed d closed);
  commits = happens_commits (Close c) between after is ∙ so_far.commits;
}

pub IsSupplied-closed : (c : ℕ) (items : List ℤ) (before between after : Book) → IsBook between
    → IsSupplied c items before between → Closes c between after → IsSupplied c items before after
IsSupplied-closed c items before between after book so_far closes =
    closes_kept c items before between after book so_far (closed_in between.machine c) closes.closes

closed_by : (c : ℕ) (before after : Book) → IsBook before → c < length before.tables.channels → (b : Bool)
    → closed_in before.machine c ≡ b → closes_by b c before after → is_closed after.history c ≡ true
closed_by c before after book there true is same =
    ap (λ b. is_closed b.history c) same ∙ sym (book.kept.in_step.run.leads.closed c there) ∙ is
closed_by c before after book there false is happens =
    happens_closed (Close c) before after happens c ∙ is_closed-next before.history (Close c) c
    ∙ or_right (is_closed before.history c) (is_close_of c (Close c)) (eq-eqb c c refl)

pub closed_then : (c : ℕ) (before after : Book) → IsBook before → Closes c before after
    → is_closed after.history c ≡ true
closed_then c before after book closes =
    closed_by c before after book (source_there before.tables c closes.source) (closed_in before.machine c) refl
    closes.closes

pub closes_open : (c : ℕ) (before after : Book) → IsBook before → Closes c before after
    → is_closed before.history c ≡ false → Happens (Close c) before after
closes_open c before after book closes unclosed =
    subst (λ b. closes_by b c before after)
    (book.kept.in_step.run.leads.closed c (source_there before.tables c closes.source) ∙ unclosed) closes.closes

-- what is fed and closed leaves no sink
supply_leaves : (c k : ℕ) (items : List ℤ) (before after : Book)
    → AllHappen (map (Feed k) items ++ Close k ∷ []) before after → is_left before.history c ≡ false
    → is_left after.history c ≡ false
supply_leaves c k [] before after happen stays =
    ap (λ b. is_left b.history c) happen.2 ∙ happens_left c (Close k) refl before happen.0 happen.1 stays
supply_leaves c k (item ∷ items) before after happen stays =
    supply_leaves c k items happen.0 after happen.2
    (happens_left c (Feed k item) refl before happen.0 happen.1 stays)

-- ---- one source after the other

module _ (t : Tables) (given : Family) where
  pub IsFedBelow-first : (b : Book) → b.tables ≡ t → b.history ≡ [] → b.schedule ≡ all_ready (length t.instances)
      → b.commits ≡ 0 → IsFedBelow t given 0 b
  IsFedBelow-first b tables history schedule commits = record {
    tables = tables;
    nobody_held =
        ap (λ s. count_by is_held s.states) schedule ∙ sym (AreCounts-ready (length t.instances)).held;
    fed = λ c below source. absurd (omega arith);
    closed = λ c below source. absurd (omega arith);
    later = λ c past. ap (λ H. written_on H c) history;
    not_closed = λ c past. ap (λ H. is_closed H c) history;
    others = λ c other. ap (λ H. written_on H c) history;
    stays = λ c. ap (λ H. is_left H c) history;
    commits = commits;
  }

  pub IsFedBelow-skip : (k : ℕ) (b : Book) → is_source (channel_at t k) ≡ false → IsFedBelow t given k b
      → IsFedBelow t given (k + 1) b
  IsFedBelow-skip k b none so_far = record {
    tables = so_far.tables;
    nobody_held = so_far.nobody_held;
    fed = λ c below source. so_far.fed c (before c below source) source;
    closed = λ c below source. so_far.closed c (before c below source) source;
    later = λ c past. so_far.later c (omega arith);
    not_closed = λ c past. so_far.not_closed c (omega arith);
    others = so_far.others;
    stays = so_far.stays;
    commits = so_far.commits;
  }
    where
      before : (c : ℕ) → c < k + 1 → is_source (channel_at t c) ≡ true → c < k
      before c below source =
          elim (cases_eq c k) [
            | inl same ↦ absurd (both_ways (is_source (channel_at t k)) none
                (subst (λ x. is_source (channel_at t x) ≡ true) same source))
            | inr other ↦ omega arith
          ]

  pub IsFedBelow-more : (k : ℕ) (before after : Book) → is_source (channel_at t k) ≡ true → IsFedBelow t given k before
      → IsSupplied k (given k) before after → is_closed after.history k ≡ true
      → AllHappen (map (Feed k) (given k) ++ Close k ∷ []) before after → IsFedBelow t given (k + 1) after
  IsFedBelow-more k before after is so_far supplied closed appends = record {
    tables = supplied.tables ∙ so_far.tables;
    nobody_held = supplied.held ∙ so_far.nobody_held;
    fed = λ c below source. elim (cases_eq c k) [
      | inl same ↦
          ap (λ x. written_on after.history x) same ∙ supplied.here
          ∙ ap (λ xs. xs ++ given k) (so_far.later k (omega arith)) ∙ ap given (sym same)
      | inr other ↦ supplied.elsewhere c other ∙ so_far.fed c (omega arith) source
    ];
    closed = λ c below source. elim (cases_eq c k) [
      | inl same ↦ ap (λ x. is_closed after.history x) same ∙ closed
      | inr other ↦ supplied.closed c (so_far.closed c (omega arith) source)
    ];
    later = λ c past. supplied.elsewhere c (λ same. omega arith) ∙ so_far.later c (omega arith);
    not_closed = λ c past.
        open_elsewhere c k (λ same. omega arith) (given k) before after appends (so_far.not_closed c (omega arith));
    others = λ c other.
        supplied.elsewhere c
        (λ same.
        both_ways (is_source (channel_at t c)) other (subst (λ x. is_source (channel_at t x) ≡ true) (sym same) is))
        ∙ so_far.others c other;
    stays = λ c. supply_leaves c k (given k) before after appends (so_far.stays c);
    commits = supplied.commits ∙ so_far.commits;
  }

  pub IsLeftToItself-fed : (b : Book) → IsFedBelow t given (length t.channels) b → IsLeftToItself b
  IsLeftToItself-fed b fed = record {
    nobody_held = fed.nobody_held;
    closed = λ c source.
        let is = subst (λ x. is_source (channel_at x c) ≡ true) fed.tables source in
        fed.closed c (source_there t c is) is;
    all_read = λ c sink.
        let is = subst (λ x. is_sink (channel_at x c) ≡ true) fed.tables sink in
        let none = ap length (fed.others c (sink_is_no_source (channel_at t c) is)) in
        omega arith;
  }
