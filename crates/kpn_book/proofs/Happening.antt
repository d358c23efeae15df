-- What an event makes of a book together with the growth that is owed then. A growth changes nothing in what was
-- written, what was read and what is closed.
use Rattle.std.proofs.Common.{◌≡◌, ℕ, Bool, true, false, ◌||◌, ℤ, List, [], ◌∷◌, ◌++◌, refl, sym, ap, ◌∙◌, subst, inl, inr, append_assoc}
use Rattle.kpn_book.proofs.Common.{IsPrefix, IsPrefix-append, Event, Grow, written_on, read_on, is_leave_of, is_closed, is_left, OwesNothing, written_on-same, read_on-same, is_closed-next, is_left-next, Book, IsBook, Appends, AppendsAll, IsGrowthOwed, Happens, AllHappen}
use Rattle.kpn_book.proofs.Appended.{tables_stay, history_then, commits_stay}

module _ (e : Event) (before after : Book) (is : Happens e before after) where
  pub happens_tables : after.tables ≡ before.tables
  happens_tables = tables_stay (e ∷ is.growth) before after is.appends

  pub happens_commits : after.commits ≡ before.commits
  happens_commits = commits_stay (e ∷ is.growth) before after is.appends

  pub happens_history : after.history ≡ before.history ++ e ∷ is.growth
  happens_history = history_then (e ∷ is.growth) before after is.appends

  pub happens_prefix : IsPrefix before.history after.history
  happens_prefix =
      subst (IsPrefix before.history) (sym happens_history) (IsPrefix-append before.history (e ∷ is.growth))

  -- what does not depend on growths depends only on the event
  happens_seen : {X : Type 0} (f : List Event → X) → ((B : List Event) (p d n : ℕ) → f (B ++ Grow p d n ∷ []) ≡ f B)
      → f after.history ≡ f (before.history ++ e ∷ [])
  happens_seen f skips = ap f happens_history ∙ by is.growth is.owed
    where
      by : (growth : List Event) → IsGrowthOwed before.tables (before.history ++ e ∷ []) growth
          → f (before.history ++ e ∷ growth) ≡ f (before.history ++ e ∷ [])
      by [] owed = refl
      by (Grow p d n ∷ []) owed =
          ap f (sym (append_assoc before.history (e ∷ []) (Grow p d n ∷ []))) ∙ skips (before.history ++ e ∷ []) p d n
      by growth owed = absurd owed

  pub happens_written : (c : ℕ) → written_on after.history c ≡ written_on (before.history ++ e ∷ []) c
  happens_written c = happens_seen (λ H. written_on H c) (λ B p d n. written_on-same B (Grow p d n) c refl)

  pub happens_read : (c : ℕ) → read_on after.history c ≡ read_on (before.history ++ e ∷ []) c
  happens_read c = happens_seen (λ H. read_on H c) (λ B p d n. read_on-same B (Grow p d n) c refl)

  pub happens_closed : (c : ℕ) → is_closed after.history c ≡ is_closed (before.history ++ e ∷ []) c
  happens_closed c =
      happens_seen (λ H. is_closed H c) (λ B p d n. is_closed-next B (Grow p d n) c ∙ or_nothing (is_closed B c))
    where
      or_nothing : (b : Bool) → (b || false) ≡ b
      or_nothing true = refl
      or_nothing false = refl

-- an event that is no leave leaves no sink
pub happens_left : (c : ℕ) (e : Event) → is_leave_of c e ≡ false → (before after : Book) → Happens e before after
    → is_left before.history c ≡ false → is_left after.history c ≡ false
happens_left c e none before after is stays =
    happens_seen e before after is (λ H. is_left H c)
    (λ B p d n. is_left-next B (Grow p d n) c ∙ or_nothing (is_left B c))
    ∙ is_left-next before.history e c
    ∙ rw (stays, none) refl
  where
    or_nothing : (b : Bool) → (b || false) ≡ b
    or_nothing true = refl
    or_nothing false = refl

-- an event that leads to a book, which owes nothing, happens without a growth
pub happens_alone : (e : Event) (before after : Book) → IsBook after → Appends e before after → Happens e before after
happens_alone e before after book appends = record {
  growth = [];
  owed =
      subst (λ t. OwesNothing t (before.history ++ e ∷ [])) appends.tables
      (subst (λ H. OwesNothing after.tables H) appends.history book.kept.nothing_owed);
  appends = (after, appends, refl);
}

-- ---- one after the other

pub join : (es fs : List Event) (a b c : Book) → AllHappen es a b → AllHappen fs b c → AllHappen (es ++ fs) a c
join [] fs a b c first second = subst (λ x. AllHappen fs x c) first second
join (e ∷ es) fs a b c first second = (first.0, first.1, join es fs first.0 b c first.2 second)

pub one : (e : Event) (a b : Book) → Happens e a b → AllHappen (e ∷ []) a b
one e a b happens = (b, happens, refl)

pub all_commits : (events : List Event) (before after : Book) → AllHappen events before after
    → after.commits ≡ before.commits
all_commits [] before after same = ap (λ b. b.commits) same
all_commits (e ∷ events) before after happen =
    all_commits events happen.0 after happen.2 ∙ happens_commits e before happen.0 happen.1
