-- Events that are appended one after the other: the network, the history and the number of commits after them.
use Rattle.kpn_book.proofs.Common.{◌≡◌, ℕ, ◌+◌, List, [], ◌∷◌, ◌++◌, length, refl, sym, ap, ◌∙◌, arith, append-nil, Event, Done, Book, IsHeld, IsClaimed, standing_at, with_one_commit, Advanced, Ready, Held, state_at, Appends, AppendsAll, ready_if_paused, Commits}
use Rattle.std.proofs.lemmas.List.{append_assoc, length-set, get_or-set_same}
use Rattle.kpn_book.specs.declared.answers.Done.TheVariants as done

pub tables_stay : (events : List Event) (before after : Book) → AppendsAll events before after
    → after.tables ≡ before.tables
tables_stay [] before after is = ap (λ b. b.tables) is
tables_stay (e ∷ events) before after is = tables_stay events is.0 after is.2 ∙ is.1.tables

pub history_then : (events : List Event) (before after : Book) → AppendsAll events before after
    → after.history ≡ before.history ++ events
history_then [] before after is = ap (λ b. b.history) is ∙ sym (append-nil before.history)
history_then (e ∷ events) before after is =
    history_then events is.0 after is.2
    ∙ ap (λ H. H ++ events) is.1.history
    ∙ append_assoc before.history (e ∷ []) events

pub commits_stay : (events : List Event) (before after : Book) → AppendsAll events before after
    → after.commits ≡ before.commits
commits_stay [] before after is = ap (λ b. b.commits) is
commits_stay (e ∷ events) before after is = commits_stay events is.0 after is.2 ∙ is.1.commits

-- the same events after one more commit
counts_one : (e : Event) (before after : Book) → Appends e before after → Appends e (with_one_commit before) (with_one_commit after)
counts_one e before after is = record {
  tables = is.tables;
  history = is.history;
  machine = is.machine;
  schedule = is.schedule;
  commits = ap (λ n. n + 1) is.commits;
  keeps_events = is.keeps_events;
}

pub counts_all : (events : List Event) (before after : Book) → AppendsAll events before after
    → AppendsAll events (with_one_commit before) (with_one_commit after)
counts_all [] before after is = ap with_one_commit is
counts_all (e ∷ events) before after is =
    (with_one_commit is.0, counts_one e before is.0 is.1, counts_all events is.0 after is.2)

pub counts_ready : (answer : Done) (p : ℕ) (b : Book)
    → with_one_commit (ready_if_paused p answer b) ≡ ready_if_paused p answer (with_one_commit b)
counts_ready done.Paused p b = refl
counts_ready other p b = refl

-- ---- a commit

pub base_tables : (answer : Done) (p : ℕ) (b : Book) → (ready_if_paused p answer b).tables ≡ b.tables
base_tables done.Paused p b = refl
base_tables other p b = refl

pub base_history : (answer : Done) (p : ℕ) (b : Book) → (ready_if_paused p answer b).history ≡ b.history
base_history done.Paused p b = refl
base_history other p b = refl

pub base_commits : (answer : Done) (p : ℕ) (b : Book) → (ready_if_paused p answer b).commits ≡ b.commits
base_commits done.Paused p b = refl
base_commits other p b = refl

pub commit_tables : (p : ℕ) (a : Advanced) (answer : Done) (before after : Book) → Commits p a answer before after
    → after.tables ≡ before.tables
commit_tables p a answer before after is =
    tables_stay is.handles.events (ready_if_paused p answer (with_one_commit (standing_at p a.to before))) after
    is.handles.appends ∙ base_tables answer p (with_one_commit (standing_at p a.to before))

pub commit_history : (p : ℕ) (a : Advanced) (answer : Done) (before after : Book)
    → (commits : Commits p a answer before after) → after.history ≡ before.history ++ commits.handles.events
commit_history p a answer before after is =
    history_then is.handles.events (ready_if_paused p answer (with_one_commit (standing_at p a.to before))) after
    is.handles.appends
    ∙ ap (λ H. H ++ is.handles.events) (base_history answer p (with_one_commit (standing_at p a.to before)))

pub commit_commits : (p : ℕ) (a : Advanced) (answer : Done) (before after : Book) → Commits p a answer before after
    → after.commits ≡ before.commits + 1
commit_commits p a answer before after is =
    commits_stay is.handles.events (ready_if_paused p answer (with_one_commit (standing_at p a.to before))) after
    is.handles.appends ∙ base_commits answer p (with_one_commit (standing_at p a.to before))

-- a process that is claimed is held
pub claimed_is_held : (p : ℕ) (before after : Book) → IsClaimed p before after → IsHeld after p
claimed_is_held p before after is =
    let there = is.holds.there in
    let long = length-set before.schedule.states p Held in
    let states = ap length is.holds.states in
    record {
      there = omega (arith, there, long, states);
      held = ap (λ xs. state_at xs p) is.holds.states ∙ get_or-set_same before.schedule.states p Held Ready there;
    }
