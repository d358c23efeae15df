-- A claim, and a step in place, which does what a claim, an advance and a commit do, one after the other.
use Rattle.std.specs.Prelude.{◌≡◌, ◌≢◌, ℕ, ◌+◌, ◌-◌, ◌^◌, ◌⊎◌, [], Option, Some, None}
use Rattle.kpn_step.specs.declared.stop.Stop.TheVariants as stop
use Rattle.kpn_step.specs.Stops.{Advanced, IsAdvance, IsWithinQuota}
use Rattle.kpn_book.specs.declared.answers.Done.{Done}
use Rattle.kpn_book.specs.Book.{Book, held_count, standing_at, put_back, IsClaimed}
use Rattle.kpn_book.specs.Commits.{IsOwnAdvance, Commits}

-- no process can be claimed: none is ready, or the commits and the held processes are as many as can be counted
abbrev pub ClaimsNobody : Book → Type 0
ClaimsNobody b = (b.schedule.queue ≡ []) ⊎ (b.commits + held_count b ≡ 2 ^ 64 - 1)

-- the first process of the queue is claimed and has made these steps, at most the quota
pub record ClaimsAndSteps (quota p : ℕ) (a : Advanced) (before between : Book) : Type 0 where
  pub claimed : IsClaimed p before between
  pub own : IsOwnAdvance between p a
  pub advance : IsAdvance a
  pub within : IsWithinQuota quota a

-- it is claimed, advanced and committed
pub record StepsNext (quota : ℕ) (answer : Done) (before after : Book) : Type 0 where
  pub process : ℕ
  pub advance : Advanced
  pub between : Book
  pub steps : ClaimsAndSteps quota process advance before between
  pub commits : Commits process advance answer between after

-- what a step in place returns: none if no process could be claimed, or else this
abbrev pub IsStep : (quota : ℕ) → Option Done → (before after : Book) → Type 0
IsStep quota None before after = ClaimsNobody before × (after ≡ before)
IsStep quota (Some answer) before after = StepsNext quota answer before after

-- memory ran out, which can be only if the steps have not paused: the process is claimed, goes to the end of its steps,
-- and is put back
pub record StepsInVain (quota : ℕ) (before after : Book) : Type 0 where
  pub process : ℕ
  pub advance : Advanced
  pub between : Book
  pub steps : ClaimsAndSteps quota process advance before between
  pub wants : advance.stop ≢ stop.Paused
  pub back : after ≡ put_back process (standing_at process advance.to between)
