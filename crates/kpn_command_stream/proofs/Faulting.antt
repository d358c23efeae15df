-- No process has faulted, one process more.
use Rattle.std.proofs.Common.{◌≡◌, ◌+◌, ℕ, false, subst, arith, inl, inr}
use Rattle.kpn_command_stream.proofs.Common.{cases_lt, Book, state_at, is_faulted, HaveNotFaulted}

pub not_faulted_more : (b : Book) (p : ℕ) → HaveNotFaulted p b → is_faulted (state_at b.schedule.states p) ≡ false
    → HaveNotFaulted (p + 1) b
not_faulted_more b p before here q below =
    elim (cases_lt q p) [
      | inl less ↦ before q less
      | inr past ↦
          let same : p ≡ q = omega (arith, below, past) in
          subst (λ (x : ℕ). is_faulted (state_at b.schedule.states x) ≡ false) same here
    ]
