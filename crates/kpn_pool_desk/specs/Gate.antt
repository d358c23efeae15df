-- What a gate answers.
use Rattle.std.specs.Prelude.{◌≡◌, ℕ, ◌<◌, List, slice_get, Some}
use Rattle.kpn_pool_desk.specs.declared.gate.Go.{Go}
use Rattle.kpn_pool_desk.specs.declared.gate.Go.TheVariants.{On, Abandon}

-- the gate, which may answer so, has let the first ones of the processes through; if more are held, it made the worker
-- end at the next one
pub record LetsThrough (may_answer : (process : ℕ) → Go → Type 0) (passed held : ℕ) (processes : List ℕ) : Type 0
  where
    pub through : (i p : ℕ) → i < passed → slice_get processes i ≡ Some p → may_answer p On
    pub next : (p : ℕ) → passed < held → slice_get processes passed ≡ Some p → may_answer p Abandon

-- the gate, which may answer so, lets everything through
abbrev pub LetsAll : (may_answer : (worker process : ℕ) → Go → Type 0) → Type 0
LetsAll may_answer = (worker process : ℕ) (go : Go) → may_answer worker process go → go ≡ On
