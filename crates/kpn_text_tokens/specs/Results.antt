-- Steps that can fail, and what a call that can fail returns. All crates that read texts use these words.
use Rattle.std.specs.Prelude.{◌≡◌, Result, Ok, Err}

-- a step, and then what follows if it had no fault
unfoldable pub and_then : {A B E : Type 0} → Result A E → (A → Result B E) → Result B E
and_then (Ok x) f = f x
and_then (Err fault) f = Err fault

infixl 10 ◌>>=◌
abbrev pub ◌>>=◌ : {A B E : Type 0} → Result A E → (A → Result B E) → Result B E
r >>= f = and_then r f

-- a call returned a value of which this holds, or failed by this fault
abbrev pub OkOr : {A E : Type 0} → (fault : E) → Result A E → (A → Type 0) → Type 0
OkOr fault (Ok x) P = P x
OkOr fault (Err e) P = e ≡ fault
