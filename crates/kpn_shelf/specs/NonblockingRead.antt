-- What a look at an input gives: what has come, as a read gives it, or nothing.
use Rattle.std.specs.Prelude.{◌≡◌, ◌<◌, ◌≤◌, ℕ, List, length, take, Option, Some, None, IfOk, IfSome, Result, Ok, Err}
use Rattle.std.specs.Io.KnownBytes.{Consumes, Keeps, IsAtEnd}

-- where n bytes have come, `&buf[..n]` is in bounds and has n bytes, as after a read
abbrev pub LooksAtMost : {E : Type 0} → Result (Option ℕ) E → List ℕ → Type 0
LooksAtMost r buf = IfOk r (λ answer. IfSome answer (λ n. (n ≤ length buf) × (n ≡ length (take n buf))))

-- A look consumed what it gave, none only at the end or with no room. If nothing has come, and after an error, the
-- input has left what it had.
abbrev pub LookConsumes : {E : Type 0} → (old new : Option (List ℕ)) → Result (Option ℕ) E → (buf : List ℕ) → Type 0
LookConsumes old new (Ok (Some n)) buf = Consumes old new (take n buf) × (n ≡ 0 → 0 < length buf → IsAtEnd new)
LookConsumes old new (Ok None) buf = Keeps old new
LookConsumes old new (Err e) buf = Keeps old new
