-- A network whose programs have no cells: a frame is as large as that of a program without them.
use Rattle.kpn_book.proofs.Common.{◌≡◌, ℕ, ◌+◌, ◌<◌, ◌≤◌, false, length, arith, nat_lt, ltb-false, Parts, Tables, instance_at, program_of, any_has_cells, IsNetwork, IsInstance-at, IsProgram-of, list_any_fails_at, Machine, frame_in, IsMachine}
use Rattle.kpn_lang.proofs.Programs.{limits}
use Rattle.kpn_step.proofs.Places.{Fits-from}

no_cells_of : (t : Tables) → IsNetwork t → any_has_cells t ≡ false → (p : ℕ) → p < length t.instances
    → (program_of t p).free + length (program_of t p).tables ≤ 0
no_cells_of t network plain p there =
    ltb-false 0 _
    (list_any_fails_at (λ (parts : Parts). nat_lt 0 (parts.free + length parts.tables)) t.programs plain
    (instance_at t p).program _ (IsInstance-at t network p _ there).there)

-- it has no more values than a program may have variables
pub few_values : (t : Tables) → IsNetwork t → any_has_cells t ≡ false → (s : Machine) → IsMachine t s → (p : ℕ)
    → p < length t.instances → length (frame_in s p).variables ≤ 64
few_values t network plain s shape p there =
    let parts = program_of t p in
    let none = no_cells_of t network plain p there in
    let few = (limits parts (IsProgram-of t network p there)).variables in
    let long = (Fits-from parts (frame_in s p) (shape.fit p there)).variables in
    omega (arith, none, few, long)
