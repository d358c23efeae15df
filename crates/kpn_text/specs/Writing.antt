-- Scaffolding: what a call that prints has done.
use Rattle.std.specs.Prelude.{◌≡◌, ℕ, List, ◌++◌}

-- It put a text after the bytes before it, whatever follows.
abbrev pub Writes : (before after : List ℕ) → (text : List ℕ → List ℕ) → Type 0
Writes before after text = (more : List ℕ) → after ++ more ≡ before ++ text more
