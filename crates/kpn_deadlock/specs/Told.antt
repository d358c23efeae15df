-- What a search for cycles or rings tells: each of them once, as the list of its members from the one of least number
-- on.
use Rattle.std.specs.Prelude.{◌≡◌, ℕ, ◌<◌, Bool, true, false, nat_lt, List, [], ◌∷◌, ◌++◌, Option, Some, None, Contains, slice_get, length}
use Rattle.std.specs.List.{list_all}
use Rattle.kpn_net.specs.declared.wait.Wait.{Wait}
use Rattle.kpn_net.specs.declared.wait.Wait.TheVariants.{Nobody, Empty, Full}
use Rattle.kpn_net.specs.Tables.{Tables}
use Rattle.kpn_net.specs.Waits.{wait_at, IsCycle}
use Rattle.kpn_deadlock.specs.Ring.{IsRing}

-- p has a number below those of the others
abbrev pub IsLeastOf : (p : ℕ) → (others : List ℕ) → Type 0
IsLeastOf p others = (q : ℕ) → Contains others q → p < q

-- a cycle, from its member of least number on
pub record IsCycleFrom (t : Tables) (waits : List Wait) (p : ℕ) (others : List ℕ) : Type 0 where
  pub cycle : IsCycle t waits p others
  pub least : IsLeastOf p others

-- a ring, from its member of least number on
pub record IsRingFrom (t : Tables) (waits : List Wait) (p : ℕ) (others : List ℕ) : Type 0 where
  pub ring : IsRing t waits p others
  pub least : IsLeastOf p others

-- a list of members is p and these others, which are so
pub record IsOneOf (Is : ℕ → List ℕ → Type 0) (members : List ℕ) : Type 0 where
  pub first : ℕ
  pub others : List ℕ
  pub is : members ≡ first ∷ others
  pub so : Is first others

-- exactly those that are so are told, each once
pub record AreTold (Is : ℕ → List ℕ → Type 0) (told : List (List ℕ)) : Type 0 where
  pub each : (members : List ℕ) → Contains told members → IsOneOf Is members
  pub all : (p : ℕ) (others : List ℕ) → Is p others → Contains told (p ∷ others)
  pub once : (i j : ℕ) (members : List ℕ) → slice_get told i ≡ Some members → slice_get told j ≡ Some members → i ≡ j

-- all cycles of waiting processes are told
abbrev pub AreCycles : Tables → List Wait → (told : List (List ℕ)) → Type 0
AreCycles t waits told = AreTold (IsCycleFrom t waits) told

-- all rings are told
abbrev pub AreRings : Tables → List Wait → (told : List (List ℕ)) → Type 0
AreRings t waits told = AreTold (IsRingFrom t waits) told

-- some are told
abbrev pub are_some : (told : List (List ℕ)) → Bool
are_some told = nat_lt 0 (length told)

-- ---- scaffolding

-- what is found from p: members that are p and others that are so, or that there are none
abbrev pub FindsFrom : (Is : ℕ → List ℕ → Type 0) → (p : ℕ) → Option (List ℕ) → Type 0
FindsFrom Is p None = (others : List ℕ) → ¬ Is p others
FindsFrom Is p (Some members) = (others : List ℕ) × (members ≡ p ∷ others) × Is p others

-- those told, with what is found
abbrev pub with_found : (told : List (List ℕ)) → Option (List ℕ) → List (List ℕ)
with_found told None = told
with_found told (Some members) = told ++ members ∷ []

abbrev pub is_wait_for_item : Wait → Bool
is_wait_for_item Nobody = false
is_wait_for_item (Empty c) = true
is_wait_for_item (Full c) = false

-- all these processes wait on empty channels
abbrev pub all_await_items : List Wait → List ℕ → Bool
all_await_items waits members = list_all (λ p. is_wait_for_item (wait_at waits p)) members
