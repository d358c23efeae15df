-- The run of a process on whole lists of items, by the structure of its tree, in the style of a denotational semantics
-- with continuations (Strachey and Wadsworth 1974). Each loop that the run enters has a number of turns, so that each
-- run ends. What a run does with ever more turns is what the process does (Kahn 1974).
use Rattle.std.specs.Prelude.{ℕ, zero, suc, ◌+◌, ℤ, unsigned_abs, Result, Ok, Err, List, [], ◌∷◌, slice_index_or, slice_set, if◌then◌else◌}
use Rattle.kpn_lang.specs.declared.value.Fault.{Fault}
use Rattle.kpn_lang.specs.declared.talk.Said.{Said}
use Rattle.kpn_lang.specs.declared.talk.Said.TheVariants.{Got, Put}
use Rattle.kpn_lang.specs.declared.talk.Ending.{Ending}
use Rattle.kpn_lang.specs.declared.talk.Ending.TheVariants.{Faulted, Starved, Cut}
use Rattle.kpn_lang.specs.Syntax.{Term}
use Rattle.kpn_lang.specs.Value.{value, is_zero, index_in, ◌>>=◌}
use Rattle.kpn_lang.specs.Tree.{Tree, End, Assign, Read, Write, If, While, Set}

-- the items that come in, a list for each in port, in order of port
abbrev pub Lists : Type 0
Lists = List (List ℤ)

-- what a run came to: how it ended, the variables and what remained of the lists then, and what was said, in order
pub record Ran : Type 0 where
  pub ending : Ending
  pub variables : List ℤ
  pub rest : Lists
  pub talk : List Said

-- what follows: a run from variables and lists
abbrev pub Next : Type 0
Next = List ℤ → Lists → Ran

-- a run that ends at once
abbrev pub ends : Ending → Next
ends ending variables lists = record { ending = ending; variables = variables; rest = lists; talk = [] }

-- one thing said before the rest of a run
abbrev pub says : Said → Ran → Ran
says said ran = record { ending = ran.ending; variables = ran.variables; rest = ran.rest; talk = said ∷ ran.talk }

-- goes on with a value, or ends with the fault
abbrev pub with_value : Result ℤ Fault → List ℤ → Lists → (ℤ → Ran) → Ran
with_value (Ok v) variables lists go = go v
with_value (Err fault) variables lists go = ends (Faulted fault) variables lists

-- the items that remain at an in port; none at a port that is not there
abbrev pub list_at : Lists → ℕ → List ℤ
list_at lists port = slice_index_or lists port []

-- goes on with the first item and those after it, or ends if there is none
abbrev pub with_item : List ℤ → (port : ℕ) → List ℤ → Lists → (ℤ → List ℤ → Ran) → Ran
with_item [] port variables lists go = ends (Starved port) variables lists
with_item (v ∷ items) port variables lists go = go v items

-- the first if the value is not 0, else the second
abbrev pub choose : ℤ → Ran → Ran → Ran
choose v first second = if is_zero v then second else first

-- a loop that may go round this many times more, each a turn; after the last it evaluates its test once more, and is
-- cut only if it would go on
abbrev pub turns : ℕ → Term → (Next → Next) → Next → Next
turns zero test body next variables lists =
    with_value (value test variables) variables lists (λ v. choose v (ends Cut variables lists) (next variables lists))
turns (suc more) test body next variables lists =
    with_value (value test variables) variables lists
    (λ v. choose v (body (turns more test body next) variables lists) (next variables lists))

-- the run of a tree and of what follows it, if each loop that the run enters has n turns
abbrev pub run : Tree → ℕ → Next → Next
run End n next variables lists = next variables lists
run (Assign x e rest) n next variables lists =
    with_value (value e variables) variables lists (λ v. run rest n next (slice_set variables x v) lists)
run (Read i x rest) n next variables lists =
    with_item (list_at lists i) i variables lists (λ v items.
    says (Got i v) (run rest n next (slice_set variables x v) (slice_set lists i items)))
run (Write o e rest) n next variables lists =
    with_value (value e variables) variables lists (λ v. says (Put o v) (run rest n next variables lists))
run (If e first second rest) n next variables lists =
    with_value (value e variables) variables lists (λ v.
    choose v (run first n (run rest n next) variables lists) (run second n (run rest n next) variables lists))
run (While e body rest) n next variables lists =
    turns n e (λ after. run body n after) (run rest n next) variables lists
run (Set base size i e rest) n next variables lists =
    with_value (value i variables >>= index_in size) variables lists (λ index.
    with_value (value e variables) variables lists (λ v.
    run rest n next (slice_set variables (base + unsigned_abs index) v) lists))
