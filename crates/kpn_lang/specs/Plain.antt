-- Scaffolding: where the plain program is in a run, and what a part of it has done there. Only contracts of private
-- functions use it. To read what a run is, nobody needs it.
use Rattle.std.specs.Prelude.{◌≡◌, ℕ, ℤ, List, [], ◌∷◌, ◌++◌, length, Option, Some, None, Result, Ok, Err, Bool, not}
use Rattle.kpn_lang.specs.declared.value.Fault.{Fault}
use Rattle.kpn_lang.specs.declared.talk.Said.{Said}
use Rattle.kpn_lang.specs.declared.talk.Ending.{Ending}
use Rattle.kpn_lang.specs.declared.talk.Ending.TheVariants.{Faulted}
use Rattle.kpn_lang.specs.Syntax.{Statement}
use Rattle.kpn_lang.specs.Value.{is_zero}
use Rattle.kpn_lang.specs.Parts.{Parts, IsProgram, places}
use Rattle.kpn_lang.specs.Tree.{Tree, tree_over}
use Rattle.kpn_lang.specs.Run.{Ran, Next, Lists, ends, run}

-- the variables, what remains of the lists, and what was said so far
pub record Standing : Type 0 where
  pub variables : List ℤ
  pub lists : Lists
  pub talk : List Said

-- what was said before, in front of a run
abbrev pub said_before : List Said → Ran → Ran
said_before talk ran =
    record { ending = ran.ending; variables = ran.variables; rest = ran.rest; talk = talk ++ ran.talk }

-- what was said so far, and what a run from here on comes to
abbrev pub run_from : Standing → Next → Ran
run_from here next = said_before here.talk (next here.variables here.lists)

-- what follows a part that came to its end, or ended the run
abbrev pub goes_on : Option Ending → Next → Next
goes_on None next = next
goes_on (Some ending) next = ends ending

-- a part of a run was done up to a residual, before whatever follows
pub record LeadsTo (part residual : Next → Next) (before after : Standing) : Type 0 where
  pub runs : (next : Next) → run_from before (part next) ≡ run_from after (residual next)
  pub variables : length after.variables ≡ length before.variables
  pub lists : length after.lists ≡ length before.lists

-- the program keeps the rules, and there are as many variables, cells and lists as it has
pub record MayRun (parts : Parts) (here : Standing) : Type 0 where
  pub program : IsProgram parts
  pub variables : length here.variables ≡ places parts
  pub lists : length here.lists ≡ parts.ins

-- the end of a run by a fault, if there is one
abbrev pub faulted : Result (Unit {0}) Fault → Option Ending
faulted (Ok done) = None
faulted (Err fault) = Some (Faulted fault)

-- a statement without blocks was done, or ended the run by a fault
abbrev pub Does : Statement → Result (Unit {0}) Fault → (before after : Standing) → Type 0
Does s result before after =
    (inner : ℕ → Tree) (n : ℕ) → LeadsTo (run (tree_over inner (s ∷ [])) n) (goes_on (faulted result)) before after

-- whether a test holds: its value is not 0
abbrev pub holds : Result ℤ Fault → Result Bool Fault
holds (Ok v) = Ok (not (is_zero v))
holds (Err fault) = Err fault
