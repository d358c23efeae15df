-- Processes that ended by a fault, and the line that a command writes of one.
use Rattle.std.specs.Prelude.{ℕ, Bool, true, false, List, ◌++◌, codes}
use Rattle.std.specs.List.{list_any}
use Rattle.kpn_history.specs.declared.event.How.{How}
use Rattle.kpn_history.specs.declared.event.How.TheVariants as how
use Rattle.kpn_history.specs.declared.state.State.{State}
use Rattle.kpn_history.specs.declared.state.State.TheVariants as state
use Rattle.kpn_trace.specs.EventLine.{how_word}

-- `fault NAME CAUSE`, and a line feed; the word for the cause is that of a trace
abbrev pub faulted_line : (name : List ℕ) → How → List ℕ
faulted_line name how = codes "fault " ++ name ++ codes " " ++ how_word how ++ codes "\n"

-- a process in this state ended by a fault
abbrev pub is_faulted : State → Bool
is_faulted (state.Ended how.Done) = false
is_faulted (state.Ended end) = true
is_faulted other = false

-- one of these states is so
abbrev pub has_fault : List State → Bool
has_fault states = list_any is_faulted states
