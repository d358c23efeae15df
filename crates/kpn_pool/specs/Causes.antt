-- What the workers of a run did, and why they did not come to its end.
use Rattle.std.specs.Prelude.{Bool, true, false, not, if◌then◌else◌, List, Option, Some, None}
use Rattle.std.specs.List.{list_any, list_all}
use Rattle.kpn_pool_desk.specs.declared.seat.Why.{Why}
use Rattle.kpn_pool_desk.specs.declared.seat.Why.TheVariants as why
use Rattle.kpn_pool_desk.specs.Seat.{Seat}
use Rattle.kpn_pool.specs.declared.beside.Worked.{Worked}
use Rattle.kpn_pool.specs.declared.fault.RunFault.{RunFault}
use Rattle.kpn_pool.specs.declared.fault.RunFault.TheVariants.{Threads, NoMemory, Abandoned}

-- what a worker did, as its seat has it
abbrev pub worked_of : Seat → Worked
worked_of seat = record { why = seat.why; commits = seat.commits }

-- a worker ended since memory ran out at its commit
abbrev pub is_out_of_memory : Option Why → Bool
is_out_of_memory (Some why.NoMemory) = true
is_out_of_memory other = false

-- a worker ended since the gate made it
abbrev pub is_abandoned : Option Why → Bool
is_abandoned (Some why.Abandoned) = true
is_abandoned other = false

-- memory ran out in a worker
abbrev pub ran_out : List Worked → Bool
ran_out workers = list_any (λ (w : Worked). is_out_of_memory w.why) workers

-- the gate made every worker end
abbrev pub all_abandoned : List Worked → Bool
all_abandoned workers = list_all (λ (w : Worked). is_abandoned w.why) workers

-- the first of these: a thread could not be started; memory ran out in a worker; the gate made every worker end
abbrev pub fault_of_run : (had_threads : Bool) → List Worked → Option RunFault
fault_of_run had_threads workers =
    if not had_threads then Some Threads else
    (if ran_out workers then Some NoMemory else (if all_abandoned workers then Some Abandoned else None))
