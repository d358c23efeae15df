-- The run after a call: its event was due, and the machine is as this event leaves it.
use Rattle.kpn_machine.proofs.Common.{List, [], ◌∷◌, ◌++◌, Tables, IsNetwork, Event, Legal, Machine, IsMachine, IsRun, Changes}
use Rattle.kpn_machine.proofs.Leading.{LeadsToMachine-next}

pub IsRun-next : (t : Tables) → IsNetwork t → (H : List Event) (e : Event) (before after : Machine)
    → IsRun t H before → Legal t (H ++ e ∷ []) → Changes t e before after → IsMachine t after
    → IsRun t (H ++ e ∷ []) after
IsRun-next t network H e before after run legal changes shape =
    record {
      legal = legal;
      shape = shape;
      leads = LeadsToMachine-next t network H e before after legal run.leads changes;
    }
