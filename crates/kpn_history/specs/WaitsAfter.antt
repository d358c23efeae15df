-- What each process is blocked on after one more event, by what it was blocked on before.
use Rattle.std.specs.Prelude.{ℕ, if◌then◌else◌, List, [], ◌∷◌, ◌++◌}
use Rattle.kpn_net.specs.declared.wait.Wait.{Wait}
use Rattle.kpn_net.specs.declared.wait.Wait.TheVariants.{Nobody, Empty, Full}
use Rattle.kpn_net.specs.Tables.{Tables}
use Rattle.kpn_history.specs.declared.event.Event.{Event}
use Rattle.kpn_history.specs.declared.event.Event.TheVariants.{WaitEmpty, WaitFull}
use Rattle.kpn_history.specs.Talks.{is_of}
use Rattle.kpn_history.specs.Channels.{is_empty, is_full}

-- what a process is blocked on after an event of its own: the channel of its wait, else nobody
abbrev pub wait_made : Event → Wait
wait_made (WaitEmpty p c) = Empty c
wait_made (WaitFull p c) = Full c
wait_made event = Nobody

-- a wait is kept while its channel is still empty or full
abbrev pub wait_kept : Tables → List Event → Wait → Wait
wait_kept t H Nobody = Nobody
wait_kept t H (Empty c) = if is_empty H c then Empty c else Nobody
wait_kept t H (Full c) = if is_full t H c then Full c else Nobody

-- what a process is blocked on after an event: after one of its own what the event made it wait on, after one of others
-- what is kept of its wait
abbrev pub wait_after : Tables → (before : List Event) → Event → (p : ℕ) → Wait → Wait
wait_after t before event p wait =
    if is_of p event then wait_made event else wait_kept t (before ++ event ∷ []) wait
