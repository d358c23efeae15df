-- Scaffolding: what the code's walk along the waits keeps. The contracts of private functions speak of it.
use Rattle.std.specs.Prelude.{ℕ, ◌<◌, Option, Some, None}
use Rattle.kpn_net.specs.declared.wait.Wait.{Wait}
use Rattle.kpn_net.specs.declared.wait.Wait.TheVariants as wait
use Rattle.kpn_net.specs.declared.found.Found.{Found}
use Rattle.kpn_net.specs.declared.found.Found.TheVariants.{AllEmpty, Full}

-- what a search finds on a cycle with this smallest full channel
abbrev pub found_on : Option ℕ → Found
found_on None = AllEmpty
found_on (Some c) = Full c

-- a wait is on a channel below this number
abbrev pub IsOnChannelBelow : ℕ → Wait → Type 0
IsOnChannelBelow n wait.Nobody = Unit {0}
IsOnChannelBelow n (wait.Empty c) = c < n
IsOnChannelBelow n (wait.Full c) = c < n
