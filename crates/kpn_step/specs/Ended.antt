-- How a process that is stepped alone on whole lists ends, by the stop at which it says nothing more.
use Rattle.std.specs.Prelude.{◌≡◌, []}
use Rattle.kpn_lang.specs.Run.{Lists, list_at}
use Rattle.kpn_step.specs.declared.stop.Stop.{Stop}
use Rattle.kpn_step.specs.declared.stop.Stop.TheVariants as stop
use Rattle.kpn_step.specs.declared.stop.AloneStop.{AloneStop}
use Rattle.kpn_step.specs.declared.stop.AloneStop.TheVariants.{Done, Faulted, Starved, Paused}

-- how it ends at a stop: at its end, at an expression without a value, at a read whose list has nothing left, or paused
abbrev pub EndsAs : Stop → Lists → AloneStop → Type 0
EndsAs at rest Done = at ≡ stop.Done
EndsAs at rest (Faulted fault) = at ≡ stop.Faulted fault
EndsAs at rest (Starved port) = (at ≡ stop.WantRead port) × (list_at rest port ≡ [])
EndsAs at rest Paused = at ≡ stop.Paused
