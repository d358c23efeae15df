-- What has gone out: what the output of a sink was put, beside what was taken from the sink.
use Rattle.std.specs.Prelude.{◌≡◌, ◌≢◌, ◌⊎◌, ℕ, ◌<◌, false, ℤ, List, length, get_or, flat_map, IsSome, Option, Some}
use Rattle.kpn_history.specs.declared.event.Event.{Event}
use Rattle.kpn_history.specs.Channels.{is_left}
use Rattle.kpn_stream.specs.declared.faults.SinkFault.{SinkFault}
use Rattle.kpn_stream_devices.specs.declared.formats.OutputFormat.{OutputFormat}
use Rattle.kpn_stream_devices.specs.declared.outputs.SinkOutput.{SinkOutput}
use Rattle.kpn_stream_devices.specs.Formats.{text_of}

-- the texts of these items, one after the other
abbrev pub text_of_all : OutputFormat → List ℤ → List ℕ
text_of_all format items = flat_map (text_of format) items

-- output i has a device of its own: a file, or else all others have files
abbrev pub HasOwnDevice : {G : Type 0} → List (SinkOutput G) → (i : ℕ) → Type 0
HasOwnDevice {G} outputs i =
    ((d : SinkOutput G) → IsSome (get_or outputs i d).file)
    ⊎ ((k : ℕ) (d : SinkOutput G) → k < length outputs → k ≢ i → IsSome (get_or outputs k d).file)

-- sink c was not left, and its device is not the one that has failed
pub record IsServed (H : List Event) (failed : Option (ℕ × SinkFault)) (c : ℕ) : Type 0 where
  pub stays : is_left H c ≡ false
  pub works : (fault : SinkFault) → failed ≢ Some (c, fault)
