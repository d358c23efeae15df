-- What the code tests of each process and each channel before it gives a verdict. A reader of the public contracts
-- needs none of it.
use Rattle.std.specs.Prelude.{ℕ, ◌||◌, ◌&&◌, Bool, true, false, not, is_some, if◌then◌else◌}
use Rattle.kpn_net.specs.declared.wait.Wait.{Wait}
use Rattle.kpn_net.specs.declared.wait.Wait.TheVariants.{Nobody}
use Rattle.kpn_net.specs.Tables.{Tables, channel_at, is_source, is_sink}
use Rattle.kpn_chan.specs.Channel.{next_item}
use Rattle.kpn_machine.specs.Machine.{Machine, channel_in, closed_in, wait_in, end_in, is_empty_wait}

abbrev pub is_free : Wait → Bool
is_free Nobody = true
is_free wait = false

-- the process has ended or waits on an empty channel
abbrev pub is_quiet_at : Machine → (p : ℕ) → Bool
is_quiet_at s p = is_some (end_in s p) || is_empty_wait (wait_in s p)

-- the process has ended or waits
abbrev pub has_stopped : Machine → (p : ℕ) → Bool
has_stopped s p = is_some (end_in s p) || not (is_free (wait_in s p))

-- the caller may still feed the channel or close it, or take an item from it
abbrev pub awaits_outside : Tables → Machine → (c : ℕ) → Bool
awaits_outside t s c =
    if is_source (channel_at t c) then not (closed_in s c)
    else (is_sink (channel_at t c) && is_some (next_item (channel_in s c)))
