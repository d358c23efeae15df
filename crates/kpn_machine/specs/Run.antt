-- Which history leads to a machine: the same channels, ends and waits, and each process as far as its talk has
-- brought it.
use Rattle.std.specs.Prelude.{◌≡◌, ℕ, ◌<◌, false, not, List, [], ◌∷◌, length, map, Option, Some, None, Contains}
use Rattle.kpn_lang.specs.declared.talk.Said.{Said}
use Rattle.kpn_lang.specs.declared.talk.Said.TheVariants.{Got, Put}
use Rattle.kpn_net.specs.Tables.{Tables, instance_at, program_of}
use Rattle.kpn_net.specs.Process.{at_channel}
use Rattle.kpn_step.specs.Frame.{Frame}
use Rattle.kpn_step.specs.After.{IsAfter}
use Rattle.kpn_chan.specs.Channel.{ChannelState}
use Rattle.kpn_history.specs.declared.event.How.{How}
use Rattle.kpn_history.specs.declared.event.Event.{Event}
use Rattle.kpn_history.specs.declared.event.Event.TheVariants.{Ended}
use Rattle.kpn_history.specs.Talks.{talk_of, has_ended}
use Rattle.kpn_history.specs.Channels.{written_on, read_on, reader_lives, capacity_after, is_closed}
use Rattle.kpn_history.specs.Waiting.{wait_of}
use Rattle.kpn_history.specs.Legal.{Legal}
use Rattle.kpn_machine.specs.Machine.{Machine, channel_in, closed_in, wait_in, end_in, frame_in, IsMachine}

-- a channel is as the history left it: its journal is what was written there, and as many items of it were read as the
-- history read; it has its capacity by the history, and is retired if its reader does not live
pub record HoldsChannel (t : Tables) (H : List Event) (c : ℕ) (channel : ChannelState) : Type 0 where
  pub journal : channel.journal ≡ written_on H c
  pub read : channel.read ≡ length (read_on H c)
  pub capacity : channel.capacity ≡ capacity_after t H c
  pub retired : channel.is_retired ≡ not (reader_lives t H c)

-- a process ended in this way, or has not ended
abbrev pub IsEndOf : List Event → (p : ℕ) → Option How → Type 0
IsEndOf H p None = has_ended H p ≡ false
IsEndOf H p (Some how) = Contains H (Ended p how)

-- each item is got at an in port below this number
abbrev pub NamesInsBelow : ℕ → List Said → Type 0
NamesInsBelow ins [] = Unit {0}
NamesInsBelow ins (Got port v ∷ talk) = (port < ins) × NamesInsBelow ins talk
NamesInsBelow ins (Put port v ∷ talk) = NamesInsBelow ins talk

-- a frame is as far as a process has come in the history: its program comes there after it said at its ports what the
-- process said on its channels
pub record StandsAfter (t : Tables) (H : List Event) (p : ℕ) (f : Frame) : Type 0 where
  pub said : List Said
  pub ports : NamesInsBelow (length (instance_at t p).ins) said
  pub talk : map (at_channel (instance_at t p)) said ≡ talk_of H p
  pub after : IsAfter (program_of t p) (instance_at t p).pars said f

-- the history leads to the machine
pub record LeadsToMachine (t : Tables) (H : List Event) (s : Machine) : Type 0 where
  pub channels : (c : ℕ) → c < length t.channels → HoldsChannel t H c (channel_in s c)
  pub closed : (c : ℕ) → c < length t.channels → closed_in s c ≡ is_closed H c
  pub waits : (p : ℕ) → p < length t.instances → wait_in s p ≡ wait_of t H p
  pub ends : (p : ℕ) → p < length t.instances → IsEndOf H p (end_in s p)
  pub frames : (p : ℕ) → p < length t.instances → StandsAfter t H p (frame_in s p)

-- a run of the network: a legal history and the machine of the network to which it leads
pub record IsRun (t : Tables) (H : List Event) (s : Machine) : Type 0 where
  pub legal : Legal t H
  pub shape : IsMachine t s
  pub leads : LeadsToMachine t H s
