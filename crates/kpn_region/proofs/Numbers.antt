-- Processes and channels of a network have small numbers, and those at its ports are there.
use Rattle.kpn_region.proofs.Common.{ℕ, ◌<◌, List, length, subst, arith, Tables, instance_at, IsNetwork, sizes, IsChannelAt}
use Rattle.std.specs.List.{Contains}
use Rattle.std.proofs.lemmas.List.Elements.{Contains-get_or}
use Rattle.kpn_net.proofs.PortsApart.{in_is_there, out_is_there}

among : (ports : List ℕ) (port c : ℕ) → IsChannelAt ports port c → Contains ports c
among ports port c at = subst (λ x. Contains ports x) at.1 (Contains-get_or ports port 0 at.0)

module _ (t : Tables) (network : IsNetwork t) where
  pub in_there : (p port c : ℕ) → IsChannelAt (instance_at t p).ins port c → c < length t.channels
  in_there p port c at = in_is_there t network p c (among (instance_at t p).ins port c at)

  pub out_there : (p port c : ℕ) → IsChannelAt (instance_at t p).outs port c → c < length t.channels
  out_there p port c at = out_is_there t network p c (among (instance_at t p).outs port c at)

  pub channel_fits : (c : ℕ) → c < length t.channels → c < 65536
  channel_fits c there = let few = (sizes t network).channels in omega (arith, few, there)
