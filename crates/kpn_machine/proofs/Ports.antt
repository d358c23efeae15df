-- The port at which a process reads or writes is one of its own. The channel that it is about to read or write is one of
-- the network, and its own.
use Rattle.kpn_machine.proofs.Common.{◌≡◌, ℕ, ◌<◌, ℤ, List, length, subst, arith, Contains-get_or, Process, Tables, writer_of, reader_of, instance_at, program_of, IsNetwork, IsProgram-of, IsInstance-of, reads_its_ins, writes_its_outs, in_is_there, out_is_there, WantRead, WantWrite, StandsAtRead, StandsAtWrite, Machine, frame_in, IsChannelAt, Stands, ReadsFrom, WritesTo}
use Rattle.std.specs.List.{Contains}
use Rattle.kpn_step.proofs.MayStep.{at_port}

among : (ports : List ℕ) (port c : ℕ) → IsChannelAt ports port c → Contains ports c
among ports port c at = subst (λ x. Contains ports x) at.1 (Contains-get_or ports port 0 at.0)

module _ (t : Tables) (network : IsNetwork t) (s : Machine) (p : ℕ) (there : p < length t.instances) (port : ℕ)
  where
    pub in_port : Stands t s p (WantRead port) → port < length (instance_at t p).ins
    in_port stands =
        let below = (at_port (program_of t p) (IsProgram-of t network p there) (frame_in s p) (WantRead port) stands).0
        in
        let long = (IsInstance-of t network p there).ins in
        omega (arith, below, long)

    pub out_port : (v : ℤ) → Stands t s p (WantWrite port v) → port < length (instance_at t p).outs
    out_port v stands =
        let below =
        (at_port (program_of t p) (IsProgram-of t network p there) (frame_in s p) (WantWrite port v) stands).0 in
        let long = (IsInstance-of t network p there).outs in
        omega (arith, below, long)

module _ (t : Tables) (network : IsNetwork t) (s : Machine) (p : ℕ) (there : p < length t.instances) (c : ℕ)
  where
    pub reads_below : ReadsFrom t s p c → c < length t.channels
    reads_below reads = in_is_there t network p c (among (instance_at t p).ins reads.port c reads.channel)

    pub reads_own : ReadsFrom t s p c → reader_of t c ≡ Process p
    reads_own reads = (reads_its_ins t network p c).1 (among (instance_at t p).ins reads.port c reads.channel)

    pub at_read : ReadsFrom t s p c → StandsAtRead (program_of t p).blocks (frame_in s p)
    at_read reads =
        (at_port (program_of t p) (IsProgram-of t network p there) (frame_in s p) (WantRead reads.port) reads.stands).1

    pub writes_below : (v : ℤ) → WritesTo t s p c v → c < length t.channels
    writes_below v writes = out_is_there t network p c (among (instance_at t p).outs writes.port c writes.channel)

    pub writes_own : (v : ℤ) → WritesTo t s p c v → writer_of t c ≡ Process p
    writes_own v writes = (writes_its_outs t network p c).1 (among (instance_at t p).outs writes.port c writes.channel)

    pub at_write : (v : ℤ) → WritesTo t s p c v → StandsAtWrite (program_of t p).blocks (frame_in s p)
    at_write v writes =
        (at_port (program_of t p) (IsProgram-of t network p there) (frame_in s p) (WantWrite writes.port v)
        writes.stands).1
