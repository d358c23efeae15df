-- Cuts of a network into parts. A part is a network of its own: some processes of the whole, and the channels that have
-- an end there. Processes and channels have numbers of the part's own. A channel between two parts is a sink of the one
-- that writes it and a source of the one that reads it.
use Rattle.std.specs.Prelude.{◌≡◌, ℕ, ◌<◌, true, false, List, [], length, map, slice_index_or}
use Rattle.kpn_net.specs.declared.tables.Policy.TheVariants.{Cycles}
use Rattle.kpn_net.specs.declared.tables.Growth.TheVariants.{One}
use Rattle.kpn_net.specs.Tables.{Tables, instance_at, program_of, channel_at, is_source}
use Rattle.kpn_net.specs.Faults.{IsNetwork}

-- a part: its tables, and the numbers that its processes and its channels have in the whole
pub record Part : Type 0 where
  pub tables : Tables
  pub processes : List ℕ
  pub channels : List ℕ

-- the number that a process or a channel of a part has in the whole
abbrev pub whole_process : Part → ℕ → ℕ
whole_process part p = slice_index_or part.processes p 0

abbrev pub whole_channel : Part → ℕ → ℕ
whole_channel part c = slice_index_or part.channels c 0

-- a part without processes stands for one that is not there
abbrev pub empty_part : Part
empty_part =
    record {
      tables = record {
        programs = [];
        instances = [];
        channels = [];
        limit = 1;
        policy = Cycles;
        growth = One;
      };
      processes = [];
      channels = [];
    }

abbrev pub part_at : List Part → ℕ → Part
part_at cut r = slice_index_or cut r empty_part

-- ---- which parts a cut has

-- process p of a part is a process of the whole: it has the program and the parameters that it has there, and its ports
-- are at the channels at which they are there
pub record IsSameProcess (t : Tables) (part : Part) (p : ℕ) : Type 0 where
  pub there : whole_process part p < length t.instances
  pub program : program_of t (whole_process part p) ≡ program_of part.tables p
  pub pars : (instance_at t (whole_process part p)).pars ≡ (instance_at part.tables p).pars
  pub ins : (instance_at t (whole_process part p)).ins
      ≡ map (whole_channel part) (instance_at part.tables p).ins
  pub outs : (instance_at t (whole_process part p)).outs
      ≡ map (whole_channel part) (instance_at part.tables p).outs

-- different channels of a part are different ones in the whole
abbrev pub AreApart : Part → Type 0
AreApart part =
    (c d : ℕ) → c < length part.tables.channels → d < length part.tables.channels
    → whole_channel part c ≡ whole_channel part d → c ≡ d

-- a part of a network: a network of processes of the whole, and different channels are different ones there. Capacities
-- and the rules of growth may be others
pub record IsPart (t : Tables) (part : Part) : Type 0 where
  pub network : IsNetwork part.tables
  pub processes : (p : ℕ) → p < length part.tables.instances → IsSameProcess t part p
  pub distinct : AreApart part

-- process p of the whole is a process of this part
pub record HasHome (cut : List Part) (p : ℕ) : Type 0 where
  pub part : ℕ
  pub process : ℕ
  pub there : process < length (part_at cut part).tables.instances
  pub is : whole_process (part_at cut part) process ≡ p

-- a process of the whole is one process of one part
abbrev pub AreOnce : List Part → Type 0
AreOnce cut =
    (r s p q : ℕ) → p < length (part_at cut r).tables.instances → q < length (part_at cut s).tables.instances
    → whole_process (part_at cut r) p ≡ whole_process (part_at cut s) q → (r ≡ s) × (p ≡ q)

-- a cut of a network: each process of the whole is one process of one part
pub record IsCut (t : Tables) (cut : List Part) : Type 0 where
  pub parts : (r : ℕ) → r < length cut → IsPart t (part_at cut r)
  pub home : (p : ℕ) → p < length t.instances → HasHome cut p
  pub once : AreOnce cut

-- ---- which channels are cut

-- a source of the part, but none of the whole: another part writes it
pub record IsCutSource (t : Tables) (part : Part) (c : ℕ) : Type 0 where
  pub source : is_source (channel_at part.tables c) ≡ true
  pub cut : is_source (channel_at t (whole_channel part c)) ≡ false
