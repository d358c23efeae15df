-- A process of a network that runs alone on a family of lists, a list for each channel (Kahn 1974).
use Rattle.std.specs.Prelude.{◌≡◌, ◌≢◌, ℕ, ℤ, List, map, slice_index, Contains}
use Rattle.kpn_lang.specs.declared.talk.Said.{Said}
use Rattle.kpn_lang.specs.declared.talk.Said.TheVariants.{Got, Put}
use Rattle.kpn_lang.specs.declared.talk.Ending.{Ending}
use Rattle.kpn_lang.specs.declared.talk.Ending.TheVariants.{Done, Faulted, Starved, Cut}
use Rattle.kpn_lang.specs.Run.{Ran}
use Rattle.kpn_lang.specs.Prefix.{IsPrefix}
use Rattle.kpn_lang.specs.Alone.{alone, put_at}
use Rattle.kpn_net.specs.declared.tables.Instance.{Instance}
use Rattle.kpn_net.specs.Tables.{Tables, instance_at, program_of}

-- a list of items for each channel
abbrev pub Family : Type 0
Family = ℕ → List ℤ

-- each list of the second family begins with that of the first
abbrev pub IsFamilyPrefix : Family → Family → Type 0
IsFamilyPrefix X Y = (c : ℕ) → IsPrefix (X c) (Y c)

-- the families have the same lists on the in channels of process p
pub record AgreeOnIns (t : Tables) (p : ℕ) (X Y : Family) : Type 0 where
  pub each : (c : ℕ) → Contains (instance_at t p).ins c → X c ≡ Y c

-- what is said at a port, as said of the channel at that port
abbrev pub at_channel : Instance → Said → Said
at_channel i (Got port v) = Got (slice_index i.ins port) v
at_channel i (Put port v) = Put (slice_index i.outs port) v

abbrev pub ends_at_channel : Instance → Ending → Ending
ends_at_channel i Done = Done
ends_at_channel i (Faulted fault) = Faulted fault
ends_at_channel i (Starved port) = Starved (slice_index i.ins port)
ends_at_channel i Cut = Cut

-- process p alone, with its program and parameters, on the lists of its in channels
abbrev pub ran_on : Tables → (p n : ℕ) → Family → Ran
ran_on t p n X = alone (program_of t p) (instance_at t p).pars n (map X (instance_at t p).ins)

-- what it says, with channels in place of ports
abbrev pub talk_on : Tables → (p n : ℕ) → Family → List Said
talk_on t p n X = map (at_channel (instance_at t p)) (ran_on t p n X).talk

-- how it ends, with a channel in place of a port
abbrev pub ending_on : Tables → (p n : ℕ) → Family → Ending
ending_on t p n X = ends_at_channel (instance_at t p) (ran_on t p n X).ending

-- the items that it puts on a channel
abbrev pub out_of : Tables → (p n : ℕ) → Family → (c : ℕ) → List ℤ
out_of t p n X c = put_at (talk_on t p n X) c

-- process p can say this on the family
pub record ProcessCanSay (t : Tables) (p : ℕ) (X : Family) (talk : List Said) : Type 0 where
  pub turns : ℕ
  pub said : IsPrefix talk (talk_on t p turns X)

-- process p comes to this end on the family, after saying this and no more
pub record ProcessComesTo (t : Tables) (p : ℕ) (X : Family) (ending : Ending) (talk : List Said) : Type 0 where
  pub turns : ℕ
  pub ended : ending_on t p turns X ≡ ending
  pub said : talk_on t p turns X ≡ talk
  pub whole : ending ≢ Cut
