-- What holds of tables that keep the rules: each channel has one writer and one reader, and these agree with the ports
-- of the instances.
use Rattle.kpn_net.proofs.Common.{◌≡◌, ℕ, zero, suc, ◌+◌, ◌<◌, ◌≤◌, cond, Bool, true, false, ◌&&◌, ◌||◌, ◌⊎◌, eqb, eq-eqb, add-zero, zero-add, leb, ltb, List, [], ◌∷◌, ◌++◌, length, get_or, map, Option, Some, None, refl, sym, ap, ◌∙◌, subst, inl, inr, arith, position, position_or_len, list_any, range_with_len, slice_get, get_or_past, fails_before_first, get_or-map-range_with_len, length-map-range_with_len, cases_lt, false≢true, false_from_ne_true, ltb-false, le-ltb, leb-false, eqb-true, eqb-false, or_parts, and_parts, not-false, both_ways, MAX_PROCESSES, MAX_LARGE_PROCESSES, MAX_LARGE_CHANNELS, MAX_CAPACITY, All, Parts, IsProgram, NetFault, NoSuchProgram, PortCount, NoSuchChannel, NoWriter, TwoWriters, NoReader, TwoReaders, Capacity, Instance, Process, Source, Sink, Growth, Tables, program_at, instance_at, program_of, channel_at, capacity, is_source, is_sink, grown_capacity, larger_capacity, ends_among, ends_from, writers_of, readers_of, writer_of, reader_of, most_processes, most_channels, has_too_many, lacks_its_program, matches_program, differs_from_its_program, lacks_a_channel, exceeds, has_no_such_capacity, channel_numbers, is_none, are_several, wrong_capacity, first_at, or_else, instances_fault, channels_fault, first_network_fault, IsNetwork}
use Rattle.std.specs.Option.{option_map_or}
use Rattle.std.proofs.lemmas.List.Folds.{list_any_at}
use Rattle.kpn_net.specs.declared.tables.ChannelSpec.{ChannelSpec}
use Rattle.kpn_net.specs.declared.tables.ChannelSpec.TheVariants as channel
use Rattle.kpn_net.specs.declared.tables.End.{End}
use Rattle.kpn_net.specs.declared.tables.Growth.TheVariants.{One, Double}
use Rattle.kpn_net.specs.declared.tables.NetworkSize.{NetworkSize}
use Rattle.kpn_net.specs.declared.tables.NetworkSize.TheVariants as size

-- ---- searches that find nothing

fails_if_none : {X : Type 0} (q : X → Bool) (xs : List X) (found : Bool)
    → ltb (position_or_len q xs) (length xs) ≡ found → cond found (Some (position_or_len q xs)) None ≡ None
    → length xs ≤ position_or_len q xs
fails_if_none q xs true e h = absurd cc
fails_if_none q xs false e h = ltb-false _ _ e

-- no item passes the test
pub fails_at : {X : Type 0} (q : X → Bool) (xs : List X) → position q xs ≡ None → (k : ℕ) (d : X) → k < length xs
    → q (get_or xs k d) ≡ false
fails_at q xs h k d below =
    let all = fails_if_none q xs (ltb (position_or_len q xs) (length xs)) refl h in
    fails_before_first q xs k d (omega arith)

pub list_any_fails_at : {X : Type 0} (q : X → Bool) (xs : List X) → list_any q xs ≡ false → (k : ℕ) (d : X)
    → k < length xs → q (get_or xs k d) ≡ false
list_any_fails_at q xs h k d below =
    false_from_ne_true _ (λ e. both_ways _ h (list_any_at q xs k d below e))

-- ---- the rules, one by one

first_at-None : (o : Option ℕ) (fault : ℕ → NetFault) (after : Option NetFault) → first_at o fault after ≡ None
    → (o ≡ None) × (after ≡ None)
first_at-None None fault after e = (refl, e)
first_at-None (Some n) fault after e = absurd cc

or_else-None : (o after : Option NetFault) → or_else o after ≡ None → (o ≡ None) × (after ≡ None)
or_else-None None after e = (refl, e)
or_else-None (Some n) after e = absurd cc

pub or_else-both : (o after : Option NetFault) → o ≡ None → after ≡ None → or_else o after ≡ None
or_else-both None after e f = f
or_else-both (Some fault) after e f = absurd cc

-- the instances keep their rules
pub record InstancesSound (s : NetworkSize) (t : Tables) : Type 0 where
  pub few : has_too_many s t ≡ false
  pub programs : position (lacks_its_program t) t.instances ≡ None
  pub ports : position (differs_from_its_program t) t.instances ≡ None
  pub channels : position (lacks_a_channel t) t.instances ≡ None

-- the channels keep theirs
pub record ChannelsSound (t : Tables) : Type 0 where
  pub written : position is_none (map (writers_of t) (channel_numbers t)) ≡ None
  pub written_once : position are_several (map (writers_of t) (channel_numbers t)) ≡ None
  pub read : position is_none (map (readers_of t) (channel_numbers t)) ≡ None
  pub read_once : position are_several (map (readers_of t) (channel_numbers t)) ≡ None
  pub capacity : wrong_capacity t ≡ None

few_if_none : (b : Bool) (fault : NetFault) (after : Option NetFault) → cond b (Some fault) after ≡ None
    → (b ≡ false) × (after ≡ None)
few_if_none true fault after e = absurd cc
few_if_none false fault after e = (refl, e)

pub InstancesSound-from : (s : NetworkSize) (t : Tables) → instances_fault s t ≡ None → InstancesSound s t
InstancesSound-from s t e =
    let a = few_if_none (has_too_many s t) _ _ e in
    let b = first_at-None _ NoSuchProgram _ a.1 in
    let d = first_at-None _ PortCount _ b.1 in
    let f = first_at-None _ NoSuchChannel _ d.1 in
    record { few = a.0; programs = b.0; ports = d.0; channels = f.0 }

pub ChannelsSound-from : (t : Tables) → channels_fault t ≡ None → ChannelsSound t
ChannelsSound-from t e =
    let a = first_at-None _ NoWriter _ e in
    let b = first_at-None _ TwoWriters _ a.1 in
    let d = first_at-None _ NoReader _ b.1 in
    let f = first_at-None _ TwoReaders _ d.1 in
    let g = first_at-None _ Capacity _ f.1 in
    record { written = a.0; written_once = b.0; read = d.0; read_once = f.0; capacity = g.0 }

pub instances_sound : (t : Tables) → IsNetwork t → InstancesSound size.Large t
instances_sound t network =
    InstancesSound-from size.Large t
    (or_else-None (instances_fault size.Large t) (channels_fault t) network.sound).0

pub channels_sound : (t : Tables) → IsNetwork t → ChannelsSound t
channels_sound t network =
    ChannelsSound-from t (or_else-None (instances_fault size.Large t) (channels_fault t) network.sound).1

-- ---- the instances

-- the channels at these ports are there
pub record AreThere (t : Tables) (ports : List ℕ) : Type 0 where
  pub each : (port d : ℕ) → port < length ports → get_or ports port d < length t.channels

pub AreThere-from : (t : Tables) (ports : List ℕ) → list_any (leb (length t.channels)) ports ≡ false
    → AreThere t ports
AreThere-from t ports h =
    record { each = λ port d below. leb-false _ _ (list_any_fails_at (leb (length t.channels)) ports h port d below) }

-- the channels of an instance are there
pub record HasChannels (t : Tables) (i : Instance) : Type 0 where
  pub ins : AreThere t i.ins
  pub outs : AreThere t i.outs

pub HasChannels-at : (t : Tables) → position (lacks_a_channel t) t.instances ≡ None → (p : ℕ) (d : Instance)
    → p < length t.instances → HasChannels t (get_or t.instances p d)
HasChannels-at t h p d below =
    let i = get_or t.instances p d in
    let both =
    or_parts (list_any (leb (length t.channels)) i.ins) (list_any (leb (length t.channels)) i.outs)
    (fails_at (lacks_a_channel t) t.instances h p d below) in
    record { ins = AreThere-from t i.ins both.0; outs = AreThere-from t i.outs both.1 }

-- an instance has its program, with as many ports and parameters
pub record IsInstance (t : Tables) (i : Instance) : Type 0 where
  pub there : i.program < length t.programs
  pub ins : length i.ins ≡ (program_at t i.program).ins
  pub outs : length i.outs ≡ (program_at t i.program).outs
  pub pars : length i.pars ≡ (program_at t i.program).pars
  pub channels : HasChannels t i

matches_program_at : (programs : List Parts) (n : ℕ) (d : Parts) (i : Instance)
    → option_map_or (matches_program i) (slice_get programs n) false ≡ true
    → matches_program i (get_or programs n d) ≡ true
matches_program_at [] n d i e = absurd cc
matches_program_at (x ∷ programs) zero d i e = e
matches_program_at (x ∷ programs) (suc n) d i e = matches_program_at programs n d i e

pub IsInstance-at : (t : Tables) → IsNetwork t → (p : ℕ) (d : Instance) → p < length t.instances
    → IsInstance t (get_or t.instances p d)
IsInstance-at t network p d below =
    let sound = instances_sound t network in
    let i = get_or t.instances p d in
    let fit =
    matches_program_at t.programs i.program _ i
    (not-false _ (fails_at (differs_from_its_program t) t.instances sound.ports p d below)) in
    let parts = program_at t i.program in
    let some =
    and_parts (eqb (length i.ins) parts.ins && eqb (length i.outs) parts.outs) (eqb (length i.pars) parts.pars) fit in
    let two = and_parts (eqb (length i.ins) parts.ins) (eqb (length i.outs) parts.outs) some.0 in
    record {
      there = leb-false _ _ (fails_at (lacks_its_program t) t.instances sound.programs p d below);
      ins = eqb-true _ _ two.0;
      outs = eqb-true _ _ two.1;
      pars = eqb-true _ _ some.1;
      channels = HasChannels-at t sound.channels p d below;
    }

-- each process has a program that keeps the rules
pub IsProgram-of : (t : Tables) → IsNetwork t → (p : ℕ) → p < length t.instances → IsProgram (program_of t p)
IsProgram-of t network p below = network.programs _ _ (IsInstance-at t network p _ below).there

-- ---- how many there are

pub record Sizes (s : NetworkSize) (t : Tables) : Type 0 where
  pub programs : length t.programs ≤ MAX_PROCESSES
  pub instances : length t.instances ≤ most_processes s
  pub channels : length t.channels ≤ most_channels s

pub Sizes-from : (s : NetworkSize) (t : Tables) → has_too_many s t ≡ false → Sizes s t
Sizes-from s t few =
    let some =
    or_parts (ltb MAX_PROCESSES (length t.programs) || ltb (most_processes s) (length t.instances))
    (ltb (most_channels s) (length t.channels)) few in
    let two = or_parts (ltb MAX_PROCESSES (length t.programs)) (ltb (most_processes s) (length t.instances)) some.0 in
    record { programs = ltb-false _ _ two.0; instances = ltb-false _ _ two.1; channels = ltb-false _ _ some.1 }

pub sizes : (t : Tables) → IsNetwork t → Sizes size.Large t
sizes t network = Sizes-from size.Large t (instances_sound t network).few

-- tables of the usual size are none too large
few_in_large : (s : NetworkSize) (t : Tables) → has_too_many s t ≡ false → has_too_many size.Large t ≡ false
few_in_large size.Large t few = few
few_in_large size.Usual t few =
    let sizes = Sizes-from size.Usual t few in
    let programs : ltb MAX_PROCESSES (length t.programs) ≡ false = le-ltb _ _ sizes.programs in
    let instances : ltb MAX_LARGE_PROCESSES (length t.instances) ≡ false =
    le-ltb _ _ (omega (arith, sizes.instances)) in
    let channels : ltb MAX_LARGE_CHANNELS (length t.channels) ≡ false =
    le-ltb _ _ (omega (arith, sizes.channels)) in
    λ i. (programs i || instances i) || channels i

few_then : (b : Bool) (fault : NetFault) (after : Option NetFault) → b ≡ false → after ≡ None
    → cond b (Some fault) after ≡ None
few_then b fault after few e = ap (λ c. cond c (Some fault) after) few ∙ e

-- where the instances of a network of one size keep the rules, they keep those of another that is large enough
instances_at : (s other : NetworkSize) (t : Tables) → instances_fault s t ≡ None → has_too_many other t ≡ false
    → instances_fault other t ≡ None
instances_at s other t e few = few_then (has_too_many other t) _ _ few (few_if_none (has_too_many s t) _ _ e).1

pub instances_in_large : (s : NetworkSize) (t : Tables) → instances_fault s t ≡ None
    → instances_fault size.Large t ≡ None
instances_in_large s t e = instances_at s size.Large t e (few_in_large s t (InstancesSound-from s t e).few)

-- tables of each size keep the rules of networks
pub network_of_size : (s : NetworkSize) (t : Tables) → All IsProgram t.programs → first_network_fault s t ≡ None
    → IsNetwork t
network_of_size s t programs e =
    let parts = or_else-None (instances_fault s t) (channels_fault t) e in
    record { programs = programs; sound = or_else-both _ _ (instances_in_large s t parts.0) parts.1 }

pub few_of_size : (s : NetworkSize) (t : Tables) → first_network_fault s t ≡ None → has_too_many s t ≡ false
few_of_size s t e = (InstancesSound-from s t (or_else-None (instances_fault s t) (channels_fault t) e).0).few

-- and a network that has few enough parts keeps those of its size
pub sound_of_size : (s : NetworkSize) (t : Tables) → IsNetwork t → has_too_many s t ≡ false
    → first_network_fault s t ≡ None
sound_of_size s t network few =
    let parts = or_else-None (instances_fault size.Large t) (channels_fault t) network.sound in
    or_else-both _ _ (instances_at size.Large s t parts.0 few) parts.1

-- ---- the ends of a channel

-- an end is among these
abbrev pub IsAmong : End → List End → Type 0
IsAmong end [] = ⊥
IsAmong end (other ∷ ends) = (end ≡ other) ⊎ IsAmong end ends

IsAmong-left : (end : End) (xs ys : List End) → IsAmong end xs → IsAmong end (xs ++ ys)
IsAmong-left end [] ys h = absurd h
IsAmong-left end (x ∷ xs) ys (inl e) = inl e
IsAmong-left end (x ∷ xs) ys (inr h) = inr (IsAmong-left end xs ys h)

IsAmong-right : (end : End) (xs ys : List End) → IsAmong end ys → IsAmong end (xs ++ ys)
IsAmong-right end [] ys h = h
IsAmong-right end (x ∷ xs) ys h = inr (IsAmong-right end xs ys h)

IsAmong-append : (end : End) (xs ys : List End) → IsAmong end (xs ++ ys) → IsAmong end xs ⊎ IsAmong end ys
IsAmong-append end [] ys h = inr h
IsAmong-append end (x ∷ xs) ys (inl e) = inl (inl e)
IsAmong-append end (x ∷ xs) ys (inr h) = elim (IsAmong-append end xs ys h) [ inl a ↦ inl (inr a) | inr b ↦ inr b ]

-- the first of these, unless it is the other one
IsAmong-first : (end other : End) (ends : List End) → get_or ends 0 other ≡ end → (end ≡ other → ⊥) → IsAmong end ends
IsAmong-first end other [] e differ = differ (sym e)
IsAmong-first end other (x ∷ ends) e differ = inl (sym e)

-- if there is one end, it is the first
one_end : (ends : List End) (other : End) → is_none ends ≡ false → are_several ends ≡ false
    → ends ≡ get_or ends 0 other ∷ []
one_end [] other n s = absurd cc
one_end (a ∷ []) other n s = refl
one_end (a ∷ b ∷ ends) other n s = absurd cc

one_end_at : (ends : ℕ → List End) (other : End) (n : ℕ) → position is_none (map ends (range_with_len 0 n)) ≡ None
    → position are_several (map ends (range_with_len 0 n)) ≡ None → (c : ℕ) → c < n
    → ends c ≡ get_or (ends c) 0 other ∷ []
one_end_at ends other n none several c below =
    let read = get_or-map-range_with_len ends 0 n c c [] below (omega arith) in
    let there : c < length (map ends (range_with_len 0 n)) = rw length-map-range_with_len below in
    one_end (ends c) other
    (ap is_none (sym read) ∙ fails_at is_none (map ends (range_with_len 0 n)) none c [] there)
    (ap are_several (sym read) ∙ fails_at are_several (map ends (range_with_len 0 n)) several c [] there)

-- each channel has exactly one writer
pub one_writer : (t : Tables) → IsNetwork t → (c : ℕ) → c < length t.channels → writers_of t c ≡ writer_of t c ∷ []
one_writer t network c below =
    let sound = channels_sound t network in
    one_end_at (writers_of t) Sink (length t.channels) sound.written sound.written_once c below

-- each channel has exactly one reader
pub one_reader : (t : Tables) → IsNetwork t → (c : ℕ) → c < length t.channels → readers_of t c ≡ reader_of t c ∷ []
one_reader t network c below =
    let sound = channels_sound t network in
    one_end_at (readers_of t) Source (length t.channels) sound.read sound.read_once c below

-- ---- the ends agree with the ports

-- a channel is at a port
pub record StandsAt (ports : List ℕ) (c : ℕ) : Type 0 where
  pub port : ℕ
  pub there : port < length ports
  pub is : get_or ports port 0 ≡ c

StandsAt-more : (d : ℕ) (ports : List ℕ) (c : ℕ) → StandsAt ports c → StandsAt (d ∷ ports) c
StandsAt-more d ports c s = record { port = suc s.port; there = omega (arith, s.there); is = s.is }

-- each place of a channel is an end
IsAmong-places : (c p : ℕ) (ports : List ℕ) (port : ℕ) → port < length ports → get_or ports port 0 ≡ c
    → IsAmong (Process p) (ends_among c p ports)
IsAmong-places c p [] port h e = absurd (omega arith)
IsAmong-places c p (d ∷ ports) zero h e = rw (eq-eqb d c e) (inl refl)
IsAmong-places c p (d ∷ ports) (suc port) h e = which (eqb d c) (IsAmong-places c p ports port (omega arith) e)
  where
    which : (b : Bool) → IsAmong (Process p) (ends_among c p ports)
        → IsAmong (Process p) (cond b (Process p ∷ ends_among c p ports) (ends_among c p ports))
    which true h = inr h
    which false h = h

IsAmong-ends_from : (ports : Instance → List ℕ) (c p i : ℕ) (instances : List Instance) (d : Instance)
    → i < length instances → IsAmong (Process (p + i)) (ends_among c (p + i) (ports (get_or instances i d)))
    → IsAmong (Process (p + i)) (ends_from ports c p instances)
IsAmong-ends_from ports c p i [] d below h = absurd (omega arith)
IsAmong-ends_from ports c p zero (x ∷ instances) d below h =
    IsAmong-left _ _ _ (subst (λ q. IsAmong (Process (p + zero)) (ends_among c q (ports x))) (add-zero p) h)
IsAmong-ends_from ports c p (suc i) (x ∷ instances) d below h =
    let e : p + suc i ≡ suc p + i = omega arith in
    IsAmong-right _ (ends_among c p (ports x)) _
    (subst (λ q. IsAmong (Process q) (ends_from ports c (suc p) instances)) (sym e)
    (IsAmong-ends_from ports c (suc p) i instances d (omega arith)
    (subst (λ q. IsAmong (Process q) (ends_among c q (ports (get_or instances i d)))) e h)))

-- each end that is a process has a place
places-StandsAt : (end : End) (c p : ℕ) (ports : List ℕ) → IsAmong end (ends_among c p ports)
    → (end ≡ Process p) × StandsAt ports c
places-StandsAt end c p [] h = absurd h
places-StandsAt end c p (d ∷ ports) h = which (eqb d c) refl h (places-StandsAt end c p ports)
  where
    which : (b : Bool) → eqb d c ≡ b → IsAmong end (cond b (Process p ∷ ends_among c p ports) (ends_among c p ports))
        → (IsAmong end (ends_among c p ports) → (end ≡ Process p) × StandsAt ports c)
        → (end ≡ Process p) × StandsAt (d ∷ ports) c
    which true e (inl same) rest = (same, record { port = 0; there = omega arith; is = eqb-true d c e })
    which true e (inr h) rest = let r = rest h in (r.0, StandsAt-more d ports c r.1)
    which false e h rest = let r = rest h in (r.0, StandsAt-more d ports c r.1)

-- the number of an instance with the channel at a port
record HasPort (ports : Instance → List ℕ) (instances : List Instance) (c : ℕ) (p : ℕ) (end : End)
    (d : Instance) : Type 0 where
  number : ℕ
  there : number < length instances
  is : end ≡ Process (p + number)
  stands : StandsAt (ports (get_or instances number d)) c

ends_from-HasPort : (end : End) (ports : Instance → List ℕ) (c p : ℕ) (instances : List Instance) (d : Instance)
    → IsAmong end (ends_from ports c p instances) → HasPort ports instances c p end d
ends_from-HasPort end ports c p [] d h = absurd h
ends_from-HasPort end ports c p (x ∷ instances) d h =
    elim (IsAmong-append end (ends_among c p (ports x)) (ends_from ports c (suc p) instances) h) [
      | inl here ↦
          let r = places-StandsAt end c p (ports x) here in
          record { number = 0; there = omega arith; is = r.0 ∙ ap Process (sym (add-zero p)); stands = r.1 }
      | inr later ↦
          let r = ends_from-HasPort end ports c (suc p) instances d later in
          record {
            number = suc r.number;
            there = omega (arith, r.there);
            is = r.is ∙ ap Process (let e : suc p + r.number ≡ p + suc r.number = omega arith in e);
            stands = r.stands;
          }
    ]

-- a process has a channel at an out port
pub record Writes (t : Tables) (p c : ℕ) : Type 0 where
  pub process : p < length t.instances
  pub place : StandsAt (instance_at t p).outs c

-- a process has a channel at an in port
pub record Reads (t : Tables) (p c : ℕ) : Type 0 where
  pub process : p < length t.instances
  pub place : StandsAt (instance_at t p).ins c

-- a process of a network is an instance, and its channels are there
pub IsInstance-of : (t : Tables) → IsNetwork t → (p : ℕ) → p < length t.instances → IsInstance t (instance_at t p)
IsInstance-of t network p below = IsInstance-at t network p _ below

StandsAt-below : (t : Tables) (ports : List ℕ) → AreThere t ports → (c : ℕ) → StandsAt ports c → c < length t.channels
StandsAt-below t ports there c s = subst (λ d. d < length t.channels) s.is (there.each s.port 0 s.there)

pub Writes-below : (t : Tables) → IsNetwork t → (p c : ℕ) → Writes t p c → c < length t.channels
Writes-below t network p c w =
    StandsAt-below t (instance_at t p).outs (IsInstance-of t network p w.process).channels.outs c w.place

pub Reads-below : (t : Tables) → IsNetwork t → (p c : ℕ) → Reads t p c → c < length t.channels
Reads-below t network p c w =
    StandsAt-below t (instance_at t p).ins (IsInstance-of t network p w.process).channels.ins c w.place

Process-injective : (p q : ℕ) → Process p ≡ Process q → p ≡ q
Process-injective p q e = cc

-- the only one of one
IsAmong-one : (end : End) (ends : List End) (one : End) → ends ≡ one ∷ [] → IsAmong end ends → one ≡ end
IsAmong-one end ends one e h = elim (subst (IsAmong end) e h) [ inl same ↦ sym same | inr no-more ↦ absurd no-more ]

IsAmong-port : (ports : Instance → List ℕ) (t : Tables) (p c : ℕ) → p < length t.instances
    → StandsAt (ports (instance_at t p)) c → IsAmong (Process p) (ends_from ports c 0 t.instances)
IsAmong-port ports t p c below s =
    let e : 0 + p ≡ p = omega arith in
    subst (λ q. IsAmong (Process q) (ends_from ports c 0 t.instances)) e
    (IsAmong-ends_from ports c 0 p t.instances _ below
    (subst (λ q. IsAmong (Process q) (ends_among c q (ports (instance_at t p)))) (sym e)
    (IsAmong-places c p (ports (instance_at t p)) s.port s.there s.is)))

-- a process that has the channel at an out port is its writer
pub writer_of-Writes : (t : Tables) → IsNetwork t → (p c : ℕ) → Writes t p c → writer_of t c ≡ Process p
writer_of-Writes t network p c w =
    IsAmong-one (Process p) (writers_of t c) (writer_of t c) (one_writer t network c (Writes-below t network p c w))
    (IsAmong-right (Process p) (cond (is_source (channel_at t c)) (Source ∷ []) []) _
    (IsAmong-port (λ i. i.outs) t p c w.process w.place))

pub reader_of-Reads : (t : Tables) → IsNetwork t → (p c : ℕ) → Reads t p c → reader_of t c ≡ Process p
reader_of-Reads t network p c w =
    IsAmong-one (Process p) (readers_of t c) (reader_of t c) (one_reader t network c (Reads-below t network p c w))
    (IsAmong-right (Process p) (cond (is_sink (channel_at t c)) (Sink ∷ []) []) _
    (IsAmong-port (λ i. i.ins) t p c w.process w.place))

-- the caller's ends are no processes
outside_source : (b : Bool) (p : ℕ) → IsAmong (Process p) (cond b (Source ∷ []) []) → ⊥
outside_source true p (inl e) = absurd cc
outside_source true p (inr h) = h
outside_source false p h = h

outside_sink : (b : Bool) (p : ℕ) → IsAmong (Process p) (cond b (Sink ∷ []) []) → ⊥
outside_sink true p (inl e) = absurd cc
outside_sink true p (inr h) = h
outside_sink false p h = h

-- the writer of a channel, if it is a process, has it at an out port
pub Writes-writer_of : (t : Tables) (p c : ℕ) → writer_of t c ≡ Process p → Writes t p c
Writes-writer_of t p c e =
    let among = IsAmong-first (Process p) Sink (writers_of t c) e (λ f. absurd cc) in
    elim (IsAmong-append (Process p) (cond (is_source (channel_at t c)) (Source ∷ []) []) _ among) [
      | inl outside ↦ absurd (outside_source (is_source (channel_at t c)) p outside)
      | inr inside ↦
          let r = ends_from-HasPort (Process p) (λ i. i.outs) c 0 t.instances _ inside in
          let same : p ≡ r.number = Process-injective p (0 + r.number) r.is ∙ zero-add r.number in
          record {
            process = subst (λ q. q < length t.instances) (sym same) r.there;
            place = subst (λ q. StandsAt (instance_at t q).outs c) (sym same) r.stands;
          }
    ]

-- the reader of a channel, if it is a process, has it at an in port
pub Reads-reader_of : (t : Tables) (p c : ℕ) → reader_of t c ≡ Process p → Reads t p c
Reads-reader_of t p c e =
    let among = IsAmong-first (Process p) Source (readers_of t c) e (λ f. absurd cc) in
    elim (IsAmong-append (Process p) (cond (is_sink (channel_at t c)) (Sink ∷ []) []) _ among) [
      | inl outside ↦ absurd (outside_sink (is_sink (channel_at t c)) p outside)
      | inr inside ↦
          let r = ends_from-HasPort (Process p) (λ i. i.ins) c 0 t.instances _ inside in
          let same : p ≡ r.number = Process-injective p (0 + r.number) r.is ∙ zero-add r.number in
          record {
            process = subst (λ q. q < length t.instances) (sym same) r.there;
            place = subst (λ q. StandsAt (instance_at t q).ins c) (sym same) r.stands;
          }
    ]

-- the writer of a source is the caller
pub writer_of-source : (t : Tables) (c : ℕ) → is_source (channel_at t c) ≡ true → writer_of t c ≡ Source
writer_of-source t c e =
    ap (λ b. get_or (cond b (Source ∷ []) [] ++ ends_from (λ i. i.outs) c 0 t.instances) 0 Sink) e

-- the reader of a sink is the caller
pub reader_of-sink : (t : Tables) (c : ℕ) → is_sink (channel_at t c) ≡ true → reader_of t c ≡ Sink
reader_of-sink t c e = ap (λ b. get_or (cond b (Sink ∷ []) [] ++ ends_from (λ i. i.ins) c 0 t.instances) 0 Source) e

-- an end of an instance is a process
no_process : (end : End) → ((p : ℕ) → end ≡ Process p → ⊥)
    → (ports : Instance → List ℕ) (c p : ℕ) (instances : List Instance) → IsAmong end (ends_from ports c p instances)
    → ⊥
no_process end h ports c p instances among =
    let r =
    ends_from-HasPort end ports c p instances (record { program = 0; ins = []; outs = []; pars = [] }) among in
    h (p + r.number) r.is

-- if the caller is the writer, the channel is a source
pub source-writer_of : (t : Tables) (c : ℕ) → writer_of t c ≡ Source → is_source (channel_at t c) ≡ true
source-writer_of t c e =
    which (is_source (channel_at t c)) refl (IsAmong-first Source Sink (writers_of t c) e (λ f. absurd cc))
  where
    which : (b : Bool) → is_source (channel_at t c) ≡ b
        → IsAmong Source (cond b (Source ∷ []) [] ++ ends_from (λ i. i.outs) c 0 t.instances)
        → is_source (channel_at t c) ≡ true
    which true e h = e
    which false e h = absurd (no_process Source (λ p f. absurd cc) (λ i. i.outs) c 0 t.instances h)

-- if the caller is the reader, the channel is a sink
pub sink-reader_of : (t : Tables) (c : ℕ) → reader_of t c ≡ Sink → is_sink (channel_at t c) ≡ true
sink-reader_of t c e =
    which (is_sink (channel_at t c)) refl (IsAmong-first Sink Source (readers_of t c) e (λ f. absurd cc))
  where
    which : (b : Bool) → is_sink (channel_at t c) ≡ b
        → IsAmong Sink (cond b (Sink ∷ []) [] ++ ends_from (λ i. i.ins) c 0 t.instances)
        → is_sink (channel_at t c) ≡ true
    which true e h = e
    which false e h = absurd (no_process Sink (λ p f. absurd cc) (λ i. i.ins) c 0 t.instances h)

-- a source, and a sink, is a channel that is there
pub source_there : (t : Tables) (c : ℕ) → is_source (channel_at t c) ≡ true → c < length t.channels
source_there t c source =
    elim (cases_lt c (length t.channels)) [
      | inl below ↦ below
      | inr past ↦ absurd (false≢true (sym (ap is_source (get_or_past t.channels c (channel.Inner 0) past)) ∙ source))
    ]

pub sink_there : (t : Tables) (c : ℕ) → is_sink (channel_at t c) ≡ true → c < length t.channels
sink_there t c sink =
    elim (cases_lt c (length t.channels)) [
      | inl below ↦ below
      | inr past ↦ absurd (false≢true (sym (ap is_sink (get_or_past t.channels c (channel.Inner 0) past)) ∙ sink))
    ]

-- the sink writes no channel that is there
pub writer_is_no_sink : (t : Tables) → IsNetwork t → (c : ℕ) → c < length t.channels → writer_of t c ≡ Sink → ⊥
writer_is_no_sink t network c below e =
    let among : IsAmong Sink (writers_of t c) =
    subst (IsAmong Sink) (sym (one_writer t network c below)) (inl (sym e)) in
    elim (IsAmong-append Sink (cond (is_source (channel_at t c)) (Source ∷ []) []) _ among) [
      | inl outside ↦ no_outside (is_source (channel_at t c)) outside
      | inr inside ↦ no_process Sink (λ p f. absurd cc) (λ i. i.outs) c 0 t.instances inside
    ]
  where
    no_outside : (b : Bool) → IsAmong Sink (cond b (Source ∷ []) []) → ⊥
    no_outside true (inl e) = absurd cc
    no_outside true (inr h) = h
    no_outside false h = h

-- the source reads no channel that is there
pub reader_is_no_source : (t : Tables) → IsNetwork t → (c : ℕ) → c < length t.channels → reader_of t c ≡ Source → ⊥
reader_is_no_source t network c below e =
    let among : IsAmong Source (readers_of t c) =
    subst (IsAmong Source) (sym (one_reader t network c below)) (inl (sym e)) in
    elim (IsAmong-append Source (cond (is_sink (channel_at t c)) (Sink ∷ []) []) _ among) [
      | inl outside ↦ no_outside (is_sink (channel_at t c)) outside
      | inr inside ↦ no_process Source (λ p f. absurd cc) (λ i. i.ins) c 0 t.instances inside
    ]
  where
    no_outside : (b : Bool) → IsAmong Source (cond b (Sink ∷ []) []) → ⊥
    no_outside true (inl e) = absurd cc
    no_outside true (inr h) = h
    no_outside false h = h

-- a process writes no source
pub source_if_not_written : (t : Tables) → IsNetwork t → (p c : ℕ) → Writes t p c → is_source (channel_at t c) ≡ false
source_if_not_written t network p c w =
    false_from_ne_true _
    (λ e. let s = writer_of-source t c e in let q = writer_of-Writes t network p c w in absurd cc)

-- ---- capacities

pub record CapacityInRange (t : Tables) (cap : ℕ) : Type 0 where
  pub positive : 0 < cap
  pub within : cap ≤ t.limit

exceeds-false : (limit cap : ℕ) → exceeds limit cap ≡ false → (0 < cap) × (cap ≤ limit)
exceeds-false limit cap e =
    let both = or_parts (eqb cap 0) (ltb limit cap) e in
    let nonzero = eqb-false cap 0 both.0 in
    let within = ltb-false limit cap both.1 in
    (omega arith, within)

wrong_capacity-None : (t : Tables) (b : Bool)
    → cond b (Some (length t.channels)) (position (has_no_such_capacity t.limit) t.channels) ≡ None
    → (b ≡ false) × (position (has_no_such_capacity t.limit) t.channels ≡ None)
wrong_capacity-None t true e = absurd cc
wrong_capacity-None t false e = (refl, e)

-- the limit is 1 to the greatest capacity
pub limit_in_range : (t : Tables) → IsNetwork t → (0 < t.limit) × (t.limit ≤ MAX_CAPACITY)
limit_in_range t network =
    exceeds-false MAX_CAPACITY t.limit (wrong_capacity-None t _ (channels_sound t network).capacity).0

capacity_from : (t : Tables) (channel : ChannelSpec) (cap : ℕ) → has_no_such_capacity t.limit channel ≡ false
    → capacity channel ≡ Some cap → CapacityInRange t cap
capacity_from t (channel.Inner n) cap h e =
    let r = exceeds-false t.limit n h in
    let same : n ≡ cap = cc in
    record { positive = subst (λ m. 0 < m) same r.0; within = subst (λ m. m ≤ t.limit) same r.1 }
capacity_from t channel.Source cap h e = absurd cc
capacity_from t (channel.Sink n) cap h e =
    let r = exceeds-false t.limit n h in
    let same : n ≡ cap = cc in
    record { positive = subst (λ m. 0 < m) same r.0; within = subst (λ m. m ≤ t.limit) same r.1 }

-- each capacity is 1 to the limit
pub capacity_in_range : (t : Tables) → IsNetwork t → (c cap : ℕ) → c < length t.channels
    → capacity (channel_at t c) ≡ Some cap → CapacityInRange t cap
capacity_in_range t network c cap below e =
    let sound = (wrong_capacity-None t _ (channels_sound t network).capacity).1 in
    capacity_from t (channel_at t c) cap (fails_at (has_no_such_capacity t.limit) t.channels sound c _ below) e

-- a channel below the limit does not become smaller by a growth
pub larger_capacity_is_no_less : (t : Tables) (cap : ℕ) → cap < t.limit → cap ≤ larger_capacity t cap
larger_capacity_is_no_less t cap below = by_growth t.growth
  where
    by_growth : (growth : Growth) → cap ≤ grown_capacity growth t.limit cap
    by_growth One = omega arith
    by_growth Double = omega arith

-- a capacity that is not 0 stays so
pub larger_capacity_is_some : (t : Tables) (cap : ℕ) → 0 < t.limit → 0 < cap → 0 < larger_capacity t cap
larger_capacity_is_some t cap limit some = by_growth t.growth
  where
    by_growth : (growth : Growth) → 0 < grown_capacity growth t.limit cap
    by_growth One = omega arith
    by_growth Double = omega arith

-- if it is not 0 it becomes larger, and does not pass the limit
pub larger_capacity_in_range : (t : Tables) (cap : ℕ) → 0 < cap → cap < t.limit
    → (cap < larger_capacity t cap) × (larger_capacity t cap ≤ t.limit)
larger_capacity_in_range t cap some below = by_growth t.growth
  where
    by_growth : (growth : Growth) → (cap < grown_capacity growth t.limit cap) × (grown_capacity growth t.limit cap ≤ t.limit)
    by_growth One = (omega arith, omega arith)
    by_growth Double = (omega arith, omega arith)
