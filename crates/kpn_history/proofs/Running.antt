-- A process alone on families of lists. What it says last names a channel of its own. If it has come to an end, it says
-- no more on longer lists.
use Rattle.kpn_history.proofs.Common.{◌≡◌, ℕ, ◌<◌, max, ℤ, List, [], ◌∷◌, ◌++◌, length, get_or, map, refl, sym, ap, ◌∙◌, subst, arith, get_or-map, Said, Ending, IsPrefix, alone, IsFinal, Instance, Tables, instance_at, program_of, IsNetwork, Family, IsFamilyPrefix, at_channel, ends_at_channel, ran_on, talk_on, ProcessCanSay, ProcessComesTo, IsPrefix-trans, IsPrefix-same, IsSequential-alone, ArePrefixes-map, talk_on-grows, IsInstance-of, IsProgram-of, StandsAt, Reads, Writes}
use Rattle.kpn_lang.specs.declared.talk.Said.TheVariants.{Got, Put}
use Rattle.kpn_lang.specs.declared.talk.Ending.TheVariants.{Done, Faulted, Starved, Cut}
use Rattle.kpn_lang.proofs.Families.{added, Grows-from_prefixes, nil_from_grows}
use Rattle.kpn_lang.proofs.Processes.{ends_alike}
use Rattle.kpn_net.proofs.Ports.{SaidNames, TalkNames, EndingNames, RanNames, alone-names}

-- ---- what a process says names its channels

-- a process's run names only its ports
pub ran_on-names : (t : Tables) → IsNetwork t → (p : ℕ) → p < length t.instances → (n : ℕ) (X : Family)
    → RanNames (length (instance_at t p).ins) (length (instance_at t p).outs) (ran_on t p n X)
ran_on-names t network p below n X =
    let i = instance_at t p in
    let instance = IsInstance-of t network p below in
    subst (λ ins. RanNames ins (length i.outs) (ran_on t p n X)) (sym instance.ins)
    (subst (λ outs. RanNames (program_of t p).ins outs (ran_on t p n X)) (sym instance.outs)
    (alone-names (program_of t p) (IsProgram-of t network p below) i.pars n (map X i.ins)))

-- the channel of what is said is at a port
abbrev pub SaidStands : Instance → Said → Type 0
SaidStands i (Got c v) = StandsAt i.ins c
SaidStands i (Put c v) = StandsAt i.outs c

said_stands : (i : Instance) (said spoken : Said) → said ≡ at_channel i spoken
    → SaidNames (length i.ins) (length i.outs) spoken → SaidStands i said
said_stands i said (Got port v) e names =
    subst (SaidStands i) (sym e) (record { port = port; there = names; is = refl })
said_stands i said (Put port v) e names =
    subst (SaidStands i) (sym e) (record { port = port; there = names; is = refl })

last_said_stands : (i : Instance) (talk : List Said) (said : Said) (spoken : List Said)
    → IsPrefix (talk ++ said ∷ []) (map (at_channel i) spoken) → TalkNames (length i.ins) (length i.outs) spoken
    → SaidStands i said
last_said_stands i [] said [] p names = absurd p
last_said_stands i [] said (x ∷ spoken) p names = said_stands i said x p.0 names.0
last_said_stands i (y ∷ talk) said [] p names = absurd p
last_said_stands i (y ∷ talk) said (x ∷ spoken) p names = last_said_stands i talk said spoken p.1 names.1

-- the last that a process can say names a channel of its own
pub CanSay-stands : (t : Tables) → IsNetwork t → (p : ℕ) → p < length t.instances
    → (X : Family) (talk : List Said) (said : Said) → ProcessCanSay t p X (talk ++ said ∷ [])
    → SaidStands (instance_at t p) said
CanSay-stands t network p below X talk said h =
    last_said_stands (instance_at t p) talk said (ran_on t p h.turns X).talk h.said
    (ran_on-names t network p below h.turns X).talk

pub CanSay-reads : (t : Tables) → IsNetwork t → (p : ℕ) → p < length t.instances
    → (X : Family) (talk : List Said) (c : ℕ) (v : ℤ) → ProcessCanSay t p X (talk ++ Got c v ∷ []) → Reads t p c
CanSay-reads t network p below X talk c v h =
    record { process = below; place = CanSay-stands t network p below X talk (Got c v) h }

pub CanSay-writes : (t : Tables) → IsNetwork t → (p : ℕ) → p < length t.instances
    → (X : Family) (talk : List Said) (c : ℕ) (v : ℤ) → ProcessCanSay t p X (talk ++ Put c v ∷ []) → Writes t p c
CanSay-writes t network p below X talk c v h =
    record { process = below; place = CanSay-stands t network p below X talk (Put c v) h }

-- ---- how a process ends names its channels

-- it starved at a port of this channel
pub record StarvedAt (i : Instance) (raw : Ending) (c : ℕ) : Type 0 where
  pub port : ℕ
  pub raw_is : raw ≡ Starved port
  pub there : port < length i.ins
  pub is : get_or i.ins port 0 ≡ c

starved_at : (i : Instance) (raw : Ending) (c : ℕ) → ends_at_channel i raw ≡ Starved c
    → EndingNames (length i.ins) raw → StarvedAt i raw c
starved_at i Done c e names = absurd cc
starved_at i (Faulted fault) c e names = absurd cc
starved_at i (Starved port) c e names = record { port = port; raw_is = refl; there = names; is = cc }
starved_at i Cut c e names = absurd cc

pub ComesTo-starved_at : (t : Tables) → IsNetwork t → (p : ℕ) → p < length t.instances
    → (X : Family) (c : ℕ) (talk : List Said) → (h : ProcessComesTo t p X (Starved c) talk)
    → StarvedAt (instance_at t p) (ran_on t p h.turns X).ending c
ComesTo-starved_at t network p below X c talk h =
    starved_at (instance_at t p) (ran_on t p h.turns X).ending c h.ended
    (ran_on-names t network p below h.turns X).ending

-- a process that starves at a channel reads it
pub ComesTo-reads : (t : Tables) → IsNetwork t → (p : ℕ) → p < length t.instances
    → (X : Family) (c : ℕ) (talk : List Said) → ProcessComesTo t p X (Starved c) talk → Reads t p c
ComesTo-reads t network p below X c talk h =
    let at = ComesTo-starved_at t network p below X c talk h in
    record { process = below; place = record { port = at.port; there = at.there; is = at.is } }

-- ---- a process that came to an end says no more

-- done or faulted
abbrev pub IsLast : Ending → Type 0
IsLast Done = Unit {0}
IsLast (Faulted fault) = Unit {0}
IsLast (Starved port) = ⊥
IsLast Cut = ⊥

final_if_last : (i : Instance) (raw ending : Ending) → ends_at_channel i raw ≡ ending → IsLast ending
    → (more : ℕ → List ℤ) → IsFinal more raw
final_if_last i Done ending e last more = tt
final_if_last i (Faulted fault) ending e last more = tt
final_if_last i (Starved port) ending e last more = absurd (subst IsLast (sym e) last)
final_if_last i Cut ending e last more = absurd (subst IsLast (sym e) last)

-- the items after each list of a process's in ports, on a longer family
abbrev pub more_for : (t : Tables) (p : ℕ) (X Y : Family) → IsFamilyPrefix X Y → ℕ → List ℤ
more_for t p X Y b =
    added (map X (instance_at t p).ins) (map Y (instance_at t p).ins) (ArePrefixes-map (instance_at t p).ins X Y b)

-- what it says on longer lists, with any number of turns, begins what it had said when it came to an end that longer
-- lists leave
pub talk_settled : (t : Tables) (p : ℕ) (X Y : Family) (b : IsFamilyPrefix X Y) (ending : Ending) (talk : List Said)
    (h : ProcessComesTo t p X ending talk) → IsFinal (more_for t p X Y b) (ran_on t p h.turns X).ending → (n : ℕ)
    → IsPrefix (talk_on t p n Y) talk
talk_settled t p X Y b ending talk h final n =
    let i = instance_at t p in
    let process = alone (program_of t p) i.pars in
    let m = max n h.turns in
    let grows = Grows-from_prefixes (map X i.ins) (map Y i.ins) (ArePrefixes-map i.ins X Y b) in
    let alike =
    ends_alike process (IsSequential-alone (program_of t p) i.pars) h.turns m (omega arith) (more_for t p X Y b)
    (map X i.ins) (map Y i.ins) grows final in
    let whole : talk_on t p m Y ≡ talk = ap (map (at_channel i)) alike.talk ∙ h.said in
    IsPrefix-trans (talk_on t p n Y) (talk_on t p m Y) talk
    (talk_on-grows t p n m (omega arith) Y Y (λ c. IsPrefix-same (Y c) (Y c) refl))
    (IsPrefix-same (talk_on t p m Y) talk whole)

-- an end that is done or faulted stays on all longer lists
pub talk_settled-last : (t : Tables) (p : ℕ) (X Y : Family) → IsFamilyPrefix X Y
    → (ending : Ending) (talk : List Said) → IsLast ending → ProcessComesTo t p X ending talk → (n : ℕ)
    → IsPrefix (talk_on t p n Y) talk
talk_settled-last t p X Y b ending talk last h n =
    talk_settled t p X Y b ending talk h
    (final_if_last (instance_at t p) (ran_on t p h.turns X).ending ending h.ended last (more_for t p X Y b)) n

-- a process that starved stays so if the list of that channel stays
pub talk_settled-starved : (t : Tables) → IsNetwork t → (p : ℕ) → p < length t.instances → (X Y : Family)
    → IsFamilyPrefix X Y → (c : ℕ) → Y c ≡ X c → (talk : List Said) → ProcessComesTo t p X (Starved c) talk → (n : ℕ)
    → IsPrefix (talk_on t p n Y) talk
talk_settled-starved t network p below X Y b c same talk h n =
    let i = instance_at t p in
    let at = ComesTo-starved_at t network p below X c talk h in
    let pre = ArePrefixes-map i.ins X Y b in
    let grows = Grows-from_prefixes (map X i.ins) (map Y i.ins) pre in
    let list_of : (Z : Family) → get_or (map Z i.ins) at.port [] ≡ Z c =
    λ Z. get_or-map Z i.ins at.port 0 [] at.there ∙ ap Z at.is in
    let none =
    nil_from_grows (more_for t p X Y b) (map X i.ins) (map Y i.ins) grows at.port
    (list_of Y ∙ same ∙ sym (list_of X)) in
    talk_settled t p X Y b (Starved c) talk h (subst (IsFinal (more_for t p X Y b)) (sym at.raw_is) none) n
