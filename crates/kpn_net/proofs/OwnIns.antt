-- What a process can say and what it comes to: both depend only on its own in channels. Of two things that it can say,
-- one begins the other.
use Rattle.kpn_net.proofs.Common.{◌≡◌, ◌⊎◌, ℕ, ◌+◌, List, [], ◌∷◌, map, refl, sym, ap, ◌∙◌, subst, arith, Contains, Said, Ending, IsPrefix, alone, IsPrefix-refl, IsPrefix-trans, prefixes_of_one, Tables, instance_at, program_of, Family, IsFamilyPrefix, AgreeOnIns, at_channel, ends_at_channel, ran_on, talk_on, ProcessCanSay, ProcessComesTo}
use Rattle.kpn_net.proofs.Monotone.{talk_on-grows}
use Rattle.kpn_net.proofs.Cycles.{Contains-first, Contains-later}

same_on : (channels : List ℕ) (X Y : Family) → ((c : ℕ) → Contains channels c → X c ≡ Y c)
    → map X channels ≡ map Y channels
same_on [] X Y same = refl
same_on (c ∷ channels) X Y same =
    ap (λ xs. xs ∷ map X channels) (same c (Contains-first c channels))
    ∙ ap (λ rest. Y c ∷ rest) (same_on channels X Y (λ d h. same d (Contains-later c channels d h)))

pub ran_on-own_ins : (t : Tables) (p n : ℕ) (X Y : Family) → AgreeOnIns t p X Y → ran_on t p n X ≡ ran_on t p n Y
ran_on-own_ins t p n X Y agree =
    ap (λ lists. alone (program_of t p) (instance_at t p).pars n lists) (same_on (instance_at t p).ins X Y agree.each)

pub CanSay-own_ins : (t : Tables) (p : ℕ) (X Y : Family) → AgreeOnIns t p X Y → (talk : List Said) → ProcessCanSay t p X talk
    → ProcessCanSay t p Y talk
CanSay-own_ins t p X Y agree talk h =
    record {
      turns = h.turns;
      said =
          subst (λ ran. IsPrefix talk (map (at_channel (instance_at t p)) ran.talk))
          (ran_on-own_ins t p h.turns X Y agree) h.said;
    }

pub ComesTo-own_ins : (t : Tables) (p : ℕ) (X Y : Family) → AgreeOnIns t p X Y → (ending : Ending) (talk : List Said)
    → ProcessComesTo t p X ending talk → ProcessComesTo t p Y ending talk
ComesTo-own_ins t p X Y agree ending talk h =
    let same = sym (ran_on-own_ins t p h.turns X Y agree) in
    record {
      turns = h.turns;
      ended = ap (λ ran. ends_at_channel (instance_at t p) ran.ending) same ∙ h.ended;
      said = ap (λ ran. map (at_channel (instance_at t p)) ran.talk) same ∙ h.said;
      whole = h.whole;
    }

pub CanSay-prefix : (t : Tables) (p : ℕ) (X : Family) (talk longer : List Said) → IsPrefix talk longer
    → ProcessCanSay t p X longer → ProcessCanSay t p X talk
CanSay-prefix t p X talk longer begins h =
    record { turns = h.turns; said = IsPrefix-trans talk longer (talk_on t p h.turns X) begins h.said }

pub CanSay-longer : (t : Tables) (p : ℕ) (X Y : Family) → IsFamilyPrefix X Y → (talk : List Said) → ProcessCanSay t p X talk
    → ProcessCanSay t p Y talk
CanSay-longer t p X Y begins talk h =
    record {
      turns = h.turns;
      said =
          IsPrefix-trans talk (talk_on t p h.turns X) (talk_on t p h.turns Y) h.said
          (talk_on-grows t p h.turns h.turns (omega arith) X Y begins);
    }

pub CanSay-comparable : (t : Tables) (p : ℕ) (X : Family) (talk other : List Said) → ProcessCanSay t p X talk
    → ProcessCanSay t p X other → IsPrefix talk other ⊎ IsPrefix other talk
CanSay-comparable t p X talk other a b =
    let whole = a.turns + b.turns in
    let same : IsFamilyPrefix X X = λ c. IsPrefix-refl (X c) in
    prefixes_of_one talk other (talk_on t p whole X)
    (IsPrefix-trans talk (talk_on t p a.turns X) (talk_on t p whole X) a.said
    (talk_on-grows t p a.turns whole (omega arith) X X same))
    (IsPrefix-trans other (talk_on t p b.turns X) (talk_on t p whole X) b.said
    (talk_on-grows t p b.turns whole (omega arith) X X same))
