-- When two processes say the same: it is enough that each covers the other.
use Rattle.kpn_step.proofs.Common.{◌≡◌, ◌≢◌, ℕ, List, refl, sym, ap, ◌∙◌, Said, Ending, Cut, Ran, Lists, Process, CanSay, ComesTo, SaysTheSame}
use Rattle.kpn_lang.specs.Prefix.{IsPrefix}
use Rattle.kpn_lang.proofs.Prefixes.{IsPrefix-trans, IsPrefix-same}

-- the talk is only extended, and a run that was not cut stays the same
pub record IsBelow (ran further : Ran) : Type 0 where
  pub talk : IsPrefix ran.talk further.talk
  pub same : ran.ending ≢ Cut → further ≡ ran

pub IsBelow-same : (ran further : Ran) → further ≡ ran → IsBelow ran further
IsBelow-same ran further e =
    record { talk = IsPrefix-same ran.talk further.talk (sym (ap (λ r. r.talk) e)); same = λ h. e }

-- with some number of turns the second process comes at least as far as the first
pub record Covers (p q : Process) : Type 0 where
  pub turns : ℕ → ℕ
  pub below : (n : ℕ) (lists : Lists) → IsBelow (p n lists) (q (turns n) lists)

pub CanSay-covered : (p q : Process) → Covers p q → (lists : Lists) (talk : List Said) → CanSay p lists talk →
    CanSay q lists talk
CanSay-covered p q h lists talk c =
    record {
      turns = h.turns c.turns;
      said = IsPrefix-trans talk (p c.turns lists).talk (q (h.turns c.turns) lists).talk c.said
          (h.below c.turns lists).talk;
    }

pub ComesTo-covered : (p q : Process) → Covers p q → (lists : Lists) (ending : Ending) (talk : List Said) →
    ComesTo p lists ending talk → ComesTo q lists ending talk
ComesTo-covered p q h lists ending talk c =
    let e = (h.below c.turns lists).same (λ cut. c.whole (sym c.ended ∙ cut)) in
    record {
      turns = h.turns c.turns;
      ended = ap (λ r. r.ending) e ∙ c.ended;
      said = ap (λ r. r.talk) e ∙ c.said;
      whole = c.whole;
    }

pub SaysTheSame-from_covers : (p q : Process) → Covers p q → Covers q p → SaysTheSame p q
SaysTheSame-from_covers p q h k =
    record {
      can = CanSay-covered p q h;
      could = CanSay-covered q p k;
      comes = ComesTo-covered p q h;
      came = ComesTo-covered q p k;
    }

pub Covers-equal : (p q : Process) → ((n : ℕ) (lists : Lists) → q n lists ≡ p n lists) → Covers p q
Covers-equal p q e = record { turns = λ n. n; below = λ n lists. IsBelow-same (p n lists) (q n lists) (e n lists) }

pub SaysTheSame-equal : (p q : Process) → ((n : ℕ) (lists : Lists) → q n lists ≡ p n lists) → SaysTheSame p q
SaysTheSame-equal p q e =
    SaysTheSame-from_covers p q (Covers-equal p q e) (Covers-equal q p (λ n lists. sym (e n lists)))

pub SaysTheSame-refl : (p : Process) → SaysTheSame p p
SaysTheSame-refl p = SaysTheSame-equal p p (λ n lists. refl)

pub SaysTheSame-trans : (p q r : Process) → SaysTheSame p q → SaysTheSame q r → SaysTheSame p r
SaysTheSame-trans p q r h k =
    record {
      can = λ lists talk c. k.can lists talk (h.can lists talk c);
      could = λ lists talk c. h.could lists talk (k.could lists talk c);
      comes = λ lists ending talk c. k.comes lists ending talk (h.comes lists ending talk c);
      came = λ lists ending talk c. h.came lists ending talk (k.came lists ending talk c);
    }
