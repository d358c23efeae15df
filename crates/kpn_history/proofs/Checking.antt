-- The way from a process to the next that it waits for, in a history. If it comes round, it is a blocked cycle.
use Rattle.kpn_history.proofs.Common.{◌≡◌, ℕ, suc, Bool, true, false, List, [], length, arith, Wait, Nobody, Empty, Full, Tables, Event, waits_of, IsBlockedCycle, cycle_from}
use Rattle.kpn_history.proofs.Searching.{way-round, Way, Round, way, Allows, way-allows}

-- this many steps lead round any cycle
abbrev pub way_round : Tables → List Event → (p : ℕ) → Way
way_round t B p = way t (waits_of t B) p (suc (length t.instances)) [] p

pub way_round-allows : (t : Tables) (B : List Event) (p : ℕ) (others : List ℕ) → IsBlockedCycle t B p others
    → Allows (way_round t B p) others
way_round-allows t B p others cycle =
    way-allows t (waits_of t B) p (suc (length t.instances)) [] p others cycle.in_turn cycle.distinct.1 cycle.distinct.0
    (record { each = λ x h k. absurd (omega (arith, k.1)) })

-- a way that comes round is a blocked cycle
pub way_round-cycle : (t : Tables) (B : List Event) (p : ℕ) (others : List ℕ) → way_round t B p ≡ Round others
    → IsBlockedCycle t B p others
way_round-cycle t B p others e =
    let round = way-round t (waits_of t B) p (suc (length t.instances)) [] p others e in
    cycle_from t (waits_of t B) p others round.turn round.absent

-- it waits for nobody
abbrev pub is_nobody : Wait → Bool
is_nobody Nobody = true
is_nobody (Empty c) = false
is_nobody (Full c) = false
