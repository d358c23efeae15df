-- Why an event may not follow: it is not due, or its numbers are not there.
use Rattle.kpn_audit.proofs.Common.{◌≡◌, ℕ, Bool, true, false, List, [], ◌∷◌, ◌++◌, refl, Tables, IsNetwork, Stop, Event, is_of, is_of_process, HasNumbers, OwesGrowth, growth_after, Legal, OwesNothing, of_process, Machine, IsDueNow, IsRun, due_here, due_outside, IsStopped}
use Rattle.kpn_history.proofs.OneMore.{Legal-exactly}

-- what may follow is due, whether it is of a process that has come to a stop or of none
pub must_be_due : (t : Tables) → IsNetwork t → (H : List Event) (s : Machine) → IsRun t H s → OwesNothing t H
    → (e : Event) (stop : Stop) → ((p : ℕ) → is_of p e ≡ true → IsStopped t s p stop) → Legal t (H ++ e ∷ [])
    → IsDueNow t s e
must_be_due t network H s run owes e stop stopped legal = by_process (is_of_process e) refl
  where
    by_process : (b : Bool) → is_of_process e ≡ b → IsDueNow t s e
    by_process true is =
        let own = (of_process e).0 is in
        let at = stopped own.0 own.1 in
        due_here t network H s run own.0 at.there stop at.stands.stands at.stands.is_no_pause e own.1 legal
    by_process false is = due_outside t network H s run owes e is legal

-- if a growth is owed, nothing else may follow
pub only_growth : (t : Tables) (H : List Event) (e : Event) (p d : ℕ) → OwesGrowth t H p d → Legal t (H ++ e ∷ [])
    → e ≡ growth_after t H p d
only_growth t H e p d owes legal = ((Legal-exactly t H e).0 legal).1.growth p d owes

pub has_its_numbers : (t : Tables) (H : List Event) (e : Event) → Legal t (H ++ e ∷ []) → HasNumbers t e
has_its_numbers t H e legal = ((Legal-exactly t H e).0 legal).1.numbers
