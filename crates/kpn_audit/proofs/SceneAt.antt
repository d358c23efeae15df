-- What stands before an event of a stored trace.
use Rattle.kpn_audit.proofs.Common.{◌≡◌, ℕ, zero, suc, ◌<◌, List, [], ◌∷◌, ◌++◌, length, take, get_or, refl, ap, subst, Tables, Event, Version, One, Two, AuditFault, Scene, IsFault, told, told_behind, history_of, told_in, IsScene, IsSceneAt}
use Rattle.kpn_audit.proofs.Replaying.{event_at}
use Rattle.kpn_audit.proofs.Telling.{told_there, is_there}

-- the history of the first events is the beginning of the history of all
take-told_behind : (t : Tables) (B events : List Event) (k : ℕ)
    → told_behind t B (take k events) ≡ take k (told_behind t B events)
take-told_behind t B events zero = refl
take-told_behind t B [] (suc k) = refl
take-told_behind t B (e ∷ events) (suc k) =
    ap (λ H. told t B e ∷ H) (take-told_behind t (B ++ told t B e ∷ []) events k)

take-history_of : (v : Version) (t : Tables) (events : List Event) (k : ℕ)
    → history_of v t (take k events) ≡ take k (history_of v t events)
take-history_of One t events k = take-told_behind t [] events k
take-history_of Two t events k = refl

pub scene_at : (v : Version) (t : Tables) (events : List Event) (k quota : ℕ) (d : Event) → k < length events
    → (scene : Scene)
    → IsScene t (history_of v t (take k events)) (told_in v t (history_of v t (take k events)) (get_or events k d))
    quota scene
    → IsSceneAt t (history_of v t events) k quota scene
scene_at v t events k quota d below scene is =
    let H = history_of v t events in
    let e = told_in v t (take k H) (get_or events k d) in
    record {
      event = e;
      there = event_at H k e d (is_there v t events k below) (told_there v t events k d e below refl);
      is_scene =
          subst (λ B. IsScene t B (told_in v t B (get_or events k d)) quota scene) (take-history_of v t events k) is;
    }

-- a fault of the first events is one of the first events of the history
pub fault_at : (v : Version) (t : Tables) (events : List Event) (k quota : ℕ) (fault : AuditFault)
    → IsFault t (history_of v t (take k events)) quota fault → IsFault t (take k (history_of v t events)) quota fault
fault_at v t events k quota fault is = subst (λ H. IsFault t H quota fault) (take-history_of v t events k) is
