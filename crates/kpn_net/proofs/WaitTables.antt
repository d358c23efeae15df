-- Wait tables: all wait for nobody, and one process has another wait.
use Rattle.kpn_net.proofs.Common.{ℕ, ◌<◌, List, length, get_or, set, replicate, sym, ap, ◌∙◌, subst, inl, inr, arith, length-set, get_or-set_same, get_or-set_other, length-replicate, get_or-replicate, cases_eq, Wait, Tables, IsOwnWait, AreWaits}
use Rattle.kpn_net.specs.declared.wait.Wait.TheVariants.{Nobody}

pub waits-nobody : (t : Tables) → AreWaits t (replicate (length t.instances) Nobody)
waits-nobody t =
    record {
      one_each = length-replicate (length t.instances) Nobody;
      own = λ p below. subst (IsOwnWait t p) (sym (get_or-replicate (length t.instances) p Nobody Nobody below)) tt;
    }

pub waits-set : (t : Tables) (waits : List Wait) (p : ℕ) (wait : Wait) → AreWaits t waits → IsOwnWait t p wait
    → AreWaits t (set waits p wait)
waits-set t waits p wait are own =
    record {
      one_each = length-set waits p wait ∙ are.one_each;
      own = λ q below. let long = are.one_each in elim (cases_eq q p) [
        | inl same ↦
            let there : p < length waits = omega arith in
            subst (IsOwnWait t q)
            (sym (ap (λ r. get_or (set waits p wait) r Nobody) same ∙ get_or-set_same waits p wait Nobody there))
            (subst (λ r. IsOwnWait t r wait) (sym same) own)
        | inr other ↦ subst (IsOwnWait t q) (sym (get_or-set_other waits p q wait Nobody other)) (are.own q below)
      ];
    }
