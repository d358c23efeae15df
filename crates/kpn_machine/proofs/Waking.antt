-- Which processes are woken: the writer of a channel if it waits on it as full, or its reader if it waits on it as
-- empty. Exactly the processes that are woken become free.
use Rattle.std.proofs.Common.{◌≡◌, ◌↔◌, ℕ, ◌<◌, Bool, true, false, cond, List, [], ◌∷◌, length, Option, Some, None, refl, sym, ap, ◌∙◌, subst, inl, inr, ◌⊎◌}
use Rattle.std.specs.List.{Contains, filter_map, cons_option}
use Rattle.kpn_machine.proofs.Common.{false≢true, Wait, Tables, instance_at, IsNetwork, wait_at, IsOwnWait, AreWaits, AreDistinct, Contains-none, Contains-first, Contains-later, Contains-cases, reads_its_ins, ins_distinct, How, Event, is_of, wait_made, wakes, WaitsAsFullFor, IsWoken, woken, Machine, wait_in, end_in, IsFree, IsRun, end_then, Changes, waiting_writer, waiting_reader}
use Rattle.kpn_net.specs.declared.wait.Wait.TheVariants.{Nobody, Empty, Full}
use Rattle.kpn_history.specs.declared.event.Event.TheVariants.{Ended}
use Rattle.kpn_machine.proofs.Moments.{ended_waits_for_nobody}
use Rattle.kpn_machine.proofs.Woken.{who_waits}

-- ---- which process waits on a channel

module _ (t : Tables) (waits : List Wait) (are : AreWaits t waits) (c q : ℕ) where
  pub who_writes : (waiting_writer t waits c ≡ Some q) ↔ ((q < length t.instances) × (wait_at waits q ≡ Full c))
  who_writes = who_waits t waits are (Full c) (λ e. absurd cc) q

  pub who_reads : (waiting_reader t waits c ≡ Some q) ↔ ((q < length t.instances) × (wait_at waits q ≡ Empty c))
  who_reads = who_waits t waits are (Empty c) (λ e. absurd cc) q

-- ---- which processes become free

same_end : (e : Event) (q : ℕ) (end : Option How) → is_of q e ≡ false → end_then e q end ≡ end
same_end (Ended p how) q end other = ap (λ b. cond b (Some how) end) other
same_end e q end other = refl

module _ (t : Tables) (network : IsNetwork t) (H : List Event) (e : Event) (before after : Machine)
    (run : IsRun t H before) (changes : Changes t e before after)
    (q : ℕ) (there : q < length t.instances) (other : is_of q e ≡ false) where
  wait_after : wait_in after q ≡ cond (wakes t e (wait_in before q)) Nobody (wait_in before q)
  wait_after =
      changes.waits q there
      ∙ ap (λ b. cond b (wait_made e) (cond (wakes t e (wait_in before q)) Nobody (wait_in before q))) other

  end_after : end_in after q ≡ end_in before q
  end_after = changes.ends q there ∙ same_end e q (end_in before q) other

  by_wait : (b : Bool) → wakes t e (wait_in before q) ≡ b → IsFree after q
      → IsFree before q ⊎ IsWoken t e q (wait_in before q)
  by_wait true is free = inr ((woken t e q (wait_in before q) (run.shape.waits.own q there)).0 is)
  by_wait false is free =
      inl
      (record {
        lives = sym end_after ∙ free.lives;
        free = sym (wait_after ∙ ap (λ b. cond b Nobody (wait_in before q)) is) ∙ free.free;
      })

  woken_lives : (end : Option How) → end_in before q ≡ end → wakes t e (wait_in before q) ≡ true → end ≡ None
  woken_lives None is wakes_it = refl
  woken_lives (Some how) is wakes_it =
      absurd
      (false≢true
      (sym (ap (wakes t e) (ended_waits_for_nobody t network H before run q there how is)) ∙ wakes_it))

  pub becomes_free : IsFree after q ↔ (IsFree before q ⊎ IsWoken t e q (wait_in before q))
  becomes_free = (
    by_wait (wakes t e (wait_in before q)) refl,
    λ h. elim h [
      | inl free ↦ record {
        lives = end_after ∙ free.lives;
        free = wait_after ∙ ap (λ w. cond (wakes t e w) Nobody w) free.free;
      }
      | inr is ↦
          let wakes_it = (woken t e q (wait_in before q) (run.shape.waits.own q there)).1 is in
          record {
            lives = end_after ∙ woken_lives (end_in before q) refl wakes_it;
            free = wait_after ∙ ap (λ b. cond b Nobody (wait_in before q)) wakes_it;
          }
    ],
  )

-- ---- the end of a process

module _ (h : ℕ → Option ℕ) where
  first_or_later : (x : ℕ) (xs : List ℕ) (q : ℕ) (o : Option ℕ) → h x ≡ o
      → (Contains (filter_map h xs) q → (c : ℕ) × Contains xs c × (h c ≡ Some q))
      → Contains (cons_option o (filter_map h xs)) q → (c : ℕ) × Contains (x ∷ xs) c × (h c ≡ Some q)
  first_or_later x xs q None e rest is = let r = rest is in (r.0, Contains-later x xs r.0 r.1, r.2)
  first_or_later x xs q (Some y) e rest is =
      elim (Contains-cases y (filter_map h xs) q is) [
        | inl same ↦ (x, Contains-first x xs, e ∙ ap Some same)
        | inr later ↦ let r = rest later in (r.0, Contains-later x xs r.0 r.1, r.2)
      ]

  given_by : (xs : List ℕ) (q : ℕ) → Contains (filter_map h xs) q → (c : ℕ) × Contains xs c × (h c ≡ Some q)
  given_by [] q is = absurd (Contains-none q is)
  given_by (x ∷ xs) q is = first_or_later x xs q (h x) refl (given_by xs q) is

  kept : (o : Option ℕ) (ys : List ℕ) (q : ℕ) → Contains ys q → Contains (cons_option o ys) q
  kept None ys q is = is
  kept (Some y) ys q is = Contains-later y ys q is

  gives : (xs : List ℕ) (c q : ℕ) → Contains xs c → h c ≡ Some q → Contains (filter_map h xs) q
  gives [] c q is e = absurd (Contains-none c is)
  gives (x ∷ xs) c q is e =
      elim (Contains-cases x xs c is) [
        | inl same ↦ subst (λ o. Contains (cons_option o (filter_map h xs)) q) (sym (ap h same ∙ e))
            (Contains-first q (filter_map h xs))
        | inr later ↦ kept (h x) (filter_map h xs) q (gives xs c q later e)
      ]

  once : (one : (c d q : ℕ) → h c ≡ Some q → h d ≡ Some q → c ≡ d) (x : ℕ) (xs : List ℕ) (o : Option ℕ) → h x ≡ o
      → (Contains xs x → ⊥) → AreDistinct (filter_map h xs) → AreDistinct (cons_option o (filter_map h xs))
  once one x xs None e new rest = rest
  once one x xs (Some q) e new rest =
      (λ again. let r = given_by xs q again in new (subst (λ z. Contains xs z) (one r.0 x q r.2 e) r.1), rest)

  each_once : ((c d q : ℕ) → h c ≡ Some q → h d ≡ Some q → c ≡ d) → (xs : List ℕ) → AreDistinct xs
      → AreDistinct (filter_map h xs)
  each_once one [] distinct = tt
  each_once one (x ∷ xs) distinct = once one x xs (h x) refl distinct.0 (each_once one xs distinct.1)

module _ (t : Tables) (network : IsNetwork t) (waits : List Wait) (are : AreWaits t waits) (p : ℕ)
    (there : p < length t.instances) where
  one_channel : (c d q : ℕ) → waiting_writer t waits c ≡ Some q → waiting_writer t waits d ≡ Some q → c ≡ d
  one_channel c d q e f =
      let same : Full c ≡ Full d =
      sym ((who_writes t waits are c q).0 e).1 ∙ ((who_writes t waits are d q).0 f).1 in cc

  pub woken_once : AreDistinct (filter_map (waiting_writer t waits) (instance_at t p).ins)
  woken_once = each_once (waiting_writer t waits) one_channel (instance_at t p).ins (ins_distinct t network p there)

  pub woken_at_end : (q : ℕ)
      → Contains (filter_map (waiting_writer t waits) (instance_at t p).ins) q
      ↔ ((q < length t.instances) × WaitsAsFullFor t p q (wait_at waits q))
  woken_at_end q = (
    λ is.
        let from = given_by (waiting_writer t waits) (instance_at t p).ins q is in
        let who = (who_writes t waits are from.0 q).0 from.2 in (
          who.0,
          record {
            channel = from.0;
            waits = who.1;
            read = (reads_its_ins t network p from.0).1 from.1;
            written = subst (λ w. IsOwnWait t q w) who.1 (are.own q who.0);
          },
        ),
    λ h.
        gives (waiting_writer t waits) (instance_at t p).ins h.1.channel q
        ((reads_its_ins t network p h.1.channel).0 h.1.read)
        ((who_writes t waits are h.1.channel q).1 (h.0, h.1.waits)),
  )
