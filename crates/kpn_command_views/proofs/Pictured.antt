-- What the code has made is the picture, or the reason why there is none.
use Rattle.kpn_command_views.proofs.Common.{◌≡◌, ◌+◌, ◌≤◌, ◌<◌, ◌^◌, ℕ, true, List, length, ap, ap₂, subst, ◌∙◌, arith, max-le, Wait, Tables, sizes, Event, Document, Clocks, start, clocks_after, Scale, scale_for, scale_of, ticks_in, all_box_count, last_counts, boxes_in, picture_with, IsPicture, IsRefusalOfPicture, IsNoPicture, size_for}
use Rattle.kpn_net.specs.Faults.{IsNetwork}
use Rattle.kpn_command_base.specs.declared.refusal.Refusal.{Refusal}
use Rattle.kpn_command_base.specs.declared.refusal.Refusal.TheVariants as refusal
use Rattle.kpn_shelf.specs.Shelf.{Loads}
use Rattle.kpn_command_base.specs.declared.auditing.Audited.{Audited}
use Rattle.kpn_command_base.specs.Audited.{IsAudited, IsRefusalOfAudit}

module _ (d : Document) (t : Tables) (first last : ℕ) (waits : List Wait) (events : List Event) (s : Scale)
    (processes : ℕ) (k : Clocks) (scaled : s ≡ scale_for d.names.instances processes first last k.last)
    (counted : processes ≡ length t.instances) (timed : k ≡ clocks_after t true events) where
  known_scale : s ≡ scale_of d t first last events
  known_scale =
      scaled
      ∙ ap₂ (λ (p : ℕ) (k : Clocks). scale_for d.names.instances p first last k.last) counted timed

  known_boxes : (boxes lasts : ℕ) → boxes ≡ all_box_count t s (start t true) events
      → lasts ≡ last_counts s processes waits k
      → boxes + lasts
      ≡ boxes_in t (scale_of d t first last events) (length t.instances) waits (clocks_after t true events) events
  known_boxes boxes lasts are last_are =
      ap₂ (λ (m n : ℕ). m + n) are last_are
      ∙ ap (λ (s : Scale). boxes_in t s processes waits k events) known_scale
      ∙ ap₂ (λ (p : ℕ) (k : Clocks). boxes_in t (scale_of d t first last events) p waits k events) counted timed

  pub pictured : (text : List ℕ) (boxes lasts : ℕ) → text ≡ picture_with d t s processes waits k events
      → ticks_in s ≤ 2000 → boxes ≡ all_box_count t s (start t true) events
      → lasts ≡ last_counts s processes waits k → boxes + lasts ≤ 2000 → IsPicture d t first last waits events text
  pictured text boxes lasts made few are last_are less = (
    made
        ∙ ap (λ (s : Scale). picture_with d t s processes waits k events) known_scale
        ∙ ap₂ (λ (p : ℕ) (k : Clocks). picture_with d t (scale_of d t first last events) p waits k events) counted
        timed,
    max-le (subst (λ (s : Scale). ticks_in s ≤ 2000) known_scale few)
        (subst (λ n. n ≤ 2000) (known_boxes boxes lasts are last_are) less),
  )

-- a network has few processes
pub few_rows : (t : Tables) → IsNetwork t → (processes : ℕ) → processes ≡ length t.instances → processes < 2 ^ 16
few_rows t network processes is =
    let few : length t.instances ≤ 4096 = (sizes t network).instances in
    omega (arith, few, is)

-- a refusal of an audit is one of the picture
pub of_audit : (may_give : Loads) (file trace : List ℕ) (steps first last : ℕ) (it : Refusal)
    → IsRefusalOfAudit may_give file trace it → IsRefusalOfPicture may_give file trace steps first last it
of_audit may_give file trace steps first last refusal.PictureWords h = absurd h
of_audit may_give file trace steps first last other h = h

-- so is one of an audited trace
pub of_audited : (may_give : Loads) (file trace : List ℕ) (steps first last : ℕ) (audited : Audited)
    → IsAudited may_give file trace steps audited → (it : Refusal)
    → IsNoPicture (size_for first last audited) it
    → IsRefusalOfPicture may_give file trace steps first last it
of_audited may_give file trace steps first last audited is refusal.PictureWords h = (audited, is, h)
of_audited may_give file trace steps first last audited is refusal.NoMemory h = tt
of_audited may_give file trace steps first last audited is other h = absurd h
