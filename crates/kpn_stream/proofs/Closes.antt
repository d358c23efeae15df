-- The sources are closed, one after the other.
use Rattle.std.proofs.Common.{◌≡◌, ℕ, ◌+◌, Bool, true, false, List, [], ◌∷◌, ◌++◌, refl, sym, ap, ◌∙◌, subst, inl, inr, append-nil, append_assoc, arith}
use Rattle.kpn_stream.proofs.Common.{cases_eq, both_ways, Tables, channel_at, is_source, Event, is_closed, closed_in, Book, IsBook, Closes, closes_by, closed_next, HappensBesides, AreClosedBelow, is_no_close}
use Rattle.kpn_history.specs.declared.event.Event.TheVariants as event
use Rattle.kpn_book.proofs.Supplying.{closed_then}
use Rattle.kpn_stream.proofs.Going.{besides-refl, besides-trans, happens_besides}

-- a closed source stays closed
pub closed_on : (es H : List Event) (c : ℕ) → is_closed H c ≡ true → is_closed (H ++ es) c ≡ true
closed_on [] H c was = ap (λ X. is_closed X c) (append-nil H) ∙ was
closed_on (e ∷ es) H c was =
    ap (λ X. is_closed X c) (sym (append_assoc H (e ∷ []) es))
    ∙ closed_on es (H ++ e ∷ []) c (closed_next H e c was)

closes_alone : (b : Bool) (c : ℕ) (before after : Book) → closes_by b c before after
    → HappensBesides is_no_close before after
closes_alone true c before after same =
    subst (HappensBesides is_no_close before) (sym same) (besides-refl is_no_close before)
closes_alone false c before after happens =
    happens_besides is_no_close (λ p d n. refl) (event.Close c) refl before after happens

pub none_closed : (b : Book) → AreClosedBelow 0 b b
none_closed b = record {
  besides = besides-refl is_no_close b;
  closed = λ c below source. absurd (omega (arith, below));
}

-- one source more
pub one_more : (c : ℕ) (before after : Book) → IsBook before → Closes c before after → (first : Book)
    → AreClosedBelow c first before → AreClosedBelow (c + 1) first after
one_more c before after book closes first so_far =
    let alone = closes_alone (closed_in before.machine c) c before after closes.closes in
    record {
      besides = besides-trans is_no_close first before after so_far.besides alone;
      closed = λ d below source. elim (cases_eq d c) [
        | inl same ↦
            subst (λ x. is_closed after.history x ≡ true) (sym same) (closed_then c before after book closes)
        | inr other ↦
            ap (λ H. is_closed H d) alone.history
            ∙ closed_on alone.events before.history d (so_far.closed d (omega arith) source)
      ];
    }

-- a channel more, which is no source
pub no_source_more : (c : ℕ) (b : Book) → is_source (channel_at b.tables c) ≡ false → (first : Book)
    → AreClosedBelow c first b → AreClosedBelow (c + 1) first b
no_source_more c b none first so_far = record {
  besides = so_far.besides;
  closed = λ d below source. elim (cases_eq d c) [
    | inl same ↦
        let here : is_source (channel_at first.tables c) ≡ true =
        subst (λ x. is_source (channel_at first.tables x) ≡ true) same source in
        absurd (both_ways (is_source (channel_at b.tables c)) none
        (ap (λ (t : Tables). is_source (channel_at t c)) so_far.besides.tables ∙ here))
    | inr other ↦ so_far.closed d (omega arith) source
  ];
}
