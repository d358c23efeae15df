-- The session of a call is the one that its box held.
use Rattle.std.proofs.Common.{◌≡◌, Option, Some, None, sym, ap, ◌∙◌, subst}
use Rattle.kpn_c.proofs.Common.{Session, Slot, slot_with, Leads}

abbrev session_or : Session → Option Session → Session
session_or s None = s
session_or s (Some held) = held

abbrev held_or : Session → Option Slot → Session
held_or s None = s
held_or s (Some slot) = session_or s slot.session

the_session : (o : Option Slot) (r s : Session) → o ≡ slot_with r → o ≡ slot_with s → r ≡ s
the_session o r s is was = ap (held_or r) (sym is ∙ was)

pub leads : (R : Session → Session → Type 0) (o after : Option Slot) (r u : Session) → o ≡ slot_with r
    → after ≡ slot_with u → R r u → Leads R o after
leads R o after r u was is holds = λ s e. (u, is, subst (λ x. R x u) (the_session o r s was e) holds)
