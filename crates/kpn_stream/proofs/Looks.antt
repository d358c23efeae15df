-- Looks at the devices of the sources, one after the other.
use Rattle.kpn_stream.proofs.Common.{◌≡◌, ℕ, IfSome, Option, Some, None, AreLookedAt, not_yet, once_more}
use Rattle.std.specs.Option.{option_or}
use Rattle.kpn_stream.specs.declared.devices.Readiness.TheVariants.{AtHand, NotYet, Unknown}

pub looked-trans : {S : Type 0} (looks : S → ℕ → S → Type 0) (r s : S) → AreLookedAt looks r s → {u : S}
    → AreLookedAt looks s u → AreLookedAt looks r u
looked-trans looks r s one not_yet = one
looked-trans looks r s one (once_more c before now two look) =
    once_more c before now (looked-trans looks r s one two) look

-- the first of two numbers that there is
pub or_this : (P : ℕ → Type 0) (o : Option ℕ) (c : ℕ) → IfSome o P → P c → IfSome (option_or o (Some c)) P
or_this P None c is here = here
or_this P (Some d) c is here = is

pub unknown_yet : Unknown ≡ NotYet → ⊥
unknown_yet e = cc

pub at_hand_now : AtHand ≡ NotYet → ⊥
at_hand_now e = cc
