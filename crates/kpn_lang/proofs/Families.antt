-- Families of lists that grow: which items come after them, and what a read leaves of them.
use Rattle.kpn_lang.proofs.Common.{◌≡◌, ℕ, ◌<◌, ℤ, List, [], ◌∷◌, ◌++◌, length, set, sym, ap, ◌∙◌, inl, inr, get_or-set_same, get_or-set_other, get_or_past, append-nil, append_cancel_left, cases_lt, cases_eq, Lists, list_at, ArePrefixes, Grows}
use Rattle.kpn_lang.proofs.Prefixes.{IsPrefix-from_rest, rest_of_prefix}

-- no items after any list
abbrev pub nothing : ℕ → List ℤ
nothing port = []

pub Grows-refl : (lists : Lists) → Grows nothing lists lists
Grows-refl lists = record { each = λ port. sym (append-nil (list_at lists port)) }

pub ArePrefixes-from_grows : (more : ℕ → List ℤ) (lists longer : Lists) → Grows more lists longer →
    ArePrefixes lists longer
ArePrefixes-from_grows more lists longer g =
    λ port. IsPrefix-from_rest (list_at lists port) (more port) (list_at longer port) (sym (g.each port))

-- what comes after each list of a longer family
abbrev pub added : (lists longer : Lists) → ArePrefixes lists longer → ℕ → List ℤ
added lists longer p port = (rest_of_prefix (list_at lists port) (list_at longer port) (p port)).0

pub Grows-from_prefixes : (lists longer : Lists) (p : ArePrefixes lists longer) →
    Grows (added lists longer p) lists longer
Grows-from_prefixes lists longer p =
    record { each = λ port. sym (rest_of_prefix (list_at lists port) (list_at longer port) (p port)).1 }

-- nothing comes after a list that stays
pub nil_from_same : (xs rest : List ℤ) → xs ≡ xs ++ rest → rest ≡ []
nil_from_same xs rest e = append_cancel_left xs rest [] (sym e ∙ sym (append-nil xs))

pub nil_from_grows : (more : ℕ → List ℤ) (lists longer : Lists) → Grows more lists longer → (port : ℕ) →
    list_at longer port ≡ list_at lists port → more port ≡ []
nil_from_grows more lists longer g port e = nil_from_same (list_at lists port) (more port) (sym e ∙ g.each port)

-- a port that has items is there
pub port_is_there : (lists : Lists) (port : ℕ) (v : ℤ) (items : List ℤ) → list_at lists port ≡ v ∷ items →
    port < length lists
port_is_there lists port v items e =
    elim (cases_lt port (length lists)) [
      | inl h ↦ h
      | inr h ↦ let past = get_or_past lists port [] h in absurd cc
    ]

-- after a list is replaced
pub list_at-set_same : (lists : Lists) (port : ℕ) (items : List ℤ) → port < length lists →
    list_at (set lists port items) port ≡ items
list_at-set_same lists port items h = get_or-set_same lists port items [] h

pub list_at-set_other : (lists : Lists) (port other : ℕ) (items : List ℤ) → (other ≡ port → ⊥) →
    list_at (set lists port items) other ≡ list_at lists other
list_at-set_other lists port other items h = get_or-set_other lists port other items [] h

-- a read takes the first item of both, and as much more remains
pub Grows-read : (more : ℕ → List ℤ) (lists longer : Lists) → Grows more lists longer →
    (port : ℕ) (v : ℤ) (items : List ℤ) → list_at lists port ≡ v ∷ items →
    Grows more (set lists port items) (set longer port (items ++ more port))
Grows-read more lists longer g port v items e =
    let there = port_is_there lists port v items e in
    let there' = port_is_there longer port v (items ++ more port) (g.each port ∙ ap (λ xs. xs ++ more port) e) in
    record {
      each = λ other. elim (cases_eq other port) [
        | inl same ↦
            rw same (
            list_at-set_same longer port (items ++ more port) there'
            ∙ ap (λ xs. xs ++ more port) (sym (list_at-set_same lists port items there)))
        | inr differ ↦
            list_at-set_other longer port other (items ++ more port) differ
            ∙ g.each other
            ∙ ap (λ xs. xs ++ more other) (sym (list_at-set_other lists port other items differ))
      ];
    }
