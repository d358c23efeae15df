-- A plain test of tables. If it says yes, they keep the rules of a network, and no program has cells.
use Rattle.check_histories.proofs.Common.{nat_le, ◌==◌, list_all, ◌≡◌, ℕ, zero, suc, ◌+◌, ◌<◌, Bool, true, false, ◌&&◌, List, [], ◌∷◌, length, get_or, Option, Some, None, refl, arith, and_parts, leb-true, eqb-true, Tables, first_network_fault, IsNetwork}
use Rattle.kpn_net.specs.declared.tables.NetworkSize.TheVariants as size
use Rattle.kpn_lang.specs.declared.program.ProgramFault.{ProgramFault}
use Rattle.kpn_lang.specs.Parts as parts
use Rattle.kpn_lang.specs.Parts.{Parts, IsProgram}

abbrev is_none : Option ProgramFault → Bool
is_none None = true
is_none (Some fault) = false

is_none-true : (o : Option ProgramFault) → is_none o ≡ true → o ≡ None
is_none-true None e = refl
is_none-true (Some fault) e = absurd cc

abbrev pub is_program : Parts → Bool
is_program p = (is_none (parts.first_fault p) && nat_le p.pars p.vars) && p.free + length p.tables == 0

is_program-true : (p : Parts) → is_program p ≡ true → IsProgram p
is_program-true p e =
    let all = and_parts _ _ e in
    let both = and_parts _ _ all.0 in
    record {
      sound = is_none-true _ both.0;
      counted = leb-true _ _ both.1;
      apart = λ _. eqb-true (p.free + length p.tables) 0 all.1;
    }

programs_at : (ps : List Parts) (k : ℕ) (d : Parts) → list_all is_program ps ≡ true → k < length ps
    → IsProgram (get_or ps k d)
programs_at [] k d e h = absurd (omega arith)
programs_at (p ∷ ps) zero d e h = is_program-true p (and_parts _ _ e).0
programs_at (p ∷ ps) (suc k) d e h = programs_at ps k d (and_parts _ _ e).1 (omega arith)

pub network-true : (t : Tables) → list_all is_program t.programs ≡ true → first_network_fault size.Large t ≡ None → IsNetwork t
network-true t e sound = record { programs = λ k d h. programs_at t.programs k d e h; sound = sound }
