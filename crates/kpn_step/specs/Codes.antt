-- Scaffolding: codes of stops and of what an advance holds.
use Rattle.std.specs.Prelude.{◌≡◌, ℕ, zero, suc, ℤ, pos, refl}
use Rattle.std.specs.Coded.{Coded, code_by, coded_ℕ, coded_ℤ, coded×}
use Rattle.kpn_lang.specs.declared.value.Fault.TheVariants.{Overflow, ZeroDivisor, Index, Shift}
use Rattle.kpn_lang.specs.Parts.{Parts}
use Rattle.kpn_lang.specs.Codes.{parts_code}
use Rattle.kpn_step.specs.declared.stop.Stop.{Stop}
use Rattle.kpn_step.specs.declared.stop.Stop.TheVariants.{WantRead, WantWrite, Done, Faulted, Paused}
use Rattle.kpn_step.specs.Frame.{Frame, frame_code}
use Rattle.kpn_step.specs.Stops.{Advanced}

-- a stop is stored as its kind, a port and an item
abbrev kind_of : Stop → ℕ × (ℕ × ℤ)
kind_of (WantRead port) = (0, (port, pos 0))
kind_of (WantWrite port v) = (1, (port, v))
kind_of Done = (2, (0, pos 0))
kind_of (Faulted Overflow) = (3, (0, pos 0))
kind_of (Faulted ZeroDivisor) = (4, (0, pos 0))
kind_of (Faulted Index) = (5, (0, pos 0))
kind_of (Faulted Shift) = (6, (0, pos 0))
kind_of Paused = (7, (0, pos 0))

abbrev stop_of_kind : ℕ → ℕ → ℤ → Stop
stop_of_kind zero port v = WantRead port
stop_of_kind (suc zero) port v = WantWrite port v
stop_of_kind (suc (suc zero)) port v = Done
stop_of_kind (suc (suc (suc zero))) port v = Faulted Overflow
stop_of_kind (suc (suc (suc (suc zero)))) port v = Faulted ZeroDivisor
stop_of_kind (suc (suc (suc (suc (suc zero))))) port v = Faulted Index
stop_of_kind (suc (suc (suc (suc (suc (suc zero)))))) port v = Faulted Shift
stop_of_kind (suc (suc (suc (suc (suc (suc (suc kind))))))) port v = Paused

pub stop_of_kind-kind_of : (s : Stop) → stop_of_kind (kind_of s).0 (kind_of s).1.0 (kind_of s).1.1 ≡ s
stop_of_kind-kind_of (WantRead port) = refl
stop_of_kind-kind_of (WantWrite port v) = refl
stop_of_kind-kind_of Done = refl
stop_of_kind-kind_of (Faulted Overflow) = refl
stop_of_kind-kind_of (Faulted ZeroDivisor) = refl
stop_of_kind-kind_of (Faulted Index) = refl
stop_of_kind-kind_of (Faulted Shift) = refl
stop_of_kind-kind_of Paused = refl

abbrev pub stop_code : Coded Stop
stop_code =
    code_by (ℕ × (ℕ × ℤ)) (coded× coded_ℕ (coded× coded_ℕ coded_ℤ)) kind_of
    (λ t. stop_of_kind t.0 t.1.0 t.1.1) stop_of_kind-kind_of

abbrev pub advanced_code : Coded Advanced
advanced_code =
    code_by (Parts × (Frame × (Frame × (ℕ × Stop))))
    (coded× parts_code (coded× frame_code (coded× frame_code (coded× coded_ℕ stop_code))))
    (λ a. (a.program, (a.from, (a.to, (a.steps, a.stop)))))
    (λ t. record { program = t.0; from = t.1.0; to = t.1.1.0; steps = t.1.1.1.0; stop = t.1.1.1.1 })
    (λ _. refl)
