-- The refusals of `kpn alone` if memory runs out.
use Rattle.std.specs.Prelude.{⊤}
use Rattle.kpn_text.specs.declared.fault.TextFault.TheVariants as text
use Rattle.kpn_command_base.specs.declared.refusal.Refusal.{Refusal}
use Rattle.kpn_command_base.specs.declared.refusal.Refusal.TheVariants.{Description, NoMemory}

-- 28 while a program is made of its parts, as in a description, and else 42
abbrev pub WantsMemory : Refusal → Type 0
WantsMemory (Description text.NoMemory) = ⊤
WantsMemory NoMemory = ⊤
WantsMemory other = ⊥
