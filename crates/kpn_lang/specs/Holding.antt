-- Scaffolding: what a program holds.
use Rattle.std.specs.Prelude.{ℕ, List}
use Rattle.kpn_lang.specs.declared.codes.Coded.{Coded}
use Rattle.kpn_lang.specs.Parts.{Parts, IsProgram}
use Rattle.kpn_lang.specs.Coding.{HasCodes}

-- parts that keep the rules, and the codes of the blocks
pub record Holds (parts : Parts) (heads : List ℕ) (list : List Coded) : Type 0 where
  pub program : IsProgram parts
  pub codes : HasCodes parts.blocks heads list
