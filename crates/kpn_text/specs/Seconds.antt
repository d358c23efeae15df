-- Scaffolding: how the second block of an `if` is written.
use Rattle.std.specs.Prelude.{◌≡◌, List, [], ◌∷◌}
use Rattle.kpn_lang.specs.Syntax.{Statement, If, term_of}
use Rattle.kpn_text_tokens.specs.declared.tokens.Language.{Language}
use Rattle.kpn_text_tokens.specs.declared.tokens.Language.TheVariants as language
use Rattle.kpn_text.specs.declared.blocks.Second.{Second}
use Rattle.kpn_text.specs.declared.blocks.Second.TheVariants as second

-- neither empty nor one `if`
abbrev pub IsLong : List Statement → Type 0
IsLong [] = ⊥
IsLong (If e a b ∷ []) = ⊥
IsLong _ = Unit {0}

-- it has braces
abbrev pub HasBraces : Language → List Statement → Type 0
HasBraces language.One ss = Unit {0}
HasBraces language.Two ss = IsLong ss

-- a block of these statements is written so
abbrev pub IsWritten : Language → List Statement → Second → Type 0
IsWritten l ss second.Nothing = (l ≡ language.Two) × (ss ≡ [])
IsWritten l ss (second.If test a b) = (l ≡ language.Two) × (ss ≡ If (term_of test.now) a b ∷ [])
IsWritten l ss second.Block = HasBraces l ss
