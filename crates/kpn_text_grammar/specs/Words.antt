-- The words that stand for settings of a network: one table, for reading and for printing. Elsewhere these words are
-- names.
use Rattle.std.specs.Prelude.{[], ◌∷◌, codes, Option}
use Rattle.std.specs.List.{find}
use Rattle.std.specs.Str.{bytes_eq}
use Rattle.kpn_net.specs.declared.tables.Growth.{Growth}
use Rattle.kpn_net.specs.declared.tables.Growth.TheVariants as growth
use Rattle.kpn_net.specs.declared.tables.Policy.{Policy}
use Rattle.kpn_net.specs.declared.tables.Policy.TheVariants as policy
use Rattle.kpn_text_grammar.specs.Syntax.{NameBytes}

abbrev pub policy_word : Policy → NameBytes
policy_word policy.Cycles = codes "cycles"
policy_word policy.All = codes "all"

-- the policy that a word stands for, if it stands for one
unfoldable pub policy_spelled : NameBytes → Option Policy
policy_spelled word = find (λ q. bytes_eq (policy_word q) word) (policy.Cycles ∷ policy.All ∷ [])

abbrev pub growth_word : Growth → NameBytes
growth_word growth.One = codes "one"
growth_word growth.Double = codes "double"

-- the growth that a word stands for, if it stands for one
unfoldable pub growth_spelled : NameBytes → Option Growth
growth_spelled word = find (λ g. bytes_eq (growth_word g) word) (growth.One ∷ growth.Double ∷ [])
