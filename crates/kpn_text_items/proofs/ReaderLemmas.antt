-- What one read after another takes from a reader.
use Rattle.kpn_text_items.proofs.Common.{ℕ, List, ◌++◌, Option, Some, None, sym, ◌∙◌, Consumes, Keeps}
use Rattle.std.proofs.KnownBytes.{Consumes-trans}
use Rattle.kpn_text_items.specs.Input.{LosesItsFront}

pub loses_more : (a b c : Option (List ℕ)) (xs ys : List ℕ) → Consumes a b xs → Consumes b c ys → LosesItsFront a c
loses_more a b c xs ys first second = (xs ++ ys, Consumes-trans a b c xs ys first second)

-- what is read after an interrupted read is read from the start
pub consumes_after : (a b c : Option (List ℕ)) (xs : List ℕ) → Keeps a b → Consumes b c xs → Consumes a c xs
consumes_after None b c xs kept read = tt
consumes_after (Some x) None c xs kept read = absurd kept
consumes_after (Some x) (Some y) None xs kept read = absurd read
consumes_after (Some x) (Some y) (Some z) xs kept read = sym kept ∙ read
