-- Texts that are written piece by piece.
use Rattle.std.proofs.Common.{◌≡◌, ℕ, List, ◌++◌, ap, ◌∙◌, append_assoc}

pub two_pieces : (start a b one two : List ℕ) → one ≡ start ++ a → two ≡ one ++ b → two ≡ start ++ (a ++ b)
two_pieces start a b one two first second = second ∙ ap (λ t. t ++ b) first ∙ append_assoc start a b

pub three_pieces : (start a b c one two three : List ℕ) → one ≡ start ++ a → two ≡ one ++ b → three ≡ two ++ c
    → three ≡ start ++ (a ++ b ++ c)
three_pieces start a b c one two three first second third =
    two_pieces start (a ++ b) c two three (two_pieces start a b one two first second) third
