-- How printed lists are read, by how their items are.
use Rattle.kpn_text.proofs.Common.{ℕ, List, [], ◌∷◌, ◌++◌, codes, refl, AllByRecursion, Language, Token, IsName, NameBytes, spell_all, spell_further, spell_list, spell_name, spell_names, EndsWord, AreNames, all_text, further_text, list_text, name_text, names_text}
use Rattle.kpn_text_tokens.specs.declared.tokens.Mark.TheVariants as mark
use Rattle.kpn_text.proofs.TokenLemmas.{IsReadAs, name_read, mark_read, space_read}

-- lines, which are read whatever follows them
module _ {l : Language} {A : Type 0} (text : A → List ℕ → List ℕ) (spell : A → List Token → List Token) (P : A → Type 0)
    (one : (x : A) (more : List ℕ) (tokens : List Token) → P x → IsReadAs l more tokens
    → IsReadAs l (text x more) (spell x tokens)) where
  pub all_read : (xs : List A) (more : List ℕ) (tokens : List Token) → AllByRecursion P xs → IsReadAs l more tokens
      → IsReadAs l (all_text text xs more) (spell_all spell xs tokens)
  all_read [] more tokens all h = h
  all_read (x ∷ xs) more tokens all h = one x _ _ all.0 (all_read xs more tokens all.1 h)

-- words, which are read if no letter, digit or `_` follows them
module _ {l : Language} {A : Type 0} (text : A → List ℕ → List ℕ) (spell : A → List Token → List Token) (P : A → Type 0)
    (one : (x : A) (more : List ℕ) (tokens : List Token) → P x → EndsWord more → IsReadAs l more tokens
    → IsReadAs l (text x more) (spell x tokens)) where
  further_ends : (xs : List A) (more : List ℕ) → EndsWord more → EndsWord (all_text (further_text text) xs more)
  further_ends [] more ends = ends
  further_ends (x ∷ xs) more ends = refl

  further_read : (xs : List A) (more : List ℕ) (tokens : List Token) → AllByRecursion P xs → EndsWord more
      → IsReadAs l more tokens
      → IsReadAs l (all_text (further_text text) xs more) (spell_all (spell_further spell) xs tokens)
  further_read [] more tokens all ends h = h
  further_read (x ∷ xs) more tokens all ends h =
      let rest = further_read xs more tokens all.1 ends h in
      let item = one x _ _ all.0 (further_ends xs more ends) rest in
      mark_read mark.Comma (codes " " ++ text x (all_text (further_text text) xs more)) _ refl tt (space_read _ _ item)

  pub list_read : (xs : List A) (more : List ℕ) (tokens : List Token) → AllByRecursion P xs → EndsWord more
      → IsReadAs l more tokens → IsReadAs l (list_text text xs more) (spell_list spell xs tokens)
  list_read [] more tokens all ends h = h
  list_read (x ∷ xs) more tokens all ends h =
      one x _ _ all.0 (further_ends xs more ends) (further_read xs more tokens all.1 ends h)

pub names_read : {l : Language} (xs : List NameBytes) (more : List ℕ) (tokens : List Token) → AreNames l xs → EndsWord more
    → IsReadAs l more tokens → IsReadAs l (names_text xs more) (spell_names xs tokens)
names_read {l} = list_read name_text spell_name (IsName l) name_read
