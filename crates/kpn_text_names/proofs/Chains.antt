-- Steps one after the other: the first that finds something wrong decides.
use Rattle.std.proofs.Common.{◌≡◌, Result, Ok, Err, refl, ap}
use Rattle.kpn_text_tokens.specs.Results.{and_then}

pub ok_is : {A E : Type 0} (x y : A) → ◌≡◌ {A = Result A E} (Ok x) (Ok y) → x ≡ y
ok_is x y e = cc

-- a step that gave a value, and what follows it
pub record Went {A B E : Type 0} (r : Result A E) (f : A → Result B E) (y : B) : Type 0 where
  pub value : A
  pub first : r ≡ Ok value
  pub rest : f value ≡ Ok y

pub went : {A B E : Type 0} (r : Result A E) (f : A → Result B E) (y : B) → and_then r f ≡ Ok y
    → Went r f y
unfolding and_then
went (Ok x) f y h = record { value = x; first = refl; rest = h }
went (Err fault) f y h = absurd cc

-- what follows a step that gave a value
pub then_ok : {A B E : Type 0} (r : Result A E) (f : A → Result B E) (x : A) → r ≡ Ok x
    → and_then r f ≡ f x
unfolding and_then
then_ok r f x e = ap (λ q. and_then q f) e

pub ok_then : {A B E : Type 0} (x : A) (f : A → Result B E) → and_then (Ok x) f ≡ f x
unfolding and_then
ok_then x f = refl

pub bind_assoc : {A B C E : Type 0} (r : Result A E) (f : A → Result B E) (g : B → Result C E)
    → and_then (and_then r f) g ≡ and_then r (λ x. and_then (f x) g)
unfolding and_then
bind_assoc (Ok x) f g = refl
bind_assoc (Err fault) f g = refl

pub same_after : {A B E : Type 0} (r : Result A E) (f g : A → Result B E) → ((x : A) → f x ≡ g x)
    → and_then r f ≡ and_then r g
unfolding and_then
same_after (Ok x) f g h = h x
same_after (Err fault) f g h = refl
