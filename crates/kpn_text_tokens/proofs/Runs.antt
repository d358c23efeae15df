-- A run is a front of the text whose bytes are all of its class, and after which the class stops; and the only one.
use Rattle.kpn_text_tokens.proofs.Common.{◌≡◌, ℕ, List, [], ◌∷◌, ◌++◌, length, drop, refl, sym, ap, ◌∙◌, subst, list_all, and_from, and_parts, cond_both, cond-false, take_while-cons, Class, is_in, run, AllIn, Stops}
use Rattle.kpn_text_tokens.proofs.Pieces.{run-cons}

run_stops : (c : Class) (rest : List ℕ) → Stops c rest → run c rest ≡ []
run_stops c [] stops = refl
run_stops c (b ∷ bs) stops = take_while-cons (is_in c) b bs ∙ cond-false (is_in c b) (b ∷ run c bs) [] stops

-- such a front is the run
pub run_front : (c : Class) (front rest : List ℕ) → AllIn c front → Stops c rest → run c (front ++ rest) ≡ front
run_front c [] rest all stops = run_stops c rest stops
run_front c (b ∷ bs) rest all stops =
    let parts = and_parts (is_in c b) (list_all (is_in c) bs) all in
    run-cons c b (bs ++ rest) parts.0 ∙ ap (λ l. b ∷ l) (run_front c bs rest parts.1 stops)

-- front is the front of text that is of a class
pub record IsRunOf (c : Class) (text front : List ℕ) : Type 0 where
  pub whole : text ≡ front ++ drop (length front) text
  pub all : AllIn c front
  pub stops : Stops c (drop (length front) text)

-- the run is such a front
pub run_is : (c : Class) (text : List ℕ) → IsRunOf c text (run c text)
run_is c [] = record { whole = refl; all = refl; stops = tt }
run_is c (b ∷ bs) =
    let P : List ℕ → Type 0 = IsRunOf c (b ∷ bs) in
    let more = run_is c bs in
    subst P (sym (take_while-cons (is_in c) b bs)) (cond_both (is_in c b) (b ∷ run c bs) [] P
    (λ e. record {
      whole = ap (λ l. b ∷ l) more.whole;
      all =
          and_from (is_in c b) (list_all (is_in c) (run c bs)) e more.all;
      stops = more.stops;
    })
    (λ e. record { whole = refl; all = refl; stops = e }))
