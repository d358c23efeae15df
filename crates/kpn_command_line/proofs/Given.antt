-- What the getters of matches read is what is given.
use Rattle.kpn_command_line.proofs.Common.{◌≡◌, ◌∙◌, ◌&&◌, ◌^◌, ℕ, Bool, true, false, List, [], ◌∷◌, length, Option, Some, None, Result, Ok, Err, sym, refl, ap, map, option_map, nat_lt, lt-ltb, ltb-true, unwrap_or, option_and_then, Bor, list_all, AllDigits, ParsesUnsigned, digits_value, without_leading_plus, ReadsOne, first_value, matched_of, one_text, raw_values, rows_of, text_for, texts_for, number_in, number_for}
use Rattle.std.specs.Char.{digit_value}
use Rattle.std.specs.Result.{result_ok}
use Rattle.clap.specs.ValueTests.{is_numeral}
use Rattle.clap.specs.declared.parser.matches.Found.{Found}
use Rattle.clap.proofs.WalkLemmas.{both, first_value-rows, one_text-rows, raw_values-rows}

pub text_given : (f : Found) (id : List ℕ) (text : Option (Bor (List ℕ)))
    → option_map (λ t. t.now) text ≡ first_value f id → text_for id (rows_of f) ≡ option_map (λ t. t.now) text
text_given f id text is = sym (first_value-rows f id) ∙ sym is

pub texts_given : (f : Found) (id : List ℕ) (texts : Option (Bor (List (Bor (List ℕ)))))
    → option_map (λ s. map (λ t. t.now) s.now) texts ≡ option_map raw_values (matched_of f id)
    → (all : List (Bor (List ℕ))) → unwrap_or (option_map (λ s. map (λ t. t.now) s.now) texts) [] ≡ map (λ t. t.now) all
    → texts_for id (rows_of f) ≡ map (λ t. t.now) all
texts_given f id texts is all are = ap (λ o. unwrap_or o []) (sym (raw_values-rows f id) ∙ sym is) ∙ are

digits_pass : (digits : List ℕ) → AllDigits 10 digits → list_all (λ d. nat_lt (digit_value d) 10) digits ≡ true
digits_pass [] all = refl
digits_pass (d ∷ digits) all = rw (lt-ltb (digit_value d) 10 all.0) (digits_pass digits all.1)

digits_from : (digits : List ℕ) → list_all (λ d. nat_lt (digit_value d) 10) digits ≡ true → AllDigits 10 digits
digits_from [] is = tt
digits_from (d ∷ digits) is =
    let parts = both _ _ is in
    (ltb-true _ _ parts.0, digits_from digits parts.1)

abbrev is_number : ℕ → List ℕ → Bool
is_number bits digits = is_numeral digits && nat_lt (digits_value 10 digits) (2 ^ bits)

-- what a type of this many bits reads of a text
read_is : (E : Type 0) (bits : ℕ) (text : List ℕ) (r : Result ℕ E) → ParsesUnsigned bits 10 text r
    → number_in bits text ≡ result_ok r
read_is E bits text (Ok n) h =
    let digits = without_leading_plus text in
    rw (lt-ltb 0 (length digits) h.0.0.0, digits_pass digits h.0.0.1, lt-ltb (digits_value 10 digits) (2 ^ bits) h.0.1)
    (ap Some (sym h.1))
read_is E bits text (Err e) h = go (is_number bits (without_leading_plus text)) refl
  where
    go : (b : Bool) → is_number bits (without_leading_plus text) ≡ b → number_in bits text ≡ None
    go false t = rw t refl
    go true t =
        let outer = both _ _ t in
        let inner = both _ _ outer.0 in
        absurd (h ((ltb-true _ _ inner.0, digits_from (without_leading_plus text) inner.1), ltb-true _ _ outer.1))

number_read : (E : Type 0) (reads : List ℕ → Result ℕ E → Type 0) (bits : ℕ) (given : Option (List ℕ)) (n : Option ℕ)
    → (given ≡ None → n ≡ None) → ((text : List ℕ) → given ≡ Some text → ReadsOne reads text n)
    → ((text : List ℕ) (r : Result ℕ E) → reads text r → ParsesUnsigned bits 10 text r)
    → option_and_then (number_in bits) given ≡ n
number_read E reads bits None n none value parses = sym (none refl)
number_read E reads bits (Some text) None none value parses =
    let failed = value text refl in
    read_is E bits text (Err failed.0) (parses text (Err failed.0) failed.1)
number_read E reads bits (Some text) (Some n) none value parses =
    read_is E bits text (Ok n) (parses text (Ok n) (value text refl))

pub number_given : (E : Type 0) (reads : List ℕ → Result ℕ E → Type 0) (bits : ℕ) (f : Found) (id : List ℕ)
    (n : Option ℕ) → (one_text f id ≡ None → n ≡ None)
    → ((text : List ℕ) → one_text f id ≡ Some text → ReadsOne reads text n)
    → ((text : List ℕ) (r : Result ℕ E) → reads text r → ParsesUnsigned bits 10 text r)
    → number_for bits id (rows_of f) ≡ n
number_given E reads bits f id n none value parses =
    ap (option_and_then (number_in bits)) (sym (one_text-rows f id))
    ∙ number_read E reads bits (one_text f id) n none value parses

pub none_of : {A : Type 0} (given : Option A) → ((some : A) → given ≡ Some some → ⊥) → given ≡ None
none_of None none = refl
none_of (Some a) none = absurd (none a refl)
