-- The names of hidden variables are names.
use Rattle.std.proofs.Common.{zero, suc, nat_lt, length}
use Rattle.kpn_text_expand.proofs.Common.{◌≡◌, ℕ, ◌≤◌, ◌==◌, Bool, true, false, List, [], ◌∷◌, ◌++◌, append-nil, take, Option, Some, None, Ok, refl, sym, ap, ◌∙◌, subst, arith, cond_both, Lexeme, lexeme}
use Rattle.std.specs.Prelude.{◌||◌, slice_get}
use Rattle.std.specs.Char.{is_ascii_digit}
use Rattle.std.specs.List.{list_all}
use Rattle.std.proofs.lemmas.List.{length-take-le}
use Rattle.std.proofs.lemmas.Bool.{and_parts, or_parts}
use Rattle.std.proofs.lemmas.Bool.Decides.{nat_tests}
use Rattle.kpn_text_tokens.specs.declared.tokens.Language.TheVariants as language
use Rattle.kpn_text_tokens.specs.declared.tokens.Token.TheVariants as token
use Rattle.kpn_text_tokens.specs.Lexing.{begins_name, lexemes_of, scan}
use Rattle.kpn_text_tokens.specs.Rules.{IsName, IsWord}
use Rattle.kpn_text_tokens.specs.Spelling.{keyword_of}
use Rattle.kpn_text_tokens.proofs.TokenLaws.{scan_spelled, short_text}
use Rattle.kpn_text_expand.specs.declared.hidden.Hidden.{Hidden}
use Rattle.kpn_text_expand.specs.declared.hidden.Hidden.TheVariants as hidden
use Rattle.kpn_text_expand.specs.Hidden.{hidden_name, longest_hidden}
use Rattle.kpn_text_expand.proofs.Can.{CanBe}

fewer_all : (f : ℕ → Bool) (n : ℕ) (xs : List ℕ) → list_all f xs ≡ true → list_all f (take n xs) ≡ true
fewer_all f zero xs all = refl
fewer_all f (suc n) [] all = refl
fewer_all f (suc n) (x ∷ xs) all =
    let parts = and_parts (f x) (list_all f xs) all in
    rw (parts.0) (fewer_all f n xs parts.1)

abbrev is_of_word : ℕ → Bool
is_of_word b = begins_name b || is_ascii_digit b

abbrev longest : Hidden → List ℕ
longest = longest_hidden

word_of : (h : Hidden) (n : ℕ) → IsWord (take (suc n) (longest h))
word_of hidden.End n = record { begins = refl; goes_on = fewer_all is_of_word (suc n) (longest hidden.End) refl }
word_of hidden.Item n = record { begins = refl; goes_on = fewer_all is_of_word (suc n) (longest hidden.Item) refl }

no_keyword : (h : Hidden) (n : ℕ) → keyword_of language.Two (take (suc n) (longest h)) ≡ None
unfolding keyword_of
no_keyword hidden.End zero = refl
no_keyword hidden.End (suc n) = refl
no_keyword hidden.Item zero = refl
no_keyword hidden.Item (suc zero) = refl
no_keyword hidden.Item (suc (suc n)) = refl

all_long : (h : Hidden) → length (longest h) ≡ 32
all_long hidden.End = refl
all_long hidden.Item = refl

front_short : (h : Hidden) (n : ℕ) → n ≤ length (longest h) → length (take n (longest h)) ≤ 32
front_short h n few =
    subst (λ k. k ≤ 32) (sym (length-take-le n (longest h) few)) (subst (λ k. n ≤ k) (all_long h) few)

pub fronts_named : (h : Hidden) (n : ℕ) → 1 ≤ n → n ≤ length (longest h) → IsName language.Two (take n (longest h))
fronts_named h zero some few = absurd (omega (arith, some))
fronts_named h (suc n) some few =
    record { word = word_of h n; short = front_short h (suc n) few; free = no_keyword h n }

-- what is a name can be spelled
abbrev pub CanIf : Option (List ℕ) → Type 0
CanIf (Some x) = CanBe (token.Name x)
CanIf None = Unit {0}

nonzero : (n : ℕ) → (n == 0) ≡ false → 1 ≤ n
nonzero zero e = absurd cc
nonzero (suc n) e = omega arith

pub hidden_can : (h : Hidden) (n : ℕ) → CanIf (hidden_name h n)
hidden_can h n =
    cond_both (n == 0 || nat_lt (length (longest h)) n) None (Some (take n (longest h))) CanIf (λ e. tt)
    (λ e. let parts = or_parts (n == 0) (nat_lt (length (longest h)) n) e in
    let few : n ≤ length (longest h) = grind (arith, nat_tests, parts.1) in
    (take n (longest h), (fronts_named h n (nonzero n parts.0) few, refl)))

-- the lexer reads a name as that name
pub name_read : (x : List ℕ) (found : List Lexeme) → IsName language.Two x → lexemes_of language.Two x ≡ Ok found
    → found ≡ lexeme (token.Name x) 0 ∷ []
name_read x found is e =
    let few : length x ≤ 32 = is.short in
    let short : length x ≤ 1048576 = omega (arith, few) in
    let scanned : scan language.Two 0 0 (x ++ []) ≡ Ok (lexeme (token.Name x) 0 ∷ []) =
    scan_spelled language.Two 0 (token.Name x) x [] (is, refl) tt in
    let whole : scan language.Two 0 0 x ≡ Ok (lexeme (token.Name x) 0 ∷ []) =
    subst (λ bs. scan language.Two 0 0 bs ≡ Ok (lexeme (token.Name x) 0 ∷ [])) (append-nil x) scanned in
    let same = sym e ∙ short_text language.Two x short ∙ whole in
    cc

-- so the name that it finds first is that name
pub name_found : (x y : List ℕ) (found : List Lexeme) (l : Lexeme) → IsName language.Two x
    → lexemes_of language.Two x ≡ Ok found → slice_get found 0 ≡ Some l → l.token ≡ token.Name y → x ≡ y
name_found x y found l is e first named =
    let whole : found ≡ lexeme (token.Name x) 0 ∷ [] = name_read x found is e in
    let same : Some l ≡ Some (lexeme (token.Name x) 0) = sym first ∙ ap (λ (ls : List Lexeme). slice_get ls 0) whole in
    let here : l ≡ lexeme (token.Name x) 0 = cc in
    let names : token.Name x ≡ token.Name y = sym (ap (λ (m : Lexeme). m.token) here) ∙ named in
    cc
