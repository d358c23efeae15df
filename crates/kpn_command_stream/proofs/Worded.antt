-- The words after `--format`, one more at a time, and as the request has them.
use Rattle.kpn_command_stream.proofs.Common.{◌≡◌, ◌≢◌, ◌<◌, ◌+◌, ℕ, suc, List, Bor, All, [], ◌∷◌, ◌++◌, map, length, length-append, length-take, get_or, take, refl, sym, subst, ap, ◌∙◌, Option, Some, None, inl, inr, arith, cases_lt, AllPairs, get_or-map, get_or-take, get_or_append_left, get_or_at, get_or_default, length-map, map-append, take_more, All-map, All-push, all_pairs_push, Document, NamedEnd, EndPlace, ArePlaced, HasFormat, name_for, name_in, file_in, IsNoFormat, NamesFormat, ItemFormat, AreForEnds, IsForEnd, SaysFormat, common_format, first_that, format_end, format_word, has_equals, named_format}
use Rattle.std.specs.Prelude.{Bool, true, false, ◌&&◌, if◌then◌else◌, IfSome, codes, unwrap_or}
use Rattle.std.specs.Option.{option_or}
use Rattle.std.specs.Str.{bytes_eq}
use Rattle.kpn_stream_devices.specs.declared.formats.ItemFormat.TheVariants.{Lines}

-- one more word is for other ends than those before it
pub pair_more : (R : Bor (List ℕ) → Bor (List ℕ) → Type 0) (words : List (Bor (List ℕ))) (i : ℕ) (word : Bor (List ℕ))
    → i < length words → AllPairs R (take i words) → All (λ before. R before (get_or words i word)) (take i words)
    → AllPairs R (take (i + 1) words)
pair_more R words i word below before more =
    subst (λ ws. AllPairs R ws) (sym (take_more words i word below))
    (all_pairs_push R (take i words) (get_or words i word) before more)

-- what holds of the words in pairs holds of their bytes
pairs_map : {X Y : Type 0} (R : Y → Y → Type 0) (f : X → Y) (xs : List X) → AllPairs (λ x later. R (f x) (f later)) xs
    → AllPairs R (map f xs)
pairs_map R f [] apart i j d first within = absurd (omega (arith, within))
pairs_map R f (x ∷ xs) apart i j d first within =
    let below : j < length (x ∷ xs) = omega (arith, within, length-map (x ∷ xs) f) in
    let earlier : i < length (x ∷ xs) = omega (arith, first, below) in
    subst (λ y. R y (get_or (map f (x ∷ xs)) j d)) (sym (get_or-map f (x ∷ xs) i x d earlier))
    (subst (λ y. R (f (get_or (x ∷ xs) i x)) y) (sym (get_or-map f (x ∷ xs) j x d below)) (apart i j x first below))

pub pairs_unmap : {X Y : Type 0} (R : Y → Y → Type 0) (f : X → Y) (xs : List X) → AllPairs R (map f xs)
    → AllPairs (λ x later. R (f x) (f later)) xs
pairs_unmap R f xs apart i j d first within =
    subst (λ y. R y (f (get_or xs j d))) (get_or-map f xs i d (f d) (omega (arith, first, within)))
    (subst (λ y. R (get_or (map f xs) i (f d)) y) (get_or-map f xs j d (f d) within)
    (apart i j (f d) first (omega (arith, within, length-map xs f))))

-- what holds of each two holds of one and of all before it
pub pairs_first : {X : Type 0} (R : X → X → Type 0) (xs : List X) (i : ℕ) (x : X) → i < length xs → AllPairs R xs
    → All (λ before. R before (get_or xs i x)) (take i xs)
pairs_first R xs i x below apart k d within =
    let first : k < i = omega (arith, within, length-take i xs) in
    subst (λ y. R y (get_or xs i x))
    (get_or_default xs k x d (omega (arith, first, below)) ∙ sym (get_or-take i xs k d first)) (apart k i x first below)

-- what holds of the bytes of all words holds of the words
pub All-unmap : {X Y : Type 0} (P : Y → Type 0) (f : X → Y) (xs : List X) → All P (map f xs) → All (λ x. P (f x)) xs
All-unmap P f xs all k d below =
    subst P (get_or-map f xs k d (f d) below) (all k (f d) (omega (arith, below, length-map xs f)))

-- the words of a request are for ends
pub for_ends : (d : Document) (words : List (Bor (List ℕ))) → All (λ word. IsForEnd d word.now) words
    → AllPairs (λ word later. format_end word.now ≢ format_end later.now) words
    → AreForEnds d (map (λ word. word.now) words)
for_ends d words ends apart = record {
  ends = All-map (IsForEnd d) (λ word. word.now) words ends;
  apart = pairs_map (λ word later. format_end word ≢ format_end later) (λ word. word.now) words apart;
}

-- ---- if all words say formats, so does the word for each end

abbrev Named : List ℕ → Type 0
Named word = (format : ItemFormat) × NamesFormat word format

first_says : (says : List ℕ → Option (List ℕ)) → ((word : List ℕ) → SaysFormat word → IfSome (says word) Named)
    → (words : List (List ℕ)) → All SaysFormat words → IfSome (first_that says words) Named
first_says says each [] all = tt
first_says says each (word ∷ words) all =
    step (says word) (each word (all 0 [] (omega arith)))
    (first_says says each words (λ k d within. all (suc k) d (omega (arith, within))))
  where
    step : (said : Option (List ℕ)) → IfSome said Named → IfSome (first_that says words) Named
        → IfSome (option_or said (first_that says words)) Named
    step None first rest = rest
    step (Some format) first rest = first

named_by : (has is : Bool) (file word : List ℕ) → Named (if has then file else word)
    → IfSome (if has && is then Some file else None) Named
named_by true true file word says = says
named_by true false file word says = tt
named_by false is file word says = tt

common_by : (has : Bool) (file word : List ℕ) → Named (if has then file else word)
    → IfSome (if has then None else Some word) Named
common_by true file word says = tt
common_by false file word says = says

or_else : (said : Option (List ℕ)) (usual : List ℕ) → IfSome said Named → Named usual → Named (unwrap_or said usual)
or_else None usual says other = other
or_else (Some format) usual says other = says

says_word : (words : List (List ℕ)) (name : List ℕ) → All SaysFormat words
    → (format : ItemFormat) × NamesFormat (format_word words name) format
says_word words name all =
    or_else (first_that (λ word. named_format word name) words)
    (unwrap_or (first_that common_format words) (codes "lines"))
    (first_says (λ word. named_format word name)
    (λ word says. named_by (has_equals word) (bytes_eq (name_in word) name) (file_in word) word says) words all)
    (or_else (first_that common_format words) (codes "lines")
    (first_says common_format (λ word says. common_by (has_equals word) (file_in word) word says) words all)
    (Lines, inl refl))

pub says_none : (words : List (List ℕ)) (name : List ℕ) → IsNoFormat (format_word words name) → ¬ All SaysFormat words
says_none words name none all = let said = says_word words name all in none said.0 said.1

-- one more end has its place
pub placed_more : (d : Document) (named : List NamedEnd) (words : List (List ℕ)) (ends : List ℕ) (number : ℕ)
    (places : List EndPlace) (place : EndPlace) → ArePlaced d named words ends number places → number < length ends
    → place.channel ≡ get_or ends number 0 → name_for named number (length ends) ≡ Some place.name.now
    → HasFormat d words place → ArePlaced d named words ends (number + 1) (places ++ place ∷ [])
placed_more d named words ends number places place before below channel name format = record {
  channels =
      map-append (λ (p : EndPlace). p.channel) places (place ∷ [])
      ∙ ap (λ (ns : List ℕ). ns ++ place.channel ∷ []) before.channels
      ∙ ap (λ (n : ℕ). take number ends ++ n ∷ []) channel ∙ sym (take_more ends number 0 below);
  count = omega (arith, length-append places (place ∷ []), before.count);
  each = each;
  formats = All-push (HasFormat d words) places place before.formats format;
}
  where
    each : (k : ℕ) (any : EndPlace) → k < length (places ++ place ∷ [])
        → name_for named k (length ends) ≡ Some (get_or (places ++ place ∷ []) k any).name.now
    each k any within = elim (cases_lt k (length places)) [
      | inl less ↦
          before.each k any less
          ∙ ap (λ (p : EndPlace). Some p.name.now) (sym (get_or_append_left places (place ∷ []) any k less))
      | inr least ↦
          let last : k ≡ number = omega (arith, least, within, length-append places (place ∷ []), before.count) in
          ap (λ (n : ℕ). name_for named n (length ends)) last ∙ name
          ∙ ap (λ (p : EndPlace). Some p.name.now)
          (sym (get_or_at places place [] any k (omega (arith, last, before.count))))
    ]
