-- Lists of places and of sinks, one more at a time.
use Rattle.std.proofs.Common.{◌≡◌, ℕ, zero, suc, ◌+◌, ◌<◌, ◌≤◌, Bool, true, false, cond, not, Bor, List, [], ◌∷◌, ◌++◌, map, take, length, get_or, slice_set, All, append-nil, take_all, le_refl, refl, Some, Result, Ok, Err, sym, ap, ◌∙◌, subst, arith, Option, None}
use Rattle.kpn_command_stream.proofs.Common.{AllPairs, AllZip, filter, map-append, take_more, take_more_set, All-push, All-same, filter_more, all_pairs_push, Document, EndKind, NamedEnd, FileWords, is_end, ends_named, StreamRequest, now, end_numbers, SinkFault, EndPlace, Lost, names_standard, stream_words_of, name_for, AllPlaced, ArePlacesOfEnds}
use Rattle.kpn_text_items.proofs.FileLemmas.{AllZip-push}
use Rattle.kpn_stream.specs.declared.faults.SinkFault.TheVariants.{Gone, NoSample, Write, NoMemory}
use Rattle.kpn_stream_devices.specs.declared.outputs.SinkOutput.{SinkOutput}
use Rattle.kpn_command_stream.specs.Command.{HandedOn, IsOutputFor, IsOutputOf, KeepsName, one_more, losses}

-- all places go by what the options name
pub all_placed : (ends : EndKind) (d : Document) (names files words : List (List ℕ)) (named : List NamedEnd)
    (places : List EndPlace) → ends_named ends d names ≡ Ok (map (λ end. end.number) named)
    → map (λ end. end.file.now) named ≡ files → AllPlaced d named words (end_numbers (is_end ends) d.tables) places
    → ArePlacesOfEnds ends d names files words places
all_placed ends d names files words named places numbers given placed =
    let all = end_numbers (is_end ends) d.tables in
    record {
      named = named;
      numbers = numbers;
      given = given;
      channels = placed.channels ∙ take_all (length all) all (le_refl (length all));
      each = λ number place below.
          ap (λ (n : ℕ). name_for named number n) placed.count ∙ placed.each number place below;
      formats = placed.formats;
    }

-- one item more has what it needs
pub zipped_more : {A B : Type 0} (R : A → B → Type 0) (xs : List A) (ys : List B) (i : ℕ) (x : A) (y : B)
    → AllZip R (take i xs) ys → i < length xs → x ≡ get_or xs i x → R x y → AllZip R (take (i + 1) xs) (ys ++ y ∷ [])
zipped_more R xs ys i x y so_far below at is =
    subst (λ zs. AllZip R zs (ys ++ y ∷ []))
    (ap (λ z. take i xs ++ z ∷ []) at ∙ sym (take_more xs i x below))
    (AllZip-push R (take i xs) ys x y so_far is)

-- what holds of the first places holds of one more
pub all_next : (P : EndPlace → Type 0) (places : List EndPlace) (i : ℕ) (d : EndPlace) → i < length places
    → All P (take i places) → P (get_or places i d) → All P (take (i + 1) places)
all_next P places i d below before more =
    subst (All P) (sym (take_more places i d below)) (All-push P (take i places) (get_or places i d) before more)

pub pairs_next : (R : EndPlace → EndPlace → Type 0) (places : List EndPlace) (i : ℕ) (d : EndPlace) → i < length places
    → AllPairs R (take i places) → All (λ earlier. R earlier (get_or places i d)) (take i places)
    → AllPairs R (take (i + 1) places)
pairs_next R places i d below pairs all =
    subst (AllPairs R) (sym (take_more places i d below))
    (all_pairs_push R (take i places) (get_or places i d) pairs all)

-- ---- outputs

-- the words that have passed a test are those whose text has
pub map-filter : (p : List ℕ → Bool) (words : List (Bor (List ℕ)))
    → map now (filter (λ word. p word.now) words) ≡ filter p (map now words)
map-filter p [] = refl
map-filter p (word ∷ words) = kept (p word.now) (map-filter p words)
  where
    kept : (is : Bool) → map now (filter (λ w. p w.now) words) ≡ filter p (map now words)
        → map now (cond is (word ∷ filter (λ w. p w.now) words) (filter (λ w. p w.now) words))
        ≡ cond is (word.now ∷ filter p (map now words)) (filter p (map now words))
    kept true same = ap (λ ws. word.now ∷ ws) same
    kept false same = same

-- one word more has passed, or has not
module _ (p : Bor (List ℕ) → Bool) (words : List (Bor (List ℕ))) (i : ℕ) (d : Bor (List ℕ))
    (files more : List (Bor (List ℕ))) (so_far : files ≡ filter p (take i words)) (below : i < length words) where
  pub filter_kept : p (get_or words i d) ≡ true → more ≡ files ++ get_or words i d ∷ []
      → more ≡ filter p (take (i + 1) words)
  filter_kept passes is =
      is ∙ ap (λ fs. fs ++ get_or words i d ∷ []) so_far
      ∙ ap (λ b. filter p (take i words) ++ cond b (get_or words i d ∷ []) []) (sym passes)
      ∙ sym (filter_more p words i d below)

  pub filter_left : p (get_or words i d) ≡ false → more ≡ files → more ≡ filter p (take (i + 1) words)
  filter_left fails is =
      is ∙ so_far ∙ sym (append-nil (filter p (take i words)))
      ∙ ap (λ b. filter p (take i words) ++ cond b (get_or words i d ∷ []) []) (sym fails)
      ∙ sym (filter_more p words i d below)

-- the words of a request that have passed a test, as they were handed on
pub words_kept : (p : List ℕ → Bool) (sources asked : List (List ℕ)) (handed files given words : List (Bor (List ℕ)))
    → sources ≡ map now handed → handed ≡ files → files ≡ filter (λ word. p word.now) given → given ≡ words
    → map now words ≡ asked → sources ≡ filter p asked
words_kept p sources asked handed files given words is same kept same_given are =
    is ∙ ap (map now) (same ∙ kept ∙ ap (filter (λ (word : Bor (List ℕ)). p word.now)) same_given)
    ∙ map-filter p words ∙ ap (filter p) are

-- the words that were asked are those of the request
pub asked_are : (asked : FileWords) (request : StreamRequest) → asked.file ≡ request.file
    → asked.sources ≡ filter (λ word. not (names_standard word)) request.sources
    → asked.sinks ≡ request.sinks → asked.trace ≡ request.trace → asked ≡ stream_words_of request
asked_are asked request file sources sinks trace =
    let own = stream_words_of request in
    ap (λ (f : List ℕ). record asked { file = f }) file
    ∙ ap (λ (s : List (List ℕ)). record asked { file = own.file; sources = s }) sources
    ∙ ap (λ (s : List (List ℕ)). record asked { file = own.file; sources = own.sources; sinks = s }) sinks
    ∙ ap (λ (t : Option (List ℕ)). record own { trace = t }) trace

-- each output stays one for its place if one of them is changed so that it does
pub zipped_set : {A B : Type 0} (R : A → B → Type 0) (xs : List A) (ys : List B) (i : ℕ) (d y : B) → AllZip R xs ys
    → i < length ys → ((x : A) → R x (get_or ys i d) → R x y) → AllZip R xs (slice_set ys i y)
zipped_set R [] [] i d y are below same = absurd (omega arith)
zipped_set R [] (z ∷ ys) i d y are below same = absurd are
zipped_set R (x ∷ xs) [] i d y are below same = absurd are
zipped_set R (x ∷ xs) (z ∷ ys) zero d y are below same = (same x are.0, are.1)
zipped_set R (x ∷ xs) (z ∷ ys) (suc i) d y are below same =
    (are.0, zipped_set R xs ys i d y are.1 (omega arith) same)

-- an output whose file keeps its name stays one for its place
pub still_for : {G : Type 0} (goes_to : G → List ℕ) (request : StreamRequest) (place : EndPlace)
    (old new : SinkOutput G)
    → new.channel ≡ old.channel → new.format ≡ old.format → new.bytes ≡ old.bytes
    → KeepsName goes_to old.file new.file → IsOutputFor goes_to request place old → IsOutputFor goes_to request place new
still_for {G} goes_to request place old new channel format bytes name is = record {
  channel = channel ∙ is.channel;
  format = format ∙ is.format;
  file = named old.file new.file name is.file;
  bytes = ap (λ v. v.items) bytes ∙ is.bytes;
}
  where
    named : (before after : Option G) → KeepsName goes_to before after → IsOutputOf goes_to place.name.now before
        → IsOutputOf goes_to place.name.now after
    named None None name is = is
    named None (Some after) name is = absurd name
    named (Some file) None name is = absurd name
    named (Some file) (Some after) name is = (is.0, name ∙ is.1)

-- what holds of the first ones holds of one more
pub all_more : {A : Type 0} (P : A → Type 0) (xs : List A) (i : ℕ) (y : A) → All P (take i xs) → i < length xs → P y
    → All P (take (i + 1) (slice_set xs i y))
all_more P xs i y all below is =
    All-same P _ _ (take_more_set xs i y below) (All-push P (take i xs) y all is)

-- one output more hands on what it kept
pub handed_more : {K : Type 0} (flushes : K → ℕ → Result (Unit {0}) SinkFault → K → Type 0) (first : K)
    (places : List EndPlace) (i : ℕ) (lost : List Lost) (answer : Result (Unit {0}) SinkFault) (before now : K)
    (place : EndPlace) (listed : List Lost)
    → HandedOn flushes first (map (λ (p : EndPlace). p.channel) (take i places)) lost before → i < length places
    → place ≡ get_or places i place → flushes before place.channel answer now
    → listed ≡ lost ++ losses place.channel answer
    → HandedOn flushes first (map (λ (p : EndPlace). p.channel) (take (i + 1) places)) listed now
handed_more flushes first places i lost answer before now place listed so_far below at does lists =
    subst (λ (cs : List ℕ). HandedOn flushes first cs listed now)
    (sym
    (ap (map (λ (p : EndPlace). p.channel)) (take_more places i place below
    ∙ ap (λ p. take i places ++ p ∷ []) (sym at))
    ∙ map-append (λ (p : EndPlace). p.channel) (take i places) (place ∷ [])))
    (subst
    (λ (ls : List Lost).
    HandedOn flushes first (map (λ (p : EndPlace). p.channel) (take i places) ++ place.channel ∷ []) ls now)
    (sym lists) (one_more _ place.channel lost answer before now so_far does))

-- it loses at most one thing
pub losses_few : (c : ℕ) (answer : Result (Unit {0}) SinkFault) → length (losses c answer) ≤ 1
losses_few c (Ok done) = omega arith
losses_few c (Err Gone) = omega arith
losses_few c (Err Write) = omega arith
losses_few c (Err NoMemory) = omega arith
losses_few c (Err (NoSample item)) = omega arith
