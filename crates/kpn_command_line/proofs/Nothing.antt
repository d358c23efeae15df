-- Words that name a command and do not give it what it needs ask for nothing.
use Rattle.kpn_command_line.proofs.Common.{Bor, ◌≡◌, ◌∙◌, ◌||◌, ◌%◌, ℕ, length, Bool, true, false, true≢false, List, [], ◌∷◌, map, refl, sym, ap, subst, inl, inr, Option, Some, None, codes, Result, Ok, Err, unwrap_or, MatchResult, list_any, bytes_eq-Decides, IsAmong, fault_of, Row, DisplayHelp, DisplayVersion, Request, Explain, ExplainItems, Join, Rounds, Stats, Help, WordsFault, Usage, NoMemory, all_words, command_line, AnswersTo, AsksForHelp, IsAsked, IsNoneOf, IsNoTable, IsOf, IsRefused, IsUsageIf, NamesCommand, GivesToCommand, command_of, text_for, texts_for, number_for, is_set}
use Rattle.std.specs.Option.{is_some}
use Rattle.std.specs.Str.{bytes_eq}
use Rattle.std.proofs.lemmas.List.{length-map}

differ : (a b : List ℕ) → bytes_eq a a ≡ true → bytes_eq a b ≡ false → b ≡ a → ⊥
differ a b same other e = true≢false (sym same ∙ (ap (bytes_eq a) (sym e) ∙ other))

some_not_none : {X : Type 0} (o : Option X) (x : X) → o ≡ None → o ≡ Some x → ⊥
some_not_none o x none some = true≢false (ap is_some (sym some ∙ none))

same_names : (words : List (List ℕ)) (command other : List ℕ) (given more : List Row) → NamesCommand words command given
    → NamesCommand words other more → (command ≡ other) × (given ≡ more)
same_names words command other given more is also =
    let same = sym is.1 ∙ also.1 in (
      ap (λ (o : Option (List ℕ × List Row)). (unwrap_or o (command, given)).0) same,
      ap (λ (o : Option (List ℕ × List Row)). (unwrap_or o (command, given)).1) same,
    )

no_help : (words : List (List ℕ)) → fault_of command_line words ≡ [] → AsksForHelp words → ⊥
no_help words none (inl help) = subst (IsAmong DisplayHelp) none help
no_help words none (inr version) = subst (IsAmong DisplayVersion) none version

module _ (words : List (List ℕ)) (command : List ℕ) (given : List Row) (names : NamesCommand words command given) where
  is_asked : (request : Request) → IsOf command given request → IsAsked words request
  is_asked (Help text) is = absurd is.1
  is_asked other is = (given, subst (λ (name : List ℕ). NamesCommand words name given) (sym is.0) names, is.1)

  is_of : (request : Request) → IsAsked words request → IsOf command given request
  is_of (Help text) asked = absurd (no_help words names.0 asked)
  is_of other asked =
      let is = same_names words command _ given _ names asked.1 in
      (sym is.0, subst (λ (rows : List Row). GivesToCommand rows other) (sym is.1) asked.2)

  -- the answer to the command is the one to the words
  pub answer_to_words : (result : Result Request WordsFault) → AnswersTo command given result
      → MatchResult result (IsAsked words) (IsRefused words)
  answer_to_words (Ok request) is = is_asked request is
  answer_to_words (Err (Usage text)) none = inr (λ request asked. none request (is_of request asked))
  answer_to_words (Err NoMemory) none = tt

-- a fault about the use of words has the cause that follows from its own
pub usage_for : (cause more : Type 0) (fault : WordsFault) → (cause → more) → IsUsageIf cause fault
    → IsUsageIf more fault
usage_for cause more (Usage text) follows holds = follows holds
usage_for cause more NoMemory follows holds = tt

pub usage_if : (cause : Type 0) (fault : WordsFault) → cause → IsUsageIf cause fault
usage_if cause (Usage text) holds = holds
usage_if cause NoMemory holds = tt

-- ---- no command has this name

differs : (names : List (List ℕ)) (name other : List ℕ) → IsNoneOf names name
    → list_any (bytes_eq other) names ≡ true → other ≡ name → ⊥
differs [] name other none known e = true≢false (sym known)
differs (first ∷ names) name other none known e =
    go (bytes_eq other first) refl (λ more. differs names name other none.1 more e)
  where
    go : (b : Bool) → bytes_eq other first ≡ b → (list_any (bytes_eq other) names ≡ true → ⊥) → ⊥
    go true t rest = none.0 (sym e ∙ (bytes_eq-Decides other first).0 t)
    go false t rest = rest (ap (λ b. b || list_any (bytes_eq other) names) (sym t) ∙ known)

abbrev pub names_known : List (List ℕ)
names_known = map (λ words. words.top.name) all_words

pub no_command : (name : List ℕ) (given : List Row) → IsNoneOf names_known name → (request : Request)
    → IsOf name given request → ⊥
no_command name given none (Help text) is = is.1
no_command name given none other is = differs names_known name (command_of other) none refl is.0

-- ---- a command without what it needs

module _ (given : List Row) where
  pub no_number : number_for 32 (codes "N") given ≡ None → (request : Request) → IsOf (codes "rounds") given request → ⊥
  no_number none (Rounds file n sources) is = some_not_none _ _ none is.1.1
  no_number none other is = differ (codes "rounds") (command_of other) refl refl is.0

  pub no_table : IsNoTable (text_for (codes "TABLE") given) → (request : Request)
      → IsOf (codes "stats") given request → ⊥
  no_table none (Stats file trace steps tables) is = none tables is.1.3
  no_table none other is = differ (codes "stats") (command_of other) refl refl is.0

  pub no_items_with_trace : (it : List ℕ) → is_set (codes "ITEMS") given ≡ true
      → text_for (codes "TRACE") given ≡ Some it → (request : Request) → IsOf (codes "explain") given request → ⊥
  no_items_with_trace it set some (Explain file trace steps) is = true≢false (sym set ∙ is.1.3)
  no_items_with_trace it set some (ExplainItems file) is = some_not_none _ _ is.1.1 some
  no_items_with_trace it set some other is = differ (codes "explain") (command_of other) refl refl is.0

  pub no_pairs : (words : List (Bor (List ℕ))) → texts_for (codes "PARTS") given ≡ map (λ word. word.now) words
      → (length words % 2 ≡ 0 → ⊥) → (request : Request) → IsOf (codes "join") given request → ⊥
  no_pairs words are odd (Join file parts steps) is =
      let same : length parts.items ≡ length words =
      sym (length-map parts.items (λ word. word.now)) ∙ ap length (sym is.1.1 ∙ are) ∙ length-map words (λ word. word.now) in
      odd (ap (λ n. n % 2) (sym same) ∙ is.1.3)
  no_pairs words are odd other is = differ (codes "join") (command_of other) refl refl is.0
