-- Whole traces: their lines taken off one after another, and the laws.
use Rattle.kpn_trace.proofs.Common.{◌≡◌, ℕ, suc, ◌+◌, Bool, true, false, List, [], ◌∷◌, ◌++◌, length, take, get_or, Option, Some, refl, sym, ap, ◌∙◌, subst, arith, append_assoc, append-nil, bytes_eq, false≢true, Appends, slice_get_within, get_or_from_slice_get, take_more, All-head, All-tail, Event, Version, One, Two, line_of, IsInRange, SpellsEvent, LacksByte, version_line, rules_line, head_text, IsHead, head_lines, event_text, events_text, trace_text, HasBadHead}
use Rattle.std.specs.List.{All, slice_get}
use Rattle.std.proofs.KnownBytes.{Appends-trans}
use Rattle.std.proofs.lemmas.List.Concat.{flat_map-append}
use Rattle.kpn_net.specs.declared.tables.Policy.{Policy}
use Rattle.kpn_net.specs.declared.tables.Policy.TheVariants as policies
use Rattle.kpn_net.specs.declared.tables.Growth.{Growth}
use Rattle.kpn_net.specs.declared.tables.Growth.TheVariants as growths
use Rattle.kpn_trace.specs.declared.fault.TraceFault.TheVariants.{BadHead, BadEvent, NoMemory}
use Rattle.kpn_trace.specs.Laws.{TraceSpellsOne, SpelledIsRead, OneBadLine}
use Rattle.kpn_trace.proofs.Parting.{cut}
use Rattle.kpn_trace.proofs.Lines.{line_spells_one, line_lacks_feed}

-- ---- the first line

-- the text of an event and what follows, parted by the line feed
pub text_and_more : (v : Version) (event : Event) (more : List ℕ)
    → event_text v event ++ more ≡ line_of v event ++ 10 ∷ more
text_and_more v event more = append_assoc (line_of v event) (10 ∷ []) more

-- texts that begin with lines of two events
pub same_line : (v : Version) (a b : Event) (more rest : List ℕ) → IsInRange v a → IsInRange v b
    → event_text v a ++ more ≡ event_text v b ++ rest → (line_of v a ≡ line_of v b) × (more ≡ rest)
same_line v a b more rest fits also e =
    cut 10 (line_of v a) (line_of v b) more rest (line_lacks_feed v a fits) (line_lacks_feed v b also)
    (sym (text_and_more v a more) ∙ e ∙ text_and_more v b rest)

pub same_event : (v : Version) (a b : Event) (more rest : List ℕ) → IsInRange v a → IsInRange v b
    → event_text v a ++ more ≡ event_text v b ++ rest → (a ≡ b) × (more ≡ rest)
same_event v a b more rest fits also e =
    let lines = same_line v a b more rest fits also e in (
      line_spells_one v (line_of v a) a b (record { whole = refl; in_range = fits })
          (record { whole = lines.0; in_range = also }),
      lines.1,
    )

-- no text of an event is empty
filled : (xs ys : List ℕ) (x : ℕ) → xs ++ x ∷ ys ≡ [] → ⊥
filled [] ys x e = absurd (cc)
filled (y ∷ xs) ys x e = absurd (cc)

some_text : (v : Version) (event : Event) (more : List ℕ) → event_text v event ++ more ≡ [] → ⊥
some_text v event more e = filled (line_of v event) more 10 (sym (text_and_more v event more) ∙ e)

-- a first line that spells no event, or that lacks its line feed
pub no_event : (v : Version) (bytes line rest : List ℕ) (event : Event) (more : List ℕ) → bytes ≡ line ++ 10 ∷ rest
    → LacksByte 10 line → ((e : Event) → SpellsEvent v line e → ⊥) → IsInRange v event
    → bytes ≡ event_text v event ++ more → ⊥
no_event v bytes line rest event more split lacks none fits e =
    let both =
    cut 10 line (line_of v event) rest more lacks (line_lacks_feed v event fits)
    (sym split ∙ e ∙ text_and_more v event more) in
    none event (record { whole = both.0; in_range = fits })

-- ---- lines one after another

-- the text of events with one more
pub one_more : (v : Version) (p : Policy) (g : Growth) (events : List Event) (event : Event)
    → trace_text v p g (events ++ event ∷ []) ≡ trace_text v p g events ++ event_text v event
one_more v p g events event =
    ap (λ t. head_text v p g ++ t)
    (flat_map-append (event_text v) events (event ∷ [])
    ∙ ap (λ t. events_text v events ++ t) (append-nil (event_text v event)))
    ∙ sym (append_assoc (head_text v p g) (events_text v events) (event_text v event))

-- one more line is taken off
pub one_more_read : (v : Version) (p : Policy) (g : Growth) (bytes : List ℕ) (events : List Event)
    (rest after : List ℕ) (event : Event)
    → bytes ≡ trace_text v p g events ++ rest → rest ≡ event_text v event ++ after
    → bytes ≡ trace_text v p g (events ++ event ∷ []) ++ after
one_more_read v p g bytes events rest after event whole first =
    whole ∙ ap (λ t. trace_text v p g events ++ t) first
    ∙ sym (append_assoc (trace_text v p g events) (event_text v event) after)
    ∙ ap (λ t. t ++ after) (sym (one_more v p g events event))

-- one more line is written
pub one_more_written : (v : Version) (p : Policy) (g : Growth) (a b c : Option (List ℕ)) (events : List Event) (i : ℕ)
    (event : Event)
    → slice_get events i ≡ Some event → Appends a b (trace_text v p g (take i events))
    → Appends b c (event_text v event)
    → Appends a c (trace_text v p g (take (i + 1) events))
one_more_written v p g a b c events i event at so_far now =
    let below = slice_get_within events i event at in
    let is : get_or events i event ≡ event = get_or_from_slice_get events i event event at in
    let text : trace_text v p g (take i events) ++ event_text v event ≡ trace_text v p g (take (i + 1) events) =
    sym (one_more v p g (take i events) event)
    ∙ ap (λ e. trace_text v p g (take i events ++ e ∷ [])) (sym is)
    ∙ ap (trace_text v p g) (sym (take_more events i event below)) in
    subst (Appends a c) text (Appends-trans a b c (trace_text v p g (take i events)) (event_text v event) so_far now)

-- ---- the first lines

no_feed_in_version : (v : Version) → LacksByte 10 (version_line v)
no_feed_in_version One = refl
no_feed_in_version Two = refl

no_feed_in_rules : (p : Policy) (g : Growth) → LacksByte 10 (rules_line p g)
no_feed_in_rules policies.Cycles growths.One = refl
no_feed_in_rules policies.Cycles growths.Double = refl
no_feed_in_rules policies.All growths.One = refl
no_feed_in_rules policies.All growths.Double = refl

-- a line that is that of neither version
pub neither : (line : List ℕ) (v : Version) → ¬ (line ≡ version_line One) → ¬ (line ≡ version_line Two)
    → line ≡ version_line v → ⊥
neither line One one two e = one e
neither line Two one two e = two e

same_version : (v w : Version) → version_line v ≡ version_line w → v ≡ w
same_version One One e = refl
same_version Two Two e = refl
same_version One Two e =
    let clash : ◌≡◌ {A = Bool} false true = ap (λ xs. bytes_eq xs (version_line Two)) e in absurd (false≢true clash)
same_version Two One e =
    let clash : ◌≡◌ {A = Bool} false true = ap (λ xs. bytes_eq xs (version_line One)) e in absurd (false≢true clash)

-- what comes after the first line
abbrev behind_version : Version → Policy → Growth → (more : List ℕ) → List ℕ
behind_version One p g more = more
behind_version Two p g more = rules_line p g ++ 10 ∷ more

head_is : (v : Version) (p : Policy) (g : Growth) (more : List ℕ)
    → head_text v p g ++ more ≡ version_line v ++ 10 ∷ behind_version v p g more
head_is One p g more = refl
head_is Two p g more = ap (λ t. version_line Two ++ 10 ∷ t) (append_assoc (rules_line p g) (10 ∷ []) more)

-- bytes parted at the first line feed, whose first line is that of no version
pub no_version : (bytes line rest : List ℕ) → bytes ≡ line ++ 10 ∷ rest → LacksByte 10 line
    → ((v : Version) → line ≡ version_line v → ⊥) → HasBadHead bytes
no_version bytes line rest split lacks none v p g head more e =
    none v
    (cut 10 line (version_line v) rest (behind_version v p g more) lacks (no_feed_in_version v)
    (sym split ∙ e ∙ head_is v p g more)).0

-- the same if the second line names no policy and growth
pub no_rules : (bytes line rest second more_lines : List ℕ) → bytes ≡ line ++ 10 ∷ rest → LacksByte 10 line
    → line ≡ version_line Two → rest ≡ second ++ 10 ∷ more_lines → LacksByte 10 second
    → ((p : Policy) (g : Growth) → second ≡ rules_line p g → ⊥) → HasBadHead bytes
no_rules bytes line rest second more_lines split lacks two then few none v p g head more e =
    let first =
    cut 10 line (version_line v) rest (behind_version v p g more) lacks (no_feed_in_version v)
    (sym split ∙ e ∙ head_is v p g more) in
    by_version v (same_version Two v (sym two ∙ first.0)) first.1
  where
    by_version : (w : Version) → Two ≡ w → rest ≡ behind_version w p g more → ⊥
    by_version One is behind = absurd (cc)
    by_version Two is behind =
        none p g (cut 10 second (rules_line p g) more_lines more few (no_feed_in_rules p g) (sym then ∙ behind)).0

-- ---- one head

differ : {X : Type 0} (xs ys : List ℕ) → bytes_eq xs ys ≡ false → bytes_eq ys ys ≡ true → xs ≡ ys → X
differ xs ys fails passes e = absurd (false≢true (sym fails ∙ ap (λ zs. bytes_eq zs ys) e ∙ passes))

same_rules : (p q : Policy) (g h : Growth) → rules_line p g ≡ rules_line q h → (p ≡ q) × (g ≡ h)
same_rules policies.Cycles policies.Cycles growths.One growths.One e = (refl, refl)
same_rules policies.Cycles policies.Cycles growths.Double growths.Double e = (refl, refl)
same_rules policies.All policies.All growths.One growths.One e = (refl, refl)
same_rules policies.All policies.All growths.Double growths.Double e = (refl, refl)
same_rules policies.Cycles policies.Cycles growths.One growths.Double e =
    differ (rules_line policies.Cycles growths.One) (rules_line policies.Cycles growths.Double) refl refl e
same_rules policies.Cycles policies.Cycles growths.Double growths.One e =
    differ (rules_line policies.Cycles growths.Double) (rules_line policies.Cycles growths.One) refl refl e
same_rules policies.Cycles policies.All growths.One growths.One e =
    differ (rules_line policies.Cycles growths.One) (rules_line policies.All growths.One) refl refl e
same_rules policies.Cycles policies.All growths.One growths.Double e =
    differ (rules_line policies.Cycles growths.One) (rules_line policies.All growths.Double) refl refl e
same_rules policies.Cycles policies.All growths.Double growths.One e =
    differ (rules_line policies.Cycles growths.Double) (rules_line policies.All growths.One) refl refl e
same_rules policies.Cycles policies.All growths.Double growths.Double e =
    differ (rules_line policies.Cycles growths.Double) (rules_line policies.All growths.Double) refl refl e
same_rules policies.All policies.Cycles growths.One growths.One e =
    differ (rules_line policies.All growths.One) (rules_line policies.Cycles growths.One) refl refl e
same_rules policies.All policies.Cycles growths.One growths.Double e =
    differ (rules_line policies.All growths.One) (rules_line policies.Cycles growths.Double) refl refl e
same_rules policies.All policies.Cycles growths.Double growths.One e =
    differ (rules_line policies.All growths.Double) (rules_line policies.Cycles growths.One) refl refl e
same_rules policies.All policies.Cycles growths.Double growths.Double e =
    differ (rules_line policies.All growths.Double) (rules_line policies.Cycles growths.Double) refl refl e
same_rules policies.All policies.All growths.One growths.Double e =
    differ (rules_line policies.All growths.One) (rules_line policies.All growths.Double) refl refl e
same_rules policies.All policies.All growths.Double growths.One e =
    differ (rules_line policies.All growths.Double) (rules_line policies.All growths.One) refl refl e

pub record SameHead (v w : Version) (p q : Policy) (g h : Growth) (xs ys : List ℕ) : Type 0 where
  pub version : v ≡ w
  pub policy : p ≡ q
  pub growth : g ≡ h
  pub rest : xs ≡ ys

-- texts that begin with first lines
pub same_head : (v w : Version) (p q : Policy) (g h : Growth) (xs ys : List ℕ) → IsHead v p g → IsHead w q h
    → head_text v p g ++ xs ≡ head_text w q h ++ ys → SameHead v w p q g h xs ys
same_head v w p q g h xs ys head other e =
    let first =
    cut 10 (version_line v) (version_line w) (behind_version v p g xs) (behind_version w q h ys)
    (no_feed_in_version v) (no_feed_in_version w) (sym (head_is v p g xs) ∙ e ∙ head_is w q h ys) in
    by_version v w (same_version v w first.0) head other first.1
  where
    by_version : (v w : Version) → v ≡ w → IsHead v p g → IsHead w q h
        → behind_version v p g xs ≡ behind_version w q h ys → SameHead v w p q g h xs ys
    by_version One One is head other rest = record {
      version = refl;
      policy = head.0 ∙ sym other.0;
      growth = head.1 ∙ sym other.1;
      rest = rest;
    }
    by_version Two Two is head other rest =
        let second =
        cut 10 (rules_line p g) (rules_line q h) xs ys (no_feed_in_rules p g) (no_feed_in_rules q h) rest in
        let rules = same_rules p q g h second.0 in
        record { version = refl; policy = rules.0; growth = rules.1; rest = second.1 }
    by_version One Two is head other rest = absurd (cc)
    by_version Two One is head other rest = absurd (cc)

-- ---- the laws

same_events : (v : Version) (xs ys : List Event) → All (IsInRange v) xs → All (IsInRange v) ys
    → events_text v xs ≡ events_text v ys → xs ≡ ys
same_events v [] [] fits also e = refl
same_events v [] (y ∷ ys) fits also e = absurd (some_text v y (events_text v ys) (sym e))
same_events v (x ∷ xs) [] fits also e = absurd (some_text v x (events_text v xs) e)
same_events v (x ∷ xs) (y ∷ ys) fits also e =
    let first =
    same_event v x y (events_text v xs) (events_text v ys) (All-head (IsInRange v) x xs fits)
    (All-head (IsInRange v) y ys also) e in
    let rest = same_events v xs ys (All-tail (IsInRange v) x xs fits) (All-tail (IsInRange v) y ys also) first.1 in
    cc (first.0, rest)

pub trace_spells_one : {A : Type 0} → TraceSpellsOne A
trace_spells_one bytes x y spells also =
    let same =
    same_head x.version y.version x.policy y.policy x.growth y.growth (events_text x.version x.events)
    (events_text y.version y.events) spells.head also.head (sym spells.whole ∙ also.whole) in
    record {
      version = same.version;
      policy = same.policy;
      growth = same.growth;
      events =
          same_events x.version x.events y.events spells.in_range
          (subst (λ v. All (IsInRange v) y.events) (sym same.version) also.in_range)
          (subst (λ v. events_text x.version x.events ≡ events_text v y.events) (sym same.version) same.rest);
    }

-- something that no line of an event begins comes after no part of a whole text
no_bad_rest : (v : Version) (before events : List Event) (rest : List ℕ) → All (IsInRange v) before
    → All (IsInRange v) events → events_text v before ++ rest ≡ events_text v events → (rest ≡ [] → ⊥)
    → ((event : Event) (more : List ℕ) → IsInRange v event → rest ≡ event_text v event ++ more → ⊥) → ⊥
no_bad_rest v [] [] rest fits also e some none = some e
no_bad_rest v [] (y ∷ ys) rest fits also e some none =
    none y (events_text v ys) (All-head (IsInRange v) y ys also) e
no_bad_rest v (x ∷ xs) [] rest fits also e some none =
    some_text v x (events_text v xs ++ rest) (sym (append_assoc (event_text v x) (events_text v xs) rest) ∙ e)
no_bad_rest v (x ∷ xs) (y ∷ ys) rest fits also e some none =
    let first =
    same_line v x y (events_text v xs ++ rest) (events_text v ys) (All-head (IsInRange v) x xs fits)
    (All-head (IsInRange v) y ys also) (sym (append_assoc (event_text v x) (events_text v xs) rest) ∙ e) in
    no_bad_rest v xs ys rest (All-tail (IsInRange v) x xs fits) (All-tail (IsInRange v) y ys also) first.1 some none

pub spelled_is_read : {A : Type 0} → SpelledIsRead A
spelled_is_read bytes trace spells BadHead refused =
    absurd
    (refused trace.version trace.policy trace.growth spells.head (events_text trace.version trace.events)
    spells.whole)
spelled_is_read bytes trace spells (BadEvent line) refused =
    let same =
    same_head refused.version trace.version refused.policy trace.policy refused.growth trace.growth
    (events_text refused.version refused.before ++ refused.rest) (events_text trace.version trace.events)
    refused.head spells.head
    (sym
    (append_assoc (head_text refused.version refused.policy refused.growth)
    (events_text refused.version refused.before) refused.rest)
    ∙ sym refused.whole ∙ spells.whole) in
    absurd
    (no_bad_rest refused.version refused.before trace.events refused.rest refused.in_range
    (subst (λ v. All (IsInRange v) trace.events) (sym same.version) spells.in_range)
    (subst (λ v. events_text refused.version refused.before ++ refused.rest ≡ events_text v trace.events)
    (sym same.version) same.rest) refused.is_something refused.spells_none)
spelled_is_read bytes trace spells NoMemory refused = refl

-- two first bad places are one
same_place : (v : Version) (xs ys : List Event) (r s : List ℕ) → All (IsInRange v) xs → All (IsInRange v) ys
    → events_text v xs ++ r ≡ events_text v ys ++ s
    → ((event : Event) (more : List ℕ) → IsInRange v event → r ≡ event_text v event ++ more → ⊥)
    → ((event : Event) (more : List ℕ) → IsInRange v event → s ≡ event_text v event ++ more → ⊥)
    → length xs ≡ length ys
same_place v [] [] r s fits also e none nor = refl
same_place v [] (y ∷ ys) r s fits also e none nor =
    absurd
    (none y (events_text v ys ++ s) (All-head (IsInRange v) y ys also)
    (e ∙ append_assoc (event_text v y) (events_text v ys) s))
same_place v (x ∷ xs) [] r s fits also e none nor =
    absurd
    (nor x (events_text v xs ++ r) (All-head (IsInRange v) x xs fits)
    (sym e ∙ append_assoc (event_text v x) (events_text v xs) r))
same_place v (x ∷ xs) (y ∷ ys) r s fits also e none nor =
    let first =
    same_line v x y (events_text v xs ++ r) (events_text v ys ++ s) (All-head (IsInRange v) x xs fits)
    (All-head (IsInRange v) y ys also)
    (sym (append_assoc (event_text v x) (events_text v xs) r) ∙ e
    ∙ append_assoc (event_text v y) (events_text v ys) s) in
    ap suc
    (same_place v xs ys r s (All-tail (IsInRange v) x xs fits) (All-tail (IsInRange v) y ys also) first.1 none nor)

pub one_bad_line : OneBadLine
one_bad_line bytes m n bad also =
    let same =
    same_head bad.version also.version bad.policy also.policy bad.growth also.growth
    (events_text bad.version bad.before ++ bad.rest) (events_text also.version also.before ++ also.rest) bad.head
    also.head
    (sym
    (append_assoc (head_text bad.version bad.policy bad.growth) (events_text bad.version bad.before) bad.rest)
    ∙ sym bad.whole ∙ also.whole
    ∙ append_assoc (head_text also.version also.policy also.growth) (events_text also.version also.before)
    also.rest) in
    let place =
    same_place bad.version bad.before also.before bad.rest also.rest bad.in_range
    (subst (λ v. All (IsInRange v) also.before) (sym same.version) also.in_range)
    (subst (λ v. events_text bad.version bad.before ++ bad.rest ≡ events_text v also.before ++ also.rest)
    (sym same.version) same.rest) bad.spells_none
    (subst
    (λ v. (event : Event) (more : List ℕ) → IsInRange v event → also.rest ≡ event_text v event ++ more → ⊥)
    (sym same.version) also.spells_none) in
    let lines = ap head_lines same.version in
    omega (arith, bad.counted, also.counted, place, lines)
