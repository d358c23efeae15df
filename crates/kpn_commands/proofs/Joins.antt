-- Parts that are loaded one after the other, and what their audits show of the whole if they are joined.
use Rattle.kpn_commands.proofs.Common.{◌≡◌, ◌↔◌, ℕ, suc, ◌+◌, ◌*◌, ◌/◌, codes, Result, IfErr, ◌<◌, ◌≤◌, ◌⊎◌, ℤ, Bool, true, false, ◌&&◌, eqb, List, [], ◌∷◌, ◌++◌, length, map, take, get_or, Option, Some, None, refl, sym, ap, ◌∙◌, subst, inl, inr, arith, IfErr-weaker, list_all, range_with_len, Tables, IsNetwork, lists_of, Event, Part, whole_channel, empty_part, part_at, IsCut, IsHome, AreHomes, history_at, Loads, TellsOnly, lines_from, part_file, trace_file, HasEvents, AreRead, capacity_at, IsFlawOf, TellsOfFlaw, IsPartRefused, IsRefusalOfPart, AreAudited, AreLoaded, LoadsPart, HasTables, journal_in, audited_journal, audited_capacity, AreIn, has_all, is_settled, is_part_at_rest}
use Rattle.std.specs.Prelude.{IfSome, IfNone, is_some}
use Rattle.std.specs.Borrow.{Bor}
use Rattle.std.specs.Option.{option_map_or}
use Rattle.std.specs.declared.alloc.Global.{Global}
use Rattle.std.proofs.lemmas.Bool.{cases_eq, cases_lt, cases_Bool, both_ways, eqb-true, eq-eqb}
use Rattle.std.proofs.lemmas.List.{length-map, get_or-map, get_or_past, map-append, take_more}
use Rattle.std.proofs.lemmas.List.Folds.{list_all_at}
use Rattle.std.proofs.lemmas.List.FromFn.{get_or-map-range_with_len, length-map-range_with_len}
use Rattle.std.proofs.lemmas.Option.{slice_get-get_or}
use Rattle.std.proofs.Math.ListN.{get_or-append}
use Rattle.std.proofs.Math.Seq.{get_or-append_seam}
use Rattle.kpn_lang.proofs.Prefixes.{same_from_prefix}
use Rattle.kpn_net.specs.declared.wait.Wait.{Wait}
use Rattle.kpn_net.specs.declared.wait.Wait.TheVariants.{Nobody, Empty}
use Rattle.kpn_history.specs.Channels.{written_on, capacity_after}
use Rattle.kpn_history.specs.Legal.{Legal}
use Rattle.kpn_history.proofs.Legality.{Legal-nil}
use Rattle.kpn_history.specs.Ends.{IsQuiet}
use Rattle.kpn_history.specs.Waiting.{wait_of}
use Rattle.kpn_audit.specs.declared.findings.Audit.{Audit}
use Rattle.kpn_audit.specs.Audit.{IsAudit}
use Rattle.kpn_parts.specs.declared.order.PartEvent.{PartEvent}
use Rattle.kpn_parts.specs.declared.link.ChannelHome.{ChannelHome}
use Rattle.kpn_parts.specs.Joined.{events_of_part, whole_history, HasAll, IsJoined, AreAtRest}
use Rattle.kpn_parts.proofs.Cuts.{has_part}
use Rattle.kpn_parts.proofs.Whole.{journal_same, journal_begins}
use Rattle.kpn_parts.proofs.Rest.{waited_there}
use Rattle.kpn_text.specs.Document.{Document}
use Rattle.kpn_command_base.specs.declared.conclusion.Conclusion.{Conclusion}
use Rattle.kpn_command_base.specs.declared.refusal.Refusal.{Refusal}
use Rattle.kpn_command_base.specs.AuditText.{channel_line, exact_line}
use Rattle.kpn_command_base.specs.Description.{IsDescribed}
use Rattle.kpn_commands.specs.declared.join.LoadedParts.{LoadedParts}

-- ---- lists

at_end : {X : Type 0} (xs : List X) (x : X) (n : ℕ) (d : X) → length xs ≡ n → get_or (xs ++ x ∷ []) n d ≡ x
at_end xs x n d count = subst (λ k. get_or (xs ++ x ∷ []) k d ≡ x) count (get_or-append_seam xs x [] d)

at_before : {X : Type 0} (xs : List X) (x : X) (n r : ℕ) (d : X) → length xs ≡ n → r < n
    → get_or (xs ++ x ∷ []) r d ≡ get_or xs r d
at_before xs x n r d count below = get_or-append xs (x ∷ []) d r (subst (λ k. r < k) (sym count) below)

length_push : {X : Type 0} (xs : List X) (x : X) → length (xs ++ x ∷ []) ≡ length xs + 1
length_push [] x = refl
length_push (y ∷ xs) x = let e = length_push xs x in omega (arith, e)

-- what holds of each element and of one more holds of each with that one
each_push : {X : Type 0} (P : ℕ → X → Type 0) (xs : List X) (x : X) (n : ℕ) → length xs ≡ n
    → ((r : ℕ) (d : X) → r < n → P r (get_or xs r d)) → P n x
    → (r : ℕ) (d : X) → r < n + 1 → P r (get_or (xs ++ x ∷ []) r d)
each_push P xs x n count each new r d below =
    elim (cases_eq r n) [
      | inl last ↦
          subst (λ k. P k (get_or (xs ++ x ∷ []) k d)) (sym last) (subst (P n) (sym (at_end xs x n d count)) new)
      | inr earlier ↦
          let there : r < n = omega (arith, below, earlier) in
          subst (P r) (sym (at_before xs x n r d count there)) (each r d there)
    ]

-- lists of the same values
pub map_same : {X Y : Type 0} (f g : X → Y) (xs : List X) (d : X)
    → ((i : ℕ) → i < length xs → f (get_or xs i d) ≡ g (get_or xs i d)) → map f xs ≡ map g xs
map_same f g [] d same = refl
map_same f g (x ∷ xs) d same =
    ap (λ y. y ∷ map f xs) (same 0 (omega arith))
    ∙ ap (λ ys. g x ∷ ys) (map_same f g xs d (λ i below. same (suc i) (omega (arith, below))))

map_range : {X Y : Type 0} (f : X → Y) (g : ℕ → Y) (a : ℕ) (xs : List X) (d : X)
    → ((i : ℕ) → i < length xs → f (get_or xs i d) ≡ g (a + i)) → map f xs ≡ map g (range_with_len a (length xs))
map_range f g a [] d same = refl
map_range f g a (x ∷ xs) d same =
    ap (λ y. y ∷ map f xs) (same 0 (omega arith) ∙ ap g (omega arith))
    ∙ ap (λ ys. g a ∷ ys)
    (map_range f g (a + 1) xs d (λ i below. same (suc i) (omega (arith, below)) ∙ ap g (omega arith)))

list_all_from : {X : Type 0} (q : X → Bool) (xs : List X) (d : X)
    → ((i : ℕ) → i < length xs → q (get_or xs i d) ≡ true) → list_all q xs ≡ true
list_all_from q [] d each = refl
list_all_from q (x ∷ xs) d each =
    ap (λ b. b && list_all q xs) (each 0 (omega arith))
    ∙ list_all_from q xs d (λ i below. each (suc i) (omega (arith, below)))

list_all_is : {X : Type 0} (q : X → Bool) (xs : List X) (i : ℕ) (d : X) → i < length xs → list_all q xs ≡ true
    → q (get_or xs i d) ≡ true
list_all_is q xs i d below all =
    elim (cases_Bool (q (get_or xs i d))) [
      | inl is ↦ is
      | inr other ↦ absurd (both_ways _ (list_all_at q xs i d below other) all)
    ]

both_true : (a b : Bool) → (a && b) ≡ true → (a ≡ true) × (b ≡ true)
both_true true true is = (refl, refl)
both_true true false is = absurd cc
both_true false b is = absurd cc

-- what is shown of one home more
pub shown_next : {Y : Type 0} (f : ChannelHome → Y) (homes : List ChannelHome) (c : ℕ) (d : ChannelHome) (ys : List Y)
    (y : Y) → c < length homes → ys ≡ map f (take c homes) → y ≡ f (get_or homes c d)
    → ys ++ y ∷ [] ≡ map f (take (c + 1) homes)
shown_next f homes c d ys y below h same =
    ap (λ xs. xs ++ y ∷ []) h ∙ ap (λ x. map f (take c homes) ++ x ∷ []) same
    ∙ sym (ap (map f) (take_more homes c d below) ∙ map-append f (take c homes) (get_or homes c d ∷ []))

-- whether a part rests, by its audit
pub part_rests : (part : Part) (homes : List ChannelHome) (audits : List (Audit Global)) (r : ℕ) (audit a : Audit Global)
    → r < length audits → audit ≡ get_or audits r a → audit.exact ≡ true
    → list_all (is_settled part homes audits r) audit.waits ≡ is_part_at_rest part homes audits r
part_rests part homes audits r audit a below is rests =
    let exact : Audit Global → Bool = λ it. it.exact in
    let waits : Audit Global → List Wait = λ it. it.waits in
    let q = is_settled part homes audits r in
    sym
    (ap (λ b. b && list_all q (get_or (map waits audits) r []))
    (get_or-map exact audits r a false below ∙ ap exact (sym is) ∙ rests)
    ∙ ap (list_all q) (get_or-map waits audits r a [] below ∙ ap waits (sym is)))

-- ---- loading

pub loaded_next : (may_give : Loads) (words : List (List ℕ)) (n : ℕ) (old new : LoadedParts)
    → AreLoaded may_give words n old → LoadsPart may_give (part_file words n) (trace_file words n) old new
    → AreLoaded may_give words (n + 1) new
loaded_next may_give words n old new h part =
    record {
      count = longer;
      audited =
          record {
            histories =
                ap length part.histories ∙ length_push old.histories.items part.history
                ∙ ap (λ k. k + 1) (h.audited.histories ∙ h.count) ∙ sym longer;
            audits =
                ap length part.audits ∙ length_push old.audits.items part.audit
                ∙ ap (λ k. k + 1) (h.audited.audits ∙ h.count) ∙ sym longer;
            each = λ r d H audit below. audit_of r d H audit (subst (λ k. r < k) longer below) (cases_eq r n);
          };
      described = λ r d below.
          subst (λ xs. P r (get_or xs r d)) (sym part.documents)
          (each_push P old.documents.items part.document n h.count h.described part.described r d below);
      traced = λ r H below.
          subst (λ xs. Q r (get_or xs r H)) (sym part.histories)
          (each_push Q old.histories.items part.history n (h.audited.histories ∙ h.count) h.traced part.traced r H
          below);
    }
  where
    longer : length new.documents.items ≡ n + 1
    longer =
        ap length part.documents ∙ length_push old.documents.items part.document ∙ ap (λ k. k + 1) h.count

    P : ℕ → Document → Type 0
    P r d = IsDescribed may_give (part_file words r) d

    Q : ℕ → List Event → Type 0
    Q r H = HasEvents may_give (trace_file words r) H

    A : Document → List Event → Audit Global → Type 0
    A d H audit = IsAudit d.tables H audit

    three : (d e : Document) (G H : List Event) (a b : Audit Global) → d ≡ e → G ≡ H → a ≡ b → A e H b → A d G a
    three d e G H a b p q s it =
        subst (λ x. A x G a) (sym p) (subst (λ x. A e x a) (sym q) (subst (A e H) (sym s) it))

    audit_of : (r : ℕ) (d : Document) (H : List Event) (a : Audit Global) → r < n + 1 → (r ≡ n) ⊎ (r ≡ n → ⊥)
        → A (get_or new.documents.items r d) (get_or new.histories.items r H) (get_or new.audits.items r a)
    audit_of r d H a below (inl last) =
        subst (λ k. A (get_or new.documents.items k d) (get_or new.histories.items k H) (get_or new.audits.items k a))
        (sym last)
        (three _ part.document _ part.history _ part.audit
        (ap (λ xs. get_or xs n d) part.documents ∙ at_end old.documents.items part.document n d h.count)
        (ap (λ xs. get_or xs n H) part.histories
        ∙ at_end old.histories.items part.history n H (h.audited.histories ∙ h.count))
        (ap (λ xs. get_or xs n a) part.audits
        ∙ at_end old.audits.items part.audit n a (h.audited.audits ∙ h.count))
        part.audited)
    audit_of r d H a below (inr earlier) =
        let there : r < n = omega (arith, below, earlier) in
        three _ (get_or old.documents.items r d) _ (get_or old.histories.items r H) _ (get_or old.audits.items r a)
        (ap (λ xs. get_or xs r d) part.documents
        ∙ at_before old.documents.items part.document n r d h.count there)
        (ap (λ xs. get_or xs r H) part.histories
        ∙ at_before old.histories.items part.history n r H (h.audited.histories ∙ h.count) there)
        (ap (λ xs. get_or xs r a) part.audits
        ∙ at_before old.audits.items part.audit n r a (h.audited.audits ∙ h.count) there)
        (h.audited.each r d H a (subst (λ k. r < k) (sym h.count) there))

-- ---- words

some_weaker : {X : Type 0} (o : Option X) (P Q : X → Type 0) → ((x : X) → P x → Q x) → IfSome o P → IfSome o Q
some_weaker None P Q more is = tt
some_weaker (Some x) P Q more is = more x is

pub none_gives : {X : Type 0} (o : Option X) (P : Type 0) → is_some o ≡ false → IfNone o P → P
none_gives None P none is = is
none_gives (Some x) P none is = absurd cc

abbrev pub no_word : Bor (List ℕ)
no_word = record { ref_ptr = (0, 0); now = [] }

abbrev pub texts_of : List (Bor (List ℕ)) → List (List ℕ)
texts_of words = map (λ word. word.now) words

module _ (may_give : Loads) (words : List (Bor (List ℕ))) (r : ℕ) (there : r < length words / 2)
    (inside : 2 * r + 1 < length words) where
  now : Bor (List ℕ) → List ℕ
  now word = word.now

  first : (get_or words (2 * r) no_word).now ≡ part_file (texts_of words) r
  first = sym (get_or-map (λ (word : Bor (List ℕ)). word.now) words (2 * r) no_word [] (omega (arith, inside)))

  second : (get_or words (2 * r + 1) no_word).now ≡ trace_file (texts_of words) r
  second = sym (get_or-map (λ (word : Bor (List ℕ)). word.now) words (2 * r + 1) no_word [] inside)

  below : r < length (texts_of words) / 2
  below = subst (λ n. r < n / 2) (sym (length-map words (λ (word : Bor (List ℕ)). word.now))) there

  pub part_refused : {X : Type 0} (result : Result X Refusal)
      → IfErr result
      (IsRefusalOfPart may_give (get_or words (2 * r) no_word).now (get_or words (2 * r + 1) no_word).now)
      → IfErr result (IsPartRefused may_give (texts_of words))
  part_refused result is =
      IfErr-weaker result _ _
      (λ refused why. record {
        part = r;
        there = below;
        why =
            subst (λ part. IsRefusalOfPart may_give part (trace_file (texts_of words) r) refused) first
            (subst (λ trace. IsRefusalOfPart may_give (get_or words (2 * r) no_word).now trace refused) second why);
      }) is

  pub flaw_told : (steps : ℕ) (flawed : Option Conclusion)
      → IfSome flawed
      (TellsOnly
      (IsFlawOf may_give (get_or words (2 * r) no_word).now (get_or words (2 * r + 1) no_word).now steps))
      → IfSome flawed (TellsOnly (TellsOfFlaw may_give (texts_of words) steps))
  flaw_told steps flawed is =
      some_weaker flawed _ _
      (λ made told. (
        record {
          part = r;
          there = below;
          flaw =
              subst
              (λ part. IsFlawOf may_give part (trace_file (texts_of words) r) steps made.text.items made.status)
              first
              (subst
              (λ trace.
              IsFlawOf may_give (get_or words (2 * r) no_word).now trace steps made.text.items made.status)
              second told.0);
        },
        told.1,
      )) is

  pub part_loaded : (old new : LoadedParts) → AreLoaded may_give (texts_of words) r old
      → LoadsPart may_give (get_or words (2 * r) no_word).now (get_or words (2 * r + 1) no_word).now old new
      → AreLoaded may_give (texts_of words) (r + 1) new
  part_loaded old new h part =
      loaded_next may_give (texts_of words) r old new h
      (subst (λ file. LoadsPart may_give file (trace_file (texts_of words) r) old new) first
      (subst (λ trace. LoadsPart may_give (get_or words (2 * r) no_word).now trace old new) second part))

-- the parts and their histories are those of the files
pub read_if_loaded : (may_give : Loads) (words : List (Bor (List ℕ))) (d : Document) (cut : List Part)
    (loaded : LoadedParts) → AreLoaded may_give (texts_of words) (length words / 2) loaded
    → HasTables cut loaded.documents.items → AreRead may_give (texts_of words) cut loaded.histories.items
read_if_loaded may_give words d cut loaded h tables =
    record {
      count = count ∙ ap (λ n. n / 2) (sym (length-map words (λ (word : Bor (List ℕ)). word.now)));
      each = λ r below.
          let inside : r < length words / 2 = subst (λ n. r < n) count below in
          record {
            document = get_or loaded.documents.items r d;
            described = h.described r d inside;
            spells =
                sym (get_or-map second loaded.documents.items r d d.tables (subst (λ n. r < n) (sym h.count) inside))
                ∙ ap (λ ts. get_or ts r d.tables) (sym tables)
                ∙ get_or-map first cut r empty_part d.tables below;
            events = h.traced r [] inside;
          };
      same = h.audited.histories ∙ h.count ∙ sym count;
    }
  where
    first : Part → Tables
    first part = part.tables

    second : Document → Tables
    second document = document.tables

    count : length cut ≡ length words / 2
    count =
        sym (length-map cut (λ (part : Part). part.tables)) ∙ ap length tables
        ∙ length-map loaded.documents.items (λ (document : Document). document.tables) ∙ h.count

-- ---- homes

pub home_part : (t : Tables) (cut : List Part) (home : ChannelHome) (c : ℕ) → IsHome t cut home c
    → home.part < length cut
home_part t cut home c is =
    elim (cases_lt home.part (length cut)) [
      | inl there ↦ there
      | inr past ↦
          absurd
          omega (
            arith,
            subst (λ part. home.channel < length part.tables.channels)
                (get_or_past cut home.part empty_part past) is.there,
          )
    ]

-- an audit that stands for one that is not there
pub no_audit : Audit Global
no_audit = record { journals = []; reads = []; caps = []; complete = []; waits = []; ends = []; exact = false }

-- texts of the same parts
pub text_is : (names : List (List ℕ)) (told exact : Bool) (some caps : List (Option ℕ)) (lists journals : List (List ℤ))
    → told ≡ exact → some ≡ caps → lists ≡ journals
    → codes "legal\n" ++ exact_line told ++ lines_from (channel_line names some) 0 lists
    ≡ codes "legal\n" ++ exact_line exact ++ lines_from (channel_line names caps) 0 journals
text_is names told exact some caps lists journals p q s =
    λ i. codes "legal\n" ++ exact_line (p i) ++ lines_from (channel_line names (q i)) 0 (s i)

-- ---- what the audits show

module _ (d : Document) (network : IsNetwork d.tables) (cut : List Part) (is : IsCut d.tables cut)
    (homes : List ChannelHome) (are : AreHomes d.tables cut homes) (loaded : LoadedParts) (audited : AreAudited loaded)
    (tables : HasTables cut loaded.documents.items) where
  abbrev t : Tables
  t = d.tables

  abbrev audits : List (Audit Global)
  audits = loaded.audits.items

  pub count : length cut ≡ length audits
  count =
      sym (length-map cut (λ part. part.tables)) ∙ ap length tables
      ∙ length-map loaded.documents.items (λ document. document.tables) ∙ sym audited.audits

  in_documents : (r : ℕ) → r < length cut → r < length loaded.documents.items
  in_documents r below = subst (λ n. r < n) (count ∙ audited.audits) below

  tables_at : (r : ℕ) → r < length cut → (part_at cut r).tables ≡ (get_or loaded.documents.items r d).tables
  tables_at r below =
      sym (get_or-map (λ part. part.tables) cut r empty_part t below)
      ∙ ap (λ xs. get_or xs r t) tables
      ∙ get_or-map (λ document. document.tables) loaded.documents.items r d t (in_documents r below)

  -- a part has an audit of its history
  audit_at : (r : ℕ) (a : Audit Global) → r < length cut
      → IsAudit (part_at cut r).tables (history_at loaded.histories.items r) (get_or audits r a)
  audit_at r a below =
      subst (λ u. IsAudit u (history_at loaded.histories.items r) (get_or audits r a)) (sym (tables_at r below))
      (audited.each r d [] a (in_documents r below))

  journals_at : (r : ℕ) → r < length cut
      → get_or (map (λ a. a.journals) audits) r []
      ≡ lists_of (part_at cut r).tables (written_on (history_at loaded.histories.items r))
  journals_at r below =
      get_or-map (λ a. a.journals) audits r no_audit [] (subst (λ n. r < n) count below)
      ∙ (audit_at r no_audit below).journals

  journal_is : (r c : ℕ) → r < length cut → c < length (part_at cut r).tables.channels
      → journal_in audits r c ≡ written_on (history_at loaded.histories.items r) c
  journal_is r c below there =
      ap (λ xs. get_or xs c []) (journals_at r below)
      ∙ get_or-map-range_with_len (written_on (history_at loaded.histories.items r)) 0
      (length (part_at cut r).tables.channels) c c [] there (omega arith)

  capacity_is : (home : ChannelHome) (c : ℕ) → IsHome t cut home c
      → audited_capacity audits home ≡ capacity_at cut loaded.histories.items home
  capacity_is home c at =
      let below = home_part t cut home c at in
      let H = history_at loaded.histories.items home.part in
      ap (λ xs. get_or xs home.channel None)
      (get_or-map (λ a. a.caps) audits home.part no_audit [] (subst (λ n. home.part < n) count below)
      ∙ (audit_at home.part no_audit below).caps)
      ∙ get_or-map-range_with_len (capacity_after (part_at cut home.part).tables H) 0
      (length (part_at cut home.part).tables.channels) home.channel home.channel None at.there (omega arith)

  pub are_in : AreIn audits homes
  are_in c home audit below =
      let at = are.each c home (subst (λ n. c < n) are.count below) in
      let it = get_or homes c home in
      let part = home_part t cut it c at in (
        subst (λ n. it.part < n) count part,
        subst (λ xs. it.channel < length xs) (sym (audit_at it.part audit part).journals)
            (subst (λ n. it.channel < n)
            (sym
            (length-map-range_with_len (written_on (history_at loaded.histories.items it.part)) 0
            (length (part_at cut it.part).tables.channels)))
            at.there),
      )

  -- each part has a legal history
  pub are_legal : (r : ℕ) → Legal (part_at cut r).tables (history_at loaded.histories.items r)
  are_legal r =
      elim (cases_lt r (length cut)) [
        | inl below ↦ (audit_at r no_audit below).legal
        | inr past ↦
            subst (λ part. Legal part.tables (history_at loaded.histories.items r))
            (sym (get_or_past cut r empty_part past))
            (subst (Legal empty_part.tables)
            (sym
            (get_or_past loaded.histories.items r []
            (subst (λ n. n ≤ r) (count ∙ audited.audits ∙ sym audited.histories) past)))
            (Legal-nil empty_part.tables))
      ]

  pub capacities_are : map (audited_capacity audits) homes ≡ map (capacity_at cut loaded.histories.items) homes
  capacities_are =
      map_same (audited_capacity audits) (capacity_at cut loaded.histories.items) homes (record { part = 0; channel = 0 })
      (λ c below. capacity_is _ c (are.each c _ (subst (λ n. c < n) are.count below)))

  module _ (order : List PartEvent)
      (whole : (r : ℕ) → events_of_part r order ≡ history_at loaded.histories.items r)
      (joined : IsJoined d.tables cut order) where
    -- the journal of a part is what was written there in this order
    shown : (r c : ℕ) → r < length cut → c < length (part_at cut r).tables.channels
        → journal_in audits r c ≡ written_on (events_of_part r order) c
    shown r c below there = journal_is r c below there ∙ ap (λ H. written_on H c) (sym (whole r))

    at_home : (home : ChannelHome) (c : ℕ) → IsHome t cut home c
        → audited_journal audits home ≡ written_on (whole_history t cut order) c
    at_home home c at =
        shown home.part home.channel (home_part t cut home c at) at.there
        ∙ sym (journal_same t network cut is home.part home.channel at.there at.own order joined.legal)
        ∙ ap (written_on (whole_history t cut order)) at.same

    pub journals_are : map (audited_journal audits) homes ≡ lists_of t (written_on (whole_history t cut order))
    journals_are =
        map_range (audited_journal audits) (written_on (whole_history t cut order)) 0 homes (record { part = 0; channel = 0 })
        (λ c below.
        at_home _ c (are.each c _ (subst (λ n. c < n) are.count below))
        ∙ ap (written_on (whole_history t cut order)) (omega arith))
        ∙ ap (λ n. map (written_on (whole_history t cut order)) (range_with_len 0 n)) are.count

    -- ---- rest

    waits_at : (r : ℕ) → r < length cut
        → get_or (map (λ a. a.waits) audits) r []
        ≡ map (wait_of (part_at cut r).tables (events_of_part r order))
        (range_with_len 0 (length (part_at cut r).tables.instances))
    waits_at r below =
        get_or-map (λ a. a.waits) audits r no_audit [] (subst (λ n. r < n) count below)
        ∙ (audit_at r no_audit below).waits
        ∙ ap
        (λ H.
        map (wait_of (part_at cut r).tables H) (range_with_len 0 (length (part_at cut r).tables.instances)))
        (sym (whole r))

    exact_at : (r : ℕ) → r < length cut
        → (get_or (map (λ a. a.exact) audits) r false ≡ true)
        ↔ IsQuiet (part_at cut r).tables (events_of_part r order)
    exact_at r below =
        let same = get_or-map (λ a. a.exact) audits r no_audit false (subst (λ n. r < n) count below) in
        let exact = (audit_at r no_audit below).exact in (
          λ is-exact. subst (IsQuiet (part_at cut r).tables) (sym (whole r)) (exact.0 (sym same ∙ is-exact)),
          λ quiet. same ∙ exact.1 (subst (IsQuiet (part_at cut r).tables) (whole r) quiet),
        )

    wait_at : (r p : ℕ) → p < length (part_at cut r).tables.instances
        → get_or (map (wait_of (part_at cut r).tables (events_of_part r order))
        (range_with_len 0 (length (part_at cut r).tables.instances))) p Nobody
        ≡ wait_of (part_at cut r).tables (events_of_part r order) p
    wait_at r p below =
        get_or-map-range_with_len (wait_of (part_at cut r).tables (events_of_part r order)) 0
        (length (part_at cut r).tables.instances) p p Nobody below (omega arith)

    -- the test of one channel for which a process waits
    module _ (r p c : ℕ) (below : p < length (part_at cut r).tables.instances)
        (waits : wait_of (part_at cut r).tables (events_of_part r order) p ≡ Empty c) where
      there : (c < length (part_at cut r).tables.channels) × (whole_channel (part_at cut r) c < length t.channels)
      there = waited_there t network cut is order joined r p c below waits

      abbrev home : ChannelHome
      home = get_or homes (whole_channel (part_at cut r) c) (record { part = 0; channel = 0 })

      is_home : IsHome t cut home (whole_channel (part_at cut r) c)
      is_home = are.each (whole_channel (part_at cut r) c) _ there.1

      test_is : has_all (part_at cut r) homes audits r c
          ≡ eqb (length (written_on (events_of_part r order) c))
          (length (written_on (whole_history t cut order) (whole_channel (part_at cut r) c)))
      test_is =
          ap (λ it. option_map_or (λ h. eqb (length (journal_in audits r c)) (length (audited_journal audits h))) it false)
          (slice_get-get_or homes (whole_channel (part_at cut r) c) _
          (subst (λ n. whole_channel (part_at cut r) c < n) (sym are.count) there.1))
          ∙ ap (λ xs. eqb (length xs) (length (audited_journal audits home)))
          (shown r c (has_part cut r p below) there.0)
          ∙ ap (λ xs. eqb (length (written_on (events_of_part r order) c)) (length xs))
          (at_home home (whole_channel (part_at cut r) c) is_home)

      has_if : has_all (part_at cut r) homes audits r c ≡ true → HasAll t cut order r c
      has_if passes =
          let same = eqb-true _ _ (sym test_is ∙ passes) in
          same_from_prefix _ _ (journal_begins t network cut is r c there.0 order joined) (omega (arith, same))

      if_has : HasAll t cut order r c → has_all (part_at cut r) homes audits r c ≡ true
      if_has all = test_is ∙ eq-eqb _ _ (ap length all)

    pub rest_if : ((r : ℕ) → r < length audits → is_part_at_rest (part_at cut r) homes audits r ≡ true)
        → AreAtRest t cut order
    rest_if all =
        record {
          quiet = λ r. elim (cases_lt r (length cut)) [
            | inl below ↦ (exact_at r below).0 (both_true _ _ (all r (subst (λ n. r < n) count below))).0
            | inr past ↦
                subst (λ part. IsQuiet part.tables (events_of_part r order)) (sym (get_or_past cut r empty_part past))
                (record { each = λ p under. absurd omega (arith, under) })
          ];
          settled = λ r p c under waits.
              let below = has_part cut r p under in
              let settles = (both_true _ _ (all r (subst (λ n. r < n) count below))).1 in
              let here =
              list_all_is (is_settled (part_at cut r) homes audits r) _ p Nobody
              (subst (λ n. p < n)
              (sym
              (length-map-range_with_len (wait_of (part_at cut r).tables (events_of_part r order)) 0
              (length (part_at cut r).tables.instances)))
              under)
              (subst (λ ws. list_all (is_settled (part_at cut r) homes audits r) ws ≡ true) (waits_at r below) settles)
              in
              has_if r p c under waits
              (subst (λ w. is_settled (part_at cut r) homes audits r w ≡ true) (wait_at r p under ∙ waits) here);
        }

    pub if_rest : AreAtRest t cut order → (r : ℕ) → r < length audits
        → is_part_at_rest (part_at cut r) homes audits r ≡ true
    if_rest rest r under =
        ap (λ b. b && list_all (is_settled (part_at cut r) homes audits r) (get_or (map (λ a. a.waits) audits) r []))
        ((exact_at r below).1 (rest.quiet r))
        ∙ ap (list_all (is_settled (part_at cut r) homes audits r)) (waits_at r below)
        ∙ list_all_from (is_settled (part_at cut r) homes audits r) _ Nobody
        (λ p there.
        let inside =
        subst (λ n. p < n)
        (length-map-range_with_len (wait_of (part_at cut r).tables (events_of_part r order)) 0
        (length (part_at cut r).tables.instances))
        there in
        ap (is_settled (part_at cut r) homes audits r) (wait_at r p inside)
        ∙ settles p inside (wait_of (part_at cut r).tables (events_of_part r order) p) refl)
      where
        below : r < length cut
        below = subst (λ n. r < n) (sym count) under

        settles : (p : ℕ) → p < length (part_at cut r).tables.instances → (wait : Wait)
            → wait_of (part_at cut r).tables (events_of_part r order) p ≡ wait
            → is_settled (part_at cut r) homes audits r wait ≡ true
        settles p inside (Empty c) e = if_has r p c inside e (rest.settled r p c inside e)
        settles p inside other e = refl
