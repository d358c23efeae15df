-- The names of a document are text: they are names of its description, whose bytes are ASCII.
use Rattle.kpn_text.proofs.Common.{◌≡◌, ℕ, zero, suc, ◌<◌, Bool, true, ◌||◌, List, [], ◌∷◌, ◌++◌, length, map, Ok, refl, sym, ◌∙◌, subst, arith, All, is_ascii_digit, AllByRecursion, list_all, IsUtf8, and_parts, nat_tests, map-id, All-nil, All-cons, ChannelSpec, Tables, Language, begins_name, IsName, NameBytes, ProcessNode, Description, NetworkNames, name_at, AreNamed, names_in, paired, process_names, shared_of, settings_of, wiring, ok_is, went, are_named, resolved_each, ReadDescriptionsAreProper, channel_named, instance_named, network_named, IsProperProcess, IsProperItem, IsProper, Document}
use Rattle.std.proofs.lemmas.Str.{IsUtf8-from_ascii}
use Rattle.std.proofs.lemmas.Str.Ascii.{IsAscii-from_all}
use Rattle.kpn_net.specs.declared.tables.ChannelSpec.TheVariants.{Inner, Source, Sink}
use Rattle.kpn_text_names.specs.Named.{Named, named_with, programs_of, resolve}
use Rattle.kpn_text.specs.Laws.{AreText, NamesAreText}
use Rattle.kpn_text.proofs.KeptNames.{names_back, names_kept}
use Rattle.kpn_text.proofs.NamedItems.{items_back}

word_byte : (b : ℕ) → (begins_name b || is_ascii_digit b) ≡ true → b < 128
word_byte b is = grind (arith, nat_tests)

ascii_bytes : (test : ℕ → Bool) → ((b : ℕ) → test b ≡ true → b < 128) → (bytes : List ℕ) → list_all test bytes ≡ true
    → All (λ b. b < 128) bytes
ascii_bytes test small [] all = All-nil (λ b. b < 128)
ascii_bytes test small (b ∷ bs) all =
    let parts = and_parts (test b) (list_all test bs) all in
    All-cons (λ b. b < 128) b bs (small b parts.0) (ascii_bytes test small bs parts.1)

name_is_text : (l : Language) (x : NameBytes) → IsName l x → IsUtf8 x
name_is_text l x is =
    IsUtf8-from_ascii x
    (IsAscii-from_all x (ascii_bytes (λ b. begins_name b || is_ascii_digit b) word_byte x is.word.goes_on))

no_name : IsUtf8 []
no_name = IsUtf8-from_ascii [] (IsAscii-from_all [] (All-nil (λ b. b < 128)))

-- if each pair is proper, then each of the names in them is text
named_are : (l : Language) {A B C : Type 0} (P : C → Type 0) (name : A → NameBytes) (f : A → B → C)
    → ((x : A) (y : B) → P (f x y) → IsName l (name x)) → (xs : List A) (ys : List B) → length xs ≡ length ys
    → AllByRecursion P (paired f xs ys) → (k : ℕ) → IsUtf8 (name_at (map name xs) k)
named_are l P name f step [] ys same all k = no_name
named_are l P name f step (x ∷ xs) [] same all k = absurd (omega (arith, same))
named_are l P name f step (x ∷ xs) (y ∷ ys) same all zero = name_is_text l (name x) (step x y all.0)
named_are l P name f step (x ∷ xs) (y ∷ ys) same all (suc k) =
    let rest : length xs ≡ length ys = omega (arith, same) in
    named_are l P name f step xs ys rest all.1 k

channel_is : (l : Language) (x : NameBytes) (spec : ChannelSpec) → IsProperItem l (channel_named x spec) → IsName l x
channel_is l x (Inner cap) is = is.0
channel_is l x Source is = is
channel_is l x (Sink cap) is = is.0

all_parts : {X : Type 0} (P : X → Type 0) (xs ys : List X) → AllByRecursion P (xs ++ ys)
    → AllByRecursion P xs × AllByRecursion P ys
all_parts P [] ys all = (tt, all)
all_parts P (x ∷ xs) ys all = let parts = all_parts P xs ys all.1 in ((all.0, parts.0), parts.1)

abbrev ProcessesAreText : NetworkNames → Type 0
ProcessesAreText names = (k : ℕ) → IsUtf8 (name_at (process_names names) k)

-- the channels and the instances of a network
items_text : (l : Language) (names : NetworkNames) (t : Tables) → AreNamed names t
    → AllByRecursion (IsProperItem l) (network_named names t).items → ProcessesAreText names → AreText names
items_text l names t named is processes =
    let items =
    all_parts (IsProperItem l) (paired channel_named names.channels t.channels)
    (paired (instance_named names) names.instances t.instances) is in
    record {
      processes = processes;
      instances =
          λ k. subst (λ (xs : List NameBytes). IsUtf8 (name_at xs k)) (map-id names.instances)
          (named_are l (IsProperItem l) (λ x. x) (instance_named names) (λ x i proper. proper.name) names.instances
          t.instances named.instances items.1 k);
      channels =
          λ k. subst (λ (xs : List NameBytes). IsUtf8 (name_at xs k)) (map-id names.channels)
          (named_are l (IsProperItem l) (λ x. x) channel_named (channel_is l) names.channels t.channels named.channels
          items.0 k);
    }

-- the names of proper processes
processes_text : (l : Language) (ps : List ProcessNode) → AllByRecursion (IsProperProcess l) ps → (k : ℕ)
    → IsUtf8 (name_at (map (λ p. p.name) ps) k)
processes_text l [] all k = no_name
processes_text l (p ∷ ps) all zero = name_is_text l p.name all.0.name
processes_text l (p ∷ ps) all (suc k) = processes_text l ps all.1 k

named_text : (l : Language) (d : Description) (n : Named) → resolve l d ≡ Ok n → IsProper l d → AreText (names_in n)
named_text l d n h is =
    let shared = went (shared_of d.tables) _ n h in
    let p = went (programs_of l shared.value d.processes) _ n shared.rest in
    let w = went (wiring p.value.names d.network.items) _ n p.rest in
    let made : Named = named_with shared.value (settings_of d.network) p.value w.value in
    let same : made ≡ n = ok_is made n w.rest in
    let back = names_back l shared.value d.processes p.value p.first in
    let items = items_back l (names_in made) p.value.names d.network.items w.value back refl w.first in
    let there : (k : ℕ) → IsUtf8 (name_at (process_names (names_in made)) k) =
    λ k. subst (λ (xs : List NameBytes). IsUtf8 (name_at xs k))
    (sym (back ∙ names_kept l shared.value d.processes p.value p.first)) (processes_text l d.processes is.processes k) in
    let named : AreNamed (names_in made) made.tables =
    subst (λ (m : Named). AreNamed (names_in m) m.tables) (sym same) (are_named n (resolved_each l d n h)) in
    subst (λ (m : Named). AreText (names_in m)) same
    (items_text l (names_in made) made.tables named (items.proper is.network.items) there)

pub names_are_text : ReadDescriptionsAreProper → NamesAreText
names_are_text are_proper d (text, s) =
    subst (λ (e : Document). AreText e.names) s.is
    (named_text d.language s.tree s.named s.resolved (are_proper d.language text s.read s.tokens s.tree s.reads s.stands s.spelled))
