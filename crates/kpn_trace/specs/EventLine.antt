-- The line of an event in a trace of each version, without its line feed: words with one space between them. The first
-- word is the kind of the event, the others are its process, channel, item or ending.
use Rattle.std.specs.Prelude.{◌≡◌, ◌==◌, ℕ, ◌^◌, ◌<◌, ◌≤◌, false, List, [], ◌∷◌, ◌++◌, codes, FitsSigned, Option}
use Rattle.std.specs.List.{find, list_any}
use Rattle.std.specs.Int.{w64}
use Rattle.std.specs.Str.{bytes_eq}
use Rattle.std.specs.Fmt.{decimal, signed_decimal}
use Rattle.kpn_history.specs.declared.event.Event.{Event}
use Rattle.kpn_history.specs.declared.event.Event.TheVariants.{Get, Put, WaitEmpty, WaitFull, Ended, Feed, Close, Take, Leave, Grow}
use Rattle.kpn_history.specs.declared.event.How.{How}
use Rattle.kpn_history.specs.declared.event.How.TheVariants as how
use Rattle.kpn_limits.specs.declared.TheConstants.{MAX_CAPACITY}
use Rattle.kpn_history.specs.declared.stored.Version.{Version}
use Rattle.kpn_history.specs.declared.stored.Version.TheVariants.{One, Two}
use Rattle.kpn_trace.specs.declared.kind.Kind.{Kind}
use Rattle.kpn_trace.specs.declared.kind.Kind.TheVariants as kind

-- ---- the words

-- the word of a kind
abbrev pub kind_word : Kind → List ℕ
kind_word kind.Get = codes "get"
kind_word kind.Put = codes "put"
kind_word kind.WaitEmpty = codes "wait-empty"
kind_word kind.WaitFull = codes "wait-full"
kind_word kind.Ended = codes "end"
kind_word kind.Feed = codes "feed"
kind_word kind.Close = codes "close"
kind_word kind.Take = codes "take"
kind_word kind.Leave = codes "leave"
kind_word kind.Grow = codes "grow"

-- every kind (scaffolding)
abbrev pub every_kind : List Kind
every_kind =
    kind.Get ∷ kind.Put ∷ kind.WaitEmpty ∷ kind.WaitFull ∷ kind.Ended ∷ kind.Feed ∷ kind.Close ∷ kind.Take
    ∷ kind.Leave ∷ kind.Grow ∷ []

-- the kind with this word (scaffolding)
unfoldable pub kind_named : (word : List ℕ) → Option Kind
kind_named word = find (λ k. bytes_eq (kind_word k) word) every_kind

-- the word for how a process ended
abbrev pub how_word : How → List ℕ
how_word how.Done = codes "done"
how_word how.Overflow = codes "overflow"
how_word how.ZeroDivisor = codes "zero-divisor"
how_word how.Index = codes "index"
how_word how.Shift = codes "shift"

-- ---- the line

-- the kind of an event
abbrev pub event_kind : Event → Kind
event_kind (Get p c v) = kind.Get
event_kind (Put p c v) = kind.Put
event_kind (WaitEmpty p c) = kind.WaitEmpty
event_kind (WaitFull p c) = kind.WaitFull
event_kind (Ended p how) = kind.Ended
event_kind (Feed c v) = kind.Feed
event_kind (Close c) = kind.Close
event_kind (Take c v) = kind.Take
event_kind (Leave c) = kind.Leave
event_kind (Grow p c n) = kind.Grow

-- the words of a growth: from version 2 on they include the new capacity
abbrev pub growth_words : Version → (p c n : ℕ) → List (List ℕ)
growth_words One p c n = decimal p ∷ decimal c ∷ []
growth_words Two p c n = decimal p ∷ decimal c ∷ decimal n ∷ []

-- the words after the kind: numbers and items in decimal, without leading zeros
abbrev pub arguments_of : Version → Event → List (List ℕ)
arguments_of version (Get p c v) = decimal p ∷ decimal c ∷ signed_decimal v ∷ []
arguments_of version (Put p c v) = decimal p ∷ decimal c ∷ signed_decimal v ∷ []
arguments_of version (WaitEmpty p c) = decimal p ∷ decimal c ∷ []
arguments_of version (WaitFull p c) = decimal p ∷ decimal c ∷ []
arguments_of version (Ended p how) = decimal p ∷ how_word how ∷ []
arguments_of version (Feed c v) = decimal c ∷ signed_decimal v ∷ []
arguments_of version (Close c) = decimal c ∷ []
arguments_of version (Take c v) = decimal c ∷ signed_decimal v ∷ []
arguments_of version (Leave c) = decimal c ∷ []
arguments_of version (Grow p c n) = growth_words version p c n

-- words with one space (byte 32) between them
abbrev pub spaced : (words : List (List ℕ)) → List ℕ
spaced [] = []
spaced (word ∷ []) = word
spaced (word ∷ more ∷ words) = word ++ 32 ∷ spaced (more ∷ words)

-- the line of an event
abbrev pub line_of : Version → Event → List ℕ
line_of version event = spaced (kind_word (event_kind event) ∷ arguments_of version event)

-- ---- what a line spells

-- none of the bytes is this one (scaffolding)
abbrev pub LacksByte : (byte : ℕ) → (bytes : List ℕ) → Type 0
LacksByte byte bytes = list_any (λ b. b == byte) bytes ≡ false

-- the new capacity: from 1 to the largest one if the line states it, else 0
abbrev pub IsTold : Version → ℕ → Type 0
IsTold One n = n ≡ 0
IsTold Two n = (0 < n) × (n ≤ MAX_CAPACITY)

-- numbers are from 0 to 65535, and items from -2^63 to 2^63-1
abbrev pub IsInRange : Version → Event → Type 0
IsInRange version (Get p c v) = (p < 2 ^ 16) × (c < 2 ^ 16) × FitsSigned w64 v
IsInRange version (Put p c v) = (p < 2 ^ 16) × (c < 2 ^ 16) × FitsSigned w64 v
IsInRange version (WaitEmpty p c) = (p < 2 ^ 16) × (c < 2 ^ 16)
IsInRange version (WaitFull p c) = (p < 2 ^ 16) × (c < 2 ^ 16)
IsInRange version (Ended p how) = p < 2 ^ 16
IsInRange version (Feed c v) = (c < 2 ^ 16) × FitsSigned w64 v
IsInRange version (Close c) = c < 2 ^ 16
IsInRange version (Take c v) = (c < 2 ^ 16) × FitsSigned w64 v
IsInRange version (Leave c) = c < 2 ^ 16
IsInRange version (Grow p c n) = (p < 2 ^ 16) × (c < 2 ^ 16) × IsTold version n

-- a line without its line feed spells an event in range whose line it is
pub record SpellsEvent (version : Version) (line : List ℕ) (event : Event) : Type 0 where
  pub whole : line ≡ line_of version event
  pub in_range : IsInRange version event
