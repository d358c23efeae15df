-- Which channels the outside writes or reads, and what more events leave as it is there.
use Rattle.std.proofs.Common.{◌≡◌, ℕ, ◌<◌, true, false, List, [], ◌∷◌, ◌++◌, length, refl, sym, ap, ◌∙◌, subst, inl, inr, append-nil, append_assoc}
use Rattle.kpn_book.proofs.Common.{flat_map, cases_lt, false≢true, both_ways, or_left, get_or_past, IsPrefix, IsPrefix-append, rest_of_prefix, Tables, channel_at, is_source, is_sink, IsNetwork, Event, Put, Feed, written_in, written_on, is_closed, is_close_of, Legal, Legal-prefix, Legal-last, IsOwn-last, no_source, none_elsewhere, flat_map-same, written_on-same, is_closed-next}
use Rattle.kpn_net.specs.declared.tables.ChannelSpec.{ChannelSpec}
use Rattle.kpn_net.specs.declared.tables.ChannelSpec.TheVariants as channel

-- ---- which channels

pub sink_there : (t : Tables) (c : ℕ) → is_sink (channel_at t c) ≡ true → c < length t.channels
sink_there t c sink =
    elim (cases_lt c (length t.channels)) [
      | inl below ↦ below
      | inr past ↦
          absurd (both_ways (is_sink (channel_at t c))
          (ap is_sink (get_or_past t.channels c (channel.Inner 0) past)) sink)
    ]

pub sink_is_no_source : (x : ChannelSpec) → is_sink x ≡ true → is_source x ≡ false
sink_is_no_source (channel.Inner cap) sink = refl
sink_is_no_source channel.Source sink = absurd (false≢true sink)
sink_is_no_source (channel.Sink cap) sink = refl

-- ---- more events

-- nothing comes of these events
abbrev pub AddNothing : {A : Type 0} → (Event → List A) → List Event → Type 0
AddNothing f [] = Unit {0}
AddNothing f (e ∷ es) = (f e ≡ []) × AddNothing f es

pub nothing_more : {A : Type 0} (f : Event → List A) (es B : List Event) → AddNothing f es
    → flat_map f (B ++ es) ≡ flat_map f B
nothing_more f [] B none = ap (flat_map f) (append-nil B)
nothing_more f (e ∷ es) B none =
    ap (flat_map f) (sym (append_assoc B (e ∷ []) es)) ∙ nothing_more f es (B ++ e ∷ []) none.1
    ∙ flat_map-same f B e none.0

pub closed_next : (B : List Event) (e : Event) (c : ℕ) → is_closed B c ≡ true → is_closed (B ++ e ∷ []) c ≡ true
closed_next B e c closed = is_closed-next B e c ∙ or_left (is_closed B c) (is_close_of c e) closed

-- on a closed source nothing more is written
closed_source : (t : Tables) → IsNetwork t → (B : List Event) (e : Event) → Legal t (B ++ e ∷ []) → (c : ℕ)
    → is_source (channel_at t c) ≡ true → is_closed B c ≡ true → written_in c e ≡ []
closed_source t network B (Put p d v) legal c source closed =
    none_elsewhere d c v
    (λ same. no_source t d c p (IsOwn-last t network B (Put p d v) legal) source (sym same))
closed_source t network B (Feed d v) legal c source closed =
    none_elsewhere d c v
    (λ same.
    both_ways (is_closed B c) (subst (λ x. is_closed B x ≡ false) same (Legal-last t B (Feed d v) legal).due.not_closed)
    closed)
closed_source t network B event legal c source closed = refl

along : (t : Tables) → IsNetwork t → (es B : List Event) → Legal t (B ++ es) → (c : ℕ)
    → is_source (channel_at t c) ≡ true → is_closed B c ≡ true → written_on (B ++ es) c ≡ written_on B c
along t network [] B legal c source closed = ap (λ H. written_on H c) (append-nil B)
along t network (e ∷ es) B legal c source closed =
    let apart = append_assoc B (e ∷ []) es in
    let whole : Legal t ((B ++ e ∷ []) ++ es) = subst (Legal t) (sym apart) legal in
    let one : Legal t (B ++ e ∷ []) =
    Legal-prefix t (B ++ e ∷ []) ((B ++ e ∷ []) ++ es) (IsPrefix-append (B ++ e ∷ []) es) whole in
    ap (λ H. written_on H c) (sym apart)
    ∙ along t network es (B ++ e ∷ []) whole c source (closed_next B e c closed)
    ∙ written_on-same B e c (closed_source t network B e one c source closed)

pub closed_stays : (t : Tables) → IsNetwork t → (B H : List Event) → IsPrefix B H → Legal t H → (c : ℕ)
    → is_source (channel_at t c) ≡ true → is_closed B c ≡ true → written_on H c ≡ written_on B c
closed_stays t network B H begins legal c source closed =
    let rest = rest_of_prefix B H begins in
    ap (λ X. written_on X c) (sym rest.1)
    ∙ along t network rest.0 B (subst (Legal t) (sym rest.1) legal) c source closed

closed_along : (es B : List Event) (c : ℕ) → is_closed B c ≡ true → is_closed (B ++ es) c ≡ true
closed_along [] B c closed = ap (λ H. is_closed H c) (append-nil B) ∙ closed
closed_along (e ∷ es) B c closed =
    ap (λ H. is_closed H c) (sym (append_assoc B (e ∷ []) es))
    ∙ closed_along es (B ++ e ∷ []) c (closed_next B e c closed)

-- a closed source stays closed
pub closed_later : (B H : List Event) → IsPrefix B H → (c : ℕ) → is_closed B c ≡ true → is_closed H c ≡ true
closed_later B H begins c closed =
    let rest = rest_of_prefix B H begins in
    ap (λ X. is_closed X c) (sym rest.1) ∙ closed_along rest.0 B c closed
