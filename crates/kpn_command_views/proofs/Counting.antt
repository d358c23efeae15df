-- What one more event does to the figures of a history.
use Rattle.std.proofs.Common.{◌≡◌, ◌≢◌, ℕ, ◌+◌, ◌-◌, ◌^◌, ◌<◌, ◌≤◌, max, Bool, true, false, ℤ, cond, nat_eq, eq-eqb, List, [], ◌∷◌, ◌++◌, length, take, set, get_or, replicate, count_by, Option, Some, None, refl, sym, ap, ◌∙◌, subst, inl, inr, arith, length-drop, length-append}
use Rattle.kpn_command_views.proofs.Common.{flat_map, cases_lt, ne_eqb, take-append-le, get_or-set_same, get_or-set_other, length-set, length-replicate, get_or-replicate, length_push, length-take, take_more, take_all, sum_by_push, Tables, Event, Get, Put, WaitEmpty, WaitFull, Feed, Take, Grow, written_in, read_in, written_on, read_on, unread_on, is_growth_of, ChannelFigures, ProcessFigures, Figures, waits_for_item, waits_for_room, is_get_of, is_put_of, is_wait_empty_of, is_wait_full_of, unread_behind, IsMostUnread, CountsChannel, CountsProcess, CountChannels, CountProcesses, AreFigures, no_channel, no_process, channel_counts_then, with_most, channel_then, channel_total, channels_then, process_then, process_total, processes_then, changed_at}
use Rattle.std.proofs.lemmas.Bool.Decides.{eqb_tells}
use Rattle.std.proofs.Math.Seq.{take-length}
use Rattle.kpn_history.specs.Talks.{process_of, channel_of}
use Rattle.kpn_history.proofs.Events.{flat_map-push}

-- ---- lists

count_push : {X : Type 0} (f : X → Bool) (xs : List X) (x : X)
    → count_by f (xs ++ x ∷ []) ≡ count_by f xs + cond (f x) 1 0
count_push f xs x = sum_by_push (λ y. cond (f y) 1 0) xs x

length_push_flat : {X A : Type 0} (f : X → List A) (xs : List X) (x : X)
    → length (flat_map f (xs ++ x ∷ [])) ≡ length (flat_map f xs) + length (f x)
length_push_flat f xs x = ap length (flat_map-push f xs x) ∙ length-append (flat_map f xs) (f x)

-- a count and one event more
count_next : (test : Event → Bool) (H : List Event) (e : Event) (n m : ℕ) → m ≡ n + cond (test e) 1 0
    → n ≡ count_by test H → m ≡ count_by test (H ++ e ∷ [])
count_next test H e n m adds was = omega (arith, adds, was, count_push test H e)

-- the same of items
items_next : (items : Event → List ℤ) (H : List Event) (e : Event) (n m : ℕ) → m ≡ n + length (items e)
    → n ≡ length (flat_map items H) → m ≡ length (flat_map items (H ++ e ∷ []))
items_next items H e n m adds was = omega (arith, adds, was, length_push_flat items H e)

-- ---- figures in a list

-- this holds of the figures at each number
abbrev pub Each : {F : Type 0} → (none : F) → (ℕ → F → Type 0) → List F → Type 0
Each none Holds figures = (k : ℕ) → k < length figures → Holds k (get_or figures k none)

each_first : {F : Type 0} (none : F) (Holds : ℕ → F → Type 0) (n : ℕ) (figures : List F) → figures ≡ replicate n none
    → ((k : ℕ) → Holds k none) → Each none Holds figures
each_first none Holds n figures made first k below =
    let there : k < n = omega (arith, below, ap length made, length-replicate n none) in
    subst (Holds k) (sym (ap (λ xs. get_or xs k none) made ∙ get_or-replicate n k none none there)) (first k)

-- one event more, which is one at this number
each_next : {F : Type 0} (none : F) (step : F → F) (Before After : ℕ → F → Type 0) (place : Option ℕ)
    → ((k : ℕ) (f : F) → place ≡ Some k → Before k f → After k (step f))
    → ((k : ℕ) (f : F) → place ≢ Some k → Before k f → After k f)
    → (figures more : List F) → more ≡ changed_at none step place figures → Each none Before figures
    → Each none After more
each_next none step Before After None own other figures more made was k below =
    let same = ap (λ xs. get_or xs k none) made in
    subst (After k) (sym same) (other k _ (λ on. absurd cc) (was k (omega (arith, below, ap length made))))
each_next none step Before After (Some d) own other figures more made was k below =
    let f = step (get_or figures d none) in
    let there : k < length figures = omega (arith, below, ap length made, length-set figures d f) in
    let now = ap (λ xs. get_or xs k none) made in
    elim (eqb_tells k d) [
      | inl same ↦
          let known : get_or (set figures d f) k none ≡ step (get_or figures k none) =
          subst (λ j. get_or (set figures d f) j none ≡ step (get_or figures j none)) (sym same.1)
          (get_or-set_same figures d f none (subst (λ j. j < length figures) same.1 there)) in
          subst (After k) (sym (now ∙ known)) (own k (get_or figures k none) (ap Some (sym same.1)) (was k there))
      | inr differs ↦
          subst (After k) (sym (now ∙ get_or-set_other figures d k f none differs.1))
          (other k (get_or figures k none) (λ on. differs.1 cc) (was k there))
    ]

as_many : {F : Type 0} (none : F) (step : F → F) (place : Option ℕ) (figures : List F)
    → length (changed_at none step place figures) ≡ length figures
as_many none step None figures = refl
as_many none step (Some d) figures = length-set figures d _

-- ---- the most unread items

unread_now : (H : List Event) (c : ℕ) → unread_behind H c (length H) ≡ length (written_on H c) - length (read_on H c)
unread_now H c =
    ap (λ (xs : List Event). length (unread_on xs c)) (take-length H)
    ∙ length-drop (length (read_on H c)) (written_on H c)

unread_before : (H : List Event) (e : Event) (c k : ℕ) → k ≤ length H
    → unread_behind (H ++ e ∷ []) c k ≡ unread_behind H c k
unread_before H e c k fits =
    ap (λ (xs : List Event). length (unread_on xs c)) (take-append-le k H (e ∷ []) fits)

most_push : (H : List Event) (e : Event) (c m u : ℕ) → IsMostUnread H c m
    → length (written_on (H ++ e ∷ []) c) - length (read_on (H ++ e ∷ []) c) ≡ u
    → IsMostUnread (H ++ e ∷ []) c (max m u)
most_push H e c m u most now =
    let more = H ++ e ∷ [] in
    let one : length more ≡ length H + 1 = length_push H e in
    let last : unread_behind more c (length more) ≡ u = unread_now more c ∙ now in
    record {
      reached = elim (cases_lt m u) [
        | inl less ↦ (length more, (omega arith, last ∙ (omega (arith, less))))
        | inr most_before ↦
            let old = most.reached in (
              old.0,
              (
                omega (arith, one, old.1.0),
                unread_before H e c old.0 old.1.0 ∙ old.1.1 ∙ (omega (arith, most_before)),
              ),
            )
      ];
      bounded = λ k fits. elim (cases_lt (length H) k) [
        | inl past ↦
            let whole : k ≡ length more = omega (arith, past, fits, one) in
            let there : unread_behind more c k ≡ u = ap (unread_behind more c) whole ∙ last in
            omega (arith, there)
        | inr within ↦
            let same = unread_before H e c k within in
            omega (arith, same, most.bounded k within)
      ];
    }

most_of_none : (c : ℕ) → IsMostUnread [] c 0
most_of_none c =
    record {
      reached = (0, (omega arith, refl));
      bounded = λ k fits. let none : k ≡ 0 = omega (arith, fits) in
          let zero : unread_behind [] c k ≡ 0 = ap (unread_behind [] c) none in
          omega (arith, zero);
    }

-- ---- channels

-- what is counted, and no more than there are events
pub record CountedChannel (H : List Event) (c : ℕ) (f : ChannelFigures) : Type 0 where
  pub counts : CountsChannel H c f
  pub total : channel_total f ≤ length H

-- by how much an event adds to the figures
record AddsChannel (c : ℕ) (e : Event) (f g : ChannelFigures) : Type 0 where
  put : g.put ≡ f.put + length (written_in c e)
  read : g.read ≡ f.read + length (read_in c e)
  growths : g.growths ≡ f.growths + cond (is_growth_of c e) 1 0
  waits_empty : g.waits_empty ≡ f.waits_empty + cond (waits_for_item c e) 1 0
  waits_full : g.waits_full ≡ f.waits_full + cond (waits_for_room c e) 1 0
  most : g.most ≡ f.most
  total : channel_total g ≤ channel_total f + 1

if_on : {A : Type 0} (b : Bool) (x y : A) → b ≡ true → cond b x y ≡ x
if_on true x y is = refl
if_on false x y is = absurd cc

if_off : {A : Type 0} (b : Bool) (x y : A) → b ≡ false → cond b x y ≡ y
if_off true x y is = absurd cc
if_off false x y is = refl

-- an event at this number counts, and an event at another one does not
one : (d c : ℕ) → Some d ≡ Some c → cond {A = ℕ} (nat_eq d c) 1 0 ≡ 1
one d c is = if_on (nat_eq d c) 1 0 (eq-eqb d c cc)

none : (d c : ℕ) → Some d ≢ Some c → cond {A = ℕ} (nat_eq d c) 1 0 ≡ 0
none d c differs = if_off (nat_eq d c) 1 0 (ne_eqb d c (λ same. differs (ap Some same)))

one_item : (d c : ℕ) (v : ℤ) → Some d ≡ Some c → length (cond (nat_eq d c) (v ∷ []) []) ≡ 1
one_item d c v is = ap length (if_on (nat_eq d c) (v ∷ []) [] (eq-eqb d c cc))

no_item : (d c : ℕ) (v : ℤ) → Some d ≢ Some c → length (cond (nat_eq d c) (v ∷ []) []) ≡ 0
no_item d c v differs = ap length (if_off (nat_eq d c) (v ∷ []) [] (ne_eqb d c (λ same. differs (ap Some same))))

-- an event on the channel adds to its figures

put_more : (c : ℕ) (e : Event) (f : ChannelFigures) → channel_of e ≡ Some c
    → (channel_counts_then f e).put ≡ f.put + length (written_in c e)
put_more c (Put p d v) f is = omega (arith, one_item d c v is)
put_more c (Feed d v) f is = omega (arith, one_item d c v is)
put_more c event f is = omega arith

read_more : (c : ℕ) (e : Event) (f : ChannelFigures) → channel_of e ≡ Some c
    → (channel_counts_then f e).read ≡ f.read + length (read_in c e)
read_more c (Get p d v) f is = omega (arith, one_item d c v is)
read_more c (Take d v) f is = omega (arith, one_item d c v is)
read_more c event f is = omega arith

growths_more : (c : ℕ) (e : Event) (f : ChannelFigures) → channel_of e ≡ Some c
    → (channel_counts_then f e).growths ≡ f.growths + cond (is_growth_of c e) 1 0
growths_more c (Grow p d n) f is = omega (arith, one d c is)
growths_more c event f is = omega arith

waits_empty_more : (c : ℕ) (e : Event) (f : ChannelFigures) → channel_of e ≡ Some c
    → (channel_counts_then f e).waits_empty ≡ f.waits_empty + cond (waits_for_item c e) 1 0
waits_empty_more c (WaitEmpty p d) f is = omega (arith, one d c is)
waits_empty_more c event f is = omega arith

waits_full_more : (c : ℕ) (e : Event) (f : ChannelFigures) → channel_of e ≡ Some c
    → (channel_counts_then f e).waits_full ≡ f.waits_full + cond (waits_for_room c e) 1 0
waits_full_more c (WaitFull p d) f is = omega (arith, one d c is)
waits_full_more c event f is = omega arith

most_same : (e : Event) (f : ChannelFigures) → (channel_counts_then f e).most ≡ f.most
most_same (Get p c v) f = refl
most_same event f = refl

total_more : (e : Event) (f : ChannelFigures) → channel_total (channel_counts_then f e) ≤ channel_total f + 1
total_more (Get p c v) f = omega arith
total_more event f = omega arith

adds_on : (c : ℕ) (e : Event) (f : ChannelFigures) → channel_of e ≡ Some c → AddsChannel c e f (channel_counts_then f e)
adds_on c e f is =
    record {
      put = put_more c e f is;
      read = read_more c e f is;
      growths = growths_more c e f is;
      waits_empty = waits_empty_more c e f is;
      waits_full = waits_full_more c e f is;
      most = most_same e f;
      total = total_more e f;
    }

-- an event on another one adds nothing

none_put : (c : ℕ) (e : Event) → channel_of e ≢ Some c → length (written_in c e) ≡ 0
none_put c (Put p d v) differs = no_item d c v differs
none_put c (Feed d v) differs = no_item d c v differs
none_put c event differs = refl

none_read : (c : ℕ) (e : Event) → channel_of e ≢ Some c → length (read_in c e) ≡ 0
none_read c (Get p d v) differs = no_item d c v differs
none_read c (Take d v) differs = no_item d c v differs
none_read c event differs = refl

no_growth : (c : ℕ) (e : Event) → channel_of e ≢ Some c → cond {A = ℕ} (is_growth_of c e) 1 0 ≡ 0
no_growth c (Grow p d n) differs = none d c differs
no_growth c event differs = refl

no_wait_for_item : (c : ℕ) (e : Event) → channel_of e ≢ Some c → cond {A = ℕ} (waits_for_item c e) 1 0 ≡ 0
no_wait_for_item c (WaitEmpty p d) differs = none d c differs
no_wait_for_item c event differs = refl

no_wait_for_room : (c : ℕ) (e : Event) → channel_of e ≢ Some c → cond {A = ℕ} (waits_for_room c e) 1 0 ≡ 0
no_wait_for_room c (WaitFull p d) differs = none d c differs
no_wait_for_room c event differs = refl

adds_off : (c : ℕ) (e : Event) (f : ChannelFigures) → channel_of e ≢ Some c → AddsChannel c e f f
adds_off c e f differs =
    record {
      put = omega (arith, none_put c e differs);
      read = omega (arith, none_read c e differs);
      growths = omega (arith, no_growth c e differs);
      waits_empty = omega (arith, no_wait_for_item c e differs);
      waits_full = omega (arith, no_wait_for_room c e differs);
      most = refl;
      total = omega arith;
    }

next_channel : (H : List Event) (e : Event) (c : ℕ) (f g : ChannelFigures) → AddsChannel c e f g
    → CountedChannel H c f → CountedChannel (H ++ e ∷ []) c (with_most g)
next_channel H e c f g adds was =
    let counts = was.counts in
    let put = items_next (written_in c) H e f.put g.put adds.put counts.put in
    let read = items_next (read_in c) H e f.read g.read adds.read counts.read in
    let unread : length (written_on (H ++ e ∷ []) c) - length (read_on (H ++ e ∷ []) c) ≡ g.put - g.read =
    omega (arith, put, read) in
    record {
      counts = record {
        put = put;
        read = read;
        most =
            subst (λ m. IsMostUnread (H ++ e ∷ []) c (max m (g.put - g.read))) (sym adds.most)
            (most_push H e c f.most (g.put - g.read) counts.most unread);
        growths = count_next (is_growth_of c) H e f.growths g.growths adds.growths counts.growths;
        waits_empty = count_next (waits_for_item c) H e f.waits_empty g.waits_empty adds.waits_empty counts.waits_empty;
        waits_full = count_next (waits_for_room c) H e f.waits_full g.waits_full adds.waits_full counts.waits_full;
      };
      total = omega (arith, adds.total, was.total, length_push H e);
    }

-- no more is unread now than the most
most_stands : (H : List Event) (c : ℕ) (f : ChannelFigures) → CountedChannel H c f → with_most f ≡ f
most_stands H c f is =
    let last : unread_behind H c (length H) ≤ f.most = is.counts.most.bounded (length H) (omega arith) in
    let now = unread_now H c in
    let stays : max f.most (f.put - f.read) ≡ f.most = omega (arith, last, now, is.counts.put, is.counts.read) in
    ap (λ m. record f { most = m }) stays

off_channel : (H : List Event) (e : Event) (c : ℕ) (f : ChannelFigures) → channel_of e ≢ Some c
    → CountedChannel H c f → CountedChannel (H ++ e ∷ []) c f
off_channel H e c f differs was =
    subst (CountedChannel (H ++ e ∷ []) c) (most_stands H c f was) (next_channel H e c f f (adds_off c e f differs) was)

abbrev pub CountedChannels : List Event → List ChannelFigures → Type 0
CountedChannels H figures = Each no_channel (CountedChannel H) figures

no_event_on : (c : ℕ) → CountedChannel [] c no_channel
no_event_on c =
    record {
      counts = record {
        put = refl;
        read = refl;
        most = most_of_none c;
        growths = refl;
        waits_empty = refl;
        waits_full = refl;
      };
      total = omega arith;
    }

-- ---- processes

pub record CountedProcess (H : List Event) (p : ℕ) (f : ProcessFigures) : Type 0 where
  pub counts : CountsProcess H p f
  pub total : process_total f ≤ length H

record AddsProcess (p : ℕ) (e : Event) (f g : ProcessFigures) : Type 0 where
  gets : g.gets ≡ f.gets + cond (is_get_of p e) 1 0
  puts : g.puts ≡ f.puts + cond (is_put_of p e) 1 0
  waits_empty : g.waits_empty ≡ f.waits_empty + cond (is_wait_empty_of p e) 1 0
  waits_full : g.waits_full ≡ f.waits_full + cond (is_wait_full_of p e) 1 0
  total : process_total g ≤ process_total f + 1

own_adds : (p : ℕ) (e : Event) (f : ProcessFigures) → process_of e ≡ Some p → AddsProcess p e f (process_then f e)
own_adds p (Get q c v) f is = let at = one q p is in
    record {
      gets = omega (arith, at);
      puts = omega arith;
      waits_empty = omega arith;
      waits_full = omega arith;
      total = omega arith;
    }
own_adds p (Put q c v) f is = let at = one q p is in
    record {
      gets = omega arith;
      puts = omega (arith, at);
      waits_empty = omega arith;
      waits_full = omega arith;
      total = omega arith;
    }
own_adds p (WaitEmpty q c) f is = let at = one q p is in
    record {
      gets = omega arith;
      puts = omega arith;
      waits_empty = omega (arith, at);
      waits_full = omega arith;
      total = omega arith;
    }
own_adds p (WaitFull q c) f is = let at = one q p is in
    record {
      gets = omega arith;
      puts = omega arith;
      waits_empty = omega arith;
      waits_full = omega (arith, at);
      total = omega arith;
    }
own_adds p event f is =
    record {
      gets = omega arith;
      puts = omega arith;
      waits_empty = omega arith;
      waits_full = omega arith;
      total = omega arith;
    }

no_get : (p : ℕ) (e : Event) → process_of e ≢ Some p → cond {A = ℕ} (is_get_of p e) 1 0 ≡ 0
no_get p (Get q c v) differs = none q p differs
no_get p event differs = refl

no_put : (p : ℕ) (e : Event) → process_of e ≢ Some p → cond {A = ℕ} (is_put_of p e) 1 0 ≡ 0
no_put p (Put q c v) differs = none q p differs
no_put p event differs = refl

no_wait_empty : (p : ℕ) (e : Event) → process_of e ≢ Some p → cond {A = ℕ} (is_wait_empty_of p e) 1 0 ≡ 0
no_wait_empty p (WaitEmpty q c) differs = none q p differs
no_wait_empty p event differs = refl

no_wait_full : (p : ℕ) (e : Event) → process_of e ≢ Some p → cond {A = ℕ} (is_wait_full_of p e) 1 0 ≡ 0
no_wait_full p (WaitFull q c) differs = none q p differs
no_wait_full p event differs = refl

other_adds : (p : ℕ) (e : Event) (f : ProcessFigures) → process_of e ≢ Some p → AddsProcess p e f f
other_adds p e f differs =
    record {
      gets = omega (arith, no_get p e differs);
      puts = omega (arith, no_put p e differs);
      waits_empty = omega (arith, no_wait_empty p e differs);
      waits_full = omega (arith, no_wait_full p e differs);
      total = omega arith;
    }

next_process : (H : List Event) (e : Event) (p : ℕ) (f g : ProcessFigures) → AddsProcess p e f g
    → CountedProcess H p f → CountedProcess (H ++ e ∷ []) p g
next_process H e p f g adds was =
    let counts = was.counts in
    record {
      counts = record {
        gets = count_next (is_get_of p) H e f.gets g.gets adds.gets counts.gets;
        puts = count_next (is_put_of p) H e f.puts g.puts adds.puts counts.puts;
        waits_empty =
            count_next (is_wait_empty_of p) H e f.waits_empty g.waits_empty adds.waits_empty counts.waits_empty;
        waits_full = count_next (is_wait_full_of p) H e f.waits_full g.waits_full adds.waits_full counts.waits_full;
      };
      total = omega (arith, adds.total, was.total, length_push H e);
    }

abbrev pub CountedProcesses : List Event → List ProcessFigures → Type 0
CountedProcesses H figures = Each no_process (CountedProcess H) figures

no_event_of : (p : ℕ) → CountedProcess [] p no_process
no_event_of p =
    record {
      counts = record { gets = refl; puts = refl; waits_empty = refl; waits_full = refl };
      total = omega arith;
    }

-- ---- both, as far as the events were counted

pub record CountedSoFar (t : Tables) (H : List Event) (channels : List ChannelFigures)
    (processes : List ProcessFigures) : Type 0 where
  pub channel_count : length channels ≡ length t.channels
  pub each_channel : CountedChannels H channels
  pub process_count : length processes ≡ length t.instances
  pub each_process : CountedProcesses H processes

pub nothing_counted : (t : Tables) (channels : List ChannelFigures) (processes : List ProcessFigures)
    → channels ≡ replicate (length t.channels) no_channel → processes ≡ replicate (length t.instances) no_process
    → CountedSoFar t [] channels processes
nothing_counted t channels processes no_channels no_processes =
    record {
      channel_count = ap length no_channels ∙ length-replicate (length t.channels) no_channel;
      each_channel = each_first no_channel (CountedChannel []) (length t.channels) channels no_channels no_event_on;
      process_count = ap length no_processes ∙ length-replicate (length t.instances) no_process;
      each_process =
          each_first no_process (CountedProcess []) (length t.instances) processes no_processes no_event_of;
    }

pub one_more_counted : (t : Tables) (events : List Event) (k : ℕ) (d : Event) (channels now : List ChannelFigures)
    (processes after : List ProcessFigures) → k < length events → CountedSoFar t (take k events) channels processes
    → now ≡ channels_then channels (get_or events k d) → after ≡ processes_then processes (get_or events k d)
    → CountedSoFar t (take (k + 1) events) now after
one_more_counted t events k d channels now processes after below was counted followed =
    let e = get_or events k d in
    let H = take k events in
    subst (λ H. CountedSoFar t H now after) (sym (take_more events k d below))
    (record {
      channel_count =
          ap length counted ∙ as_many no_channel (λ f. channel_then f e) (channel_of e) channels ∙ was.channel_count;
      each_channel =
          each_next no_channel (λ f. channel_then f e) (CountedChannel H) (CountedChannel (H ++ e ∷ [])) (channel_of e)
          (λ c f is. next_channel H e c f (channel_counts_then f e) (adds_on c e f is)) (off_channel H e) channels now
          counted was.each_channel;
      process_count =
          ap length followed ∙ as_many no_process (λ f. process_then f e) (process_of e) processes ∙ was.process_count;
      each_process =
          each_next no_process (λ f. process_then f e) (CountedProcess H) (CountedProcess (H ++ e ∷ [])) (process_of e)
          (λ p f is. next_process H e p f (process_then f e) (own_adds p e f is))
          (λ p f differs. next_process H e p f f (other_adds p e f differs)) processes after followed was.each_process;
    })

-- one more can be counted
pub room_for_one : (t : Tables) (events : List Event) (k n : ℕ) (channels : List ChannelFigures)
    (processes : List ProcessFigures) → CountedSoFar t (take k events) channels processes → k < n → n < 2 ^ 64
    → ((c : ℕ) → c < length channels → channel_total (get_or channels c no_channel) + 1 < 2 ^ 64)
    × ((p : ℕ) → p < length processes → process_total (get_or processes p no_process) + 1 < 2 ^ 64)
room_for_one t events k n channels processes was below fits =
    let few = length-take k events in (
      λ c there. let total = (was.each_channel c there).total in omega (arith, total, few, below, fits),
      λ p there. let total = (was.each_process p there).total in omega (arith, total, few, below, fits),
    )

pub all_counted : (t : Tables) (events : List Event) (k : ℕ) (channels : List ChannelFigures)
    (processes : List ProcessFigures) (figures : Figures) → length events ≤ k
    → CountedSoFar t (take k events) channels processes → figures.channels ≡ channels
    → figures.processes ≡ processes → AreFigures t events figures
all_counted t events k channels processes figures past was same_channels same_processes =
    let whole : take k events ≡ events = take_all k events past in
    record {
      channel_count = ap length same_channels ∙ was.channel_count;
      channels =
          subst (CountChannels events) (sym same_channels)
          (λ c below. subst (λ H. CountsChannel H c (get_or channels c no_channel)) whole
          (was.each_channel c below).counts);
      process_count = ap length same_processes ∙ was.process_count;
      processes =
          subst (CountProcesses events) (sym same_processes)
          (λ p below. subst (λ H. CountsProcess H p (get_or processes p no_process)) whole
          (was.each_process p below).counts);
    }
