-- A round of Kahn's iteration, put together from what each process puts.
use Rattle.kpn_net.proofs.Common.{◌≡◌, ℕ, zero, suc, ◌+◌, ◌<◌, ℤ, cond, Bool, true, false, eqb, eq-eqb, List, [], ◌∷◌, ◌++◌, length, get_or, set, map, take, count_by, Option, Some, refl, sym, ap, ◌∙◌, subst, inl, inr, arith, append_assoc, get_or-set_same, get_or-set_other, length-set, add-one, range_with_len, append-nil, take_more, get_or_default, fill_by_all, get_or-map-range_with_len, length-map-range_with_len, map-range_with_len_more, count_by_more_yes, sum_by-take-le, cases_eq, ne_eqb, Said, Got, Put, Parts, alone, put_at, Instance, Process, Source, Sink, Tables, instance_at, program_of, channel_at, is_source, writer_of, IsNetwork, Family, at_channel, ran_on, out_of, written_by, first_round, next_round, given_by, put_on, NamesOutsBelow, lists_of}
use Rattle.std.proofs.lemmas.Option.{slice_get-get_or}
use Rattle.kpn_net.specs.declared.tables.End.{End}
use Rattle.kpn_net.proofs.Networks.{AreThere, IsInstance-of, IsProgram-of, StandsAt, Writes, writer_of-Writes, Writes-writer_of, writer_of-source}
use Rattle.kpn_net.proofs.Ports.{SaidNames, TalkNames, alone-names}

-- ---- lists by channel

pub same_on_range : (f g : Family) (n : ℕ) → ((c : ℕ) → c < n → f c ≡ g c)
    → map f (range_with_len 0 n) ≡ map g (range_with_len 0 n)
same_on_range f g n h =
    fill_by_all g (map f (range_with_len 0 n)) n [] (length-map-range_with_len f 0 n)
    (λ c below. get_or-map-range_with_len f 0 n c c [] below (omega arith) ∙ h c below)

pub list_of : (t : Tables) (X : Family) (lists : List (List ℤ)) → lists ≡ lists_of t X → (c : ℕ)
    → c < length t.channels → get_or lists c [] ≡ X c
list_of t X lists e c below =
    ap (λ xs. get_or xs c []) e ∙ get_or-map-range_with_len X 0 (length t.channels) c c [] below (omega arith)

pub length-lists_of : (t : Tables) (X : Family) (lists : List (List ℤ)) → lists ≡ lists_of t X
    → length lists ≡ length t.channels
length-lists_of t X lists e = ap length e ∙ length-map-range_with_len X 0 (length t.channels)

-- an item after one of the lists
pub set-lists : (lists : List (List ℤ)) (n : ℕ) (F : Family) (d : ℕ) (v : ℤ) → lists ≡ map F (range_with_len 0 n)
    → d < n
    → set lists d (get_or lists d [] ++ v ∷ []) ≡ map (λ c. F c ++ cond (eqb d c) (v ∷ []) []) (range_with_len 0 n)
set-lists lists n F d v e below =
    let long = ap length e ∙ length-map-range_with_len F 0 n in
    fill_by_all _ (set lists d (get_or lists d [] ++ v ∷ [])) n [] (length-set lists d _ ∙ long)
    (λ c h.
    let read : get_or lists c [] ≡ F c =
    ap (λ xs. get_or xs c []) e ∙ get_or-map-range_with_len F 0 n c c [] h (omega arith) in
    elim (cases_eq c d) [
      | inl same ↦
          rw same (
          get_or-set_same lists d _ [] (omega arith)
          ∙ ap (λ xs. xs ++ v ∷ []) (subst (λ k. get_or lists k [] ≡ F k) same read)
          ∙ ap (λ b. F d ++ cond b (v ∷ []) []) (sym (eq-eqb d d refl)))
      | inr differ ↦
          get_or-set_other lists d c _ [] differ
          ∙ read
          ∙ sym (append-nil (F c))
          ∙ ap (λ b. F c ++ cond b (v ∷ []) []) (sym (ne_eqb d c (λ same. differ (sym same))))
    ])

-- ---- what a talk puts

pub put_on-append : (outs : List ℕ) (talk more : List Said) (c : ℕ)
    → put_on outs (talk ++ more) c ≡ put_on outs talk c ++ put_on outs more c
put_on-append outs [] more c = refl
put_on-append outs (Got port v ∷ talk) more c = put_on-append outs talk more c
put_on-append outs (Put port v ∷ talk) more c = which (eqb (get_or outs port 0) c) (put_on-append outs talk more c)
  where
    which : (b : Bool) → put_on outs (talk ++ more) c ≡ put_on outs talk c ++ put_on outs more c
        → cond b (v ∷ put_on outs (talk ++ more) c) (put_on outs (talk ++ more) c)
        ≡ cond b (v ∷ put_on outs talk c) (put_on outs talk c) ++ put_on outs more c
    which true e = ap (λ xs. v ∷ xs) e
    which false e = e

pub put_on-more : (outs : List ℕ) (talk : List Said) (k : ℕ) (said : Said) (c : ℕ) → k < length talk
    → get_or talk k said ≡ said
    → put_on outs (take (k + 1) talk) c ≡ put_on outs (take k talk) c ++ put_on outs (said ∷ []) c
put_on-more outs talk k said c h e =
    ap (λ xs. put_on outs xs c) (take_more talk k said h ∙ ap (λ s. take k talk ++ s ∷ []) e)
    ∙ put_on-append outs (take k talk) (said ∷ []) c

pub put_on-got : (outs : List ℕ) (said : Said) (c : ℕ) → ((port : ℕ) (v : ℤ) → said ≡ Put port v → ⊥)
    → put_on outs (said ∷ []) c ≡ []
put_on-got outs (Got port v) c h = refl
put_on-got outs (Put port v) c h = absurd (h port v refl)

-- the lists with what a talk put, and one thing more
pub lists-put : (lists : List (List ℤ)) (n : ℕ) (so_far : Family) (outs : List ℕ) (talk : List Said) (k port : ℕ)
    (v : ℤ) → lists ≡ map (λ c. so_far c ++ put_on outs (take k talk) c) (range_with_len 0 n) → k < length talk
    → get_or talk k (Put port v) ≡ Put port v → get_or outs port 0 < n
    → set lists (get_or outs port 0) (get_or lists (get_or outs port 0) [] ++ v ∷ [])
    ≡ map (λ c. so_far c ++ put_on outs (take (k + 1) talk) c) (range_with_len 0 n)
lists-put lists n so_far outs talk k port v e h is below =
    set-lists lists n _ (get_or outs port 0) v e below
    ∙ same_on_range _ _ n
    (λ c _. append_assoc (so_far c) (put_on outs (take k talk) c) (put_on outs (Put port v ∷ []) c)
    ∙ ap (λ xs. so_far c ++ xs) (sym (put_on-more outs talk k (Put port v) c h is)))

pub lists-got : (lists : List (List ℤ)) (n : ℕ) (so_far : Family) (outs : List ℕ) (talk : List Said) (k : ℕ)
    (said : Said) → lists ≡ map (λ c. so_far c ++ put_on outs (take k talk) c) (range_with_len 0 n) → k < length talk
    → get_or talk k said ≡ said → ((port : ℕ) (v : ℤ) → said ≡ Put port v → ⊥)
    → lists ≡ map (λ c. so_far c ++ put_on outs (take (k + 1) talk) c) (range_with_len 0 n)
lists-got lists n so_far outs talk k said e h is got =
    e
    ∙ same_on_range _ _ n
    (λ c _. ap (λ xs. so_far c ++ xs)
    (sym
    (put_on-more outs talk k said c h is
    ∙ ap (λ xs. put_on outs (take k talk) c ++ xs) (put_on-got outs said c got)
    ∙ append-nil (put_on outs (take k talk) c))))

-- of a process on channels
pub put_on-out_of : (i : Instance) (talk : List Said) (c : ℕ)
    → put_on i.outs talk c ≡ put_at (map (at_channel i) talk) c
put_on-out_of i [] c = refl
put_on-out_of i (Got port v ∷ talk) c = put_on-out_of i talk c
put_on-out_of i (Put port v ∷ talk) c =
    ap (λ xs. cond (eqb (get_or i.outs port 0) c) (v ∷ xs) xs) (put_on-out_of i talk c)

-- ---- a process puts nothing on channels that it does not write

put_on-none : (outs : List ℕ) (ins : ℕ) (talk : List Said) (c : ℕ) → TalkNames ins (length outs) talk
    → (StandsAt outs c → ⊥) → put_on outs talk c ≡ []
put_on-none outs ins [] c names h = refl
put_on-none outs ins (Got port v ∷ talk) c names h = put_on-none outs ins talk c names.1 h
put_on-none outs ins (Put port v ∷ talk) c names h =
    ap (λ b. cond b (v ∷ put_on outs talk c) (put_on outs talk c))
    (ne_eqb (get_or outs port 0) c (λ e. h (record { port = port; there = names.0; is = e })))
    ∙ put_on-none outs ins talk c names.1 h

pub talk-names : (t : Tables) → IsNetwork t → (p : ℕ) → p < length t.instances → (n : ℕ) (X : Family)
    → TalkNames (program_of t p).ins (length (instance_at t p).outs) (ran_on t p n X).talk
talk-names t network p below n X =
    let i = instance_at t p in
    subst (λ m. TalkNames (program_of t p).ins m (ran_on t p n X).talk) (sym (IsInstance-of t network p below).outs)
    (alone-names (program_of t p) (IsProgram-of t network p below) i.pars n (map X i.ins)).talk

pub out_of-none : (t : Tables) → IsNetwork t → (p : ℕ) → p < length t.instances → (n : ℕ) (X : Family) (c : ℕ)
    → (Writes t p c → ⊥) → out_of t p n X c ≡ []
out_of-none t network p below n X c h =
    sym (put_on-out_of (instance_at t p) (ran_on t p n X).talk c)
    ∙ put_on-none (instance_at t p).outs (program_of t p).ins (ran_on t p n X).talk c
    (talk-names t network p below n X)
    (λ s. h (record { process = below; place = s }))

-- ---- what the first processes put on a channel

abbrev pub put_by_first : Tables → (n : ℕ) → Family → (c p : ℕ) → List ℤ
put_by_first t n X c zero = []
put_by_first t n X c (suc p) = put_by_first t n X c p ++ out_of t p n X c

put_by_first-none : (t : Tables) (n : ℕ) (X : Family) (c m : ℕ) → ((q : ℕ) → q < m → out_of t q n X c ≡ [])
    → put_by_first t n X c m ≡ []
put_by_first-none t n X c zero h = refl
put_by_first-none t n X c (suc m) h =
    ap (λ xs. xs ++ out_of t m n X c) (put_by_first-none t n X c m (λ q below. h q (omega arith))) ∙ h m (omega arith)

put_by_first-one : (t : Tables) (n : ℕ) (X : Family) (c m p : ℕ) → p < m
    → ((q : ℕ) → q < m → (q ≡ p → ⊥) → out_of t q n X c ≡ []) → put_by_first t n X c m ≡ out_of t p n X c
put_by_first-one t n X c zero p below h = absurd (omega arith)
put_by_first-one t n X c (suc m) p below h =
    elim (cases_eq m p) [
      | inl same ↦
          ap (λ xs. xs ++ out_of t m n X c) (put_by_first-none t n X c m (λ q less. h q (omega arith) (omega arith)))
          ∙ ap (λ q. out_of t q n X c) same
      | inr differ ↦
          ap (λ xs. xs ++ out_of t m n X c) (put_by_first-one t n X c m p (omega arith) (λ q less. h q (omega arith)))
          ∙ ap (λ xs. out_of t p n X c ++ xs) (h m (omega arith) differ)
          ∙ append-nil (out_of t p n X c)
    ]

-- all processes together put on a channel what its writer does
put_by_all : (t : Tables) → IsNetwork t → (n : ℕ) (X : Family) (c : ℕ) (end : End) → writer_of t c ≡ end
    → put_by_first t n X c (length t.instances) ≡ written_by t n X c end
put_by_all t network n X c (Process p) e =
    put_by_first-one t n X c (length t.instances) p (Writes-writer_of t p c e).process
    (λ q below differ.
    out_of-none t network q below n X c
    (λ w. let f = writer_of-Writes t network q c w in
    differ (let g : Process q ≡ Process p = sym f ∙ e in let same : q ≡ p = cc in same)))
put_by_all t network n X c Source e =
    put_by_first-none t n X c (length t.instances)
    (λ q below. out_of-none t network q below n X c (λ w. let f = writer_of-Writes t network q c w in absurd cc))
put_by_all t network n X c Sink e =
    put_by_first-none t n X c (length t.instances)
    (λ q below. out_of-none t network q below n X c (λ w. let f = writer_of-Writes t network q c w in absurd cc))

-- the given lists and what all processes put are the next round
pub next_round-put : (t : Tables) → IsNetwork t → (given : Family) (n : ℕ) (X : Family) (c : ℕ)
    → first_round t given c ++ put_by_first t n X c (length t.instances) ≡ next_round t given n X c
next_round-put t network given n X c =
    which (is_source (channel_at t c)) refl (put_by_all t network n X c (writer_of t c) refl)
  where
    which : (b : Bool) → is_source (channel_at t c) ≡ b
        → put_by_first t n X c (length t.instances) ≡ written_by t n X c (writer_of t c)
        → cond b (given c) [] ++ put_by_first t n X c (length t.instances)
        ≡ cond b (given c) (written_by t n X c (writer_of t c))
    which true e all =
        ap (λ xs. given c ++ xs) (all ∙ ap (written_by t n X c) (writer_of-source t c e)) ∙ append-nil (given c)
    which false e all = all

-- ---- a talk that names its ports, by place

pub NamesOutsBelow-from : (ins outs : ℕ) (talk : List Said) → TalkNames ins outs talk → NamesOutsBelow outs talk
NamesOutsBelow-from ins outs [] names k port v e = absurd cc
NamesOutsBelow-from ins outs (said ∷ talk) names zero port v e = put_below said names.0 port v e
  where
    put_below : (s : Said) → SaidNames ins outs s → (port : ℕ) (v : ℤ)
        → ◌≡◌ {A = Option Said} (Some s) (Some (Put port v)) → port < outs
    put_below (Got i w) h port v e = absurd cc
    put_below (Put o w) h port v e = let same : o ≡ port = cc in subst (λ q. q < outs) same h
NamesOutsBelow-from ins outs (said ∷ talk) names (suc k) port v e =
    NamesOutsBelow-from ins outs talk names.1 k port v e

-- the same at any defaults
pub lists-put_at : (lists : List (List ℤ)) (n : ℕ) (so_far : Family) (outs : List ℕ) (talk : List Said) (k port : ℕ)
    (v : ℤ) (other : Said) (items rest : List ℤ)
    → lists ≡ map (λ c. so_far c ++ put_on outs (take k talk) c) (range_with_len 0 n) → k < length talk
    → get_or talk k other ≡ Put port v → get_or outs port 0 < n
    → items ≡ get_or lists (get_or outs port 0) rest ++ v ∷ []
    → set lists (get_or outs port 0) items
    ≡ map (λ c. so_far c ++ put_on outs (take (k + 1) talk) c) (range_with_len 0 n)
lists-put_at lists n so_far outs talk k port v other items rest e h is below new =
    let long = ap length e ∙ length-map-range_with_len (λ c. so_far c ++ put_on outs (take k talk) c) 0 n in
    let there : get_or outs port 0 < length lists = omega arith in
    ap (set lists (get_or outs port 0))
    (new ∙ ap (λ xs. xs ++ v ∷ []) (get_or_default lists (get_or outs port 0) rest [] there))
    ∙ lists-put lists n so_far outs talk k port v e h (get_or_default talk k (Put port v) other h ∙ is) below

pub lists-got_at : (lists : List (List ℤ)) (n : ℕ) (so_far : Family) (outs : List ℕ) (talk : List Said) (k : ℕ)
    (other : Said) → lists ≡ map (λ c. so_far c ++ put_on outs (take k talk) c) (range_with_len 0 n) → k < length talk
    → ((port : ℕ) (v : ℤ) → get_or talk k other ≡ Put port v → ⊥)
    → lists ≡ map (λ c. so_far c ++ put_on outs (take (k + 1) talk) c) (range_with_len 0 n)
lists-got_at lists n so_far outs talk k other e h got =
    lists-got lists n so_far outs talk k (get_or talk k other) e h
    (get_or_default talk k (get_or talk k other) other h) got

-- a port of the talk is below their number
pub port_below : (outs : ℕ) (talk : List Said) → NamesOutsBelow outs talk → (k port : ℕ) (v : ℤ) (other : Said)
    → k < length talk → get_or talk k other ≡ Put port v → port < outs
port_below outs talk names k port v other h is = names k port v (slice_get-get_or talk k other h ∙ ap Some is)

-- ---- round 0, one channel after another

pub first-source : (t : Tables) (given : List (List ℤ)) (c source : ℕ) → is_source (channel_at t c) ≡ true
    → source ≡ count_by is_source (take c t.channels) → first_round t (given_by t given) c ≡ get_or given source []
first-source t given c source e s = ap (λ b. cond b (given_by t given c) []) e ∙ ap (λ n. get_or given n []) (sym s)

pub first-other : (t : Tables) (given : List (List ℤ)) (c : ℕ) → is_source (channel_at t c) ≡ false
    → first_round t (given_by t given) c ≡ []
first-other t given c e = ap (λ b. cond b (given_by t given c) []) e

pub one_more : (t : Tables) (F : Family) (lists more : List (List ℤ)) (c : ℕ) (items : List ℤ)
    → lists ≡ map F (range_with_len 0 c) → more ≡ lists ++ items ∷ [] → items ≡ F c
    → more ≡ map F (range_with_len 0 (c + 1))
one_more t F lists more c items e m i =
    m ∙ ap (λ xs. xs ++ items ∷ []) e ∙ ap (λ x. map F (range_with_len 0 c) ++ x ∷ []) i
    ∙ sym (map-range_with_len_more F 0 c c (omega arith))

-- there is a list for each source
pub source_below : (t : Tables) (c : ℕ) → c < length t.channels → is_source (channel_at t c) ≡ true
    → count_by is_source (take c t.channels) < count_by is_source t.channels
source_below t c below e =
    let one = count_by_more_yes is_source t.channels c _ below e in
    let rest = sum_by-take-le (λ s. cond (is_source s) 1 0) t.channels (c + 1) in
    omega arith

-- a copy of a given list
pub copied : (given : List (List ℤ)) (source : ℕ) (copy slice read : List ℤ) → copy ≡ slice → slice ≡ read
    → read ≡ get_or given source read → source < length given → copy ≡ get_or given source []
copied given source copy slice read c s r below = c ∙ s ∙ r ∙ get_or_default given source read [] below

-- ---- a process on the lists of a round

pub same_alone : (parts other : Parts) (pars values : List ℤ) (n : ℕ) (lists others : List (List ℤ)) → parts ≡ other
    → pars ≡ values → lists ≡ others → alone parts pars n lists ≡ alone other values n others
same_alone parts other pars values n lists others e f g =
    ap (λ x. alone x pars n lists) e ∙ ap (λ x. alone other x n lists) f ∙ ap (λ x. alone other values n x) g

-- the lists of channels that are there
pub same_lists : (t : Tables) (X : Family) (lists : List (List ℤ)) → lists ≡ lists_of t X → (channels : List ℕ)
    → AreThere t channels → map (λ c. get_or lists c []) channels ≡ map X channels
same_lists t X lists e [] there = refl
same_lists t X lists e (c ∷ channels) there =
    ap (λ xs. xs ∷ map (λ d. get_or lists d []) channels) (list_of t X lists e c (there.each 0 0 (omega arith)))
    ∙ ap (λ rest. X c ∷ rest)
    (same_lists t X lists e channels (record { each = λ port d h. there.each (suc port) d (omega arith) }))

-- what a process says names its out ports
pub NamesOutsBelow-alone : (t : Tables) → IsNetwork t → (p : ℕ) → p < length t.instances → (parts : Parts)
    → parts ≡ program_of t p → (pars : List ℤ) (n : ℕ) (lists : List (List ℤ))
    → NamesOutsBelow (length (instance_at t p).outs) (alone parts pars n lists).talk
NamesOutsBelow-alone t network p below parts e pars n lists =
    let i = instance_at t p in
    subst (λ q. NamesOutsBelow (length i.outs) (alone q pars n lists).talk) (sym e)
    (NamesOutsBelow-from (program_of t p).ins (length i.outs) (alone (program_of t p) pars n lists).talk
    (subst (λ m. TalkNames (program_of t p).ins m (alone (program_of t p) pars n lists).talk)
    (sym (IsInstance-of t network p below).outs)
    (alone-names (program_of t p) (IsProgram-of t network p below) pars n lists).talk))

-- what was appended for a process
pub appended : (t : Tables) (p n : ℕ) (X so_far : Family) (outs : List ℕ) (talk : List Said) (m : ℕ)
    (lists : List (List ℤ)) → outs ≡ (instance_at t p).outs → talk ≡ (ran_on t p n X).talk → m ≡ length t.channels
    → lists ≡ map (λ c. so_far c ++ put_on outs talk c) (range_with_len 0 m)
    → lists ≡ lists_of t (λ c. so_far c ++ out_of t p n X c)
appended t p n X so_far outs talk m lists o s e l =
    l
    ∙ ap (λ k. map (λ c. so_far c ++ put_on outs talk c) (range_with_len 0 k)) e
    ∙ same_on_range _ _ (length t.channels)
    (λ c _. ap (λ xs. so_far c ++ xs)
    (ap (λ x. put_on x talk c) o ∙ ap (λ x. put_on (instance_at t p).outs x c) s
    ∙ put_on-out_of (instance_at t p) (ran_on t p n X).talk c))

-- ---- the processes of a round, one after another

-- any lists, one for each channel, as a family
abbrev pub family_of : List (List ℤ) → Family
family_of lists c = get_or lists c []

pub lists_of-family_of : (t : Tables) (lists : List (List ℤ)) → length lists ≡ length t.channels
    → lists ≡ lists_of t (family_of lists)
lists_of-family_of t lists e = fill_by_all (family_of lists) lists (length t.channels) [] e (λ c below. refl)

pub one_process_more : (t : Tables) (n : ℕ) (X F : Family) (p : ℕ) (lists : List (List ℤ))
    → lists ≡ lists_of t (λ c. (F c ++ put_by_first t n X c p) ++ out_of t p n X c)
    → lists ≡ lists_of t (λ c. F c ++ put_by_first t n X c (p + 1))
one_process_more t n X F p lists e =
    e
    ∙ same_on_range _ _ (length t.channels)
    (λ c _. append_assoc (F c) (put_by_first t n X c p) (out_of t p n X c)
    ∙ ap (λ m. F c ++ put_by_first t n X c m) (sym (add-one p)))

pub all_processes : (t : Tables) → IsNetwork t → (given : Family) (n : ℕ) (X : Family) (p : ℕ) (lists : List (List ℤ))
    → p ≡ length t.instances → lists ≡ lists_of t (λ c. first_round t given c ++ put_by_first t n X c p)
    → lists ≡ lists_of t (next_round t given n X)
all_processes t network given n X p lists e l =
    l
    ∙ same_on_range _ _ (length t.channels)
    (λ c _. ap (λ m. first_round t given c ++ put_by_first t n X c m) e ∙ next_round-put t network given n X c)
