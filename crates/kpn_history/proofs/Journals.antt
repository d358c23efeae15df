-- In a legal history the journal of a channel is what its writer put there, what was read from it is what its reader
-- got, and only channels of the network are read.
use Rattle.std.proofs.Common.{◌≡◌, ℕ, ◌<◌, ◌≤◌, Bool, true, false, ℤ, cond, eqb, eq-eqb, List, [], ◌∷◌, ◌++◌, length, drop, refl, sym, ap, ◌∙◌, subst, inl, inr, arith}
use Rattle.kpn_history.proofs.Common.{false_from_ne_true, false≢true, eqb-true, ne_eqb, both_ways, cases_lt, IsPrefix, got_at, put_at, Process, Source, Sink, Tables, channel_at, is_source, is_sink, writer_of, reader_of, IsNetwork, IsFamilyPrefix, ProcessCanSay, Event, Get, Put, Feed, Take, is_of, said_in, talk_of, written_in, read_in, written_on, read_on, unread_on, HasNumbers, Legal, got_at-append, put_at-append, Reads, Writes, writer_of-Writes, reader_of-Reads, writer_of-source, reader_of-sink}
use Rattle.kpn_lang.specs.declared.talk.Said.TheVariants as said
use Rattle.kpn_history.proofs.Events.{talk_of-push, read_on-push, read_on-same}
use Rattle.kpn_history.proofs.Legality.{Legal-last, Legal-consistent, by_events}
use Rattle.kpn_history.proofs.Ownership.{Owns, Owns-last, AreOwn, AreOwn-legal}

-- ---- ends of channels

pub writer_is : (t : Tables) → IsNetwork t → (c d p q : ℕ) → writer_of t c ≡ Process p → Writes t q d → d ≡ c → q ≡ p
writer_is t network c d p q w writes e =
    let other : writer_of t c ≡ Process q =
    subst (λ x. writer_of t x ≡ Process q) e (writer_of-Writes t network q d writes) in
    cc

pub reader_is : (t : Tables) → IsNetwork t → (c d p q : ℕ) → reader_of t c ≡ Process p → Reads t q d → d ≡ c → q ≡ p
reader_is t network c d p q r reads e =
    let other : reader_of t c ≡ Process q =
    subst (λ x. reader_of t x ≡ Process q) e (reader_of-Reads t network q d reads) in
    cc

-- a channel that a process writes is no source
pub no_source : (t : Tables) (c d p : ℕ) → writer_of t c ≡ Process p → is_source (channel_at t d) ≡ true → d ≡ c → ⊥
no_source t c d p w source e =
    let other : writer_of t c ≡ Source = subst (λ x. writer_of t x ≡ Source) e (writer_of-source t d source) in
    absurd cc

-- a channel that a process reads is no sink
pub no_sink : (t : Tables) (c d p : ℕ) → reader_of t c ≡ Process p → is_sink (channel_at t d) ≡ true → d ≡ c → ⊥
no_sink t c d p r sink e =
    let other : reader_of t c ≡ Sink = subst (λ x. reader_of t x ≡ Sink) e (reader_of-sink t d sink) in
    absurd cc

-- an item on one channel is none on another
pub none_elsewhere : (d c : ℕ) (v : ℤ) → (d ≡ c → ⊥) → cond (eqb d c) (v ∷ []) [] ≡ []
none_elsewhere d c v differ = ap (λ b. cond b (v ∷ []) []) (ne_eqb d c differ)

-- ---- what the writer put

got_puts_none : (b : Bool) (d c : ℕ) (v : ℤ) → put_at (cond b (said.Got d v ∷ []) []) c ≡ []
got_puts_none true d c v = refl
got_puts_none false d c v = refl

put_by_writer : (b : Bool) (d c : ℕ) (v : ℤ) → (eqb d c ≡ true → b ≡ true)
    → cond (eqb d c) (v ∷ []) [] ≡ put_at (cond b (said.Put d v ∷ []) []) c
put_by_writer true d c v h = refl
put_by_writer false d c v h =
    ap (λ b. cond b (v ∷ []) []) (false_from_ne_true (eqb d c) (λ e. false≢true (h e)))

written_in-put : (t : Tables) → IsNetwork t → (c p : ℕ) → writer_of t c ≡ Process p → (e : Event) → Owns t e
    → written_in c e ≡ put_at (said_in p e) c
written_in-put t network c p w (Get q d v) o = sym (got_puts_none (eqb q p) d c v)
written_in-put t network c p w (Put q d v) o =
    put_by_writer (eqb q p) d c v (λ e. eq-eqb q p (writer_is t network c d p q w o (eqb-true d c e)))
written_in-put t network c p w (Feed d v) o = none_elsewhere d c v (no_source t c d p w o)
written_in-put t network c p w event o = refl

-- the journal of a channel is what its writer put there
pub put_by_owner : (t : Tables) → IsNetwork t → (c p : ℕ) → writer_of t c ≡ Process p → (H : List Event) → AreOwn t H
    → written_on H c ≡ put_at (talk_of H p) c
put_by_owner t network c p w [] own = refl
put_by_owner t network c p w (e ∷ H) own =
    ap (λ xs. xs ++ written_on H c) (written_in-put t network c p w e own.0)
    ∙ ap (λ xs. put_at (said_in p e) c ++ xs) (put_by_owner t network c p w H own.1)
    ∙ sym (put_at-append (said_in p e) (talk_of H p) c)

pub written_on-put : (t : Tables) → IsNetwork t → (c p : ℕ) → writer_of t c ≡ Process p → (H : List Event) → Legal t H
    → written_on H c ≡ put_at (talk_of H p) c
written_on-put t network c p w H legal = put_by_owner t network c p w H (AreOwn-legal t network H legal)

-- ---- what the reader got

put_gets_none : (b : Bool) (d c : ℕ) (v : ℤ) → got_at (cond b (said.Put d v ∷ []) []) c ≡ []
put_gets_none true d c v = refl
put_gets_none false d c v = refl

got_by_reader : (b : Bool) (d c : ℕ) (v : ℤ) → (eqb d c ≡ true → b ≡ true)
    → cond (eqb d c) (v ∷ []) [] ≡ got_at (cond b (said.Got d v ∷ []) []) c
got_by_reader true d c v h = refl
got_by_reader false d c v h =
    ap (λ b. cond b (v ∷ []) []) (false_from_ne_true (eqb d c) (λ e. false≢true (h e)))

read_in-got : (t : Tables) → IsNetwork t → (c p : ℕ) → reader_of t c ≡ Process p → (e : Event) → Owns t e
    → read_in c e ≡ got_at (said_in p e) c
read_in-got t network c p r (Get q d v) o =
    got_by_reader (eqb q p) d c v (λ e. eq-eqb q p (reader_is t network c d p q r o (eqb-true d c e)))
read_in-got t network c p r (Put q d v) o = sym (put_gets_none (eqb q p) d c v)
read_in-got t network c p r (Take d v) o = none_elsewhere d c v (no_sink t c d p r o)
read_in-got t network c p r event o = refl

-- what was read from a channel is what its reader got
pub read_on-got : (t : Tables) → IsNetwork t → (c p : ℕ) → reader_of t c ≡ Process p → (H : List Event) → Legal t H
    → read_on H c ≡ got_at (talk_of H p) c
read_on-got t network c p r =
    by_events t (λ H. read_on H c ≡ got_at (talk_of H p) c) refl
    (λ B e legal h.
    read_on-push B e c
    ∙ ap (λ xs. xs ++ read_in c e) h
    ∙ ap (λ xs. got_at (talk_of B p) c ++ xs) (read_in-got t network c p r e (Owns-last t network B e legal))
    ∙ sym (ap (λ talk. got_at talk c) (talk_of-push B e p) ∙ got_at-append (talk_of B p) (said_in p e) c))

-- an event of others reads nothing from the channel of a process
pub read_in-other : (t : Tables) → IsNetwork t → (c p : ℕ) → reader_of t c ≡ Process p → (e : Event) → Owns t e
    → is_of p e ≡ false → read_in c e ≡ []
read_in-other t network c p r (Get q d v) o other =
    none_elsewhere d c v (λ e. both_ways (eqb q p) other (eq-eqb q p (reader_is t network c d p q r o e)))
read_in-other t network c p r (Take d v) o other = none_elsewhere d c v (no_sink t c d p r o)
read_in-other t network c p r event o other = refl

-- ---- what was read begins what was written, on all channels

read_in-outside : (t : Tables) (c : ℕ) → length t.channels ≤ c → (e : Event) → HasNumbers t e → read_in c e ≡ []
read_in-outside t c past (Get q d v) n = let below = n.1 in none_elsewhere d c v (λ e. absurd (omega arith))
read_in-outside t c past (Take d v) n = none_elsewhere d c v (λ e. absurd (omega arith))
read_in-outside t c past event n = refl

-- nothing is read from a channel that is not there
pub read_on-outside : (t : Tables) (c : ℕ) → length t.channels ≤ c → (H : List Event) → Legal t H → read_on H c ≡ []
read_on-outside t c past =
    by_events t (λ H. read_on H c ≡ []) refl
    (λ B e legal h. read_on-same B e c (read_in-outside t c past e (Legal-last t B e legal).numbers) ∙ h)

pub reads_begin_writes : (t : Tables) (H : List Event) → Legal t H → IsFamilyPrefix (read_on H) (written_on H)
reads_begin_writes t H legal c =
    elim (cases_lt c (length t.channels)) [
      | inl below ↦ (Legal-consistent t H legal).in_order c below
      | inr past ↦ subst (λ xs. IsPrefix xs (written_on H c)) (sym (read_on-outside t c past H legal)) tt
    ]

-- a list is what it begins with and the rest
prefix_and_rest : (xs ys : List ℤ) → IsPrefix xs ys → xs ++ drop (length xs) ys ≡ ys
prefix_and_rest [] ys p = refl
prefix_and_rest (x ∷ xs) [] p = absurd p
prefix_and_rest (x ∷ xs) (y ∷ ys) p = let e = p.0 in let r = prefix_and_rest xs ys p.1 in cc

-- the journal is what was read and then what is unread
pub read_then_unread : (t : Tables) (H : List Event) → Legal t H → (c : ℕ)
    → read_on H c ++ unread_on H c ≡ written_on H c
read_then_unread t H legal c = prefix_and_rest (read_on H c) (written_on H c) (reads_begin_writes t H legal c)

-- ---- what Kahn's theorem needs of a list of events

-- It is less than that the list is legal: each process can say what it said on what it read, what was read begins what
-- was written, and each event belongs to whatever made it.
pub record IsSpoken (t : Tables) (H : List Event) : Type 0 where
  pub said : (p : ℕ) → p < length t.instances → ProcessCanSay t p (read_on H) (talk_of H p)
  pub in_order : IsFamilyPrefix (read_on H) (written_on H)
  pub own : AreOwn t H

pub IsSpoken-legal : (t : Tables) → IsNetwork t → (H : List Event) → Legal t H → IsSpoken t H
IsSpoken-legal t network H legal =
    record {
      said = (Legal-consistent t H legal).said;
      in_order = reads_begin_writes t H legal;
      own = AreOwn-legal t network H legal;
    }
