-- The channel of each event of a legal history belongs to whatever made the event.
use Rattle.std.proofs.Common.{◌≡◌, ℕ, ◌<◌, true, cond, eqb, eq-eqb, List, [], ◌∷◌, ◌++◌, length, refl, ap, ◌∙◌, subst}
use Rattle.kpn_history.proofs.Common.{Said, Tables, channel_at, is_source, is_sink, IsNetwork, ProcessCanSay, Event, Get, Put, WaitEmpty, WaitFull, Ended, Feed, Close, Take, Leave, Grow, said_in, talk_of, read_on, Legal, IsOwn, Reads, Writes, reader_of-Reads, writer_of-Writes}
use Rattle.kpn_lang.specs.declared.talk.Said.TheVariants as said
use Rattle.kpn_history.proofs.Events.{talk_of-push}
use Rattle.kpn_history.proofs.Legality.{Legal-last, Legal-consistent, by_events}
use Rattle.kpn_history.proofs.Running.{CanSay-reads, CanSay-writes, ComesTo-reads}

-- a process reads the channels that it gets from and waits on as empty. It writes those that it puts on and waits on as
-- full. The caller feeds and closes sources, and takes from sinks and leaves them
abbrev pub Owns : Tables → Event → Type 0
Owns t (Get p c v) = Reads t p c
Owns t (Put p c v) = Writes t p c
Owns t (WaitEmpty p c) = Reads t p c
Owns t (WaitFull p c) = Writes t p c
Owns t (Ended p how) = p < length t.instances
Owns t (Feed c v) = is_source (channel_at t c) ≡ true
Owns t (Close c) = is_source (channel_at t c) ≡ true
Owns t (Take c v) = is_sink (channel_at t c) ≡ true
Owns t (Leave c) = is_sink (channel_at t c) ≡ true
Owns t (Grow p d n) = p < length t.instances

-- an event of a process says this for it
pub said_by : (b p : ℕ) (talk : Said) → b ≡ p → cond (eqb b p) (talk ∷ []) [] ≡ talk ∷ []
said_by b p talk e = ap (λ x. cond x (talk ∷ []) []) (eq-eqb b p e)

-- what a process says in the last event of a legal history it can say after what it said before
pub CanSay-last : (t : Tables) (B : List Event) (e : Event) → Legal t (B ++ e ∷ []) → (p : ℕ) → p < length t.instances
    → (spoken : Said) → said_in p e ≡ spoken ∷ [] → ProcessCanSay t p (read_on (B ++ e ∷ [])) (talk_of B p ++ spoken ∷ [])
CanSay-last t B e legal p below spoken is =
    subst (ProcessCanSay t p (read_on (B ++ e ∷ []))) (talk_of-push B e p ∙ ap (λ xs. talk_of B p ++ xs) is)
    ((Legal-consistent t (B ++ e ∷ []) legal).said p below)

pub Owns-last : (t : Tables) → IsNetwork t → (B : List Event) (e : Event) → Legal t (B ++ e ∷ []) → Owns t e
Owns-last t network B (Get p c v) legal =
    let f = Legal-last t B (Get p c v) legal in
    CanSay-reads t network p f.numbers.0 _ _ c v
    (CanSay-last t B (Get p c v) legal p f.numbers.0 (said.Got c v) (said_by p p (said.Got c v) refl))
Owns-last t network B (Put p c v) legal =
    let f = Legal-last t B (Put p c v) legal in
    CanSay-writes t network p f.numbers.0 _ _ c v
    (CanSay-last t B (Put p c v) legal p f.numbers.0 (said.Put c v) (said_by p p (said.Put c v) refl))
Owns-last t network B (WaitEmpty p c) legal =
    let f = Legal-last t B (WaitEmpty p c) legal in
    ComesTo-reads t network p f.numbers.0 (read_on B) c (talk_of B p) f.due.1.starved
Owns-last t network B (WaitFull p c) legal =
    let f = Legal-last t B (WaitFull p c) legal in
    CanSay-writes t network p f.numbers.0 (read_on B) (talk_of B p) c f.due.1.item f.due.1.next
Owns-last t network B (Ended p how) legal = (Legal-last t B (Ended p how) legal).numbers
Owns-last t network B (Feed c v) legal = (Legal-last t B (Feed c v) legal).due.source
Owns-last t network B (Close c) legal = (Legal-last t B (Close c) legal).due.source
Owns-last t network B (Take c v) legal = (Legal-last t B (Take c v) legal).due.sink
Owns-last t network B (Leave c) legal = (Legal-last t B (Leave c) legal).due.sink
Owns-last t network B (Grow p d n) legal = (Legal-last t B (Grow p d n) legal).numbers.0

-- each event belongs to whatever made it
abbrev pub AreOwn : Tables → List Event → Type 0
AreOwn t [] = Unit {0}
AreOwn t (e ∷ H) = Owns t e × AreOwn t H

pub AreOwn-append : (t : Tables) (G H : List Event) → AreOwn t G → AreOwn t H → AreOwn t (G ++ H)
AreOwn-append t [] H g h = h
AreOwn-append t (e ∷ G) H g h = (g.0, AreOwn-append t G H g.1 h)

pub AreOwn-legal : (t : Tables) → IsNetwork t → (H : List Event) → Legal t H → AreOwn t H
AreOwn-legal t network =
    by_events t (AreOwn t) tt (λ B e legal h. AreOwn-append t B (e ∷ []) h (Owns-last t network B e legal, tt))

IsOwn-from : (t : Tables) → IsNetwork t → (e : Event) → Owns t e → IsOwn t e
IsOwn-from t network (Get p c v) o = reader_of-Reads t network p c o
IsOwn-from t network (Put p c v) o = writer_of-Writes t network p c o
IsOwn-from t network (WaitEmpty p c) o = reader_of-Reads t network p c o
IsOwn-from t network (WaitFull p c) o = writer_of-Writes t network p c o
IsOwn-from t network event o = o

pub IsOwn-last : (t : Tables) → IsNetwork t → (B : List Event) (e : Event) → Legal t (B ++ e ∷ []) → IsOwn t e
IsOwn-last t network B e legal = IsOwn-from t network e (Owns-last t network B e legal)
