-- Worked rows: what the definitions say of a source whose device is a list in memory, and of a process that copies it.
use Rattle.kpn_stream.proofs.Common.{◌≡◌, ◌≢◌, ℕ, false, cond, eqb, ℤ, pos, List, [], ◌∷◌, Option, Some, None, Result, Ok, Err, refl, sym, ap, ◌∙◌, subst, inl, inr, arith, ne_eqb, Tables, Event, WaitEmpty, Feed, Close, SourceFault, SinkFault, MayRead, IsAwaited, IsStuckUnderAll, Fed, at_first, by_others, by_item, by_end, Called, GivesList, GiveInTurn}
use Rattle.std.specs.Prelude.{map, ◌++◌, ◌⊎◌}
use Rattle.kpn_net.specs.declared.tables.ChannelSpec.TheVariants as channel
use Rattle.kpn_net.specs.declared.tables.Policy.TheVariants.{Cycles, All}
use Rattle.kpn_net.specs.declared.tables.Growth.TheVariants.{One}
use Rattle.kpn_net.specs.declared.wait.Wait.TheVariants.{Nobody, Empty}
use Rattle.kpn_stream.proofs.Batches.{item_due}
use Rattle.kpn_stream.proofs.Listing.{fed_when_due, gives_ahead}
use Rattle.kpn_stream.proofs.Order.{was_at_rest}

-- process 0 reads source 0 and writes sink 1
abbrev copies : Tables
copies = record {
  programs = [];
  instances = record { program = 0; ins = 0 ∷ []; outs = 1 ∷ []; pars = [] } ∷ [];
  channels = channel.Source ∷ channel.Sink 1 ∷ [];
  limit = 1;
  policy = Cycles;
  growth = One;
}

-- the device of source 0 gives the items of its list, and then the end
abbrev Pops : List ℤ → ℕ → Result (Option ℤ) SourceFault → List ℤ → Type 0
Pops (v ∷ rest) c (Ok (Some w)) now = (c ≡ 0) × (w ≡ v) × (now ≡ rest)
Pops [] c (Ok None) now = (c ≡ 0) × (now ≡ [])
Pops list c answer now = ⊥

-- a look changes nothing
abbrev Stays : List ℤ → ℕ → List ℤ → Type 0
Stays list c now = now ≡ list

-- process 0 waits for an item of source 0, and nothing came to sink 1
may_read : MayRead copies (WaitEmpty 0 0 ∷ []) 0
may_read = record {
  may_feed = record { source = refl; not_closed = refl };
  needed = inl (record { reader = 0; there = omega arith; waits = refl });
  taken = λ c sink. inl refl;
}

-- a process waits, and the item is read
read_when_awaited : Fed copies Pops Stays (pos 7 ∷ []) (WaitEmpty 0 0 ∷ Feed 0 (pos 7) ∷ []) None []
read_when_awaited =
    by_item (WaitEmpty 0 0 ∷ []) 0 (pos 7) (pos 7 ∷ []) []
    (by_others [] (WaitEmpty 0 0) None (pos 7 ∷ []) at_first refl)
    (item_due copies (WaitEmpty 0 0 ∷ []) 0 may_read) (refl, refl, refl)

-- so is the next one at once
read_on_at_once : Fed copies Pops Stays (pos 7 ∷ pos 8 ∷ [])
    (WaitEmpty 0 0 ∷ Feed 0 (pos 7) ∷ Feed 0 (pos 8) ∷ []) None []
read_on_at_once =
    by_item (WaitEmpty 0 0 ∷ Feed 0 (pos 7) ∷ []) 0 (pos 8) (pos 8 ∷ []) []
    (by_item (WaitEmpty 0 0 ∷ []) 0 (pos 7) (pos 7 ∷ pos 8 ∷ []) (pos 8 ∷ [])
    (by_others [] (WaitEmpty 0 0) None (pos 7 ∷ pos 8 ∷ []) at_first refl)
    (item_due copies (WaitEmpty 0 0 ∷ []) 0 may_read) (refl, refl, refl))
    (record { before = WaitEmpty 0 0 ∷ []; due = may_read; items = pos 7 ∷ []; since = refl; few = omega arith })
    (refl, refl, refl)

-- a process waits, and the end is told
closed_when_awaited : Fed copies Pops Stays [] (WaitEmpty 0 0 ∷ Close 0 ∷ []) None []
closed_when_awaited =
    by_end (WaitEmpty 0 0 ∷ []) 0 [] [] (by_others [] (WaitEmpty 0 0) None [] at_first refl) may_read (refl, refl)

-- nobody waits yet: the item is not read, although it is there
not_read_ahead : Fed copies Pops Stays (pos 7 ∷ []) (Feed 0 (pos 7) ∷ []) None [] → ⊥
not_read_ahead fed =
    let may = fed_when_due Pops Stays (pos 7 ∷ []) copies fed [] 0 (pos 7) (refl, tt) in
    elim (subst (λ H. IsAwaited copies H 0 ⊎ IsStuckUnderAll copies H) (at_start may.before may.items may.since)
    may.due.needed) [
      | inl awaited ↦ let clash : Nobody ≡ Empty 0 = awaited.waits in cc
      | inr stuck ↦ let clash : Cycles ≡ All = stuck.policy in cc
    ]
  where
    at_start : (before : List Event) (items : List ℤ) → [] ≡ before ++ map (Feed 0) items → before ≡ []
    at_start [] items since = refl
    at_start (e ∷ before) items since = absurd cc

-- the device gives its list
on_source : List ℤ → ℕ → List ℤ
on_source list c = cond (eqb c 0) list []

pops_in_turn : GiveInTurn Pops Stays on_source
unfolding on_source
pops_in_turn = record { item = item; end = end; fault = fault; look = look; others = others }
  where
    item : (s now : List ℤ) (c : ℕ) (v : ℤ) → Pops s c (Ok (Some v)) now
        → cond (eqb c 0) s [] ≡ v ∷ cond (eqb c 0) now []
    item [] now c v gives = absurd gives
    item (w ∷ rest) now c v gives =
        subst (λ x. cond (eqb x 0) (w ∷ rest) [] ≡ v ∷ cond (eqb x 0) now []) (sym gives.0)
        (let a = gives.1 in let b = gives.2 in cc)

    end : (s now : List ℤ) (c : ℕ) → Pops s c (Ok None) now → cond (eqb c 0) s [] ≡ []
    end [] now c gives = subst (λ x. cond {A = List ℤ} (eqb x 0) [] [] ≡ []) (sym gives.0) refl
    end (w ∷ rest) now c gives = absurd gives

    fault : (s now : List ℤ) (c : ℕ) (why : SourceFault) → Pops s c (Err why) now
        → cond (eqb c 0) now [] ≡ cond (eqb c 0) s []
    fault [] now c why gives = absurd gives
    fault (w ∷ rest) now c why gives = absurd gives

    look : (s now : List ℤ) (c d : ℕ) → Stays s d now → cond (eqb c 0) now [] ≡ cond (eqb c 0) s []
    look s now c d same = ap (λ list. cond (eqb c 0) list []) same

    number : (s now : List ℤ) (d : ℕ) (answer : Result (Option ℤ) SourceFault) → Pops s d answer now → d ≡ 0
    number (v ∷ rest) now d (Ok (Some w)) gives = gives.0
    number [] now d (Ok None) gives = gives.0
    number list now d answer gives = absurd gives

    others : (s now : List ℤ) (c d : ℕ) (answer : Result (Option ℤ) SourceFault) → Pops s d answer now → d ≢ c
        → cond (eqb c 0) now [] ≡ cond (eqb c 0) s []
    others s now c d answer gives other =
        let away : eqb c 0 ≡ false = ne_eqb c 0 (λ e. other (number s now d answer gives ∙ sym e)) in
        ap (λ b. cond b now []) away ∙ sym (ap (λ b. cond b s []) away)

gives_its_list : GivesList Pops Stays (pos 7 ∷ pos 8 ∷ []) 0 (pos 7 ∷ pos 8 ∷ [])
unfolding on_source
gives_its_list = gives_ahead Pops Stays on_source pops_in_turn (pos 7 ∷ pos 8 ∷ []) 0

-- nothing is ever at hand, and a source is read while process 0 is ready: no order of calls is so
not_waited_for : (takes : ℕ → ℕ → ℤ → Result (Unit {0}) SinkFault → ℕ → Type 0)
    (flushes : ℕ → ℕ → Result (Unit {0}) SinkFault → ℕ → Type 0)
    → Called copies Pops Stays (λ list c. ⊥) takes flushes None (pos 7 ∷ []) 0 (Feed 0 (pos 7) ∷ []) [] 0 → ⊥
not_waited_for takes flushes called =
    let rest =
    was_at_rest copies Pops Stays (λ list c. ⊥) takes flushes None (pos 7 ∷ []) 0 (λ r c hand. hand) called [] in
    elim (rest (Feed 0 (pos 7)) (refl, tt) 0 (omega arith)) [
      | inl ended ↦ absurd cc
      | inr (inl waits) ↦ let clash = waits.blocked in cc
      | inr (inr waits) ↦ let clash = waits.blocked in cc
    ]
