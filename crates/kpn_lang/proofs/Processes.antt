-- The laws of a sequential process in the words of what it can say and what it comes to.
use Rattle.kpn_lang.proofs.Common.{◌≡◌, ℕ, ◌≤◌, ◌⊎◌, max, ℤ, List, sym, ap, ◌∙◌, arith, Fault, Said, Ending, Done, Faulted, Starved, Lists, list_at, IsPrefix, ArePrefixes, Process, CanSay, ComesTo, got_at, Grows, IsFinal, EndsAlike, BeginsWithGot, IsSequential}
use Rattle.kpn_lang.proofs.Prefixes.{IsPrefix-trans, IsPrefix-same, IsPrefix-append, prefixes_of_one}
use Rattle.kpn_lang.proofs.Talks.{got_at-prefix}
use Rattle.kpn_lang.proofs.Families.{nothing, Grows-refl, added, Grows-from_prefixes, nil_from_grows}

module _ (process : Process) (sequential : IsSequential process) where
  -- with more turns on the same lists
  pub talk_of_more_turns : (n m : ℕ) → n ≤ m → (lists : Lists) → IsPrefix (process n lists).talk (process m lists).talk
  talk_of_more_turns n m le lists = (sequential.grows n m le nothing lists lists (Grows-refl lists)).talk

  -- with as many turns on longer lists
  pub talk_on_longer_lists : (n : ℕ) (lists longer : Lists) → ArePrefixes lists longer →
      IsPrefix (process n lists).talk (process n longer).talk
  talk_on_longer_lists n lists longer p =
      (sequential.grows n n (omega arith) (added lists longer p) lists longer (Grows-from_prefixes lists longer p)).talk

  -- with more turns on longer lists
  pub talk_further : (n m : ℕ) → n ≤ m → (lists longer : Lists) → ArePrefixes lists longer →
      IsPrefix (process n lists).talk (process m longer).talk
  talk_further n m le lists longer p =
      (sequential.grows n m le (added lists longer p) lists longer (Grows-from_prefixes lists longer p)).talk

  -- an end that longer lists leave stays with more turns too
  pub ends_alike : (n m : ℕ) → n ≤ m → (more : ℕ → List ℤ) (lists longer : Lists) → Grows more lists longer →
      IsFinal more (process n lists).ending → EndsAlike more (process n lists) (process m longer)
  ends_alike n m le more lists longer g f = (sequential.grows n m le more lists longer g).final f

  -- ---- can say

  pub CanSay-prefix : (lists : Lists) (talk longer : List Said) → IsPrefix talk longer → CanSay process lists longer →
      CanSay process lists talk
  CanSay-prefix lists talk longer p h =
      record { turns = h.turns; said = IsPrefix-trans talk longer (process h.turns lists).talk p h.said }

  pub CanSay-longer : (lists longer : Lists) (talk : List Said) → ArePrefixes lists longer →
      CanSay process lists talk → CanSay process longer talk
  CanSay-longer lists longer talk p h =
      record {
        turns = h.turns;
        said = IsPrefix-trans talk (process h.turns lists).talk (process h.turns longer).talk h.said
            (talk_on_longer_lists h.turns lists longer p);
      }

  pub CanSay-local : (lists others : Lists) (talk : List Said) → CanSay process lists talk →
      BeginsWithGot talk others → CanSay process others talk
  CanSay-local lists others talk h b =
      record { turns = h.turns; said = sequential.local h.turns lists others talk h.said b }

  -- with this many turns and any more
  pub said_with_more_turns : (lists : Lists) (talk : List Said) (h : CanSay process lists talk) (m : ℕ) → h.turns ≤ m →
      IsPrefix talk (process m lists).talk
  said_with_more_turns lists talk h m le =
      IsPrefix-trans talk (process h.turns lists).talk (process m lists).talk h.said
      (talk_of_more_turns h.turns m le lists)

  -- of two things that it can say one begins the other
  pub CanSay-both : (lists : Lists) (talk other : List Said) → CanSay process lists talk → CanSay process lists other →
      IsPrefix talk other ⊎ IsPrefix other talk
  CanSay-both lists talk other h k =
      prefixes_of_one talk other (process (max h.turns k.turns) lists).talk
      (said_with_more_turns lists talk h (max h.turns k.turns) (omega arith))
      (said_with_more_turns lists other k (max h.turns k.turns) (omega arith))

  -- what was said was got from the lists
  pub BeginsWithGot-said : (lists : Lists) (talk : List Said) → CanSay process lists talk → BeginsWithGot talk lists
  BeginsWithGot-said lists talk h =
      record {
        each = λ port.
            let whole : List Said = (process h.turns lists).talk in
            let all : IsPrefix (got_at whole port) (list_at lists port) =
            rw (sequential.accounts h.turns lists port)
            (IsPrefix-append (got_at whole port) (list_at (process h.turns lists).rest port)) in
            IsPrefix-trans (got_at talk port) (got_at whole port) (list_at lists port)
            (got_at-prefix talk whole port h.said) all;
      }

  -- ---- comes to

  -- with as many turns or more it is the same run
  pub run_of_more_turns : (lists : Lists) (ending : Ending) (talk : List Said) (h : ComesTo process lists ending talk)
      (m : ℕ) → h.turns ≤ m → process m lists ≡ process h.turns lists
  run_of_more_turns lists ending talk h m le =
      sequential.stays h.turns m le lists (λ cut. h.whole (sym h.ended ∙ cut))

  pub ComesTo-one : (lists : Lists) (ending other : Ending) (talk said : List Said) →
      ComesTo process lists ending talk → ComesTo process lists other said → (ending ≡ other) × (talk ≡ said)
  ComesTo-one lists ending other talk said h k =
      let m = max h.turns k.turns in
      let same = sym (run_of_more_turns lists ending talk h m (omega arith))
      ∙ run_of_more_turns lists other said k m (omega arith) in
      (sym h.ended ∙ ap (λ r. r.ending) same ∙ k.ended, sym h.said ∙ ap (λ r. r.talk) same ∙ k.said)

  -- what it can say begins what it said when it came to its end
  pub IsPrefix-comes_to : (lists : Lists) (ending : Ending) (talk said : List Said) →
      ComesTo process lists ending talk → CanSay process lists said → IsPrefix said talk
  IsPrefix-comes_to lists ending talk said h k =
      let m = max h.turns k.turns in
      let whole : (process m lists).talk ≡ talk = ap (λ r. r.talk)
      (run_of_more_turns lists ending talk h m (omega arith)) ∙ h.said in
      rw whole at (said_with_more_turns lists said k m (omega arith))

  pub CanSay-comes_to : (lists : Lists) (ending : Ending) (talk : List Said) → ComesTo process lists ending talk →
      CanSay process lists talk
  CanSay-comes_to lists ending talk h =
      record { turns = h.turns; said = IsPrefix-same talk (process h.turns lists).talk (sym h.said) }

  pub ComesTo-grows : (more : ℕ → List ℤ) (lists longer : Lists) (ending : Ending) (talk : List Said) →
      Grows more lists longer → IsFinal more ending → ComesTo process lists ending talk →
      ComesTo process longer ending talk
  ComesTo-grows more lists longer ending talk g f h =
      let alike = ends_alike h.turns h.turns (omega arith) more lists longer g (rw h.ended f) in
      record {
        turns = h.turns;
        ended = alike.ending ∙ h.ended;
        said = alike.talk ∙ h.said;
        whole = h.whole;
      }

  -- done or faulted
  pub ComesTo-done : (lists longer : Lists) (talk : List Said) → ArePrefixes lists longer →
      ComesTo process lists Done talk → ComesTo process longer Done talk
  ComesTo-done lists longer talk p h =
      ComesTo-grows (added lists longer p) lists longer Done talk (Grows-from_prefixes lists longer p) tt h

  pub ComesTo-faulted : (lists longer : Lists) (fault : Fault) (talk : List Said) → ArePrefixes lists longer →
      ComesTo process lists (Faulted fault) talk → ComesTo process longer (Faulted fault) talk
  ComesTo-faulted lists longer fault talk p h =
      ComesTo-grows (added lists longer p) lists longer (Faulted fault) talk (Grows-from_prefixes lists longer p) tt h

  -- starved, if its own list stays
  pub ComesTo-starved : (lists longer : Lists) (port : ℕ) (talk : List Said) → ArePrefixes lists longer →
      list_at longer port ≡ list_at lists port → ComesTo process lists (Starved port) talk →
      ComesTo process longer (Starved port) talk
  ComesTo-starved lists longer port talk p e h =
      let g = Grows-from_prefixes lists longer p in
      ComesTo-grows (added lists longer p) lists longer (Starved port) talk g
      (nil_from_grows (added lists longer p) lists longer g port e) h
