-- Kahn's iteration is monotone. What a process puts grows with its turns and with the lists that come in: in Kahn 1974
-- a process is a continuous and so monotone function. So each round grows with the rounds before it and with the given
-- lists.
use Rattle.kpn_net.proofs.Common.{◌≡◌, ℕ, zero, suc, ◌≤◌, cond, Bool, true, false, List, [], ◌∷◌, map, refl, sym, ap, arith, IsPrefix, ArePrefixes, alone, IsPrefix-refl, IsPrefix-same, IsPrefix-trans, IsPrefix-antisym, Process, Source, Sink, Tables, instance_at, program_of, channel_at, is_source, writer_of, Family, IsFamilyPrefix, at_channel, talk_on, out_of, written_by, given_or, round, iterate, IsPrefixOnSources, AgreeOnSources, IsClosed, IsBelowLeast, IsLeast}
use Rattle.kpn_lang.proofs.Talks.{put_at-prefix}
use Rattle.kpn_lang.proofs.Sequential.{IsSequential-alone}
use Rattle.kpn_lang.proofs.Processes.{talk_further}
use Rattle.kpn_net.specs.declared.tables.End.{End}

pub map-prefix : {A B : Type 0} (f : A → B) (xs ys : List A) → IsPrefix xs ys → IsPrefix (map f xs) (map f ys)
map-prefix f [] ys p = tt
map-prefix f (x ∷ xs) [] p = absurd p
map-prefix f (x ∷ xs) (y ∷ ys) p = (ap f p.0, map-prefix f xs ys p.1)

-- the lists of some channels
pub ArePrefixes-map : (channels : List ℕ) (X Y : Family) → IsFamilyPrefix X Y
    → ArePrefixes (map X channels) (map Y channels)
ArePrefixes-map [] X Y b port = tt
ArePrefixes-map (c ∷ channels) X Y b zero = b c
ArePrefixes-map (c ∷ channels) X Y b (suc port) = ArePrefixes-map channels X Y b port

pub talk_on-grows : (t : Tables) (p n m : ℕ) → n ≤ m → (X Y : Family) → IsFamilyPrefix X Y
    → IsPrefix (talk_on t p n X) (talk_on t p m Y)
talk_on-grows t p n m h X Y b =
    let instance = instance_at t p in
    map-prefix (at_channel instance) _ _
    (talk_further (alone (program_of t p) instance.pars) (IsSequential-alone (program_of t p) instance.pars) n m h
    (map X instance.ins) (map Y instance.ins) (ArePrefixes-map instance.ins X Y b))

pub out_of-grows : (t : Tables) (p n m : ℕ) → n ≤ m → (X Y : Family) → IsFamilyPrefix X Y → (c : ℕ)
    → IsPrefix (out_of t p n X c) (out_of t p m Y c)
out_of-grows t p n m h X Y b c = put_at-prefix (talk_on t p n X) (talk_on t p m Y) c (talk_on-grows t p n m h X Y b)

pub written_by-grows : (t : Tables) (n m : ℕ) → n ≤ m → (X Y : Family) → IsFamilyPrefix X Y → (c : ℕ) (end : End)
    → IsPrefix (written_by t n X c end) (written_by t m Y c end)
written_by-grows t n m h X Y b c (Process p) = out_of-grows t p n m h X Y b c
written_by-grows t n m h X Y b c Source = tt
written_by-grows t n m h X Y b c Sink = tt

pub given_or-grows : (t : Tables) (given more : Family) → IsPrefixOnSources t given more → (X Y : Family)
    → IsFamilyPrefix X Y → IsFamilyPrefix (given_or t given X) (given_or t more Y)
given_or-grows t given more s X Y b c = which (is_source (channel_at t c)) refl
  where
    which : (source : Bool) → is_source (channel_at t c) ≡ source
        → IsPrefix (cond source (given c) (X c)) (cond source (more c) (Y c))
    which true e = s.each c e
    which false e = b c

pub round-grows : (t : Tables) (given more : Family) → IsPrefixOnSources t given more → (n m : ℕ) → n ≤ m → (k l : ℕ)
    → k ≤ l → IsFamilyPrefix (round t given n k) (round t more m l)
round-grows t given more s n m h zero zero below = given_or-grows t given more s _ _ (λ c. tt)
round-grows t given more s n m h zero (suc l) below = given_or-grows t given more s _ _ (λ c. tt)
round-grows t given more s n m h (suc k) zero below = absurd (omega arith)
round-grows t given more s n m h (suc k) (suc l) below =
    given_or-grows t given more s _ _
    (λ c. written_by-grows t n m h _ _ (round-grows t given more s n m h k l (omega arith)) c (writer_of t c))

pub IsPrefixOnSources-refl : (t : Tables) (given : Family) → IsPrefixOnSources t given given
IsPrefixOnSources-refl t given = record { each = λ c e. IsPrefix-refl (given c) }

pub iterate-grows : (t : Tables) (given : Family) (n m : ℕ) → n ≤ m
    → IsFamilyPrefix (iterate t given n) (iterate t given m)
iterate-grows t given n m h = round-grows t given given (IsPrefixOnSources-refl t given) n m h n m h

pub iterate-grows_with_sources : (t : Tables) (given more : Family) → IsPrefixOnSources t given more → (n : ℕ)
    → IsFamilyPrefix (iterate t given n) (iterate t more n)
iterate-grows_with_sources t given more s n = round-grows t given more s n n (omega arith) n n (omega arith)

pub IsPrefixOnSources-agree : (t : Tables) (given other : Family) → AgreeOnSources t given other
    → IsPrefixOnSources t given other
IsPrefixOnSources-agree t given other a = record { each = λ c e. IsPrefix-same (given c) (other c) (a.each c e) }

pub AgreeOnSources-sym : (t : Tables) (given other : Family) → AgreeOnSources t given other
    → AgreeOnSources t other given
AgreeOnSources-sym t given other a = record { each = λ c e. sym (a.each c e) }

pub round-depends_on_sources : (t : Tables) (given other : Family) → AgreeOnSources t given other → (n k c : ℕ)
    → round t given n k c ≡ round t other n k c
round-depends_on_sources t given other a n k c =
    IsPrefix-antisym _ _
    (round-grows t given other (IsPrefixOnSources-agree t given other a) n n (omega arith) k k (omega arith) c)
    (round-grows t other given (IsPrefixOnSources-agree t other given (AgreeOnSources-sym t given other a)) n n
    (omega arith) k k (omega arith) c)

-- the given lists on the sources and lists below it elsewhere are below a closed family
pub given_or-below_closed : (t : Tables) (given X Y : Family) → IsClosed t given X
    → ((c : ℕ) → is_source (channel_at t c) ≡ false → IsPrefix (Y c) (X c)) → IsFamilyPrefix (given_or t given Y) X
given_or-below_closed t given X Y closed below c = which (is_source (channel_at t c)) refl
  where
    which : (source : Bool) → is_source (channel_at t c) ≡ source → IsPrefix (cond source (given c) (Y c)) (X c)
    which true e = IsPrefix-same (given c) (X c) (sym (closed.fed c e))
    which false e = below c e

-- each round is below a closed family
pub round-below_closed : (t : Tables) (given X : Family) → IsClosed t given X → (n k : ℕ)
    → IsFamilyPrefix (round t given n k) X
round-below_closed t given X closed n zero = given_or-below_closed t given X _ closed (λ c e. tt)
round-below_closed t given X closed n (suc k) =
    given_or-below_closed t given X _ closed
    (λ c e. IsPrefix-trans _ _ (X c)
    (written_by-grows t n n (omega arith) (round t given n k) X (round-below_closed t given X closed n k) c
    (writer_of t c))
    (closed.contains n c e))

pub closed_below-IsLeast : (t : Tables) (given X : Family) → IsClosed t given X
    → ((c : ℕ) → IsBelowLeast t given c (X c)) → (c : ℕ) → IsLeast t given c (X c)
closed_below-IsLeast t given X closed below c =
    record { below = below c; above = λ n. round-below_closed t given X closed n n c }
