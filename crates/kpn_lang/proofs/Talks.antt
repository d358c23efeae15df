-- What a talk got and put, of talks one after the other and of beginnings.
use Rattle.kpn_lang.proofs.Common.{◌≡◌, ℕ, ℤ, cond, eqb, Bool, true, false, List, [], ◌∷◌, ◌++◌, refl, ap, Said, Got, Put, IsPrefix, got_at, put_at}
use Rattle.kpn_lang.proofs.Prefixes.{rest_of_prefix, IsPrefix-append}

-- an item that counts or not, before what follows
item_before : (b : Bool) (v : ℤ) (front back both : List ℤ) → both ≡ front ++ back →
    cond b (v ∷ both) both ≡ cond b (v ∷ front) front ++ back
item_before true v front back both e = ap (λ xs. v ∷ xs) e
item_before false v front back both e = e

pub got_at-append : (talk after : List Said) (port : ℕ) →
    got_at (talk ++ after) port ≡ got_at talk port ++ got_at after port
got_at-append [] after port = refl
got_at-append (Got i v ∷ talk) after port =
    item_before (eqb i port) v (got_at talk port) (got_at after port) (got_at (talk ++ after) port)
    (got_at-append talk after port)
got_at-append (Put o v ∷ talk) after port = got_at-append talk after port

pub put_at-append : (talk after : List Said) (port : ℕ) →
    put_at (talk ++ after) port ≡ put_at talk port ++ put_at after port
put_at-append [] after port = refl
put_at-append (Got i v ∷ talk) after port = put_at-append talk after port
put_at-append (Put o v ∷ talk) after port =
    item_before (eqb o port) v (put_at talk port) (put_at after port) (put_at (talk ++ after) port)
    (put_at-append talk after port)

pub got_at-prefix : (talk longer : List Said) (port : ℕ) → IsPrefix talk longer →
    IsPrefix (got_at talk port) (got_at longer port)
got_at-prefix talk longer port p =
    let rest = rest_of_prefix talk longer p in
    rw (← rest.1, got_at-append talk rest.0 port) (IsPrefix-append (got_at talk port) (got_at rest.0 port))

pub put_at-prefix : (talk longer : List Said) (port : ℕ) → IsPrefix talk longer →
    IsPrefix (put_at talk port) (put_at longer port)
put_at-prefix talk longer port p =
    let rest = rest_of_prefix talk longer p in
    rw (← rest.1, put_at-append talk rest.0 port) (IsPrefix-append (put_at talk port) (put_at rest.0 port))
