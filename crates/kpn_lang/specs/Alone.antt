-- A process that runs alone, what it can say and what it comes to (Kahn 1974: a process is a function from what comes
-- in to what goes out).
use Rattle.std.specs.Prelude.{◌≡◌, ◌≢◌, ℕ, ◌-◌, ℤ, pos, nat_eq, if◌then◌else◌, List, [], ◌∷◌, ◌++◌, length, replicate}
use Rattle.kpn_lang.specs.declared.talk.Said.{Said}
use Rattle.kpn_lang.specs.declared.talk.Said.TheVariants.{Got, Put}
use Rattle.kpn_lang.specs.declared.talk.Ending.{Ending}
use Rattle.kpn_lang.specs.declared.talk.Ending.TheVariants.{Done, Cut}
use Rattle.kpn_lang.specs.Parts.{Parts, cells_of}
use Rattle.kpn_lang.specs.Tree.{tree_of}
use Rattle.kpn_lang.specs.Run.{Ran, Lists, run, ends}
use Rattle.kpn_lang.specs.Prefix.{IsPrefix}

-- a process: what it does on lists, if each loop that it enters has n turns
abbrev pub Process : Type 0
Process = (n : ℕ) → Lists → Ran

-- the process can say this on these lists
pub record CanSay (process : Process) (lists : Lists) (talk : List Said) : Type 0 where
  pub turns : ℕ
  pub said : IsPrefix talk (process turns lists).talk

-- the process comes to this end on these lists, after saying this and no more
pub record ComesTo (process : Process) (lists : Lists) (ending : Ending) (talk : List Said) : Type 0 where
  pub turns : ℕ
  pub ended : (process turns lists).ending ≡ ending
  pub said : (process turns lists).talk ≡ talk
  pub whole : ending ≢ Cut

-- the variables at the start, and the cells after them: the parameters, zeros, and the first values of the cells
abbrev pub start_of : Parts → List ℤ → List ℤ
start_of parts pars = pars ++ replicate (parts.vars - length pars) (pos 0) ++ cells_of parts

-- a program alone with these parameters
abbrev pub alone : Parts → List ℤ → Process
alone parts pars n lists = run (tree_of parts.blocks 0) n (ends Done) (start_of parts pars) lists

-- the items got at an in port, in order
abbrev pub got_at : List Said → ℕ → List ℤ
got_at [] port = []
got_at (Got i v ∷ talk) port = if nat_eq i port then v ∷ got_at talk port else got_at talk port
got_at (Put o v ∷ talk) port = got_at talk port

-- the items put on an out port, in order
abbrev pub put_at : List Said → ℕ → List ℤ
put_at [] port = []
put_at (Got i v ∷ talk) port = put_at talk port
put_at (Put o v ∷ talk) port = if nat_eq o port then v ∷ put_at talk port else put_at talk port
