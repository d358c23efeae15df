-- What a worker does with several processes in one hold of the lock, one after the other.
use Rattle.std.specs.Prelude.{◌≡◌, ℕ, ◌<◌, ◌-◌, ◌⊎◌, true, List, [], ◌∷◌, map, take, drop, Option, Some, None, IfSome, IsTrue}
use Rattle.kpn_lang.specs.Parts.{Parts}
use Rattle.kpn_step.specs.declared.stop.Stop.{Stop}
use Rattle.kpn_step.specs.Frame.{Frame, fits}
use Rattle.kpn_step.specs.Stops.{Advanced, advanced_of, IsAdvance, IsAtPort, IsWithinQuota}
use Rattle.kpn_machine.specs.Machine.{frame_in}
use Rattle.kpn_book.specs.declared.answers.Done.{Done}
use Rattle.kpn_book.specs.Book.{Book, IsHeld, IsClaimed, put_back}
use Rattle.kpn_book.specs.Commits.{IsOwnAdvance, Commits}
use Rattle.kpn_pool_desk.specs.declared.turn.Stepped.{Stepped}
use Rattle.kpn_pool_desk.specs.declared.seat.Why.{Why}
use Rattle.kpn_pool_desk.specs.declared.seat.Why.TheVariants.{Abandoned, NoMemory}
use Rattle.kpn_pool_desk.specs.declared.phases.NextMove.{NextMove}
use Rattle.kpn_pool_desk.specs.declared.phases.NextMove.TheVariants as next
use Rattle.kpn_pool_desk.specs.Desk.{Desk, EndsFor, KeepsWorkers}

-- the process that was claimed last, if one was, with its frame, and the steps from there, if they are made
pub record Turn : Type 0 where
  pub process : ℕ
  pub frame : Option Frame
  pub steps : Option Advanced

-- the frame of a claim
abbrev pub frame_of : Option Stepped → Option Frame
frame_of None = None
frame_of (Some last) = Some last.claim.frame

-- the steps between these frames, if they are made
abbrev pub made_of : Parts → (from to : Frame) → Option (ℕ × Stop) → Option Advanced
made_of program from to None = None
made_of program from to (Some made) = Some (advanced_of program from to made.0 made.1)

-- the steps from the frame of a claim
abbrev pub steps_of : Option Stepped → Option Advanced
steps_of None = None
steps_of (Some last) = made_of last.claim.program.now last.claim.frame last.to last.made

-- the claim of a process of this program, with steps of it
pub record IsTurnOf (program : Parts) (last : Stepped) : Type 0 where
  pub program_is : last.claim.program.now ≡ program
  pub fits : IsTrue (fits last.claim.program.now last.claim.frame)
  pub made : IfSome last.made (λ made.
      IsAdvance (advanced_of last.claim.program.now last.claim.frame last.to made.0 made.1)
      × IsAtPort last.claim.program.now last.to made.1)

-- turns: the first `held` are held, and the gate has let the first `passed` of these through
pub record HeldTurns : Type 0 where
  pub turns : List Turn
  pub held : ℕ
  pub passed : ℕ

-- the processes that were claimed last, in the order of the turns
abbrev pub claimed_by : List Turn → List ℕ
claimed_by turns = map (λ (turn : Turn). turn.process) turns

-- ---- one turn

-- its process is the first of the queue, and is held from then on; its frame is where the process stands
pub record Claims (turn : Turn) (before after : Book) : Type 0 where
  pub held : IsClaimed turn.process before after
  pub frame : turn.frame ≡ Some (frame_in before.machine turn.process)

-- its process is held, and its steps are those of this process from where it stands
abbrev pub MayCommitTurn : Turn → Book → Type 0
MayCommitTurn turn b =
    (steps : Advanced) × (turn.steps ≡ Some steps) × IsHeld b turn.process × IsOwnAdvance b turn.process steps

-- its steps are made, and are those of a process that is not held, or not of this one from where it stands
abbrev pub AreForeign : Turn → Book → Type 0
AreForeign turn b =
    (steps : Advanced) × (turn.steps ≡ Some steps) × (¬ (IsHeld b turn.process × IsOwnAdvance b turn.process steps))

-- its steps, if they are made, are those that this quota allows
abbrev pub StepsWithin : (quota : ℕ) → Turn → Type 0
StepsWithin quota turn = IfSome turn.steps (IsWithinQuota quota)

-- its steps are committed. Foreign ones are dropped, and a turn that has claimed nobody has none
abbrev pub CommitsOrDrops : Turn → Book → Book → Type 0
CommitsOrDrops turn before after =
    ((steps : Advanced) × (done : Done) × (turn.steps ≡ Some steps) × Commits turn.process steps done before after)
    ⊎ ((AreForeign turn before ⊎ (turn.frame ≡ None)) × (after ≡ before))

-- its process is put back, if it is held
abbrev pub PutsBack : Turn → Book → Book → Type 0
PutsBack turn before after =
    (IsHeld before turn.process × (after ≡ put_back turn.process before))
    ⊎ ((¬ IsHeld before turn.process) × (after ≡ before))

-- ---- one turn after the other

abbrev pub InTurn : (Turn → Book → Book → Type 0) → List Turn → Book → Book → Type 0
InTurn Does [] before after = after ≡ before
InTurn Does (turn ∷ turns) before after = (between : Book) × Does turn before between × InTurn Does turns between after

-- the first turns claim in order, and then their processes are put back in order
abbrev pub ClaimsInVain : List Turn → Book → Book → Type 0
ClaimsInVain turns before after =
    (count : ℕ) × (between : Book) × InTurn Claims (take count turns) before between
    × InTurn PutsBack (take count turns) between after

-- why a worker ends that has committed this many of the turns that it holds: memory is wanted for the next one, and all
-- workers shall end; or the gate did not let the next one through
abbrev pub IsEnd : (committed : ℕ) → HeldTurns → (before after : Desk) → Option Why → Type 0
IsEnd committed b before after None = (committed ≡ b.held) × (after.halts ≡ before.halts)
IsEnd committed b before after (Some Abandoned) =
    (committed ≡ b.passed) × (b.passed < b.held) × (after.halts ≡ before.halts)
IsEnd committed b before after (Some NoMemory) = (committed < b.passed) × (after.halts ≡ true)
IsEnd committed b before after (Some why) = ⊥

-- the first turns of a batch are committed in order, and then the others that are held are put back in order
pub record SettlesTurns (b : HeldTurns) (why : Option Why) (before after : Desk) : Type 0 where
  pub committed : ℕ
  pub between : Book
  pub commits : InTurn CommitsOrDrops (take committed (take b.passed b.turns)) before.book between
  pub back : InTurn PutsBack (take (b.held - committed) (drop committed b.turns)) between after.book
  pub end : IsEnd committed b before after why
  pub keeps : KeepsWorkers before after

-- ---- a worker that is back

-- after a batch was settled, a worker ends if there is a reason for that, and else only if the desk has one
abbrev pub GoesOnAfter : (most : ℕ) → Option Why → NextMove → Desk → Type 0
GoesOnAfter most (Some why) then after = then ≡ next.End why
GoesOnAfter most None then after = EndsFor after most then

-- its batch is settled, and it goes on after that
pub record ComesBackWithTurns (most : ℕ) (b : HeldTurns) (then : NextMove) (before after : Desk) : Type 0 where
  pub why : Option Why
  pub settles : SettlesTurns b why before after
  pub goes_on : GoesOnAfter most why then after
