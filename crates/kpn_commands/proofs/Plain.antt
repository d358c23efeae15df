-- The runs of the built-in processes on a list of items.
use Rattle.kpn_commands.proofs.Common.{◌≡◌, ◌≢◌, ℕ, zero, suc, ℤ, pos, List, [], ◌∷◌, Result, Ok, Err, ◌*ℤ◌, ◌+ℤ◌, refl, ap, sym, ◌∙◌, Fault, Said, Got, Put, Ran, Lists, run, turns, ends, says, with_value, Num, put_at, alone, ComesTo, Done, Faulted, Starved, Paused, BuiltIn, Copy, Double, Sum, built_in_program, PutsPlainly}
use Rattle.kpn_lang.specs.declared.talk.Ending.{Ending}
use Rattle.kpn_lang.specs.declared.talk.Ending.TheVariants as ending
use Rattle.kpn_lang.specs.Tree.{tree_to}
use Rattle.kpn_lang.specs.Value.{in_range}
use Rattle.kpn_step.specs.declared.stop.AloneStop.{AloneStop}
use Rattle.kpn_commands.specs.Plain.{either, values, alone_stop_of, TalksPlainly}

-- the end of a run that a stop stands for
abbrev pub ending_of : AloneStop → Ending
ending_of Done = ending.Done
ending_of (Faulted fault) = ending.Faulted fault
ending_of (Starved port) = ending.Starved port
ending_of Paused = ending.Cut

-- the loop of a process with this many turns left
abbrev loop : BuiltIn → (n left : ℕ) → List ℤ → Lists → Ran
loop process n left =
    turns left (Num (pos 1)) (λ after. run (tree_to (built_in_program process).blocks 1 1) n after) (ends ending.Done)

-- the run puts the plain values and comes to the plain stop
record IsPlain (process : BuiltIn) (last : ℤ) (items : List ℤ) (ran : Ran) : Type 0 where
  put : put_at ran.talk 0 ≡ values process last items
  stop : ran.ending ≡ ending_of (alone_stop_of process last items)

loop_copy : (n left : ℕ) (x last : ℤ) (items : List ℤ) → (loop Copy n left (x ∷ []) (items ∷ [])).ending ≢ ending.Cut
    → IsPlain Copy last items (loop Copy n left (x ∷ []) (items ∷ []))
loop_copy n zero x last items whole = absurd (whole refl)
loop_copy n (suc left) x last [] whole = record { put = refl; stop = refl }
loop_copy n (suc left) x last (item ∷ items) whole =
    let rest =
    loop_copy n left item item items whole in record { put = ap (λ vs. item ∷ vs) rest.put; stop = rest.stop }

-- a turn of double: it puts twice the item and goes on, or faults
turn_double : (item : ℤ) (items : List ℤ) (next : Ran) (twice : Result ℤ Fault)
    → ((last : ℤ) → next.ending ≢ ending.Cut → IsPlain Double last items next) → (ran : Ran)
    → ran ≡ says (Got 0 item) (with_value twice (item ∷ []) (items ∷ []) (λ v. says (Put 0 v) next))
    → ran.ending ≢ ending.Cut
    → (put_at ran.talk 0 ≡ either twice (λ v. v ∷ values Double v items) (λ _. []))
    × (ran.ending ≡ ending_of (either twice (λ v. alone_stop_of Double v items) Faulted))
turn_double item items next (Ok v) rest ran is whole =
    let plain = rest v (λ cut. whole (ap (λ r. r.ending) is ∙ cut)) in
    (ap (λ r. put_at r.talk 0) is ∙ ap (λ vs. v ∷ vs) plain.put, ap (λ r. r.ending) is ∙ plain.stop)
turn_double item items next (Err fault) rest ran is whole =
    (ap (λ r. put_at r.talk 0) is, ap (λ r. r.ending) is)

loop_double : (n left : ℕ) (x last : ℤ) (items : List ℤ)
    → (loop Double n left (x ∷ []) (items ∷ [])).ending ≢ ending.Cut
    → IsPlain Double last items (loop Double n left (x ∷ []) (items ∷ []))
loop_double n zero x last items whole = absurd (whole refl)
loop_double n (suc left) x last [] whole = record { put = refl; stop = refl }
loop_double n (suc left) x last (item ∷ items) whole =
    let turn =
    turn_double item items (loop Double n left (item ∷ []) (items ∷ [])) (in_range (item *ℤ pos 2))
    (λ v w. loop_double n left item v items w) (loop Double n (suc left) (x ∷ []) ((item ∷ items) ∷ [])) refl
    whole in
    record { put = turn.0; stop = turn.1 }

-- a turn of sum: it puts the total with the item and goes on, or faults
turn_sum : (item last : ℤ) (items : List ℤ) (next : ℤ → Ran) (total : Result ℤ Fault)
    → ((v : ℤ) → (next v).ending ≢ ending.Cut → IsPlain Sum v items (next v)) → (ran : Ran)
    → ran ≡ says (Got 0 item) (with_value total (item ∷ last ∷ []) (items ∷ []) (λ v. says (Put 0 v) (next v)))
    → ran.ending ≢ ending.Cut
    → (put_at ran.talk 0 ≡ either total (λ v. v ∷ values Sum v items) (λ _. []))
    × (ran.ending ≡ ending_of (either total (λ v. alone_stop_of Sum v items) Faulted))
turn_sum item last items next (Ok v) rest ran is whole =
    let plain = rest v (λ cut. whole (ap (λ r. r.ending) is ∙ cut)) in
    (ap (λ r. put_at r.talk 0) is ∙ ap (λ vs. v ∷ vs) plain.put, ap (λ r. r.ending) is ∙ plain.stop)
turn_sum item last items next (Err fault) rest ran is whole =
    (ap (λ r. put_at r.talk 0) is, ap (λ r. r.ending) is)

loop_sum : (n left : ℕ) (x last : ℤ) (items : List ℤ)
    → (loop Sum n left (x ∷ last ∷ []) (items ∷ [])).ending ≢ ending.Cut
    → IsPlain Sum last items (loop Sum n left (x ∷ last ∷ []) (items ∷ []))
loop_sum n zero x last items whole = absurd (whole refl)
loop_sum n (suc left) x last [] whole = record { put = refl; stop = refl }
loop_sum n (suc left) x last (item ∷ items) whole =
    let turn =
    turn_sum item last items (λ v. loop Sum n left (item ∷ v ∷ []) (items ∷ [])) (in_range (last +ℤ item))
    (λ v w. loop_sum n left item v items w) (loop Sum n (suc left) (x ∷ last ∷ []) ((item ∷ items) ∷ [])) refl
    whole in
    record { put = turn.0; stop = turn.1 }

-- each process from its start
plain_run : (process : BuiltIn) (n : ℕ) (items : List ℤ) (ran : Ran)
    → ran ≡ alone (built_in_program process) [] n (items ∷ []) → ran.ending ≢ ending.Cut
    → IsPlain process (pos 0) items ran
plain_run Copy n items ran is whole =
    rw is (loop_copy n n (pos 0) (pos 0) items (λ cut. whole (ap (λ r. r.ending) is ∙ cut)))
plain_run Double n items ran is whole =
    rw is (loop_double n n (pos 0) (pos 0) items (λ cut. whole (ap (λ r. r.ending) is ∙ cut)))
plain_run Sum n items ran is whole =
    rw is (loop_sum n n (pos 0) (pos 0) items (λ cut. whole (ap (λ r. r.ending) is ∙ cut)))

-- the stop that an end stands for is one
stop_at : (stop other : AloneStop) → ending_of stop ≡ ending_of other → stop ≡ other
stop_at Done Done e = refl
stop_at Done (Faulted f) e = absurd (cc)
stop_at Done (Starved q) e = absurd (cc)
stop_at Done Paused e = absurd (cc)
stop_at (Faulted f) Done e = absurd (cc)
stop_at (Faulted f) (Faulted g) e = cc
stop_at (Faulted f) (Starved q) e = absurd (cc)
stop_at (Faulted f) Paused e = absurd (cc)
stop_at (Starved q) Done e = absurd (cc)
stop_at (Starved q) (Faulted f) e = absurd (cc)
stop_at (Starved q) (Starved r) e = cc
stop_at (Starved q) Paused e = absurd (cc)
stop_at Paused Done e = absurd (cc)
stop_at Paused (Faulted f) e = absurd (cc)
stop_at Paused (Starved q) e = absurd (cc)
stop_at Paused Paused e = refl

-- what a process that comes to an end has said and comes to
came_to : (process : BuiltIn) (items : List ℤ) (stop : AloneStop) (talk : List Said)
    → ComesTo (alone (built_in_program process) []) (items ∷ []) (ending_of stop) talk
    → TalksPlainly process items talk stop
came_to process items stop talk came =
    let plain =
    plain_run process came.turns items (alone (built_in_program process) [] came.turns (items ∷ [])) refl
    (λ cut. came.whole (sym came.ended ∙ cut)) in
    record {
      put = ap (λ t. put_at t 0) (sym came.said) ∙ plain.put;
      stopped = stop_at stop (alone_stop_of process (pos 0) items) (sym came.ended ∙ plain.stop);
    }

pub puts_plainly : PutsPlainly
puts_plainly process items quota talk Done gives unpaused = came_to process items Done talk gives.outcome
puts_plainly process items quota talk (Faulted fault) gives unpaused =
    came_to process items (Faulted fault) talk gives.outcome
puts_plainly process items quota talk (Starved port) gives unpaused =
    came_to process items (Starved port) talk gives.outcome
puts_plainly process items quota talk Paused gives unpaused = absurd (unpaused refl)
