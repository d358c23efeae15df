-- What the built-in processes make of a list of items, in plain terms.
use Rattle.std.specs.Prelude.{◌≡◌, ℕ, ℤ, pos, ◌+ℤ◌, ◌*ℤ◌, List, [], ◌∷◌, ◌++◌, Result, Ok, Err}
use Rattle.kpn_lang.specs.declared.value.Fault.{Fault}
use Rattle.kpn_lang.specs.declared.talk.Said.{Said}
use Rattle.kpn_lang.specs.Value.{in_range}
use Rattle.kpn_lang.specs.Alone.{put_at}
use Rattle.kpn_step.specs.declared.stop.AloneStop.{AloneStop}
use Rattle.kpn_step.specs.declared.stop.AloneStop.TheVariants.{Faulted, Starved}
use Rattle.kpn_text_items.specs.ItemFile.{item_text}
use Rattle.kpn_commands.specs.declared.built_in.BuiltIn.{BuiltIn}
use Rattle.kpn_commands.specs.declared.built_in.BuiltIn.TheVariants.{Copy, Double, Sum}
use Rattle.kpn_commands.specs.BuiltIn.{name_of}
use Rattle.kpn_commands.specs.AloneText.{alone_fault_text}

-- what the process puts for an item, if it put this last (0 at first); out of range it is an overflow
abbrev pub next_value : BuiltIn → (last item : ℤ) → Result ℤ Fault
next_value Copy last item = Ok item
next_value Double last item = in_range (item *ℤ pos 2)
next_value Sum last item = in_range (last +ℤ item)

-- one thing for a value, another for a fault
abbrev pub either : {A : Type 0} → Result ℤ Fault → (ℤ → A) → (Fault → A) → A
either (Ok v) on_value on_fault = on_value v
either (Err fault) on_value on_fault = on_fault fault

-- the values that are put, up to the first fault
abbrev pub values : BuiltIn → (last : ℤ) → List ℤ → List ℤ
values process last [] = []
values process last (item ∷ items) = either (next_value process last item) (λ v. v ∷ values process v items) (λ _. [])

-- the first fault, or starved of items
abbrev pub alone_stop_of : BuiltIn → (last : ℤ) → List ℤ → AloneStop
alone_stop_of process last [] = Starved 0
alone_stop_of process last (item ∷ items) =
    either (next_value process last item) (λ v. alone_stop_of process v items) Faulted

-- copy: the items; double: twice each; sum: the sums of the items so far; each on a line of its own, and then the
-- fault
abbrev pub plain_text : BuiltIn → List ℤ → List ℕ
plain_text process items =
    item_text (values process (pos 0) items) ++ alone_fault_text (name_of process) (alone_stop_of process (pos 0) items)

-- a talk and a stop that are plainly those
pub record TalksPlainly (process : BuiltIn) (items : List ℤ) (talk : List Said) (stop : AloneStop) : Type 0 where
  pub put : put_at talk 0 ≡ values process (pos 0) items
  pub stopped : stop ≡ alone_stop_of process (pos 0) items
