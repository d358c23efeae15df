-- The text that `kpn alone` writes, as a function of the process's name, its talk and its stop.
use Rattle.std.specs.Prelude.{ℕ, List, [], ◌++◌}
use Rattle.kpn_lang.specs.declared.talk.Said.{Said}
use Rattle.kpn_lang.specs.Alone.{put_at}
use Rattle.kpn_step.specs.declared.stop.AloneStop.{AloneStop}
use Rattle.kpn_step.specs.declared.stop.AloneStop.TheVariants.{Faulted}
use Rattle.kpn_history.specs.Talks.{how_of}
use Rattle.kpn_text_items.specs.ItemFile.{item_text}
use Rattle.kpn_command_base.specs.Faulted.{faulted_line}

-- the line `fault NAME CAUSE` if the process faulted, and nothing if it did not
abbrev pub alone_fault_text : (name : List ℕ) → AloneStop → List ℕ
alone_fault_text name (Faulted fault) = faulted_line name (how_of fault)
alone_fault_text name other = []

-- the items put on the one out port, each on a line of its own, and then how the process faulted
abbrev pub alone_text : (name : List ℕ) → List Said → AloneStop → List ℕ
alone_text name talk stop = item_text (put_at talk 0) ++ alone_fault_text name stop
