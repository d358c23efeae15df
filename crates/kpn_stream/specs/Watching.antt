-- The looks at a stream while it runs.
use Rattle.std.specs.Prelude.{◌≡◌, Bool, false, List, [], ◌++◌}
use Rattle.kpn_net.specs.Tables.{Tables}
use Rattle.kpn_history.specs.declared.event.Event.{Event}
use Rattle.kpn_history.specs.Talks.{is_of_process}
use Rattle.kpn_book.specs.Book.{Book}
use Rattle.kpn_book.specs.Kept.{IsBook}
use Rattle.kpn_stream.specs.Devices.{is_of_source, NoneIs}

-- From the first watcher to this one, by looks at the book of the run, one after the other. A source is fed or closed
-- only while the watcher knows the book: since then no process has done anything. If the watcher wanted the end, nothing
-- has happened since.
pub data Watched {W : Type 0} (t : Tables) (knows : W → Book → Type 0) (sees : W → Book → Bool → W → Type 0) (first : W)
    : List Event → (halted : Bool) → W → Type 0 where
  not_yet_seen : Watched t knows sees first [] false first
  by_steps : (H es : List Event) (now : W) → Watched t knows sees first H false now → NoneIs is_of_source es →
      Watched t knows sees first (H ++ es) false now
  by_reads : (b : Book) (es : List Event) (now : W) → Watched t knows sees first b.history false now → b.tables ≡ t →
      IsBook b → knows now b → NoneIs is_of_process es → Watched t knows sees first (b.history ++ es) false now
  seen : (b : Book) (halts : Bool) (before now : W) → Watched t knows sees first b.history false before →
      b.tables ≡ t → IsBook b → sees before b halts now → Watched t knows sees first b.history halts now

-- ---- scaffolding

-- the looks go on, from one book of a run to a later one
abbrev pub Watches : {W : Type 0} → (knows : W → Book → Type 0) → (sees : W → Book → Bool → W → Type 0)
    → (before after : Book) → (watcher : W) → (halted : Bool) → (now : W) → Type 0
Watches {W} knows sees before after watcher halted now =
    (t : Tables) → t ≡ before.tables → (first : W) → Watched t knows sees first before.history false watcher
    → Watched t knows sees first after.history halted now
