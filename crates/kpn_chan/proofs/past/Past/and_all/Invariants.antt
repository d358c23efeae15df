use Rattle.std.specs.Prelude.{◌≡◌, ◌++◌, take}
use Rattle.kpn_chan.proofs.past.Past.and_all.Given as goal

abbrev pub invariant-items : goal.invariant-items
invariant-items g l = l.past.items ≡ l.fn.self.items ++ take l.place l.items
