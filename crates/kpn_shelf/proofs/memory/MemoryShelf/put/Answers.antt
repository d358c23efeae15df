-- Names other than the one that was put keep their bytes.
use Rattle.std.proofs.Common.{arith, ◌≡◌, option_map, ap}
use Rattle.std.proofs.lemmas.Map.Text.{text_keys}
use Rattle.std.specs.BTreeMap.{get_by_text}
use Rattle.kpn_shelf.proofs.memory.MemoryShelf.put.Goals as goal

pub returns-clause-others : goal.returns-clause-others
returns-clause-others c = λ other differs.
    let same : get_by_text c.insert.new.self other ≡ get_by_text c.args.self.now.files other =
    grind (arith, text_keys) in
    ap (option_map (λ bytes. bytes.items)) same
