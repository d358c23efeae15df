-- There are no more items than bytes, which are within the limit.
use Rattle.kpn_text_items.proofs.Common.{◌≤◌, vec_len, arith, MAX_INPUT_BYTES, Spells}
use Rattle.std.proofs.lemmas.Result.{IfOk-weaker}
use Rattle.kpn_text_items.proofs.CountLemmas.{Spells-few}
use Rattle.kpn_text_items.proofs.item_file.read_items.Goals as goal

pub returns-clause-few : goal.returns-clause-few
returns-clause-few g c =
    IfOk-weaker c.items_of.result (λ items. Spells c.deref.result.now items.items)
    (λ items. vec_len items ≤ MAX_INPUT_BYTES)
    (λ items spelled. let own = items.ok in omega (
      arith,
      Spells-few c.deref.result.now items.items spelled,
      c.deref.ensures.len,
      c.in_ok-bytes.ensures.within,
    ))
    c.items_of.ensures.ok
