use Rattle.std.proofs.Common.{◌≡◌, ◌<◌, ◌+◌, ◌-◌, List, ℤ, length, true, rules, arith, sym, ap, ◌∙◌, subst}
use Rattle.kpn_chan.proofs.Common.{length-append, AreFull, false≢true, CHUNK}
use Rattle.std.proofs.lemmas.List.Elements.{All-push}
use Rattle.kpn_chan.proofs.Places.{one_more_chunk}
use Rattle.kpn_chan.proofs.chunks.Chunks.append.Goals as goal

pub returns-clause-chunks : goal.returns-clause-chunks
returns-clause-chunks g c =
    let chunks = c.args.self.now in
    let keeps : chunks.keeps ≡ true = search rules in
    let some : 0 < length c.args.items.now = omega (arith, c.if-items-room.false, c.len.ensures) in
    let places = c.requires.places some in
    let next = places.next keeps in
    let past : CHUNK < length chunks.last.items + length c.args.items.now =
    omega (arith, c.if-items-room.false, c.len.ensures, c.capacity.ensures, next.last, chunks.last.ok) in
    let few = one_more_chunk chunks c.requires.chunks (length c.args.items.now) past places.bound in
    let front : length c.split_at.result.0.now ≡ c.capacity.result - c.len.result =
    omega (arith, c.split_at.ensures.front_len) in
    let long =
    ap (λ (l : List ℤ). length l) c.push_all-2.ensures.items
    ∙ length-append chunks.last.items c.split_at.result.0.now in
    let whole : length c.push_all-2.new.chunk.items ≡ CHUNK =
    omega (arith, long, front, c.capacity.ensures, c.len.ensures, next.last, chunks.last.ok) in
    record {
      full =
          subst (λ l. AreFull l) (sym c.push_reserved.ensures.items)
          (All-push (λ v. length v.items ≡ CHUNK) chunks.full.items _ c.requires.chunks.full
          (ap (λ v. length v.items) c.replace-full.ensures.value ∙ whole));
      few = omega (arith, few, c.push_reserved.ensures.len, chunks.full.ok);
      last = search rules;
      kept = c.requires.chunks.kept;
      forgotten = λ no. absurd (false≢true (sym no ∙ keeps));
      count = c.requires.chunks.count;
      bound = c.requires.chunks.bound;
      next = search rules;
      next_places = search rules;
      no_next = λ no. absurd (false≢true (sym no ∙ keeps));
    }
