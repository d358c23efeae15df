use Rattle.kpn_c.proofs.Common.{refl, sym, inl, FindsChannel}
use Rattle.kpn_c.proofs.Leading.{leads}
use Rattle.kpn_c.proofs.queries.kpn_c_channel.Goals as goal

pub returns-in-Some : goal.returns-in-Some
returns-in-Some c =
    let s = c.taken-boxed.result.1 in
    leads (FindsChannel c.args.name.now 0 c.in-Some.number) c.args.held.slot c.put_back.result.slot s s
    c.taken-boxed.ensures c.put_back.ensures
    (record {
      same = refl;
      finds = λ spelled. inl (refl, sym (c.in-Some.ensures.found spelled));
      nameless = λ unspelled. absurd (let clash = c.in-Some.ensures.nameless unspelled in cc);
    })
