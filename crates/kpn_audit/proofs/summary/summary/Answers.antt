use Rattle.kpn_audit.proofs.Summed.{shown}
use Rattle.kpn_audit.proofs.summary.summary.Goals as goal

pub returns : goal.returns
returns g c H run =
    let lists = c.in_ok-fill_in.ensures H run in
    shown c.args.network.now H c.args.machine run
    (record c.fill_in.new.audit { journals = c.in-Ok.journals; exact = c.is_quiet.result })
    c.in-Ok.ensures.journals
    (record {
      reads = lists.reads;
      caps = lists.caps;
      complete = lists.complete;
      waits = lists.waits;
      ends = lists.ends;
    }) (c.is_quiet.ensures.history H run)
