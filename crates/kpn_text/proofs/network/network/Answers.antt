-- The programs, and then the network.
use Rattle.kpn_text.proofs.Common.{map, err_from_is_err_and, network_size, program_seen}
use Rattle.kpn_text.proofs.Tables.{network_broken, network_made}
use Rattle.kpn_text.proofs.network.network.Goals as goal

pub returns-in_err-network : goal.returns-in_err-network
returns-in_err-network c =
    let p = err_from_is_err_and c.from_residual-in_err-network.result c.from_residual-in_err-network.ensures.1 in
    rw (p.1)
    (network_broken (network_size c.args.language) c.in_ok-programs.programs.items
    (map (λ q. q.parts) (map (program_seen c.args.named.shared) c.args.named.programs.items))
    c.args.named.instances.items
    c.args.named.channels.items c.args.named.limit c.args.named.policy c.args.named.growth
    c.in_err-network.field-0.0 p.0 c.in_ok-programs.ensures.0 c.in_ok-programs.ensures.1
    (rw c.network_size-size.ensures at c.in_err-network.ensures) p.2)

pub returns : goal.returns
returns c =
    network_made (network_size c.args.language) c.in_ok-programs.programs.items
    (map (λ q. q.parts) (map (program_seen c.args.named.shared) c.args.named.programs.items))
    c.args.named.instances.items c.args.named.channels.items c.args.named.limit c.args.named.policy c.args.named.growth
    c.in_ok-network.network c.in_ok-programs.ensures.0 c.in_ok-programs.ensures.1
    (rw c.network_size-size.ensures at c.in_ok-network.ensures)
