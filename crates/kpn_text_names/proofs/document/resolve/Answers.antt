-- Names and things were added together.
use Rattle.kpn_text_names.proofs.Common.{map, refl, process_seen, item_seen, program_seen, programs_seen, wiring_seen}
use Rattle.kpn_text_names.proofs.Counts.{programs_match, wiring_matches, WiringMatches, each_named}
use Rattle.kpn_text_names.proofs.document.resolve.Goals as goal

pub returns-clause-each : goal.returns-clause-each
returns-clause-each c =
    let shared = c.in_ok-shared.shared in
    let w : WiringMatches (wiring_seen c.in_ok-wiring.wiring) =
    wiring_matches _ (map item_seen c.as_slice-3.result.now) (wiring_seen c.in_ok-wiring.wiring)
    c.in_ok-wiring.ensures in
    each_named (map (program_seen shared) c.in_ok-processes.processes.programs.items) _ refl refl
    (programs_match c.args.language shared (map process_seen c.as_slice-2.result.now)
    (programs_seen shared c.in_ok-processes.processes) c.in_ok-processes.ensures) w.instances w.channels
