use Rattle.kpn_net.proofs.Common.{ℕ, ◌<◌, get_or, Parts, IsProgram}
use Rattle.kpn_net.proofs.network.parts.NetworkParts.known_programs.Given as goal

abbrev pub invariant-loop-program : goal.invariant-loop-program
invariant-loop-program l = (k : ℕ) (d : Parts) → k < l.program-index → IsProgram (get_or l.self.programs.items k d)
