-- The pieces of the line, grouped otherwise.
use Rattle.std.proofs.Common.{◌≡◌, ℕ, List, ◌++◌, length, ap, ◌∙◌, append_assoc, refl, codes}
use Rattle.std.specs.Fmt.{decimal}
use Rattle.kpn_net.specs.Tables.{Tables}
use Rattle.kpn_command_base.specs.Counts.{counts_text}
use Rattle.kpn_command_base.proofs.counts_line.summary.Goals as goal

pieces : (a x b y c z : List ℕ) → a ++ (x ++ (b ++ (y ++ (c ++ z)))) ≡ a ++ x ++ b ++ y ++ c ++ z
pieces a x b y c z = simp append_assoc refl

pub returns : goal.returns
returns c =
    let processes = c.programs-processes.result in
    let instances = c.instances-instances.result in
    let channels = c.channels-channels.result in
    let t = c.network-network.result.now in
    ap (λ v. v.items) c.into_bytes.ensures.value
    ∙ c.in_ok-line.ensures.ok
    ∙ ap (λ t. codes "ok: " ++ t)
    (pieces (decimal processes) (codes " processes, ") (decimal instances) (codes " instances, ") (decimal channels)
    (codes " channels\n"))
    ∙ ap (λ n. counts_text n instances channels) c.programs-processes.ensures
    ∙ ap (λ n. counts_text (length t.programs) n channels) c.instances-instances.ensures
    ∙ ap (λ n. counts_text (length t.programs) (length t.instances) n) c.channels-channels.ensures
    ∙ ap (λ (n : Tables). counts_text (length n.programs) (length n.instances) (length n.channels))
    c.network-network.ensures
