-- The copy is kept as the network is, since no rule and no end of a channel depends on the policy or the growth.
use Rattle.kpn_net.proofs.Common.{◌≡◌, List, ◌∙◌, Growth, Tables, under, tables_of, IsKeptNetwork}
use Rattle.kpn_net.specs.declared.tables.End.{End}
use Rattle.kpn_net.specs.declared.tables.Policy.{Policy}
use Rattle.kpn_net.proofs.network.Network.under.Goals as goal

kept_under : (policy : Policy) (growth : Growth) (t : Tables) (writing reading : List End) →
    IsKeptNetwork t writing reading → IsKeptNetwork (under policy growth t) writing reading
kept_under policy growth t writing reading kept = record {
  network = record { programs = kept.network.programs; sound = kept.network.sound };
  writers = kept.writers;
  readers = kept.readers;
}

pub invariant_of-result : goal.invariant_of-result
invariant_of-result c =
    let parts = c.self.inside.parts in
    let programs : c.in_ok-programs.programs.items ≡ parts.programs.items =
    c.in_ok-programs.ensures ∙ c.deref.ensures.value in
    let instances : c.in_ok-instances.instances.items ≡ parts.instances.items =
    c.in_ok-instances.ensures ∙ c.deref-2.ensures.value in
    let channels : c.in_ok-channels.channels.items ≡ parts.channels.items =
    c.in_ok-channels.ensures.items ∙ c.deref-3.ensures.value in
    let writers : c.in_ok-writers.writers.items ≡ c.self.inside.writers.items =
    c.in_ok-writers.ensures.items ∙ c.deref-4.ensures.value in
    let readers : c.in_ok-readers.readers.items ≡ c.self.inside.readers.items =
    c.in_ok-readers.ensures.items ∙ c.deref-5.ensures.value in
    rw (programs, instances, channels, writers, readers)
    (kept_under c.args.policy c.args.growth (tables_of parts) _ _ c.self.invariant)
