use Rattle.kpn_net.proofs.Common.{◌≡◌, None, length, sym, ◌∙◌, Sink, Source, channels_fault, readers_of, tables_of, writers_of}
use Rattle.kpn_net.proofs.Networks.{ChannelsSound-from, or_else-both}
use Rattle.kpn_net.proofs.SideLemmas.{ends-kept}
use Rattle.kpn_net.proofs.network.Network.joined.Goals as goal

pub invariant_of-result : goal.invariant_of-result
invariant_of-result c =
    let t = tables_of c.args.parts in
    let channels : channels_fault t ≡ None = sym c.channels_fault.ensures ∙ c.in_default.is in
    let once = ChannelsSound-from t channels in
    record {
      network = record {
        programs = c.known_programs.ensures;
        sound = or_else-both _ _ c.requires.instances channels;
      };
      writers =
          c.in_ok-writers.ensures
          ∙ ends-kept Sink c.count_ends.new.writers (writers_of t) (length t.channels) c.count_ends.ensures.written
          (c.count_ends.auto.writers ∙ c.requires.writers_len) once.written_once;
      readers =
          c.in_ok-readers.ensures
          ∙ ends-kept Source c.count_ends.new.readers (readers_of t) (length t.channels) c.count_ends.ensures.read
          (c.count_ends.auto.readers ∙ c.requires.readers_len) once.read_once;
    }
