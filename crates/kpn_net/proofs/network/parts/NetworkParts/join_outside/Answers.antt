use Rattle.kpn_net.proofs.Common.{◌≡◌, cond, [], ◌∷◌, ap, Source, Sink, channel_at, is_source, is_sink, tables_of}
use Rattle.kpn_net.specs.declared.tables.ChannelSpec.TheVariants as channel
use Rattle.kpn_net.proofs.SideLemmas.{Keeps-outside_none, Keeps-outside_one}
use Rattle.kpn_net.proofs.network.parts.NetworkParts.join_outside.Goals.{in-Inner, in-Source, in-Sink}
use Rattle.kpn_net.proofs.network.parts.NetworkParts.join_outside.Goals as goal

pub loop-c-preserved : goal.loop-c-preserved
loop-c-preserved c =
    let t = tables_of c.args.self.now in
    let items = c.deref-channel-items.ensures.value in
    elim c.match-channel.branch [
      | in-Inner w ↦
          let is : channel_at t c.loop-c.c ≡ channel.Inner w.in-Inner.field-0 = rw items at w.in-Inner.is in
          record {
            written =
                rw w.writers-is
                (Keeps-outside_none _ (λ d. cond (is_source (channel_at t d)) (Source ∷ []) []) _
                c.loop-c.invariant.written (ap (λ x. cond (is_source x) (Source ∷ []) []) is));
            read =
                rw w.readers-is
                (Keeps-outside_none _ (λ d. cond (is_sink (channel_at t d)) (Sink ∷ []) []) _
                c.loop-c.invariant.read (ap (λ x. cond (is_sink x) (Sink ∷ []) []) is));
          }
      | in-Source w ↦
          let is : channel_at t c.loop-c.c ≡ channel.Source = rw items at w.in-Source.is in
          record {
            written =
                rw w.writers-is
                (Keeps-outside_one _ (λ d. cond (is_source (channel_at t d)) (Source ∷ []) []) _ Source
                c.loop-c.invariant.written (ap (λ x. cond (is_source x) (Source ∷ []) []) is));
            read =
                rw w.readers-is
                (Keeps-outside_none _ (λ d. cond (is_sink (channel_at t d)) (Sink ∷ []) []) _
                c.loop-c.invariant.read (ap (λ x. cond (is_sink x) (Sink ∷ []) []) is));
          }
      | in-Sink w ↦
          let is : channel_at t c.loop-c.c ≡ channel.Sink w.in-Sink.field-0 = rw items at w.in-Sink.is in
          record {
            written =
                rw w.writers-is
                (Keeps-outside_none _ (λ d. cond (is_source (channel_at t d)) (Source ∷ []) []) _
                c.loop-c.invariant.written (ap (λ x. cond (is_source x) (Source ∷ []) []) is));
            read =
                rw w.readers-is
                (Keeps-outside_one _ (λ d. cond (is_sink (channel_at t d)) (Sink ∷ []) []) _ Sink
                c.loop-c.invariant.read (ap (λ x. cond (is_sink x) (Sink ∷ []) []) is));
          }
    ]
