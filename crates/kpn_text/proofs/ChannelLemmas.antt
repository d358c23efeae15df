-- What kind of channel has which capacity and which reader.
use Rattle.kpn_text.proofs.Common.{◌≡◌, ℕ, suc, true, false, cond, List, [], ◌∷◌, ◌++◌, get_or, Some, nat_eq, ChannelSpec, Instance, Tables, capacity, channel_at, ends_from, is_sink, ends_among, reader_of}
use Rattle.kpn_net.specs.declared.tables.ChannelSpec.TheVariants as channel
use Rattle.kpn_net.specs.declared.tables.End.{End}
use Rattle.kpn_net.specs.declared.tables.End.TheVariants.{Process, Source, Sink}

-- the first of these is not the sink
abbrev BeginsNoSink : List End → Type 0
BeginsNoSink ends = get_or ends 0 Source ≡ Sink → ⊥

places_begin : (c p : ℕ) (ds : List ℕ) (ends : List End) → BeginsNoSink ends → BeginsNoSink (ends_among c p ds ++ ends)
places_begin c p [] ends none = none
places_begin c p (d ∷ ds) ends none =
    elim (nat_eq d c) as (λ b. BeginsNoSink (cond b (Process p ∷ ends_among c p ds) (ends_among c p ds) ++ ends)) [
      | true ↦ λ e. absurd cc
      | false ↦ places_begin c p ds ends none
    ]

-- a process is no sink
ends_begin : (ports : Instance → List ℕ) (c p : ℕ) (instances : List Instance)
    → BeginsNoSink (ends_from ports c p instances)
ends_begin ports c p [] = λ e. absurd cc
ends_begin ports c p (i ∷ instances) =
    places_begin c p (ports i) (ends_from ports c (suc p) instances) (ends_begin ports c (suc p) instances)

-- the reader of a channel, if these read it besides
abbrev reader : ChannelSpec → List End → End
reader spec ends = get_or (cond (is_sink spec) (Sink ∷ []) [] ++ ends) 0 Source

sink_by : (spec : ChannelSpec) (ends : List End) (cap : ℕ) → BeginsNoSink ends → capacity spec ≡ Some cap
    → reader spec ends ≡ Sink → channel.Sink cap ≡ spec
sink_by (channel.Inner n) ends cap none h r = absurd (none r)
sink_by channel.Source ends cap none h r = absurd cc
sink_by (channel.Sink n) ends cap none h r = cc

pub sink_is : (t : Tables) (c cap : ℕ) → capacity (channel_at t c) ≡ Some cap → reader_of t c ≡ Sink
    → channel.Sink cap ≡ channel_at t c
sink_is t c cap h r =
    sink_by (channel_at t c) (ends_from (λ i. i.ins) c 0 t.instances) cap (ends_begin (λ i. i.ins) c 0 t.instances) h
    r
