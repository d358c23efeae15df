-- The ends of a channel in parts and in the whole. What writes a channel in the whole is in one part, and so is what
-- reads it.
use Rattle.kpn_parts.proofs.Common.{◌≡◌, ℕ, ◌<◌, true, false, List, [], length, refl, sym, ap, ◌∙◌, subst, inl, inr, arith, both_ways, cases_lt, cases_Bool, get_or_past, End, Process, Source, Sink, Tables, channel_at, is_source, is_sink, writer_of, reader_of, IsNetwork, Reads, Writes, Reads-below, Writes-below, reader_of-Reads, writer_of-Writes, Reads-reader_of, Writes-writer_of, source-writer_of, sink-reader_of, reader_of-sink, source_there, sink_there, writer_is_no_sink, reader_is_no_source, source_if_not_written, Part, whole_process, whole_channel, empty_part, part_at, IsPart, IsCut, IsCutSource}
use Rattle.std.specs.Prelude.{All}
use Rattle.kpn_lang.specs.Parts.{IsProgram}
use Rattle.kpn_net.specs.declared.tables.ChannelSpec.{ChannelSpec}
use Rattle.kpn_net.specs.declared.tables.ChannelSpec.TheVariants as channel
use Rattle.kpn_parts.proofs.Renaming.{reads_in_whole, writes_in_whole, reads_back, writes_back}

-- no channel is a source and a sink
pub source_or_sink : (spec : ChannelSpec) → is_source spec ≡ true → is_sink spec ≡ true → ⊥
source_or_sink (channel.Inner cap) source sink = absurd cc
source_or_sink channel.Source source sink = absurd cc
source_or_sink (channel.Sink cap) source sink = absurd cc

-- a channel that a process reads is no sink
no_sink : (t : Tables) → IsNetwork t → (p c : ℕ) → Reads t p c → is_sink (channel_at t c) ≡ true → ⊥
no_sink t network p c reads sink =
    let r = reader_of-Reads t network p c reads in let s = reader_of-sink t c sink in absurd cc

-- a channel that a process writes is no source
no_source : (t : Tables) → IsNetwork t → (p c : ℕ) → Writes t p c → is_source (channel_at t c) ≡ true → ⊥
no_source t network p c writes source =
    both_ways (is_source (channel_at t c)) (source_if_not_written t network p c writes) source

-- ---- the parts of a cut

no_programs : All IsProgram []
no_programs k d below = absurd omega (arith, below)

-- a part that is not there has no processes
IsPart-empty : (t : Tables) → IsPart t empty_part
IsPart-empty t =
    record {
      network = record { programs = no_programs; sound = refl };
      processes = λ p below. absurd omega (arith, below);
      distinct = λ c d below there same. absurd omega (arith, below);
    }

pub part_of : (t : Tables) (cut : List Part) → IsCut t cut → (r : ℕ) → IsPart t (part_at cut r)
part_of t cut is r =
    elim (cases_lt r (length cut)) [
      | inl below ↦ is.parts r below
      | inr past ↦ subst (IsPart t) (sym (get_or_past cut r empty_part past)) (IsPart-empty t)
    ]

module _ (t : Tables) (network : IsNetwork t) (cut : List Part) (is : IsCut t cut) where
  -- ---- what writes a channel of a part in the whole

  -- it is a process of the part, or the outside of the whole, whose reader is in the part
  pub data WritesIn (r c : ℕ) : Type 0 where
    by_process : (p : ℕ) → Writes (part_at cut r).tables p c → WritesIn r c
    by_outside : (p : ℕ) → is_source (channel_at t (whole_channel (part_at cut r) c)) ≡ true
        → Reads (part_at cut r).tables p c → WritesIn r c

  -- the process of another part that writes or reads the same channel is the same
  writers_meet : (s r d c p q : ℕ) → Writes (part_at cut s).tables p d → Writes (part_at cut r).tables q c
      → whole_channel (part_at cut s) d ≡ whole_channel (part_at cut r) c → s ≡ r
  writers_meet s r d c p q v w e =
      let first =
      writer_of-Writes t network _ _ (writes_in_whole t (part_at cut s) (part_of t cut is s) p v.process d v) in
      let second =
      writer_of-Writes t network _ _ (writes_in_whole t (part_at cut r) (part_of t cut is r) q w.process c w) in
      let f : Process (whole_process (part_at cut s) p) ≡ Process (whole_process (part_at cut r) q) =
      sym first ∙ ap (writer_of t) e ∙ second in
      (is.once s r p q v.process w.process cc).0

  readers_meet : (s r d c p q : ℕ) → Reads (part_at cut s).tables p d → Reads (part_at cut r).tables q c
      → whole_channel (part_at cut s) d ≡ whole_channel (part_at cut r) c → s ≡ r
  readers_meet s r d c p q v w e =
      let first =
      reader_of-Reads t network _ _ (reads_in_whole t (part_at cut s) (part_of t cut is s) p v.process d v) in
      let second =
      reader_of-Reads t network _ _ (reads_in_whole t (part_at cut r) (part_of t cut is r) q w.process c w) in
      let f : Process (whole_process (part_at cut s) p) ≡ Process (whole_process (part_at cut r) q) =
      sym first ∙ ap (reader_of t) e ∙ second in
      (is.once s r p q v.process w.process cc).0

  written_no_source : (r c p : ℕ) (x : ℕ) → Writes (part_at cut r).tables p c → whole_channel (part_at cut r) c ≡ x
      → is_source (channel_at t x) ≡ true → ⊥
  written_no_source r c p x w e source =
      no_source t network _ _ (writes_in_whole t (part_at cut r) (part_of t cut is r) p w.process c w)
      (subst (λ y. is_source (channel_at t y) ≡ true) (sym e) source)

  read_no_sink : (r c p : ℕ) (x : ℕ) → Reads (part_at cut r).tables p c → whole_channel (part_at cut r) c ≡ x
      → is_sink (channel_at t x) ≡ true → ⊥
  read_no_sink r c p x w e sink =
      no_sink t network _ _ (reads_in_whole t (part_at cut r) (part_of t cut is r) p w.process c w)
      (subst (λ y. is_sink (channel_at t y) ≡ true) (sym e) sink)

  -- a channel of the whole is written in one part
  pub written_once : (s r d c : ℕ) → WritesIn s d → WritesIn r c
      → whole_channel (part_at cut s) d ≡ whole_channel (part_at cut r) c → s ≡ r
  written_once s r d c (by_process p v) (by_process q w) e = writers_meet s r d c p q v w e
  written_once s r d c (by_process p v) (by_outside q source w) e = absurd (written_no_source s d p _ v e source)
  written_once s r d c (by_outside p source v) (by_process q w) e =
      absurd (written_no_source r c q _ w (sym e) source)
  written_once s r d c (by_outside p source v) (by_outside q other w) e = readers_meet s r d c p q v w e

  -- the reader of a source of a part is a process
  read_by_process : (r c : ℕ) → is_source (channel_at (part_at cut r).tables c) ≡ true
      → (p : ℕ) × Reads (part_at cut r).tables p c
  read_by_process r c source = which (reader_of u c) refl
    where
      u : Tables
      u = (part_at cut r).tables

      which : (end : End) → reader_of u c ≡ end → (p : ℕ) × Reads u p c
      which (Process p) e = (p, Reads-reader_of u p c e)
      which Source e =
          absurd (reader_is_no_source u (part_of t cut is r).network c (source_there u c source) e)
      which Sink e = absurd (source_or_sink (channel_at u c) source (sink-reader_of u c e))

  -- the writer of a sink of a part is a process
  written_by_process : (r c : ℕ) → is_sink (channel_at (part_at cut r).tables c) ≡ true
      → (p : ℕ) × Writes (part_at cut r).tables p c
  written_by_process r c sink = which (writer_of u c) refl
    where
      u : Tables
      u = (part_at cut r).tables

      which : (end : End) → writer_of u c ≡ end → (p : ℕ) × Writes u p c
      which (Process p) e = (p, Writes-writer_of u p c e)
      which Source e = absurd (source_or_sink (channel_at u c) (source-writer_of u c e) sink)
      which Sink e = absurd (writer_is_no_sink u (part_of t cut is r).network c (sink_there u c sink) e)

  -- a source of the whole is written in the part where it is a source
  pub feeds_in : (r c : ℕ) → is_source (channel_at (part_at cut r).tables c) ≡ true
      → is_source (channel_at t (whole_channel (part_at cut r) c)) ≡ true → WritesIn r c
  feeds_in r c source whole = let reader = read_by_process r c source in by_outside reader.0 whole reader.1

  -- a channel of a part is written there in the whole if it is no cut source
  pub writes_in : (r c : ℕ) → c < length (part_at cut r).tables.channels
      → (IsCutSource t (part_at cut r) c → ⊥) → WritesIn r c
  writes_in r c below whole = which (writer_of u c) refl
    where
      u : Tables
      u = (part_at cut r).tables

      which : (end : End) → writer_of u c ≡ end → WritesIn r c
      which (Process p) e = by_process p (Writes-writer_of u p c e)
      which Source e =
          let source = source-writer_of u c e in
          elim (cases_Bool (is_source (channel_at t (whole_channel (part_at cut r) c)))) [
            | inl outside ↦ feeds_in r c source outside
            | inr other ↦ absurd (whole (record { source = source; cut = other }))
          ]
      which Sink e = absurd (writer_is_no_sink u (part_of t cut is r).network c below e)

  -- ---- what reads a channel of a part in the whole

  pub data ReadsIn (r c : ℕ) : Type 0 where
    by_reader : (p : ℕ) → Reads (part_at cut r).tables p c → ReadsIn r c
    by_taker : (p : ℕ) → is_sink (channel_at t (whole_channel (part_at cut r) c)) ≡ true
        → Writes (part_at cut r).tables p c → ReadsIn r c

  -- a channel of the whole is read in one part
  pub read_once : (s r d c : ℕ) → ReadsIn s d → ReadsIn r c
      → whole_channel (part_at cut s) d ≡ whole_channel (part_at cut r) c → s ≡ r
  read_once s r d c (by_reader p v) (by_reader q w) e = readers_meet s r d c p q v w e
  read_once s r d c (by_reader p v) (by_taker q sink w) e = absurd (read_no_sink s d p _ v e sink)
  read_once s r d c (by_taker p sink v) (by_reader q w) e = absurd (read_no_sink r c q _ w (sym e) sink)
  read_once s r d c (by_taker p sink v) (by_taker q other w) e = writers_meet s r d c p q v w e

  -- a sink of the whole is read in the part where it is a sink
  pub takes_in : (r c : ℕ) → is_sink (channel_at (part_at cut r).tables c) ≡ true
      → is_sink (channel_at t (whole_channel (part_at cut r) c)) ≡ true → ReadsIn r c
  takes_in r c sink whole = let writer = written_by_process r c sink in by_taker writer.0 whole writer.1

  pub reads_in_there : (r c : ℕ) → ReadsIn r c → c < length (part_at cut r).tables.channels
  reads_in_there r c (by_reader p reads) =
      Reads-below (part_at cut r).tables (part_of t cut is r).network p c reads
  reads_in_there r c (by_taker p sink writes) =
      Writes-below (part_at cut r).tables (part_of t cut is r).network p c writes

  -- a channel of a part that a process writes is no cut source
  pub no_cut_source : (r c p : ℕ) → Writes (part_at cut r).tables p c → IsCutSource t (part_at cut r) c → ⊥
  no_cut_source r c p writes cut_source =
      no_source (part_at cut r).tables (part_of t cut is r).network p c writes cut_source.source

  -- a sink of a part that is read there in the whole is a sink of the whole
  pub no_cut_sink : (r c : ℕ) → ReadsIn r c → is_sink (channel_at (part_at cut r).tables c) ≡ true
      → is_sink (channel_at t (whole_channel (part_at cut r) c)) ≡ false → ⊥
  no_cut_sink r c (by_reader p reads) sink other =
      no_sink (part_at cut r).tables (part_of t cut is r).network p c reads sink
  no_cut_sink r c (by_taker p whole writes) sink other = both_ways _ other whole

  -- ---- the channels of the whole

  -- a channel of the whole is read in this part
  pub record IsReadIn (x : ℕ) : Type 0 where
    pub part : ℕ
    pub channel : ℕ
    pub same : whole_channel (part_at cut part) channel ≡ x
    pub reads : ReadsIn part channel

  read_at_home : (x q : ℕ) → Reads t q x → IsReadIn x
  read_at_home x q reads =
      let home = is.home q reads.process in
      let back =
      reads_back t (part_at cut home.part) (part_of t cut is home.part) home.process home.there x
      (subst (λ y. Reads t y x) (sym home.is) reads) in
      record {
        part = home.part;
        channel = back.channel;
        same = back.is;
        reads = by_reader home.process (record { process = home.there; place = back.stands });
      }

  taken_at_home : (x q : ℕ) → is_sink (channel_at t x) ≡ true → Writes t q x → IsReadIn x
  taken_at_home x q sink writes =
      let home = is.home q writes.process in
      let back =
      writes_back t (part_at cut home.part) (part_of t cut is home.part) home.process home.there x
      (subst (λ y. Writes t y x) (sym home.is) writes) in
      record {
        part = home.part;
        channel = back.channel;
        same = back.is;
        reads =
            by_taker home.process (subst (λ y. is_sink (channel_at t y) ≡ true) (sym back.is) sink)
            (record { process = home.there; place = back.stands });
      }

  -- each channel of the whole is read in some part
  pub is_read : (x : ℕ) → x < length t.channels → IsReadIn x
  is_read x below = which (reader_of t x) refl
    where
      written : (end : End) → writer_of t x ≡ end → is_sink (channel_at t x) ≡ true → IsReadIn x
      written (Process q) e sink = taken_at_home x q sink (Writes-writer_of t q x e)
      written Source e sink = absurd (source_or_sink (channel_at t x) (source-writer_of t x e) sink)
      written Sink e sink = absurd (writer_is_no_sink t network x below e)

      which : (end : End) → reader_of t x ≡ end → IsReadIn x
      which (Process q) e = read_at_home x q (Reads-reader_of t q x e)
      which Source e = absurd (reader_is_no_source t network x below e)
      which Sink e = written (writer_of t x) refl (sink-reader_of t x e)
