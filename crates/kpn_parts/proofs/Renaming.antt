-- A process of a part does what it does in the whole: it says the same, with the channels' numbers in the whole.
use Rattle.kpn_parts.proofs.Common.{◌≡◌, ℕ, ◌<◌, List, [], ◌∷◌, length, get_or, map, refl, sym, ap, ◌∙◌, subst, get_or-map, length-map, Said, Tables, instance_at, program_of, Family, at_channel, ran_on, talk_on, StandsAt, Reads, Writes, Part, whole_process, whole_channel, IsPart}
use Rattle.std.proofs.lemmas.Simd.{map-map}
use Rattle.kpn_lang.specs.declared.talk.Said.TheVariants.{Got, Put}
use Rattle.kpn_lang.specs.Alone.{alone}
use Rattle.kpn_net.specs.declared.tables.Instance.{Instance}
use Rattle.kpn_net.proofs.Ports.{TalkNames}
use Rattle.kpn_history.proofs.Running.{ran_on-names}

-- what is said in a part, with the number of the channel in the whole
abbrev pub said_in_whole : Part → Said → Said
said_in_whole part (Got c v) = Got (whole_channel part c) v
said_in_whole part (Put c v) = Put (whole_channel part c) v

-- the lists of a part's channels, by a family of the whole
abbrev pub seen_by : Part → Family → Family
seen_by part X c = X (whole_channel part c)

-- ---- ports

pub StandsAt-map : (f : ℕ → ℕ) (ports : List ℕ) (c : ℕ) → StandsAt ports c → StandsAt (map f ports) (f c)
StandsAt-map f ports c s =
    record {
      port = s.port;
      there = subst (λ n. s.port < n) (sym (length-map ports f)) s.there;
      is = get_or-map f ports s.port 0 0 s.there ∙ ap f s.is;
    }

-- what stands at a port of the whole stands there in the part
pub record StandsBehind (f : ℕ → ℕ) (ports : List ℕ) (c : ℕ) : Type 0 where
  pub channel : ℕ
  pub stands : StandsAt ports channel
  pub is : f channel ≡ c

pub StandsAt-back : (f : ℕ → ℕ) (ports : List ℕ) (c : ℕ) → StandsAt (map f ports) c → StandsBehind f ports c
StandsAt-back f ports c s =
    let there = subst (λ n. s.port < n) (length-map ports f) s.there in
    record {
      channel = get_or ports s.port 0;
      stands = record { port = s.port; there = there; is = refl };
      is = sym (get_or-map f ports s.port 0 0 there) ∙ s.is;
    }

-- ---- talks

talk_renamed : (part : Part) (i j : Instance) → j.ins ≡ map (whole_channel part) i.ins
    → j.outs ≡ map (whole_channel part) i.outs → (talk : List Said) → TalkNames (length i.ins) (length i.outs) talk
    → map (at_channel j) talk ≡ map (said_in_whole part) (map (at_channel i) talk)
talk_renamed part i j ins outs [] names = refl
talk_renamed part i j ins outs (Got port v ∷ talk) names =
    ap (λ c. Got c v ∷ map (at_channel j) talk)
    (ap (λ ports. get_or ports port 0) ins ∙ get_or-map (whole_channel part) i.ins port 0 0 names.0)
    ∙ ap (λ rest. Got (whole_channel part (get_or i.ins port 0)) v ∷ rest)
    (talk_renamed part i j ins outs talk names.1)
talk_renamed part i j ins outs (Put port v ∷ talk) names =
    ap (λ c. Put c v ∷ map (at_channel j) talk)
    (ap (λ ports. get_or ports port 0) outs ∙ get_or-map (whole_channel part) i.outs port 0 0 names.0)
    ∙ ap (λ rest. Put (whole_channel part (get_or i.outs port 0)) v ∷ rest)
    (talk_renamed part i j ins outs talk names.1)

module _ (t : Tables) (part : Part) (is : IsPart t part) (p : ℕ) (below : p < length part.tables.instances) where
  ran_same : (n : ℕ) (X : Family) → ran_on t (whole_process part p) n X ≡ ran_on part.tables p n (seen_by part X)
  ran_same n X =
      let same = is.processes p below in
      ap
      (λ program.
      alone program (instance_at t (whole_process part p)).pars n
      (map X (instance_at t (whole_process part p)).ins))
      same.program
      ∙ ap
      (λ pars.
      alone (program_of part.tables p) pars n (map X (instance_at t (whole_process part p)).ins)) same.pars
      ∙ ap (λ lists. alone (program_of part.tables p) (instance_at part.tables p).pars n lists)
      (ap (map X) same.ins ∙ map-map X (whole_channel part) (instance_at part.tables p).ins)

  pub talk_same : (n : ℕ) (X : Family)
      → talk_on t (whole_process part p) n X ≡ map (said_in_whole part) (talk_on part.tables p n (seen_by part X))
  talk_same n X =
      let same = is.processes p below in
      ap (λ ran. map (at_channel (instance_at t (whole_process part p))) ran.talk) (ran_same n X)
      ∙ talk_renamed part (instance_at part.tables p) (instance_at t (whole_process part p)) same.ins same.outs
      (ran_on part.tables p n (seen_by part X)).talk
      (ran_on-names part.tables is.network p below n (seen_by part X)).talk

  -- ---- ends of channels

  pub reads_in_whole : (c : ℕ) → Reads part.tables p c → Reads t (whole_process part p) (whole_channel part c)
  reads_in_whole c reads =
      let same = is.processes p below in
      record {
        process = same.there;
        place =
            subst (λ ports. StandsAt ports (whole_channel part c)) (sym same.ins)
            (StandsAt-map (whole_channel part) (instance_at part.tables p).ins c reads.place);
      }

  pub writes_in_whole : (c : ℕ) → Writes part.tables p c → Writes t (whole_process part p) (whole_channel part c)
  writes_in_whole c writes =
      let same = is.processes p below in
      record {
        process = same.there;
        place =
            subst (λ ports. StandsAt ports (whole_channel part c)) (sym same.outs)
            (StandsAt-map (whole_channel part) (instance_at part.tables p).outs c writes.place);
      }

  -- the channel of the part that a process of the whole has at a port
  pub reads_back : (c : ℕ) → Reads t (whole_process part p) c
      → StandsBehind (whole_channel part) (instance_at part.tables p).ins c
  reads_back c reads =
      StandsAt-back (whole_channel part) (instance_at part.tables p).ins c
      (subst (λ ports. StandsAt ports c) (is.processes p below).ins reads.place)

  pub writes_back : (c : ℕ) → Writes t (whole_process part p) c
      → StandsBehind (whole_channel part) (instance_at part.tables p).outs c
  writes_back c writes =
      StandsAt-back (whole_channel part) (instance_at part.tables p).outs c
      (subst (λ ports. StandsAt ports c) (is.processes p below).outs writes.place)
