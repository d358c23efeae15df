-- What a process can say and come to after a history, by the stop at its frame.
use Rattle.std.proofs.Common.{◌≡◌, ◌≢◌, ℕ, ◌<◌, ◌≤◌, cond, eq-eqb, List, [], ◌∷◌, ◌++◌, length, get_or, map, refl, sym, ap, ◌∙◌, subst, inl, inr, arith}
use Rattle.kpn_machine.proofs.Common.{cases_eq, cases_lt, ne_eqb, get_or_past, get_or-map, length-map, map-append, Contains-get_or, Said, Ending, IsPrefix, list_at, got_at, Instance, Tables, instance_at, program_of, IsNetwork, Family, talk_on, ProcessCanSay, ProcessComesTo, at_channel, ends_at_channel, AreDistinct, reads_its_ins, ins_distinct, one_port, Stop, Frame, IsRestAfter, SaysNext, EndsThere, next_said, end_reached, Event, talk_of, read_on, Legal, read_on-got, NamesInsBelow, StandsAfter}
use Rattle.kpn_lang.specs.declared.talk.Said.TheVariants as said
use Rattle.kpn_lang.specs.declared.talk.Ending.TheVariants as ending
use Rattle.kpn_net.proofs.Monotone.{map-prefix}
use Rattle.kpn_step.specs.declared.stop.Stop.TheVariants as stop
use Rattle.kpn_step.specs.Stops.{StandsAt}

-- ---- what was got at a port was got from its channel

got_at-channel : (i : Instance) → AreDistinct i.ins → (talk : List Said) → NamesInsBelow (length i.ins) talk
    → (port : ℕ) → port < length i.ins → got_at (map (at_channel i) talk) (get_or i.ins port 0) ≡ got_at talk port
got_at-channel i distinct [] below port there = refl
got_at-channel i distinct (said.Got q v ∷ talk) below port there =
    let rest = got_at-channel i distinct talk below.1 port there in
    elim (cases_eq q port) [
      | inl same ↦
          ap (λ b.
          cond b (v ∷ got_at (map (at_channel i) talk) (get_or i.ins port 0))
          (got_at (map (at_channel i) talk) (get_or i.ins port 0)))
          (eq-eqb (get_or i.ins q 0) (get_or i.ins port 0) (ap (λ x. get_or i.ins x 0) same))
          ∙ ap (λ xs. v ∷ xs) rest
          ∙ sym (ap (λ b. cond b (v ∷ got_at talk port) (got_at talk port)) (eq-eqb q port same))
      | inr differ ↦
          ap (λ b.
          cond b (v ∷ got_at (map (at_channel i) talk) (get_or i.ins port 0))
          (got_at (map (at_channel i) talk) (get_or i.ins port 0)))
          (ne_eqb (get_or i.ins q 0) (get_or i.ins port 0)
          (λ e. differ (one_port i.ins distinct q port below.0 there e)))
          ∙ rest
          ∙ sym (ap (λ b. cond b (v ∷ got_at talk port) (got_at talk port)) (ne_eqb q port differ))
    ]
got_at-channel i distinct (said.Put q v ∷ talk) below port there = got_at-channel i distinct talk below port there

got_at-past : (n : ℕ) (talk : List Said) → NamesInsBelow n talk → (port : ℕ) → n ≤ port → got_at talk port ≡ []
got_at-past n [] below port past = refl
got_at-past n (said.Got q v ∷ talk) below port past =
    let here : q < n = below.0 in
    ap (λ b. cond b (v ∷ got_at talk port) (got_at talk port)) (ne_eqb q port (λ e. absurd (omega arith)))
    ∙ got_at-past n talk below.1 port past
got_at-past n (said.Put q v ∷ talk) below port past = got_at-past n talk below port past

module _ (t : Tables) (network : IsNetwork t) (H : List Event) (legal : Legal t H) (p : ℕ)
    (there : p < length t.instances) (f : Frame) (stand : StandsAfter t H p f) where
  -- what the process read, and then these items on each of its channels
  pub IsRestAfter-more : (X more : Family) → ((c : ℕ) → X c ≡ read_on H c ++ more c)
      → IsRestAfter stand.said (map X (instance_at t p).ins) (map more (instance_at t p).ins)
  IsRestAfter-more X more is = record { ports = count more ∙ sym (count X); each = each }
    where
      count : (Y : Family) → length (map Y (instance_at t p).ins) ≡ length (instance_at t p).ins
      count Y = length-map (instance_at t p).ins Y

      read : (port : ℕ) → port < length (instance_at t p).ins
          → read_on H (get_or (instance_at t p).ins port 0) ≡ got_at stand.said port
      read port below =
          read_on-got t network (get_or (instance_at t p).ins port 0) p
          ((reads_its_ins t network p (get_or (instance_at t p).ins port 0)).1
          (Contains-get_or (instance_at t p).ins port 0 below)) H legal
          ∙ ap (λ talk. got_at talk (get_or (instance_at t p).ins port 0)) (sym stand.talk)
          ∙ got_at-channel (instance_at t p) (ins_distinct t network p there) stand.said stand.ports port below

      each : (port : ℕ)
          → list_at (map X (instance_at t p).ins) port
          ≡ got_at stand.said port ++ list_at (map more (instance_at t p).ins) port
      each port =
          elim (cases_lt port (length (instance_at t p).ins)) [
            | inl below ↦
                get_or-map X (instance_at t p).ins port 0 [] below
                ∙ is (get_or (instance_at t p).ins port 0)
                ∙ ap (λ xs. xs ++ more (get_or (instance_at t p).ins port 0)) (read port below)
                ∙ ap (λ xs. got_at stand.said port ++ xs)
                (sym (get_or-map more (instance_at t p).ins port 0 [] below))
            | inr past ↦
                get_or_past (map X (instance_at t p).ins) port [] (none X past)
                ∙ sym
                (ap (λ xs. xs ++ list_at (map more (instance_at t p).ins) port)
                (got_at-past (length (instance_at t p).ins) stand.said stand.ports port past)
                ∙ get_or_past (map more (instance_at t p).ins) port [] (none more past))
          ]
        where
          none : (Y : Family) → length (instance_at t p).ins ≤ port → length (map Y (instance_at t p).ins) ≤ port
          none Y past = let e = count Y in omega arith

  module _ (at : Stop) (stands : StandsAt (program_of t p).blocks f at) (no_pause : at ≢ stop.Paused)
      (X more : Family) (is : (c : ℕ) → X c ≡ read_on H c ++ more c) where
    -- it can say what the stop says next
    pub CanSay-next : (spoken : Said) → SaysNext at (map more (instance_at t p).ins) spoken
        → ProcessCanSay t p X (talk_of H p ++ at_channel (instance_at t p) spoken ∷ [])
    CanSay-next spoken next =
        let can =
        (next_said (program_of t p) (instance_at t p).pars stand.said f at (map X (instance_at t p).ins)
        (map more (instance_at t p).ins) spoken stand.after stands no_pause (IsRestAfter-more X more is)).1 next in
        record {
          turns = can.turns;
          said =
              subst (λ talk. IsPrefix talk (talk_on t p can.turns X))
              (map-append (at_channel (instance_at t p)) stand.said (spoken ∷ [])
              ∙ ap (λ xs. xs ++ at_channel (instance_at t p) spoken ∷ []) stand.talk)
              (map-prefix (at_channel (instance_at t p)) (stand.said ++ spoken ∷ []) _ can.said);
        }

    -- it comes to the end that its stop says
    pub ComesTo-end : (end : Ending) → EndsThere at (map more (instance_at t p).ins) end
        → ends_at_channel (instance_at t p) end ≢ ending.Cut
        → ProcessComesTo t p X (ends_at_channel (instance_at t p) end) (talk_of H p)
    ComesTo-end end there whole =
        let comes =
        (end_reached (program_of t p) (instance_at t p).pars stand.said f at (map X (instance_at t p).ins)
        (map more (instance_at t p).ins) end stand.after stands no_pause (IsRestAfter-more X more is)).1 there in
        record {
          turns = comes.turns;
          ended = ap (ends_at_channel (instance_at t p)) comes.ended;
          said = ap (map (at_channel (instance_at t p))) comes.said ∙ stand.talk;
          whole = whole;
        }
