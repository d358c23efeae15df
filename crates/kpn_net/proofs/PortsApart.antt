-- The channels at the ports of a process. Each is at one port, and from the ports follows which channels the process
-- reads and writes.
use Rattle.kpn_net.proofs.Common.{◌≡◌, ◌↔◌, ℕ, zero, suc, ◌+◌, ◌<◌, ◌≤◌, cond, Bool, true, false, eqb, eq-eqb, add-zero, List, [], ◌∷◌, length, get_or, refl, sym, ap, ◌∙◌, subst, inl, inr, arith, length-append, Contains, get_or_default, get_or_past, cases_lt, MAX_PORTS, limits, Instance, Process, Source, Sink, Tables, instance_at, program_of, channel_at, is_source, is_sink, ends_among, ends_from, writer_of, reader_of, IsNetwork, AreDistinct}
use Rattle.kpn_net.proofs.Networks.{StandsAt, IsInstance-of, IsProgram-of, one_writer, one_reader, writer_of-Writes, reader_of-Reads, Writes-writer_of, Reads-reader_of, Writes-below, Reads-below}
use Rattle.kpn_net.proofs.Cycles.{Contains-none, Contains-first, Contains-later, Contains-cases}

-- ---- what is at a port

StandsAt-contained : (ports : List ℕ) (c : ℕ) → Contains ports c → StandsAt ports c
StandsAt-contained ports c (port, below, e) =
    record { port = port; there = below; is = get_or_default ports port 0 c below ∙ e }

contained-StandsAt : (ports : List ℕ) (c : ℕ) → StandsAt ports c → Contains ports c
contained-StandsAt ports c s = (s.port, s.there, get_or_default ports s.port c 0 s.there ∙ s.is)

-- a process that has a channel at a port is an instance
has_ports : (ports : Instance → List ℕ) → ports (record { program = 0; ins = []; outs = []; pars = [] }) ≡ []
    → (t : Tables) (p c : ℕ) → Contains (ports (instance_at t p)) c → p < length t.instances
has_ports ports none t p c h =
    elim (cases_lt p (length t.instances)) [
      | inl below ↦ below
      | inr past ↦ absurd
          (Contains-none c (subst (λ xs. Contains xs c) (ap ports (get_or_past t.instances p _ past) ∙ none) h))
    ]

-- a process reads the channels at its in ports
pub reads_its_ins : (t : Tables) → IsNetwork t → (p c : ℕ)
    → (reader_of t c ≡ Process p) ↔ Contains (instance_at t p).ins c
reads_its_ins t network p c = (
  λ e. contained-StandsAt (instance_at t p).ins c (Reads-reader_of t p c e).place,
  λ h.
      reader_of-Reads t network p c
      (record {
        process = has_ports (λ i. i.ins) refl t p c h;
        place = StandsAt-contained (instance_at t p).ins c h;
      }),
)

-- a process writes the channels at its out ports
pub writes_its_outs : (t : Tables) → IsNetwork t → (p c : ℕ)
    → (writer_of t c ≡ Process p) ↔ Contains (instance_at t p).outs c
writes_its_outs t network p c = (
  λ e. contained-StandsAt (instance_at t p).outs c (Writes-writer_of t p c e).place,
  λ h.
      writer_of-Writes t network p c
      (record {
        process = has_ports (λ i. i.outs) refl t p c h;
        place = StandsAt-contained (instance_at t p).outs c h;
      }),
)

pub in_is_there : (t : Tables) → IsNetwork t → (p c : ℕ) → Contains (instance_at t p).ins c → c < length t.channels
in_is_there t network p c h = Reads-below t network p c (Reads-reader_of t p c ((reads_its_ins t network p c).1 h))

pub out_is_there : (t : Tables) → IsNetwork t → (p c : ℕ) → Contains (instance_at t p).outs c → c < length t.channels
out_is_there t network p c h =
    Writes-below t network p c (Writes-writer_of t p c ((writes_its_outs t network p c).1 h))

-- ---- each channel is at one port

places-positive : (c p : ℕ) (ports : List ℕ) → Contains ports c → 0 < length (ends_among c p ports)
places-positive c p [] h = absurd (Contains-none c h)
places-positive c p (d ∷ ports) h =
    elim (Contains-cases d ports c h) [
      | inl same ↦ rw (eq-eqb d c same) (omega arith)
      | inr later ↦ which (eqb d c) (places-positive c p ports later)
    ]
  where
    which : (b : Bool) → 0 < length (ends_among c p ports)
        → 0 < length (cond b (Process p ∷ ends_among c p ports) (ends_among c p ports))
    which true h = omega arith
    which false h = h

places-tail : (c p d : ℕ) (ports : List ℕ) → length (ends_among c p ports) ≤ length (ends_among c p (d ∷ ports))
places-tail c p d ports = which (eqb d c)
  where
    which : (b : Bool) → length (ends_among c p ports) ≤ length (cond b (Process p ∷ ends_among c p ports) (ends_among c p ports))
    which true = omega arith
    which false = omega arith

distinct_where_once : (p : ℕ) (ports : List ℕ) → ((c : ℕ) → Contains ports c → length (ends_among c p ports) ≤ 1)
    → AreDistinct ports
distinct_where_once p [] once = tt
distinct_where_once p (d ∷ ports) once = (
  λ h.
      let two = once d (Contains-first d ports) in
      let one = places-positive d p ports h in
      let here : length (ends_among d p (d ∷ ports)) ≡ suc (length (ends_among d p ports)) = rw (eq-eqb d d refl) refl in
      absurd (omega arith),
  distinct_where_once p ports
      (λ c h.
      let whole = once c (Contains-later d ports c h) in
      let tail = places-tail c p d ports in
      omega arith),
)

-- an instance is at no more ends than there are
places-le_ends : (ports : Instance → List ℕ) (c p i : ℕ) (instances : List Instance) (d : Instance)
    → i < length instances
    → length (ends_among c (p + i) (ports (get_or instances i d))) ≤ length (ends_from ports c p instances)
places-le_ends ports c p i [] d below = absurd (omega arith)
places-le_ends ports c p zero (x ∷ instances) d below =
    let e : length (ends_among c (p + zero) (ports x)) ≡ length (ends_among c p (ports x)) =
    ap (λ q. length (ends_among c q (ports x))) (add-zero p) in
    omega (arith, length-append (ends_among c p (ports x)) (ends_from ports c (suc p) instances))
places-le_ends ports c p (suc i) (x ∷ instances) d below =
    let f : p + suc i ≡ suc p + i = omega arith in
    let e : length (ends_among c (p + suc i) (ports (get_or instances i d)))
    ≡ length (ends_among c (suc p + i) (ports (get_or instances i d))) =
    ap (λ q. length (ends_among c q (ports (get_or instances i d)))) f in
    let rest = places-le_ends ports c (suc p) i instances d (omega arith) in
    omega (arith, length-append (ends_among c p (ports x)) (ends_from ports c (suc p) instances))

pub ins_distinct : (t : Tables) → IsNetwork t → (p : ℕ) → p < length t.instances → AreDistinct (instance_at t p).ins
ins_distinct t network p below =
    distinct_where_once (0 + p) (instance_at t p).ins
    (λ c h.
    let one = ap length (one_reader t network c (in_is_there t network p c h)) in
    let all =
    length-append (cond (is_sink (channel_at t c)) (Sink ∷ []) []) (ends_from (λ i. i.ins) c 0 t.instances) in
    let here : length (ends_among c (0 + p) (instance_at t p).ins) ≤ length (ends_from (λ i. i.ins) c 0 t.instances) =
    places-le_ends (λ i. i.ins) c 0 p t.instances (record { program = 0; ins = []; outs = []; pars = [] }) below in
    omega arith)

pub outs_distinct : (t : Tables) → IsNetwork t → (p : ℕ) → p < length t.instances → AreDistinct (instance_at t p).outs
outs_distinct t network p below =
    distinct_where_once (0 + p) (instance_at t p).outs
    (λ c h.
    let one = ap length (one_writer t network c (out_is_there t network p c h)) in
    let all =
    length-append (cond (is_source (channel_at t c)) (Source ∷ []) []) (ends_from (λ i. i.outs) c 0 t.instances) in
    let here : length (ends_among c (0 + p) (instance_at t p).outs) ≤ length (ends_from (λ i. i.outs) c 0 t.instances) =
    places-le_ends (λ i. i.outs) c 0 p t.instances (record { program = 0; ins = []; outs = []; pars = [] }) below in
    omega arith)

-- of distinct channels none is at two ports
pub one_port : (ports : List ℕ) → AreDistinct ports → (i j : ℕ) → i < length ports → j < length ports
    → get_or ports i 0 ≡ get_or ports j 0 → i ≡ j
one_port [] d i j h k e = absurd (omega arith)
one_port (x ∷ ports) d zero zero h k e = refl
one_port (x ∷ ports) d zero (suc j) h k e = let below : j < length ports =
    omega arith in absurd (d.0 (j, below, get_or_default ports j x 0 below ∙ sym e))
one_port (x ∷ ports) d (suc i) zero h k e = let below : i < length ports =
    omega arith in absurd (d.0 (i, below, get_or_default ports i x 0 below ∙ e))
one_port (x ∷ ports) d (suc i) (suc j) h k e = let same =
    one_port ports d.1 i j (omega arith) (omega arith) e in omega arith

-- ---- how many ports there are

pub few_ins : (t : Tables) → IsNetwork t → (p : ℕ) → p < length t.instances → length (instance_at t p).ins ≤ MAX_PORTS
few_ins t network p below =
    let ports = (limits (program_of t p) (IsProgram-of t network p below)).ins in
    let count = (IsInstance-of t network p below).ins in
    omega arith

pub few_outs : (t : Tables) → IsNetwork t → (p : ℕ) → p < length t.instances
    → length (instance_at t p).outs ≤ MAX_PORTS
few_outs t network p below =
    let ports = (limits (program_of t p) (IsProgram-of t network p below)).outs in
    let count = (IsInstance-of t network p below).outs in
    omega arith
