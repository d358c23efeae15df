-- Steps of a process between its events move only its frame: the same history leads to the machine after them.
use Rattle.std.proofs.Common.{◌≡◌, ℕ, ◌<◌, IsTrue, List, length, sym, ◌∙◌, subst, inl, inr, arith, length-set}
use Rattle.kpn_machine.proofs.Common.{cases_eq, Tables, instance_at, program_of, Frame, fits, Advanced, IsAdvance, advanced_of, Stop, Parts, IsAfter, IsAfter-advance, Event, Machine, frame_in, IsMachine, with_frame, StandsAfter, IsRun}
use Rattle.kpn_machine.proofs.Calls.{frame_in-same, frame_in-other}

module _ (t : Tables) (s : Machine) (p : ℕ) (g : Frame) (there : p < length t.instances)
    (shape : IsMachine t s) where
  at_frame : (Q : ℕ → Frame → Type 0) → Q p g → ((q : ℕ) → Q q (frame_in s q)) → (q : ℕ)
      → Q q (frame_in (with_frame p g s) q)
  at_frame Q here others q =
      elim (cases_eq q p) [
        | inl same ↦
            subst (λ x. Q x (frame_in (with_frame p g s) x)) (sym same)
            (subst (λ f. Q p f) (sym (frame_in-same s p g (omega (arith, shape.frames)))) here)
        | inr differ ↦ subst (λ f. Q q f) (sym (frame_in-other s p q g differ)) (others q)
      ]

  pub IsMachine-moved : IsTrue (fits (program_of t p) g) → IsMachine t (with_frame p g s)
  IsMachine-moved fit =
      record {
        channels = shape.channels;
        closed = shape.closed;
        ends = shape.ends;
        frames = length-set s.frames p g ∙ shape.frames;
        waits = shape.waits;
        bounded = shape.bounded;
        positive = shape.positive;
        within = shape.within;
        fit = at_frame (λ q f. q < length t.instances → IsTrue (fits (program_of t q) f)) (λ below. fit) shape.fit;
        reserved = shape.reserved;
      }

  pub IsRun-moved : (H : List Event) (a : Advanced) → IsAdvance a → a.program ≡ program_of t p → a.from ≡ frame_in s p
      → a.to ≡ g → IsRun t H s → IsRun t H (with_frame p g s)
  IsRun-moved H a advance program from onto run =
      record {
        legal = run.legal;
        shape =
            IsMachine-moved
            (subst (λ f. IsTrue (fits (program_of t p) f)) onto
            (subst (λ x. IsTrue (fits x a.to)) program advance.to_fits));
        leads = record {
          channels = run.leads.channels;
          closed = run.leads.closed;
          waits = run.leads.waits;
          ends = run.leads.ends;
          frames = at_frame (λ q f. q < length t.instances → StandsAfter t H q f) moved run.leads.frames;
        };
      }
    where
      moved : p < length t.instances → StandsAfter t H p g
      moved below =
          let h = run.leads.frames p below in
          record {
            said = h.said;
            ports = h.ports;
            talk = h.talk;
            after = subst (λ f. IsAfter (program_of t p) (instance_at t p).pars h.said f) onto
                (subst (λ x. IsAfter x (instance_at t p).pars h.said a.to) program
                (IsAfter-advance a (instance_at t p).pars h.said advance
                (subst (λ f. IsAfter a.program (instance_at t p).pars h.said f) (sym from)
                (subst (λ x. IsAfter x (instance_at t p).pars h.said (frame_in s p)) (sym program) h.after))));
          }

-- the steps of the code's frame are those of the machine's
pub advanced_as : (P : Advanced → Type 0) (x y : Parts) (f g h k : Frame) (steps : ℕ) (stop : Stop) → x ≡ y → f ≡ g
    → h ≡ k → P (advanced_of x f h steps stop) → P (advanced_of y g k steps stop)
advanced_as P x y f g h k steps stop program from to is =
    subst (λ z. P (advanced_of z g k steps stop)) program
    (subst (λ z. P (advanced_of x z k steps stop)) from (subst (λ z. P (advanced_of x f z steps stop)) to is))
