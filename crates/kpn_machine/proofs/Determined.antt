-- An event leads to one machine, except for what is reserved.
use Rattle.kpn_machine.proofs.Common.{◌≡◌, ℕ, ℤ, sym, ◌∙◌, inl, inr, cases_eq, Tables, Frame, Event, Machine, frame_in, PassesRead, IsFrameAfter, Changes}
use Rattle.kpn_history.specs.declared.event.Event.TheVariants.{Get, Put}
use Rattle.kpn_machine.specs.Determined.{AreSame}

same-read : (t : Tables) (p c : ℕ) (v : ℤ) (f g h : Frame) → PassesRead t p c v f g → PassesRead t p c v f h → g ≡ h
same-read t p c v f g h x y =
    x.passes x.port x.stood.0 x.stood.1.statement ∙ sym (y.passes x.port x.stood.0 x.stood.1.statement)

same-frame : (t : Tables) (e : Event) (p : ℕ) (f g h : Frame) → IsFrameAfter t e p f g → IsFrameAfter t e p f h
    → g ≡ h
same-frame t (Get q c v) p f g h x y =
    elim (cases_eq q p) [
      | inl same ↦ same-read t p c v f g h (x.0 same) (y.0 same)
      | inr differ ↦ x.1 differ ∙ sym (y.1 differ)
    ]
same-frame t (Put q c v) p f g h x y =
    elim (cases_eq q p) [
      | inl same ↦ (x.0 same).passes ∙ sym (y.0 same).passes
      | inr differ ↦ x.1 differ ∙ sym (y.1 differ)
    ]
same-frame t other p f g h x y = x ∙ sym y

pub determined : (t : Tables) (e : Event) (s a b : Machine) → Changes t e s a → Changes t e s b → AreSame t a b
determined t e s a b x y =
    record {
      journals = λ c below. (x.channels c below).journal ∙ sym (y.channels c below).journal;
      read = λ c below. (x.channels c below).read ∙ sym (y.channels c below).read;
      capacities = λ c below. (x.channels c below).capacity ∙ sym (y.channels c below).capacity;
      retired = λ c below. (x.channels c below).retired ∙ sym (y.channels c below).retired;
      closed = λ c below. x.closed c below ∙ sym (y.closed c below);
      waits = λ p below. x.waits p below ∙ sym (y.waits p below);
      ends = λ p below. x.ends p below ∙ sym (y.ends p below);
      frames = λ p below.
          same-frame t e p (frame_in s p) (frame_in a p) (frame_in b p) (x.frames p below) (y.frames p below);
    }
