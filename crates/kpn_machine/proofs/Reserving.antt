-- What makes room on a channel changes nothing that a history records.
use Rattle.std.proofs.Common.{◌≡◌, ℕ, ◌<◌, ◌≤◌, Bool, true, false, not, cond, IsTrue, ℤ, List, [], ◌∷◌, length, None, is_some, Some, refl, sym, ap, ◌∙◌, subst, inl, inr, length-set}
use Rattle.kpn_machine.proofs.Common.{cases_eq, get_or-set_same, get_or-set_other, set-get_or, Tables, channel_at, is_source, ChannelState, opened, with_room, roomy, with_reserved, most_after, Event, written_in, Machine, channel_in, wait_in, IsMachine, with_channel, HoldsChannel, IsRun, IsChannelAfter, Changes}
use Rattle.kpn_net.specs.declared.wait.Wait.TheVariants.{Full}

-- a channel with as much room as before or more, and else the same
pub record HasRoomOf (before after : ChannelState) : Type 0 where
  pub journal : after.journal ≡ before.journal
  pub read : after.read ≡ before.read
  pub capacity : after.capacity ≡ before.capacity
  pub retired : after.is_retired ≡ before.is_retired
  pub most : after.most ≡ before.most
  pub reserved : IsTrue before.is_reserved → IsTrue after.is_reserved

has_room_reserved : (before : ChannelState) → HasRoomOf before (with_room before)
has_room_reserved before =
    record { journal = refl; read = refl; capacity = refl; retired = refl; most = refl; reserved = λ is. refl }

most_same : (xs : List ℤ) (before : ChannelState) → most_after xs (with_room before) ≡ most_after xs before
most_same [] before = refl
most_same (x ∷ xs) before = refl

-- a channel that was made roomy, whether or not that was refused
pub has_room_made : (b reserved : Bool) (before after : ChannelState)
    → after ≡ cond b (roomy reserved before) (with_reserved reserved before)
    → (IsTrue before.is_reserved → IsTrue after.is_reserved) → HasRoomOf before after
has_room_made true reserved before after is keep =
    record {
      journal = ap (λ x. x.journal) is;
      read = ap (λ x. x.read) is;
      capacity = ap (λ x. x.capacity) is;
      retired = ap (λ x. x.is_retired) is;
      most = ap (λ x. x.most) is;
      reserved = keep;
    }
has_room_made false reserved before after is keep =
    record {
      journal = ap (λ x. x.journal) is;
      read = ap (λ x. x.read) is;
      capacity = ap (λ x. x.capacity) is;
      retired = ap (λ x. x.is_retired) is;
      most = ap (λ x. x.most) is;
      reserved = keep;
    }

module _ (s : Machine) (c : ℕ) (there : c < length s.channels) where
  -- the code writes the channel back even if it is as before
  pub room_made : (b : Bool) (channel before : ChannelState) → channel ≡ cond b (with_room before) before
      → before ≡ channel_in s c
      → with_channel c channel s ≡ cond b (with_channel c (with_room (channel_in s c)) s) s
  room_made true channel before is same = ap (λ x. with_channel c x s) (is ∙ ap with_room same)
  room_made false channel before is same =
      ap (λ x. with_channel c x s) (is ∙ same)
      ∙ ap (λ channels. record s { channels = channels }) (set-get_or s.channels c (opened None false))

  module _ (channel : ChannelState) (more : HasRoomOf (channel_in s c) channel) where
    each_channel : (Q : ℕ → ChannelState → Type 0) → ((d : ℕ) → Q d (channel_in s d))
        → (Q c (channel_in s c) → Q c channel) → (d : ℕ) → Q d (channel_in (with_channel c channel s) d)
    each_channel Q all keep d =
        elim (cases_eq d c) [
          | inl same ↦
              subst (λ x. Q x (channel_in (with_channel c channel s) x)) (sym same)
              (subst (λ x. Q c x) (sym (get_or-set_same s.channels c channel (opened None false) there)) (keep (all c)))
          | inr differ ↦
              subst (λ x. Q d x) (sym (get_or-set_other s.channels c d channel (opened None false) differ)) (all d)
        ]

    module _ (t : Tables) where
      pub room_shape : IsMachine t s → IsMachine t (with_channel c channel s)
      room_shape h =
          record {
            channels = length-set s.channels c channel ∙ h.channels;
            closed = h.closed;
            ends = h.ends;
            frames = h.frames;
            waits = h.waits;
            bounded =
                each_channel (λ d x. d < length t.channels → is_some x.capacity ≡ not (is_source (channel_at t d)))
                h.bounded (λ q below. ap is_some more.capacity ∙ q below);
            positive =
                λ d cap.
                each_channel (λ d x. d < length t.channels → x.capacity ≡ Some cap → 0 < cap)
                (λ d. h.positive d cap) (λ q below is. q below (sym more.capacity ∙ is)) d;
            within =
                λ d cap.
                each_channel (λ d x. d < length t.channels → x.capacity ≡ Some cap → x.most ≤ cap)
                (λ d. h.within d cap)
                (λ q below is. subst (λ n. n ≤ cap) (sym more.most) (q below (sym more.capacity ∙ is))) d;
            fit = h.fit;
            reserved =
                λ p d process below is.
                each_channel (λ d x. d < length t.channels → wait_in s p ≡ Full d → IsTrue x.is_reserved)
                (λ d. h.reserved p d process) (λ q below is. more.reserved (q below is)) d below is;
          }

      pub room_run : (H : List Event) → IsRun t H s → IsRun t H (with_channel c channel s)
      room_run H run =
          record {
            legal = run.legal;
            shape = room_shape run.shape;
            leads = record {
              channels =
                  each_channel (λ d x. d < length t.channels → HoldsChannel t H d x) run.leads.channels
                  (λ holds below. let h = holds below in
                  record {
                    journal = more.journal ∙ h.journal;
                    read = more.read ∙ h.read;
                    capacity = more.capacity ∙ h.capacity;
                    retired = more.retired ∙ h.retired;
                  });
              closed = run.leads.closed;
              waits = run.leads.waits;
              ends = run.leads.ends;
              frames = run.leads.frames;
            };
          }

  module _ (t : Tables) where
    -- whether or not it was refused
    pub IsMachine-reserved : (b : Bool) (after : Machine)
        → after ≡ cond b (with_channel c (with_room (channel_in s c)) s) s → IsMachine t s
        → IsMachine t after
    IsMachine-reserved true after is h =
        subst (λ x. IsMachine t x) (sym is)
        (room_shape (with_room (channel_in s c)) (has_room_reserved (channel_in s c)) t h)
    IsMachine-reserved false after is h = subst (λ x. IsMachine t x) (sym is) h

    pub IsRun-reserved : (H : List Event) (b : Bool) (after : Machine)
        → after ≡ cond b (with_channel c (with_room (channel_in s c)) s) s → IsRun t H s → IsRun t H after
    IsRun-reserved H true after is run =
        subst (λ x. IsRun t H x) (sym is)
        (room_run (with_room (channel_in s c)) (has_room_reserved (channel_in s c)) t H run)
    IsRun-reserved H false after is run = subst (λ x. IsRun t H x) (sym is) run

    -- what an event changes after that, it changes before that
    pub Changes-reserved : (e : Event) (b : Bool) (middle after : Machine)
        → middle ≡ cond b (with_channel c (with_room (channel_in s c)) s) s → Changes t e middle after
        → Changes t e s after
    Changes-reserved e true middle after is changes =
        let h = subst (λ x. Changes t e x after) is changes in
        record {
          channels = λ d below.
              each_channel (with_room (channel_in s c)) (has_room_reserved (channel_in s c))
              (λ d x. IsChannelAfter t e d x (channel_in after d)
              → IsChannelAfter t e d (channel_in s d) (channel_in after d))
              (λ d same. same)
              (λ same here. record {
                journal = here.journal;
                read = here.read;
                capacity = here.capacity;
                retired = here.retired;
                reserved = λ none was. here.reserved none refl;
                most = here.most ∙ most_same (written_in c e) (channel_in s c);
                kept = here.kept;
              }) d (h.channels d below);
          closed = h.closed;
          waits = h.waits;
          ends = h.ends;
          frames = h.frames;
        }
    Changes-reserved e false middle after is changes = subst (λ x. Changes t e x after) is changes

  -- the channel that was made roomy, in the terms of the machine after that
  pub room_after : (b : Bool) (channel before : ChannelState) (after : Machine)
      → channel ≡ cond b (roomy channel.is_reserved before) (with_reserved channel.is_reserved before)
      → before ≡ channel_in s c → after ≡ with_channel c channel s
      → (let reserved = (channel_in after c).is_reserved in
      after
      ≡ with_channel c (cond b (roomy reserved (channel_in s c)) (with_reserved reserved (channel_in s c))) s)
  room_after b channel before after is same whole =
      let at : channel_in after c ≡ channel =
      ap (λ x. channel_in x c) whole ∙ get_or-set_same s.channels c channel (opened None false) there in
      subst
      (λ (reserved : Bool). after
      ≡ with_channel c (cond b (roomy reserved (channel_in s c)) (with_reserved reserved (channel_in s c))) s)
      (sym (ap (λ x. x.is_reserved) at))
      (whole
      ∙ ap (λ x. with_channel c x s)
      (is ∙ ap (λ x. cond b (roomy channel.is_reserved x) (with_reserved channel.is_reserved x)) same))

  -- what stands at a channel that was written back
  pub written_back : (channel : ChannelState) (after : Machine) → after ≡ with_channel c channel s
      → channel_in after c ≡ channel
  written_back channel after whole =
      ap (λ x. channel_in x c) whole ∙ get_or-set_same s.channels c channel (opened None false) there
