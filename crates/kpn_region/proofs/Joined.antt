-- The law of a batch: the history with its events leads to the joined machine, and nothing is owed after it.
use Rattle.kpn_region.proofs.Common.{◌≡◌, ℕ, ◌<◌, ◌≤◌, true, false, IsTrue, List, ◌++◌, length, get_or, None, is_some, sym, ap, ◌∙◌, subst, get_or-map, Full, Tables, program_of, IsNetwork, IsOwnWait, fits, Event, OwesNothing, Machine, channel_in, wait_in, end_in, frame_in, IsEndOf, StandsAfter, IsRun, SideState, no_side, as_claimed, is_in_region, frame_at, side_at, IsLocal, Plays, Batch, IsBatch, IsClaimOf, items_put, AgreesWith, Joins}
use Rattle.kpn_region.proofs.OnTheWay.{put_so_far}
use Rattle.kpn_region.proofs.Playing.{IsUnused, IsReached, within_there, sound, reaches}

-- ---- a machine that differs only in what is reserved

-- the second is the first, except for what is reserved; where a process waits as full, an item is
pub record IsAlike (t : Tables) (s other : Machine) : Type 0 where
  pub channels : length other.channels ≡ length s.channels
  pub closed : other.closed ≡ s.closed
  pub ends : other.ends ≡ s.ends
  pub waits : length other.waits ≡ length s.waits
  pub frames : length other.frames ≡ length s.frames
  pub journal : (c : ℕ) → c < length t.channels → (channel_in other c).journal ≡ (channel_in s c).journal
  pub read : (c : ℕ) → c < length t.channels → (channel_in other c).read ≡ (channel_in s c).read
  pub capacity : (c : ℕ) → c < length t.channels → (channel_in other c).capacity ≡ (channel_in s c).capacity
  pub retired : (c : ℕ) → c < length t.channels → (channel_in other c).is_retired ≡ (channel_in s c).is_retired
  pub most : (c : ℕ) → c < length t.channels → (channel_in other c).most ≡ (channel_in s c).most
  pub each_wait : (p : ℕ) → p < length t.instances → wait_in other p ≡ wait_in s p
  pub each_frame : (p : ℕ) → p < length t.instances → frame_in other p ≡ frame_in s p
  pub reserved : (p c : ℕ) → p < length t.instances → c < length t.channels → wait_in s p ≡ Full c
      → IsTrue (channel_in other c).is_reserved

run_of_alike : (t : Tables) (H : List Event) (s other : Machine) → IsAlike t s other → IsRun t H s
    → IsRun t H other
run_of_alike t H s other same run =
    record {
      legal = run.legal;
      shape = record {
        channels = same.channels ∙ run.shape.channels;
        closed = ap length same.closed ∙ run.shape.closed;
        ends = ap length same.ends ∙ run.shape.ends;
        frames = same.frames ∙ run.shape.frames;
        waits = record {
          one_each = same.waits ∙ run.shape.waits.one_each;
          own = λ p there. subst (IsOwnWait t p) (sym (same.each_wait p there)) (run.shape.waits.own p there);
        };
        bounded = λ c below. ap is_some (same.capacity c below) ∙ run.shape.bounded c below;
        positive = λ c cap below is. run.shape.positive c cap below (sym (same.capacity c below) ∙ is);
        within = λ c cap below is.
            subst (λ n. n ≤ cap) (sym (same.most c below))
            (run.shape.within c cap below (sym (same.capacity c below) ∙ is));
        fit = λ p there. subst (λ f. IsTrue (fits (program_of t p) f)) (sym (same.each_frame p there))
            (run.shape.fit p there);
        reserved = λ p c there below is. same.reserved p c there below (sym (same.each_wait p there) ∙ is);
      };
      leads = record {
        channels = λ c below.
            let holds = run.leads.channels c below in
            record {
              journal = same.journal c below ∙ holds.journal;
              read = same.read c below ∙ holds.read;
              capacity = same.capacity c below ∙ holds.capacity;
              retired = same.retired c below ∙ holds.retired;
            };
        closed = λ c below. ap (λ xs. get_or xs c false) same.closed ∙ run.leads.closed c below;
        waits = λ p there. same.each_wait p there ∙ run.leads.waits p there;
        ends = λ p there. subst (λ xs. IsEndOf H p (get_or xs p None)) (sym same.ends) (run.leads.ends p there);
        frames = λ p there. subst (StandsAfter t H p) (sym (same.each_frame p there)) (run.leads.frames p there);
      };
    }

-- ---- the law

module _ (t : Tables) (network : IsNetwork t) (b : Batch) (tables : b.tables ≡ t) (is : IsBatch b) (H : List Event)
    (before after : Machine) (run : IsRun t H before) (owes : OwesNothing t H) (agrees : AgreesWith b before)
  where
    claim_is : (c : ℕ) → c < length t.channels → side_at b.first c ≡ as_claimed (side_at b.now c)
    claim_is c below =
        ap (λ ss. get_or ss c no_side) is.claimed
        ∙ get_or-map as_claimed b.now.sides c no_side no_side
        (subst (λ n. c < n) (sym (is.is.sides ∙ ap (λ x. length x.channels) tables)) below)

    unused : (c : ℕ) → c < length t.channels → IsUnused (side_at b.first c)
    unused c below =
        record {
          taken = ap (λ (side : SideState). side.taken) (claim_is c below);
          most = ap (λ (side : SideState). side.most) (claim_is c below);
        }

    local : IsLocal t b.first
    local = subst (λ x. IsLocal x b.first) tables is.was

    agrees_at : (p : ℕ) → is_in_region b.first p ≡ true
        → (end_in before p ≡ None) × (frame_in before p ≡ frame_at b.first p)
    agrees_at p in_it =
        agrees.processes p (subst (λ x. p < length x.instances) (sym tables) (within_there t b.first local p in_it)) in_it

    claims : (c : ℕ) → c < length t.channels → IsClaimOf t c (side_at b.first c) (channel_in before c)
    claims c below =
        subst (λ side. IsClaimOf t c side (channel_in before c)) (sym (claim_is c below))
        (subst (λ x. IsClaimOf x c (as_claimed (side_at b.now c)) (channel_in before c)) tables
        (agrees.channels c (subst (λ x. c < length x.channels) (sym tables) below)).claim)

    reached : IsReached t H before b.first b.events b.now
    reached =
        reaches t network H before run owes b.first local (λ p in_it. (agrees_at p in_it).1)
        (λ p in_it. (agrees_at p in_it).0) claims unused (subst (λ x. Plays x b.first b.events b.now) tables is.plays)
        (λ c below. (agrees.channels c (subst (λ x. c < length x.channels) (sym tables) below)).in_order)

    pub nothing_owed_after : OwesNothing t (H ++ b.events)
    nothing_owed_after = reached.owes

    module _ (joins : Joins b before after) where
      below_here : (c : ℕ) → c < length t.channels → c < length b.tables.channels
      below_here c below = subst (λ x. c < length x.channels) (sym tables) below

      there_here : (p : ℕ) → p < length t.instances → p < length b.tables.instances
      there_here p there = subst (λ x. p < length x.instances) (sym tables) there

      same_puts : (c : ℕ) (below : c < length t.channels)
          → items_put (side_at b.now c) ≡ (reached.each_channel c below).puts
      same_puts c below =
          put_so_far t c (side_at b.first c) (channel_in before c)
          (claims c below)
          (side_at b.now c) (channel_in reached.to c) (sound t H before run c below) (reached.each_channel c below)

      alike : IsAlike t reached.to after
      alike =
          record {
            channels = joins.channels ∙ run.shape.channels ∙ sym reached.run.shape.channels;
            closed = joins.closed ∙ sym reached.closed;
            ends = joins.ends ∙ sym reached.ends;
            waits = joins.waits ∙ run.shape.waits.one_each ∙ sym reached.run.shape.waits.one_each;
            frames = joins.frames ∙ run.shape.frames ∙ sym reached.run.shape.frames;
            journal = λ c below.
                (joins.each_channel c (below_here c below)).journal
                ∙ ap (λ xs. (channel_in before c).journal ++ xs) (same_puts c below)
                ∙ sym (reached.each_channel c below).journal;
            read = λ c below.
                (joins.each_channel c (below_here c below)).read ∙ sym (reached.each_channel c below).read;
            capacity = λ c below.
                (joins.each_channel c (below_here c below)).capacity ∙ sym (reached.each_channel c below).capacity;
            retired = λ c below.
                (joins.each_channel c (below_here c below)).retired ∙ sym (reached.each_channel c below).retired;
            most = λ c below.
                (joins.each_channel c (below_here c below)).most ∙ sym (reached.each_channel c below).most;
            each_wait = λ p there. joins.each_wait p (there_here p there) ∙ sym (reached.each_wait p there);
            each_frame = λ p there. joins.each_frame p (there_here p there) ∙ sym (reached.each_frame p);
            reserved = λ p c there below waits.
                let room = (reached.each_channel c below).unreserved
                (reached.run.shape.reserved p c there below waits) in
                (joins.each_channel c (below_here c below)).reserved (same_puts c below ∙ room.0) room.1;
          }

      pub run_after : IsRun t (H ++ b.events) after
      run_after = run_of_alike t (H ++ b.events) reached.to after alike reached.run
