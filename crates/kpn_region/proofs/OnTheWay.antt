-- What stands of one channel while a batch is played on a machine: the next get finds its item there, the next
-- put finds room, and both keep what stands.
use Rattle.kpn_region.proofs.Common.{◌≡◌, ℕ, zero, suc, ◌+◌, ◌-◌, ◌<◌, ◌≤◌, ◌&&◌, Bool, true, false, not, ℤ, cond, max, IsTrue, List, [], ◌∷◌, ◌++◌, length, take, drop, get_or, Option, Some, None, slice_get, refl, sym, ap, ◌∙◌, inl, inr, arith, append-nil, append_assoc, add-zero, length-append, drop-append_seam, lt-leb, false≢true, slice_get_within, slice_get-get_or, get_or_from_slice_get, length_of_prefix, rest_of_prefix, same_from_prefix, IsPrefix-from_rest, Tables, ChannelState, unread, fills, is_channel_full, next_item, after_put, after_get, most_after_put, SideState, untaken, next_of, with_next_taken, with_item_put, IsClaimOf, TakesInOrder, items_put, most_with, most_joined}
use Rattle.std.proofs.lemmas.List.{length-drop, take-append-drop, drop-append-le, get_or-drop, get_or_append_left}
use Rattle.kpn_lang.specs.Prefix.{IsPrefix}

-- the side after some events, from its claim, and the channel after them
pub record IsOnTheWay (claim side : SideState) (before now : ChannelState) : Type 0 where
  pub puts : List ℤ
  pub items : side.items ≡ claim.items ++ puts
  pub claimed : side.claimed ≡ claim.claimed
  pub room : side.room ≡ claim.room
  pub drained : side.is_drained ≡ claim.is_drained
  pub taken : side.taken ≤ length side.items
  pub journal : now.journal ≡ before.journal ++ puts
  pub read : now.read ≡ before.read + side.taken
  pub capacity : now.capacity ≡ before.capacity
  pub retired : now.is_retired ≡ before.is_retired
  pub most : now.most ≡ most_joined side before
  pub unreserved : IsTrue now.is_reserved → (puts ≡ []) × IsTrue before.is_reserved

-- ---- the most items that were ever unread

most_some : (unseen most before : ℕ) → 0 < most → most_with unseen most before ≡ max before (unseen + most)
most_some unseen zero before some = absurd (omega arith)
most_some unseen (suc most) before some = refl

most_more : (unseen most before count : ℕ)
    → max (most_with unseen most before) (unseen + count + 1) ≡ most_with unseen (max most (count + 1)) before
most_more unseen zero before count =
    sym (most_some unseen (max 0 (count + 1)) before (omega arith)
    ∙ ap (max before) (let e : unseen + max 0 (count + 1) ≡ unseen + count + 1 = omega arith in e))
most_more unseen (suc most) before count =
    sym (most_some unseen (max (suc most) (count + 1)) before (omega arith)
    ∙ (let e : max before (unseen + max (suc most) (count + 1)) ≡ max (max before (unseen + suc most)) (unseen + count + 1)
    = omega arith in e))

-- ---- the first item past a place

first_of_rest : (xs : List ℤ) (k : ℕ) (v : ℤ) → k < length xs → get_or xs k v ≡ v → slice_get (drop k xs) 0 ≡ Some v
first_of_rest xs k v below is =
    let long = length-drop k xs in
    slice_get-get_or (drop k xs) 0 v (omega (arith, long, below))
    ∙ ap (λ x. Some x) (get_or-drop k xs 0 v ∙ ap (λ n. get_or xs n v) (add-zero k) ∙ is)

module _ (t : Tables) (c : ℕ) (claim : SideState) (before : ChannelState) (of : IsClaimOf t c claim before) where
  pub starts : claim.taken ≡ 0 → claim.most ≡ 0 → IsOnTheWay claim claim before before
  starts taken most =
      record {
        puts = [];
        items = sym (append-nil claim.items);
        claimed = refl;
        room = refl;
        drained = refl;
        taken = omega (arith, taken);
        journal = sym (append-nil before.journal);
        read = sym (ap (λ n. before.read + n) taken ∙ add-zero before.read);
        capacity = refl;
        retired = refl;
        most =
            sym (ap (λ m. cond before.is_retired before.most
            (most_with (length (unread before) - claim.claimed) m before.most)) most ∙ either before.is_retired);
        unreserved = λ is. (refl, is);
      }
    where
      either : (b : Bool) → cond b before.most before.most ≡ before.most
      either true = refl
      either false = refl

  -- the claimed items are the first unread ones
  claimed_first : before.is_retired ≡ false → IsPrefix claim.items (unread before)
  claimed_first there =
      let first : claim.items ≡ take (length claim.items) (unread before) =
      of.first ∙ ap (λ b. take (length claim.items) (cond b [] (unread before))) there in
      IsPrefix-from_rest claim.items (drop (length claim.items) (unread before)) (unread before)
      (ap (λ xs. xs ++ drop (length claim.items) (unread before)) first
      ∙ take-append-drop (length claim.items) (unread before))

  module _ (side : SideState) (now : ChannelState) (sound : before.read ≤ length before.journal)
      (way : IsOnTheWay claim side before now) where
    long_items : length side.items ≡ length claim.items + length way.puts
    long_items = ap length way.items ∙ length-append claim.items way.puts

    -- what the region has put
    pub put_so_far : items_put side ≡ way.puts
    put_so_far =
        ap (λ n. drop n side.items) (way.claimed ∙ of.count) ∙ ap (drop (length claim.items)) way.items
        ∙ drop-append_seam claim.items way.puts

    -- ---- a get or a take

    module _ (v : ℤ) (next : next_of side ≡ Some v) where
      below : side.taken < length side.items
      below = slice_get_within side.items side.taken v next

      pub got : IsOnTheWay claim (with_next_taken side) before (after_get (Some v) now.is_reserved now)
      got =
          record {
            puts = way.puts;
            items = way.items;
            claimed = way.claimed;
            room = way.room;
            drained = way.drained;
            taken = let less = below in omega (arith, less);
            journal = way.journal;
            read = let e = way.read in omega (arith, e);
            capacity = way.capacity;
            retired = way.retired;
            most = way.most;
            unreserved = way.unreserved;
          }

      module _ (there : before.is_retired ≡ false) (order : TakesInOrder (with_next_taken side) before) where
        begins : IsPrefix claim.items (unread before)
        begins = claimed_first there

        abbrev place : ℕ
        place = before.read + side.taken

        -- the item stands in the journal where the next get reads
        record IsAt (xs : List ℤ) : Type 0 where
          within : place < length xs
          is : get_or xs place v ≡ v

        item_is : get_or (claim.items ++ way.puts) side.taken v ≡ v
        item_is = ap (λ xs. get_or xs side.taken v) (sym way.items) ∙ get_or_from_slice_get side.items side.taken v v next

        from_claimed : side.taken + 1 ≤ side.claimed → IsAt (before.journal ++ way.puts)
        from_claimed early =
            let rest = rest_of_prefix claim.items (unread before) begins in
            let few : side.taken < length claim.items = let e = way.claimed ∙ of.count in omega (arith, early, e) in
            let shorter = length_of_prefix claim.items (unread before) begins in
            let long = length-drop before.read before.journal in
            let all = length-append before.journal way.puts in
            let inside : place < length before.journal = omega (arith, few, shorter, long) in
            record {
              within = omega (arith, inside, all);
              is =
                  get_or_append_left before.journal way.puts v place inside
                  ∙ sym (get_or-drop before.read before.journal side.taken v)
                  ∙ ap (λ xs. get_or xs side.taken v) (sym rest.1)
                  ∙ get_or_append_left claim.items rest.0 v side.taken few
                  ∙ sym (get_or_append_left claim.items way.puts v side.taken few)
                  ∙ item_is;
            }

        from_all : side.claimed ≡ length (unread before) → IsAt (before.journal ++ way.puts)
        from_all whole =
            let same : claim.items ≡ unread before =
            same_from_prefix claim.items (unread before) begins
            (let e = sym (way.claimed ∙ of.count) ∙ whole in omega (arith, e)) in
            let items : side.items ≡ drop before.read (before.journal ++ way.puts) =
            way.items ∙ ap (λ xs. xs ++ way.puts) same
            ∙ sym (drop-append-le before.read before.journal way.puts sound) in
            let long = ap length items ∙ length-drop before.read (before.journal ++ way.puts) in
            let less = below in
            record {
              within = omega (arith, less, long);
              is =
                  sym (get_or-drop before.read (before.journal ++ way.puts) side.taken v)
                  ∙ ap (λ xs. get_or xs side.taken v) (sym items)
                  ∙ get_or_from_slice_get side.items side.taken v v next;
            }

        stands : IsAt (before.journal ++ way.puts)
        stands = elim order [ inl early ↦ from_claimed early | inr whole ↦ from_all whole ]

        -- the item is there
        pub gives : next_item now ≡ Some v
        gives =
            ap (λ b. cond b None (slice_get (unread now) 0)) (way.retired ∙ there)
            ∙ ap (λ n. slice_get (drop n now.journal) 0) way.read
            ∙ ap (λ xs. slice_get (drop place xs) 0) way.journal
            ∙ first_of_rest (before.journal ++ way.puts) place v stands.within stands.is

    -- ---- a put

    unread_now : before.is_retired ≡ false
        → length (unread now) ≡ (length (unread before) - side.claimed) + length (untaken side)
    unread_now there =
        let shorter = length_of_prefix claim.items (unread before) (claimed_first there) in
        let a = length-drop now.read now.journal in
        let b = ap length way.journal ∙ length-append before.journal way.puts in
        let d = length-drop before.read before.journal in
        let e = length-drop side.taken side.items in
        let f = long_items in
        let g = way.claimed ∙ of.count in
        let h = way.read in
        let i = way.taken in
        omega (arith, shorter, a, b, d, e, f, g, h, i, sound)

    pub has_room : length (untaken side) < side.room → is_channel_full now ≡ false
    has_room room = by_reader before.is_retired refl
      where
        fits : before.is_retired ≡ false → (cap : Option ℕ) → before.capacity ≡ cap
            → fills (length (unread now)) cap ≡ false
        fits there None is = refl
        fits there (Some cap) is =
            let within = of.room there cap is in
            let count = unread_now there in
            let shorter = length_of_prefix claim.items (unread before) (claimed_first there) in
            let a = way.room in
            let b = way.claimed in
            let d = of.count in
            lt-leb cap (length (unread now)) (omega (arith, within, count, shorter, a, b, d, room))

        by_reader : (b : Bool) → before.is_retired ≡ b → is_channel_full now ≡ false
        by_reader true gone =
            ap (λ b. not b && fills (length (unread now)) now.capacity) (way.retired ∙ gone)
        by_reader false there =
            ap (λ b. not b && fills (length (unread now)) now.capacity) (way.retired ∙ there)
            ∙ ap (fills (length (unread now))) way.capacity
            ∙ fits there before.capacity refl

    pub put_more : (v : ℤ) → IsOnTheWay claim (with_item_put v side) before (after_put v false now)
    put_more v =
        record {
          puts = way.puts ++ v ∷ [];
          items = ap (λ xs. xs ++ v ∷ []) way.items ∙ append_assoc claim.items way.puts (v ∷ []);
          claimed = way.claimed;
          room = way.room;
          drained = way.drained;
          taken = let long = length-append side.items (v ∷ []) in let less = way.taken in omega (arith, long, less);
          journal = ap (λ xs. xs ++ v ∷ []) way.journal ∙ append_assoc before.journal way.puts (v ∷ []);
          read = way.read;
          capacity = way.capacity;
          retired = way.retired;
          most = by_reader before.is_retired refl;
          unreserved = λ is. absurd (false≢true is);
        }
      where
        unseen : ℕ
        unseen = length (unread before) - side.claimed

        by_reader : (b : Bool) → before.is_retired ≡ b
            → most_after_put now ≡ most_joined (with_item_put v side) before
        by_reader true gone =
            ap (λ b. cond b now.most (max now.most (length (unread now) + 1))) (way.retired ∙ gone)
            ∙ way.most
            ∙ ap (λ b. cond b before.most (most_with unseen side.most before.most)) gone
            ∙ sym (ap (λ b. cond b before.most (most_with unseen (max side.most (length (untaken side) + 1)) before.most))
            gone)
        by_reader false there =
            ap (λ b. cond b now.most (max now.most (length (unread now) + 1))) (way.retired ∙ there)
            ∙ ap (λ m. max m (length (unread now) + 1))
            (way.most ∙ ap (λ b. cond b before.most (most_with unseen side.most before.most)) there)
            ∙ ap (λ n. max (most_with unseen side.most before.most) (n + 1)) (unread_now there)
            ∙ most_more unseen side.most before.most (length (untaken side))
            ∙ sym (ap (λ b. cond b before.most (most_with unseen (max side.most (length (untaken side) + 1)) before.most))
            there)
