use Rattle.std.proofs.Common.{◌≡◌, ◌∷◌, ◌++◌, ◌&&◌, [], ℤ, max, true, false, IsTrue, ltb-true, to_z, of_z, w64, rules, sym, ap, ◌∙◌, subst}
use Rattle.kpn_chan.proofs.Common.{is_none, and_parts, after_put, all_of, has_room, HasNext, IsLaidOut, has_place}
use Rattle.std.proofs.lemmas.Int.{to_z-of_z}
use Rattle.kpn_chan.proofs.Places.{on_ok, seen_so, put_in_ring, put_on_retired, seen_put, seen_put_on_retired}
use Rattle.kpn_chan.proofs.channel.Channel.put.Goals.{in-Some, in_default}
use Rattle.kpn_chan.proofs.channel.Channel.put.Goals as goal

-- an item that a call returns as it was handed in
same_item : (g : _) (c : goal.After-push_reserved g) → to_z w64 (of_z w64 c.args.item) ≡ c.args.item
same_item g c = to_z-of_z w64 c.args.item (search rules)

-- what the journal's push has done to that of the channel as it was
record IsPushed (g : _) (c : goal.After-push_reserved g) : Type 0 where
  items : all_of c.push_reserved.new.self ≡ all_of c.self.inside.journal ++ to_z w64 (of_z w64 c.args.item) ∷ []
  keeps : c.push_reserved.new.self.keeps ≡ c.self.inside.journal.keeps
  next : HasNext c.self.inside.journal → HasNext c.push_reserved.new.self

pushed_on : (g : _) (c : goal.After-push_reserved g) → c.match-self.self-inside.journal ≡ c.self.inside.journal
    → IsPushed g c
pushed_on g c same =
    let pushed = c.push_reserved in
    record {
      items =
          subst (λ j. all_of pushed.new.self ≡ all_of j ++ to_z w64 (of_z w64 c.args.item) ∷ []) same
          pushed.ensures.items;
      keeps = subst (λ j. pushed.new.self.keeps ≡ j.keeps) same pushed.ensures.keeps;
      next = subst (λ j. HasNext j → HasNext pushed.new.self) same pushed.ensures.next;
    }

-- a ring has a place, since an item is reserved
place : (g : _) (c : goal.After-push_reserved g) → has_place c.self.inside.ring ≡ true
place g c =
    (and_parts (has_room c.self.inside.journal) (has_place c.self.inside.ring)
    (subst (λ s. IsTrue s.is_reserved) (sym c.self.view_is) c.requires)).1

pub invariant_of-self : goal.invariant_of-self
invariant_of-self g c =
    let inside = c.self.inside in
    let pushed = c.push_reserved in
    elim c.match-self.branch [
      | in-Some w ↦
          let same = w.self-inside-is in
          let on = pushed_on g c (ap (λ x. x.journal) same) in
          let laid =
          subst (λ r. IsLaidOut inside.journal inside.read r inside.capacity inside.most inside.roomy inside.wide) w.in-Some.is
          c.self.invariant in
          let made =
          on_ok w.try_push_back-is_put.result
          (w.try_push_back-is_put.ensures.variant.1
          (ltb-true _ _ (subst (λ r. has_place r ≡ true) w.in-Some.is (place g c))))
          w.try_push_back-is_put.ensures.ok in
          subst (λ x. IsLaidOut pushed.new.self x.read x.ring x.capacity x.most x.roomy x.wide) (sym same)
          (put_in_ring inside.journal pushed.new.self inside.read inside.capacity inside.most inside.roomy inside.wide
          (to_z w64 (of_z w64 c.args.item)) pushed.ensures.chunks on.items on.keeps on.next w.in-Some.ring
          w.try_push_back-is_put.new.self w.max-self-inside.result laid made
          (w.max-self-inside.ensures ∙ ap (max inside.most) w.len.ensures.len))
      | in_default w ↦
          let same = w.self-inside-is in
          let on = pushed_on g c (ap (λ x. x.journal) same) in
          let laid =
          subst (λ r. IsLaidOut inside.journal inside.read r inside.capacity inside.most inside.roomy inside.wide) w.in_default.is
          c.self.invariant in
          subst (λ x. IsLaidOut pushed.new.self x.read x.ring x.capacity x.most x.roomy x.wide) (sym same)
          (subst (λ r. IsLaidOut pushed.new.self inside.read r inside.capacity inside.most inside.roomy inside.wide)
          (sym w.in_default.is)
          (put_on_retired inside.journal pushed.new.self inside.read inside.capacity inside.most inside.roomy inside.wide
          (to_z w64 (of_z w64 c.args.item)) pushed.ensures.chunks on.items on.keeps on.next laid))
    ]

pub returns : goal.returns
returns g c =
    let inside = c.self.inside in
    let pushed = c.push_reserved in
    let item : ℤ = to_z w64 (of_z w64 c.args.item) in
    let reserved = has_room pushed.new.self && has_place c.match-self.self-inside.ring in
    let here = c.match-self.self-inside in
    let was = has_room inside.journal && has_place inside.ring in
    let seen : seen_so (all_of pushed.new.self) here.read here.capacity (is_none here.ring) reserved
    pushed.new.self.keeps here.most here.roomy here.wide
    ≡ after_put item reserved (seen_so (all_of inside.journal) inside.read inside.capacity (is_none inside.ring) was
    inside.journal.keeps inside.most inside.roomy inside.wide) =
    elim c.match-self.branch [
      | in-Some w ↦
          let same = w.self-inside-is in
          let on = pushed_on g c (ap (λ x. x.journal) same) in
          let laid =
          subst (λ r. IsLaidOut inside.journal inside.read r inside.capacity inside.most inside.roomy inside.wide) w.in-Some.is
          c.self.invariant in
          let made =
          on_ok w.try_push_back-is_put.result
          (w.try_push_back-is_put.ensures.variant.1
          (ltb-true _ _ (subst (λ r. has_place r ≡ true) w.in-Some.is (place g c))))
          w.try_push_back-is_put.ensures.ok in
          subst
          (λ x. seen_so (all_of pushed.new.self) x.read x.capacity (is_none x.ring) reserved pushed.new.self.keeps
          x.most x.roomy x.wide
          ≡ after_put item reserved (seen_so (all_of inside.journal) inside.read inside.capacity (is_none inside.ring)
          was inside.journal.keeps inside.most inside.roomy inside.wide)) (sym same)
          (subst
          (λ r. seen_so (all_of pushed.new.self) inside.read inside.capacity false reserved pushed.new.self.keeps
          w.max-self-inside.result inside.roomy inside.wide
          ≡ after_put item reserved (seen_so (all_of inside.journal) inside.read inside.capacity (is_none r)
          was inside.journal.keeps inside.most inside.roomy inside.wide)) (sym w.in-Some.is)
          (seen_put (all_of inside.journal) (all_of pushed.new.self) inside.read inside.capacity inside.journal.keeps
          pushed.new.self.keeps inside.most inside.roomy inside.wide on.keeps item on.items was reserved w.in-Some.ring
          w.try_push_back-is_put.new.self w.max-self-inside.result laid.unread made
          (w.max-self-inside.ensures ∙ ap (max inside.most) w.len.ensures.len)))
      | in_default w ↦
          let same = w.self-inside-is in
          let on = pushed_on g c (ap (λ x. x.journal) same) in
          subst
          (λ x. seen_so (all_of pushed.new.self) x.read x.capacity (is_none x.ring) reserved pushed.new.self.keeps
          x.most x.roomy x.wide
          ≡ after_put item reserved (seen_so (all_of inside.journal) inside.read inside.capacity (is_none inside.ring)
          was inside.journal.keeps inside.most inside.roomy inside.wide)) (sym same)
          (subst
          (λ r. seen_so (all_of pushed.new.self) inside.read inside.capacity (is_none r) reserved
          pushed.new.self.keeps inside.most inside.roomy inside.wide
          ≡ after_put item reserved (seen_so (all_of inside.journal) inside.read inside.capacity (is_none r)
          was inside.journal.keeps inside.most inside.roomy inside.wide)) (sym w.in_default.is)
          (seen_put_on_retired (all_of inside.journal) (all_of pushed.new.self) inside.read inside.capacity
          inside.journal.keeps pushed.new.self.keeps inside.most inside.roomy inside.wide on.keeps item on.items was reserved))
    ] in
    seen ∙ ap (λ s. after_put item reserved s) c.self.view_is
    ∙ ap (λ i. after_put i reserved c.args.self.now) (same_item g c)
