use Rattle.std.proofs.Common.{◌≡◌, ◌&&◌, true, false, IsTrue, rules, sym, ap, ◌∙◌, subst}
use Rattle.kpn_chan.proofs.Common.{MayJoin, batch_joined, has_place, all_of, has_room}
use Rattle.kpn_chan.proofs.Places.{may_pass, may_append, joined_laid_out, read_then, seen_joined}
use Rattle.kpn_chan.proofs.channel.Channel.join.Goals.{then-self, else-self}
use Rattle.kpn_chan.proofs.channel.Channel.join.Goals as goal

pub pass_through-requires : goal.pass_through-requires
pass_through-requires g c =
    let inside = c.self.inside in
    may_pass inside.journal inside.read inside.capacity inside.most inside.roomy inside.wide c.args.taken c.args.items.now
    c.args.most _ inside.ring c.self.invariant
    (subst (λ s. MayJoin c.args.taken c.args.items.now c.args.most s) (sym c.self.view_is) c.requires)

pub overflow_add-self : goal.overflow_add-self
overflow_add-self g c =
    let inside = c.self.inside in
    let fits = read_then inside.journal inside.read inside.capacity inside.most inside.roomy inside.wide c.args.taken c.args.items.now
    c.args.most _ inside.ring c.self.invariant
    (subst (λ s. MayJoin c.args.taken c.args.items.now c.args.most s) (sym c.self.view_is) c.requires) in
    search rules

pub append-is_ready-requires-clause-places : goal.append-is_ready-requires-clause-places
append-is_ready-requires-clause-places g c some =
    let inside = c.self.inside in
    may_append inside.journal inside.read inside.capacity inside.most inside.roomy inside.wide c.args.taken c.args.items.now
    c.args.most _ inside.ring c.self.invariant
    (subst (λ s. MayJoin c.args.taken c.args.items.now c.args.most s) (sym c.self.view_is) c.requires) some

-- whether the channel is roomy then
roomy_then : (g : _) (c : goal.After-self-2-1 g) → c.if-self.self ≡ (c.self.inside.roomy && c.append-is_ready.result)
roomy_then g c =
    elim c.if-self.branch [
      | then-self w ↦
          let yes : c.self.inside.roomy ≡ true = search rules in
          w.self-is ∙ sym (ap (λ b. b && c.append-is_ready.result) yes)
      | else-self w ↦
          let no : c.self.inside.roomy ≡ false = search rules in
          w.self-is ∙ (no ∙ sym (ap (λ b. b && c.append-is_ready.result) no))
    ]

pub invariant_of-self : goal.invariant_of-self
invariant_of-self g c =
    let inside = c.self.inside in
    let appended = c.append-is_ready in
    let laid =
    joined_laid_out inside.journal inside.read inside.capacity inside.most inside.roomy inside.wide c.args.taken c.args.items.now
    c.args.most _ appended.new.self appended.ensures.chunks appended.ensures.items appended.ensures.keeps
    appended.result appended.ensures.next inside.ring c.self.invariant
    (subst (λ s. MayJoin c.args.taken c.args.items.now c.args.most s) (sym c.self.view_is) c.requires) in
    rw (c.pass_through.ensures.ring, c.pass_through.ensures.most, roomy_then g c) laid

pub returns-clause-after : goal.returns-clause-after
returns-clause-after g c =
    let inside = c.self.inside in
    let appended = c.append-is_ready in
    seen_joined (all_of inside.journal) (all_of appended.new.self) inside.read inside.capacity inside.journal.keeps
    appended.new.self.keeps inside.most inside.roomy inside.wide appended.ensures.keeps c.args.taken c.args.items.now c.args.most
    appended.ensures.items (has_room inside.journal && has_place inside.ring) _ c.if-self.self inside.ring
    c.pass_through.new.ring c.pass_through.new.most c.pass_through.ensures.ring c.pass_through.ensures.most
    ∙ ap (λ s. batch_joined c.args.taken c.args.items.now c.args.most
    (has_room appended.new.self && has_place c.pass_through.new.ring) c.if-self.self s) c.self.view_is

pub returns-clause-roomy : goal.returns-clause-roomy
returns-clause-roomy g c none roomy =
    let was : IsTrue c.self.inside.roomy = subst (λ s. IsTrue s.is_roomy) (sym c.self.view_is) roomy in
    roomy_then g c ∙ ap (λ b. b && c.append-is_ready.result) was ∙ c.append-is_ready.ensures.ready none
