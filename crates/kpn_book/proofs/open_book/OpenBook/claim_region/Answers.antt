use Rattle.kpn_book.proofs.Common.{◌≡◌, ◌+◌, ◌<◌, ◌^◌, true, length, sym, ◌∙◌, subst, arith, rules, IsNetwork, is_in_region, IsKept, book_of, batch_held, ClaimsRegion, HasProcesses}
use Rattle.kpn_book.proofs.Following.{moved}
use Rattle.kpn_book.proofs.Regions.{kept_region_held}
use Rattle.kpn_book.proofs.Claiming.{kept_with_room, region_claimed}
use Rattle.kpn_book.proofs.open_book.OpenBook.claim_region.Goals as goal

pub may_claim-requires : goal.may_claim-requires
may_claim-requires g c = λ p among.
    subst (λ n. p < n) (sym c.requires.kept.in_step.processes) (c.requires.processes p among)

pub claim_processes-requires-clause-processes : goal.claim_processes-requires-clause-processes
claim_processes-requires-clause-processes g c = λ p among.
    subst (λ t. p < length t.instances) (sym (c.clear.ensures.tables ∙ c.requires.tables))
    (c.requires.processes p among)

pub hold_waits-requires-clause-network : goal.hold_waits-requires-clause-network
hold_waits-requires-clause-network g c =
    subst IsNetwork
    (sym
    (c.in_ok-claim_channels.ensures.tables ∙ c.claim_processes.ensures.tables ∙ c.clear.ensures.tables
    ∙ c.requires.tables))
    c.known.ensures

pub hold_waits-requires-clause-processes : goal.hold_waits-requires-clause-processes
hold_waits-requires-clause-processes g c = λ p among.
    subst (λ t. p < length t.instances)
    (sym
    (c.in_ok-claim_channels.ensures.tables ∙ c.claim_processes.ensures.tables ∙ c.clear.ensures.tables
    ∙ c.requires.tables))
    (c.requires.processes p among)

pub returns-in_err-claim_channels-clause-kept : goal.returns-in_err-claim_channels-clause-kept
returns-in_err-claim_channels-clause-kept g c =
    kept_with_room (book_of c.args.self.now) c.claim_channels.new.machine c.requires.kept
    c.in_err-claim_channels.ensures.room

pub returns-clause-claimed : goal.returns-clause-claimed
returns-clause-claimed g c = λ yes.
    let b = book_of c.args.self.now in
    let s = c.claim_channels.new.machine in
    let counted : c.can_count.result ≡ true = search rules in
    let may : c.may_claim.result ≡ true = search rules in
    subst
    (λ order. ClaimsRegion c.args.of.now c.args.most c.args.drains c.hold_waits.new.batch b
    (moved b s order))
    (sym c.hold_region.ensures)
    (subst
    (λ x. ClaimsRegion c.args.of.now c.args.most c.args.drains x b
    (batch_held x (record b { machine = s })))
    (sym c.hold_waits.ensures)
    (region_claimed c.args.of.now c.args.most c.args.drains b s c.claim_processes.new.batch c.claim_channels.new.batch
    c.known.ensures c.requires.kept
    (subst (λ t. HasProcesses c.args.of.now t b.machine c.claim_processes.new.batch)
    (c.clear.ensures.tables ∙ c.requires.tables) c.claim_processes.ensures)
    c.in_ok-claim_channels.ensures.room c.in_ok-claim_channels.ensures.sees c.in_ok-claim_channels.ensures.places
    (sym c.may_claim.ensures ∙ may) (c.can_count.ensures.0 counted)))

pub returns-clause-kept : goal.returns-clause-kept
returns-clause-kept g c =
    let b = book_of c.args.self.now in
    let s = c.claim_channels.new.machine in
    let counted : c.can_count.result ≡ true = search rules in
    let countable = c.can_count.ensures.0 counted in
    let few : b.commits + length b.tables.instances < 2 ^ 64 = omega (arith, countable) in
    subst (λ order. IsKept (moved b s order)) (sym c.hold_region.ensures)
    (kept_region_held (is_in_region c.hold_waits.new.batch.now) (record b { machine = s })
    (kept_with_room b s c.requires.kept c.in_ok-claim_channels.ensures.room) c.known-2.ensures.schedule few)
