-- The audits show the journals of the whole.
use Rattle.kpn_commands.proofs.Common.{◌≡◌, ◌↔◌, ◌∙◌, ◌<◌, ℕ, true, length, map, refl, sym, ap, subst, IsNetwork, part_at, AreIn, audited_journal, audited_capacity, is_part_at_rest}
use Rattle.kpn_commands.proofs.Joins.{are_in, capacities_are, journals_are, rest_if, if_rest, text_is}
use Rattle.kpn_commands.proofs.join.report.Goals as goal

pub whole_audit-requires : goal.whole_audit-requires
whole_audit-requires c =
    subst (λ audits. AreIn audits c.args.homes.now) (sym c.deref-2.ensures.value)
    (are_in c.args.whole.now (subst IsNetwork c.network-network.ensures c.known.ensures) c.args.parts.now c.requires.cut
    c.args.homes.now c.requires.homes c.args.loaded.now c.requires.audited c.requires.tables)

pub returns : goal.returns
returns c = λ order whole joined.
    let d = c.args.whole.now in
    let network = subst IsNetwork c.network-network.ensures c.known.ensures in
    let cut = c.args.parts.now in
    let homes = c.args.homes.now in
    let loaded = c.args.loaded.now in
    let exact = c.is_at_rest-exact.result in
    let rest : (exact ≡ true)
    ↔ ((r : ℕ) → r < length loaded.audits.items → is_part_at_rest (part_at cut r) homes loaded.audits.items r ≡ true) =
    subst
    (λ audits. (exact ≡ true) ↔ ((r : ℕ) → r < length audits → is_part_at_rest (part_at cut r) homes audits r ≡ true))
    c.deref.ensures.value c.is_at_rest-exact.ensures in (
      (
        record {
          order = order;
          whole = whole;
          joined = joined;
          homes = homes;
          are_homes = c.requires.homes;
          exact = exact;
          at_rest = (
            λ yes.
                rest_if d network cut c.requires.cut homes c.requires.homes loaded c.requires.audited c.requires.tables
                order whole joined (rest.0 yes),
            λ is.
                rest.1
                (if_rest d network cut c.requires.cut homes c.requires.homes loaded c.requires.audited c.requires.tables
                order whole joined is),
          );
          is =
              c.in_ok-text_of_audit.ensures
              ∙ text_is d.names.channels c.in_ok-audit.audit.exact exact c.in_ok-audit.audit.caps _
              c.in_ok-audit.audit.journals _ c.in_ok-audit.ensures.exact
              (c.in_ok-audit.ensures.caps ∙ ap (λ audits. map (audited_capacity audits) homes) c.deref-2.ensures.value
              ∙ capacities_are d network cut c.requires.cut homes c.requires.homes loaded c.requires.audited
              c.requires.tables)
              (c.in_ok-audit.ensures.journals ∙ ap (λ audits. map (audited_journal audits) homes) c.deref-2.ensures.value
              ∙ journals_are d network cut c.requires.cut homes c.requires.homes loaded c.requires.audited
              c.requires.tables order whole joined);
        },
        refl,
      ),
      c.new.ensures.items,
    )
