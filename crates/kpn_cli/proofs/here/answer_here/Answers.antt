-- Each command answers what it is asked for.
use Rattle.std.proofs.Common.{refl, rules}
use Rattle.kpn_cli.proofs.here.answer_here.Goals as goal

pub returns-in-Alone : goal.returns-in-Alone
returns-in-Alone g c =
    let said = c.alone_command.ensures in
    rw c.in-Alone.is (record {
      right = said.ok;
      cause = said.refused;
      unknown = said.unknown;
      unread = said.unread;
      whole = said.whole;
      rest = said.rest;
    })

pub returns-in-Explain : goal.returns-in-Explain
returns-in-Explain g c = rw c.in-Explain.is (refl, c.explain.ensures)

pub returns-in-Help : goal.returns-in-Help
returns-in-Help g c = rw c.in-Help.is (refl, (c.told.ensures.ok, c.told.ensures.refused))

pub returns-in-Check : goal.returns-in-Check
returns-in-Check g c = rw c.in-Check.is (refl, (c.check_command.ensures.ok, c.check_command.ensures.refused))

pub returns-in-ExplainItems : goal.returns-in-ExplainItems
returns-in-ExplainItems g c = rw c.in-ExplainItems.is (refl, (c.explain_items_command.ensures.ok, c.explain_items_command.ensures.refused))

pub returns-in-Print : goal.returns-in-Print
returns-in-Print g c = rw c.in-Print.is (refl, (c.print_command.ensures.ok, c.print_command.ensures.refused))

pub returns-in-Draw : goal.returns-in-Draw
returns-in-Draw g c = rw c.in-Draw.is (refl, (c.draw_command.ensures.ok, c.draw_command.ensures.refused))

pub returns-in-Audit : goal.returns-in-Audit
returns-in-Audit g c = rw c.in-Audit.is (refl, (c.audit_command.ensures.ok, c.audit_command.ensures.refused))

pub returns-in-Timeline : goal.returns-in-Timeline
returns-in-Timeline g c = (c.in-Timeline.is, refl)

pub returns-in-Picture : goal.returns-in-Picture
returns-in-Picture g c = rw c.in-Picture.is (refl, (c.picture_command.ensures.ok, c.picture_command.ensures.refused))

pub returns : goal.returns
returns g c = rw c.in-Stats.is (refl, (c.stats_command.ensures.ok, c.stats_command.ensures.refused))

pub returns-in-Run : goal.returns-in-Run
returns-in-Run g c = rw c.in-Run.is (refl, (c.run_command.ensures.ok, c.run_command.ensures.refused))

pub returns-in-Some : goal.returns-in-Some
returns-in-Some g c = (c.in-Run.is, search rules, refl)

pub returns-in-Stream : goal.returns-in-Stream
returns-in-Stream g c = (c.in-Stream.is, refl)

pub returns-in-Rounds : goal.returns-in-Rounds
returns-in-Rounds g c =
    rw (c.in-Rounds.is, ← c.deref.ensures.value)
    (refl, (c.rounds_command.ensures.ok, c.rounds_command.ensures.refused))

pub returns-in-Join : goal.returns-in-Join
returns-in-Join g c =
    rw (c.in-Join.is, ← c.deref-in-Join.ensures.value)
    (refl, (c.join_command.ensures.ok, c.join_command.ensures.refused))
