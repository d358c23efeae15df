-- What the words ask for is answered and carried out. Words that are not understood are reported, and nothing else
-- changes.
use Rattle.std.proofs.Common.{◌≡◌, ℕ, List, Option, map, refl, subst}
use Rattle.std.specs.String.{string_bytes}
use Rattle.kpn_text.specs.Document.{Document}
use Rattle.kpn_book.specs.Book.{Book}
use Rattle.kpn_shelf.specs.Shelf.{Loads, Aliases}
use Rattle.kpn_command_line.specs.Asked.{IsAsked, IsRefused}
use Rattle.kpn_command_line.specs.declared.request.WordsFault.{WordsFault}
use Rattle.kpn_command_line.specs.declared.request.WordsFault.TheVariants.{Usage, NoMemory}
use Rattle.kpn_command_stream.specs.Command.{DeviceNames}
use Rattle.kpn_cli.specs.Command.{RunsProgram, answers, streams, tells, unclear, unread, TellsWordsFault}
use Rattle.kpn_cli.proofs.program.command.Goals as goal

refused : {S I F O G E : Type 0} (may_give : S → Loads) (may_alias : S → Aliases) (names : DeviceNames S F G)
    (remaining : I → Option (List ℕ)) (left_in : F → Option (List ℕ)) (contents : O → Option (List ℕ))
    (holds_in : G → Option (List ℕ)) (holds : E → Option (List ℕ))
    (hears : E → Document → Book → E → Type 0) (asked : List (List ℕ)) (shelf : S) (input : I)
    (out : O) (err told : E) (status : ℕ) (fault : WordsFault) → TellsWordsFault holds fault err told status
    → IsRefused asked fault
    → RunsProgram may_give may_alias names remaining left_in contents holds_in holds hears asked
    shelf shelf input input out out err told status
refused may_give may_alias names remaining left_in contents holds_in holds hears asked shelf input out err told status (Usage text) is cause =
    unclear cause refl refl refl is
refused may_give may_alias names remaining left_in contents holds_in holds hears asked shelf input out err told status NoMemory is cause =
    unread refl refl refl is

pub returns-in-Answered : goal.returns-in-Answered
returns-in-Answered g c =
    answers c.in-Ok.request c.in-Ok.ensures c.in-Answered.answer c.in-Answered.ensures c.conclude.ensures

pub returns-in-NeedsWorkers : goal.returns-in-NeedsWorkers
returns-in-NeedsWorkers g c =
    let made = c.run_command_by_workers-answer in
    answers c.in-Ok.request c.in-Ok.ensures made.result
    (rw c.in-NeedsWorkers.ensures.0 (c.in-NeedsWorkers.ensures.2, (made.ensures.ok, made.ensures.refused)))
    c.conclude-in-NeedsWorkers.ensures

pub returns-in-NeedsDevices : goal.returns-in-NeedsDevices
returns-in-NeedsDevices g c =
    streams c.in-NeedsDevices.stream
    (subst (IsAsked (map string_bytes c.args.words.now)) c.in-NeedsDevices.ensures.0 c.in-Ok.ensures)
    (rw (← c.in-NeedsDevices.ensures.1) c.stream_command.ensures)

pub returns-in-NeedsOutput : goal.returns-in-NeedsOutput
returns-in-NeedsOutput g c =
    tells c.in-Ok.request c.in-Ok.ensures refl c.in-NeedsOutput.ensures.1
    (rw c.in-NeedsOutput.ensures.0 c.tell_timeline.ensures)

pub returns-in-Err : goal.returns-in-Err
returns-in-Err g c =
    refused g.S.Shelf.may_give g.S.Shelf.may_alias _ g.I.Read.remaining _ g.O.Write.contents _ g.E.Write.contents
    g.E.Teller.tells _
    c.args.shelf.now
    c.args.input.now c.args.out.now c.args.err.now c.refuse.new.err c.refuse.result c.in-Err.fault c.refuse.ensures
    c.in-Err.ensures
