-- A request is what the words ask for, by what `clap` makes of them; help is given only if it was asked for.
use Rattle.std.proofs.Common.{map}
use Rattle.std.specs.String.{string_bytes}
use Rattle.clap.specs.Values.{kind_of}
use Rattle.kpn_command_line.proofs.Helping.{all_is_asked, known_kinds, known_matches}
use Rattle.kpn_command_line.proofs.words.read_words.Goals as goal

pub returns-in-Ok : goal.returns-in-Ok
returns-in-Ok c =
    let words = map string_bytes c.args.words.now in
    let known = known_matches c.in_ok-program.program words c.in-Ok.matches c.in_ok-program.ensures
    c.in-Ok.ensures.kinds c.in-Ok.ensures.ok.2 in
    c.request_of.ensures words known.0 known.1

pub returns : goal.returns
returns c =
    let words = map string_bytes c.args.words.now in
    all_is_asked words (kind_of c.in-Err.error) c.not_matched.result
    (known_kinds c.in_ok-program.program words c.in-Err.error c.in_ok-program.ensures c.in-Err.ensures.kinds)
    c.not_matched.ensures
