-- The files so far are stored.
use Rattle.std.proofs.Common.{map, take}
use Rattle.kpn_command_base.specs.Conclusion.{stored_as}
use Rattle.kpn_cli.specs.Concludes.{AreStored}
use Rattle.kpn_cli.proofs.concluding.store_files.Given as goal

abbrev pub invariant-loop-file : goal.invariant-loop-file
invariant-loop-file g l =
    AreStored g.S.Shelf.may_give (map stored_as (take l.file-index l.files)) l.initial.shelf l.shelf
