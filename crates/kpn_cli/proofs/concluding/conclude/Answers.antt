-- The files are stored and the text goes out; or it can't be written; or a file is not stored.
use Rattle.std.proofs.Common.{List, map, refl, subst, ap}
use Rattle.std.specs.Io.KnownBytes.{Appends}
use Rattle.kpn_command_base.specs.Conclusion.{StoredFile, stored_as}
use Rattle.kpn_cli.specs.Concludes.{AreStored, IsCutShort, whole, unwritten, cut_short}
use Rattle.kpn_cli.proofs.concluding.conclude.Goals as goal

pub returns-in-Ok-write_whole : goal.returns-in-Ok-write_whole
returns-in-Ok-write_whole g c =
    rw c.in-Ok.is
    (whole
    (subst (λ (files : List StoredFile). AreStored g.S.Shelf.may_give files c.args.shelf.now c.store_files.new.shelf)
    (ap (map stored_as) c.deref.ensures.value) c.in-Ok-store_files.ensures.stored)
    (subst (Appends (g.O.Write.contents c.args.out.now) (g.O.Write.contents c.write_whole.new.out))
    c.deref-in-Ok-store_files.ensures.value c.in-Ok-write_whole.ensures) refl refl)

pub returns-in-Ok-store_files : goal.returns-in-Ok-store_files
returns-in-Ok-store_files g c =
    rw c.in-Ok.is
    (unwritten
    (subst (λ (files : List StoredFile). AreStored g.S.Shelf.may_give files c.args.shelf.now c.store_files.new.shelf)
    (ap (map stored_as) c.deref.ensures.value) c.in-Ok-store_files.ensures.stored)
    (c.report-in-Err-write_whole.ensures.told, c.report-in-Err-write_whole.ensures.status))

pub returns : goal.returns
returns g c =
    rw c.in-Ok.is
    (cut_short c.in-Err-store_files.fault
    (subst (λ (files : List StoredFile). IsCutShort g.S.Shelf.may_give files c.args.shelf.now c.store_files.new.shelf)
    (ap (map stored_as) c.deref.ensures.value) c.in-Err-store_files.ensures.cut_short) refl
    (c.report-in-Err-store_files.ensures.told, c.report-in-Err-store_files.ensures.status))
