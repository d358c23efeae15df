use Rattle.kpn_stream.proofs.Common.{refl, inl, source_there, not_yet, not_read, is_read}
use Rattle.kpn_stream.proofs.looking.read_at_hand.Goals as goal

pub returns-then-not-is_due : goal.returns-then-not-is_due
returns-then-not-is_due g c = not_read refl refl not_yet

pub returns-then-not-has_come : goal.returns-then-not-has_come
returns-then-not-has_come g c = not_read refl refl c.has_come.ensures.looked

pub returns : goal.returns
returns g c =
    is_read c.has_come.new.sources c.has_come.ensures.looked (c.has_come.ensures.at_hand c.if-not-has_come.false)
    c.read.ensures.reads

pub is_due-requires : goal.is_due-requires
is_due-requires g c = source_there c.args.book.now.tables c.args.c c.requires.source

pub read-requires : goal.read-requires
read-requires g c = record {
  may_feed = record { source = c.requires.source; not_closed = c.is_due.ensures.open c.if-not-is_due.false };
  needed = inl (c.is_due.ensures.awaited c.if-not-is_due.false refl);
  taken = c.requires.taken;
}
