use Rattle.std.proofs.Common.{◌≡◌, ◌≤◌, take, drop, length}
use Rattle.kpn_c.proofs.Common.{channel_in, next_items}
use Rattle.kpn_c.proofs.looking.look.Given as goal

abbrev pub invariant-places : goal.invariant-places
invariant-places l = record {
  shown : take l.count l.room ≡ take l.count (next_items (channel_in l.book.machine l.channel));
  rest : drop l.count l.room ≡ drop l.count l.initial.room;
  long : length l.room ≡ length l.initial.room;
  within : l.count ≤ length (next_items (channel_in l.book.machine l.channel));
}
