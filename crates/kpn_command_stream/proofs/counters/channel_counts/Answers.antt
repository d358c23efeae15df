-- What the book says of the channel.
use Rattle.kpn_command_stream.proofs.Counted.{put_is, unread_is}
use Rattle.kpn_command_stream.proofs.counters.channel_counts.Goals as goal

pub returns : goal.returns
returns c = record {
  put =
      put_is c.args.book.now c.known.ensures c.args.c c.requires c.read_count-read.result c.unread_count-unread.result
      c.read_count-read.ensures c.unread_count-unread.ensures;
  read = c.read_count-read.ensures;
  unread =
      unread_is c.args.book.now c.known.ensures c.args.c c.requires c.unread_count-unread.result
      c.unread_count-unread.ensures;
  most = c.most_unread.ensures;
}
