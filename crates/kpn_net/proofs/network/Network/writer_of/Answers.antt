-- There is an end for each channel.
use Rattle.kpn_net.proofs.Common.{◌∙◌, arith, writer_of, tables_of}
use Rattle.kpn_net.proofs.SideLemmas.{end_is_there, end_is}
use Rattle.kpn_net.proofs.network.Network.writer_of.Goals as goal

pub index-requires : goal.index-requires
index-requires c =
    let ends = c.self.inside.writers in
    omega (
      arith,
      ends.ok.0,
      end_is_there (tables_of c.self.inside.parts) c.args.self.now c.self.view_is writer_of ends.items
          c.self.invariant.writers c.args.c c.requires,
    )

pub returns : goal.returns
returns c =
    c.index.ensures
    ∙ end_is (tables_of c.self.inside.parts) c.args.self.now c.self.view_is writer_of c.self.inside.writers.items
    c.self.invariant.writers c.args.c _ c.requires
