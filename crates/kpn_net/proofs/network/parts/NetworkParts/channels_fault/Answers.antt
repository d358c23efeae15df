use Rattle.kpn_net.proofs.Common.{rules, tables_of}
use Rattle.kpn_net.proofs.SideLemmas.{from_sides}
use Rattle.kpn_net.proofs.network.parts.NetworkParts.channels_fault.Goals as goal

pub returns-in-Some : goal.returns-in-Some
returns-in-Some c =
    from_sides (tables_of c.args.self.now) c.args.writers.now c.args.readers.now c.requires.written c.requires.read
    c.requires.writers_len c.requires.readers_len _ (search rules)

pub returns-in-Some-first_several : goal.returns-in-Some-first_several
returns-in-Some-first_several c =
    from_sides (tables_of c.args.self.now) c.args.writers.now c.args.readers.now c.requires.written c.requires.read
    c.requires.writers_len c.requires.readers_len _ (search rules)

pub returns-in-Some-first_nobody : goal.returns-in-Some-first_nobody
returns-in-Some-first_nobody c =
    from_sides (tables_of c.args.self.now) c.args.writers.now c.args.readers.now c.requires.written c.requires.read
    c.requires.writers_len c.requires.readers_len _ (search rules)

pub returns-in-Some-first_several-2 : goal.returns-in-Some-first_several-2
returns-in-Some-first_several-2 c =
    from_sides (tables_of c.args.self.now) c.args.writers.now c.args.readers.now c.requires.written c.requires.read
    c.requires.writers_len c.requires.readers_len _ (search rules)

pub returns-in-Some-wrong_capacity : goal.returns-in-Some-wrong_capacity
returns-in-Some-wrong_capacity c =
    from_sides (tables_of c.args.self.now) c.args.writers.now c.args.readers.now c.requires.written c.requires.read
    c.requires.writers_len c.requires.readers_len _ (search rules)

pub returns : goal.returns
returns c =
    from_sides (tables_of c.args.self.now) c.args.writers.now c.args.readers.now c.requires.written c.requires.read
    c.requires.writers_len c.requires.readers_len _ (search rules)
