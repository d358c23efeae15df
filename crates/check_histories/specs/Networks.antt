-- Worked networks. The text of each process is above its tables.
use Rattle.std.specs.Prelude.{ℕ, pos, List, [], ◌∷◌}
use Rattle.kpn_limits.specs.declared.TheConstants.{MAX_CAPACITY}
use Rattle.kpn_lang.specs.declared.syntax.Op.TheVariants.{Add, Mul, Div}
use Rattle.kpn_lang.specs.Syntax.{Statement, Term, Num, Var, Bin, Read, Write, While}
use Rattle.kpn_lang.specs.Parts.{Parts}
use Rattle.kpn_net.specs.declared.tables.ChannelSpec.{ChannelSpec}
use Rattle.kpn_net.specs.declared.tables.ChannelSpec.TheVariants.{Inner, Source, Sink}
use Rattle.kpn_net.specs.declared.tables.Growth.{Growth}
use Rattle.kpn_net.specs.declared.tables.Growth.TheVariants.{One, Double}
use Rattle.kpn_net.specs.declared.tables.Policy.{Policy}
use Rattle.kpn_net.specs.declared.tables.Policy.TheVariants.{Cycles, All}
use Rattle.kpn_net.specs.declared.tables.Instance.{Instance}
use Rattle.kpn_net.specs.Tables.{Tables}
use Rattle.kpn_net.specs.View.{tables_with}

-- a program without parameters: its in ports, out ports, variables, and blocks
abbrev program : (ins outs vars : ℕ) → List (List Statement) → Parts
program ins outs vars blocks =
    record { ins = ins; outs = outs; pars = 0; vars = vars; free = 0; tables = []; blocks = blocks }

-- a process without parameters
abbrev instance : (program : ℕ) → (ins outs : List ℕ) → Instance
instance program ins outs = record { program = program; ins = ins; outs = outs; pars = [] }

-- tables with the greatest limit; channels of blocked cycles grow, by one
abbrev tables : List Parts → List Instance → List ChannelSpec → Tables
tables programs instances channels = tables_with programs instances channels MAX_CAPACITY Cycles One

-- ---- a copy from a source to a sink

-- `while 1 { read i x; write o x; }`
unfoldable pub copy_network : Tables
copy_network = tables (
    program 1 1 1 ((While (Num (pos 1)) 1 ∷ []) ∷ (Read 0 0 ∷ Write 0 (Var 0) ∷ []) ∷ []) ∷ []) (
    instance 0 (0 ∷ []) (1 ∷ []) ∷ []) (
    Source ∷ Sink 1 ∷ [])

-- ---- Kahn's example (Kahn 1974), but f has a second output for a sink: channels X, Y, Z, T1, T2 and the sink

-- `while 1 { read a x; write c x; write d x; read b x; write c x; write d x; }`
abbrev f_parts : Parts
f_parts = program 2 2 1 (
    (While (Num (pos 1)) 1 ∷ []) ∷
    (Read 0 0 ∷ Write 0 (Var 0) ∷ Write 1 (Var 0) ∷ Read 1 0 ∷ Write 0 (Var 0) ∷ Write 1 (Var 0) ∷ []) ∷ [])

-- `while 1 { read a x; write b x; read a x; write c x; }`
abbrev g_parts : Parts
g_parts = program 1 2 1 (
    (While (Num (pos 1)) 1 ∷ []) ∷
    (Read 0 0 ∷ Write 0 (Var 0) ∷ Read 0 0 ∷ Write 1 (Var 0) ∷ []) ∷ [])

-- `write b k; while 1 { read a x; write b x; }` with the parameter k
abbrev h_parts : Parts
h_parts = record {
  ins = 1;
  outs = 1;
  pars = 1;
  vars = 2;
  free = 0;
  tables = [];
  blocks = (Write 0 (Var 0) ∷ While (Num (pos 1)) 1 ∷ []) ∷ (Read 0 1 ∷ Write 0 (Var 1) ∷ []) ∷ [];
}

abbrev h_with : (par : ℕ) → (from onto : ℕ) → Instance
h_with par from onto = record { program = 2; ins = from ∷ []; outs = onto ∷ []; pars = pos par ∷ [] }

unfoldable pub kahn_network : Tables
kahn_network = tables (f_parts ∷ g_parts ∷ h_parts ∷ []) (
    instance 0 (1 ∷ 2 ∷ []) (0 ∷ 5 ∷ []) ∷ instance 1 (0 ∷ []) (3 ∷ 4 ∷ []) ∷ h_with 0 3 1 ∷ h_with 1 4 2 ∷ []) (
    Inner 1 ∷ Inner 1 ∷ Inner 1 ∷ Inner 1 ∷ Inner 1 ∷ Sink 1 ∷ [])

-- ---- two channels, a and b, from one process to another, which reads them in the other order

-- `write a 1; write a 2; write b 3;`
abbrev writes_a_first : Parts
writes_a_first = program 0 2 0 ((Write 0 (Num (pos 1)) ∷ Write 0 (Num (pos 2)) ∷ Write 1 (Num (pos 3)) ∷ []) ∷ [])

-- `((100 * x) + ((10 * y) + w))`
abbrev digits : Term
digits = Bin Add (Bin Mul (Num (pos 100)) (Var 0)) (Bin Add (Bin Mul (Num (pos 10)) (Var 1)) (Var 2))

-- `read b x; read a y; read a w; write z ((100 * x) + ((10 * y) + w));`
abbrev reads_b_first : Parts
reads_b_first = program 2 1 3 ((Read 1 0 ∷ Read 0 1 ∷ Read 0 2 ∷ Write 0 digits ∷ []) ∷ [])

abbrev two_with : (limit : ℕ) → Tables
two_with limit = record {
  limit = limit;
  policy = Cycles;
  growth = One;
  programs = writes_a_first ∷ reads_b_first ∷ [];
  instances = instance 0 [] (0 ∷ 1 ∷ []) ∷ instance 1 (0 ∷ 1 ∷ []) (2 ∷ []) ∷ [];
  channels = Inner 1 ∷ Inner 1 ∷ Sink 1 ∷ [];
}

unfoldable pub two_network : Tables
two_network = two_with MAX_CAPACITY

-- the same, but no channel may grow
unfoldable pub two_at_limit : Tables
two_at_limit = two_with 1

-- ---- two processes that write to each other before they read: p on channel a, q on channel b

-- `write o 1; write o 2; write o 3; read i x; read i y;`
abbrev writes_three : Parts
writes_three = program 1 1 2 (
    (Write 0 (Num (pos 1)) ∷ Write 0 (Num (pos 2)) ∷ Write 0 (Num (pos 3)) ∷ Read 0 0 ∷ Read 0 1 ∷ []) ∷ [])

-- `write o 1; write o 2; read i x; read i y; read i w;`
abbrev reads_three : Parts
reads_three = program 1 1 3 (
    (Write 0 (Num (pos 1)) ∷ Write 0 (Num (pos 2)) ∷ Read 0 0 ∷ Read 0 1 ∷ Read 0 2 ∷ []) ∷ [])

-- p and q with these programs, a and b with these capacities
abbrev crossing : List Parts → (capacity_of_a capacity_of_b : ℕ) → Tables
crossing programs capacity_of_a capacity_of_b = tables programs (
    instance 0 (1 ∷ []) (0 ∷ []) ∷ instance 1 (0 ∷ []) (1 ∷ []) ∷ []) (
    Inner capacity_of_a ∷ Inner capacity_of_b ∷ [])

-- the capacity of a is the larger
unfoldable pub larger_network : Tables
larger_network = crossing (writes_three ∷ reads_three ∷ []) 2 1

-- `write o 1; write o 2; read i x; read i y;`
abbrev writes_two : Parts
writes_two = program 1 1 2 ((Write 0 (Num (pos 1)) ∷ Write 0 (Num (pos 2)) ∷ Read 0 0 ∷ Read 0 1 ∷ []) ∷ [])

-- the capacities are the same
unfoldable pub tie_network : Tables
tie_network = crossing (writes_two ∷ writes_two ∷ []) 1 1

-- ---- a channel that joins a process to itself

-- `write o 1; write o 2; read i x; read i y; write z (x + y);`
abbrev feeds_itself : Parts
feeds_itself = program 1 2 2 (
    (Write 0 (Num (pos 1)) ∷ Write 0 (Num (pos 2)) ∷ Read 0 0 ∷ Read 0 1 ∷ Write 1 (Bin Add (Var 0) (Var 1)) ∷ [])
    ∷ [])

unfoldable pub self_loop_network : Tables
self_loop_network = tables (feeds_itself ∷ []) (instance 0 (0 ∷ []) (0 ∷ 1 ∷ []) ∷ []) (Inner 1 ∷ Sink 1 ∷ [])

-- `write o 1; write o 2; write o 3; write o 4; read i x; read i y; read i v; read i w;`
abbrev writes_four : Parts
writes_four = program 1 1 4 (
    (Write 0 (Num (pos 1)) ∷ Write 0 (Num (pos 2)) ∷ Write 0 (Num (pos 3)) ∷ Write 0 (Num (pos 4)) ∷ Read 0 0
    ∷ Read 0 1 ∷ Read 0 2 ∷ Read 0 3 ∷ []) ∷ [])

abbrev four_with : (capacity limit : ℕ) → Growth → Tables
four_with capacity limit growth =
    tables_with (writes_four ∷ []) (instance 0 (0 ∷ []) (0 ∷ []) ∷ []) (Inner capacity ∷ []) limit Cycles growth

unfoldable pub doubling_network : Tables
doubling_network = four_with 1 MAX_CAPACITY Double

-- the same, but a channel grows by one
unfoldable pub one_more_network : Tables
one_more_network = four_with 1 MAX_CAPACITY One

-- a channel of capacity 2 that may not become 4
unfoldable pub doubling_to_limit_network : Tables
doubling_to_limit_network = four_with 2 3 Double

-- ---- two processes, each of which reads what the other is to write

-- `read i x; write o x;`
unfoldable pub two_readers_network : Tables
two_readers_network = tables (program 1 1 1 ((Read 0 0 ∷ Write 0 (Var 0) ∷ []) ∷ []) ∷ []) (
    instance 0 (0 ∷ []) (1 ∷ []) ∷ instance 0 (1 ∷ []) (0 ∷ []) ∷ []) (
    Inner 1 ∷ Inner 1 ∷ [])

-- ---- a reader that ends at once, and a writer that writes on

-- `write o 1; write o 2; write o 3; write o 4; write o 5;`
abbrev writes_five : Parts
writes_five = program 0 1 0 (
    (Write 0 (Num (pos 1)) ∷ Write 0 (Num (pos 2)) ∷ Write 0 (Num (pos 3)) ∷ Write 0 (Num (pos 4))
    ∷ Write 0 (Num (pos 5)) ∷ []) ∷ [])

-- the reader has no statement, the writer is process 0
unfoldable pub ended_reader_network : Tables
ended_reader_network = tables (program 1 0 0 ([] ∷ []) ∷ writes_five ∷ []) (
    instance 1 [] (0 ∷ []) ∷ instance 0 (0 ∷ []) [] ∷ []) (
    Inner 1 ∷ [])

-- ---- a writer that waits for a process that waits in a cycle without a full channel

-- `write o 1; write o 2; write o 3;`
abbrev only_writes_three : Parts
only_writes_three = program 0 1 0 ((Write 0 (Num (pos 1)) ∷ Write 0 (Num (pos 2)) ∷ Write 0 (Num (pos 3)) ∷ []) ∷ [])

-- `read b x;` of a and b
abbrev reads_second : Parts
reads_second = program 2 1 1 ((Read 1 0 ∷ []) ∷ [])

-- this writer on a channel to `read b x;`, which waits for `read i x;`, and that for it
abbrev clogged_with : (writer : Parts) → (limit : ℕ) → Policy → Growth → Tables
clogged_with writer limit policy growth = tables_with (
    writer ∷ reads_second ∷ program 1 1 1 ((Read 0 0 ∷ []) ∷ []) ∷ []) (
    instance 0 [] (0 ∷ []) ∷ instance 1 (0 ∷ 1 ∷ []) (2 ∷ []) ∷ instance 2 (2 ∷ []) (1 ∷ []) ∷ []) (
    Inner 1 ∷ Inner 1 ∷ Inner 1 ∷ []) limit policy growth

unfoldable pub clogged_network : Tables
clogged_network = clogged_with only_writes_three MAX_CAPACITY Cycles One

-- ---- the same under the policy `all`

unfoldable pub resolved_network : Tables
resolved_network = clogged_with only_writes_three MAX_CAPACITY All One

-- a channel doubles, and the limit is 3
unfoldable pub resolved_to_limit_network : Tables
resolved_to_limit_network = clogged_with writes_five 3 All Double

-- the writer's channel 0 has capacity 2; `write o 1;` fills channel 3 of capacity 1, on which nobody waits
unfoldable pub small_full_network : Tables
small_full_network = tables_with (
    only_writes_three ∷ program 3 1 1 ((Read 1 0 ∷ []) ∷ []) ∷ program 1 1 1 ((Read 0 0 ∷ []) ∷ [])
    ∷ program 0 1 0 ((Write 0 (Num (pos 1)) ∷ []) ∷ []) ∷ []) (
    instance 0 [] (0 ∷ []) ∷ instance 1 (0 ∷ 1 ∷ 3 ∷ []) (2 ∷ []) ∷ instance 2 (2 ∷ []) (1 ∷ [])
    ∷ instance 3 [] (3 ∷ []) ∷ []) (
    Inner 2 ∷ Inner 1 ∷ Inner 1 ∷ Inner 1 ∷ []) MAX_CAPACITY All One

-- a writer on channel 0 to `write z 5; read b x;`, which reads from the source 1 and writes to the sink 2; and a
-- process with nothing to do
unfoldable pub outside_network : Tables
outside_network = tables_with (
    only_writes_three ∷ program 2 1 1 ((Write 0 (Num (pos 5)) ∷ Read 1 0 ∷ []) ∷ []) ∷ program 0 0 0 ([] ∷ []) ∷ []) (
    instance 0 [] (0 ∷ []) ∷ instance 1 (0 ∷ 1 ∷ []) (2 ∷ []) ∷ instance 2 [] [] ∷ []) (
    Inner 1 ∷ Source ∷ Sink 1 ∷ []) MAX_CAPACITY All One

-- `write o 1; write o 2; write o 3;` on a channel of capacity 2 to itself, which does not read channel 1, of capacity
-- 1; and `write o 1; write o 2;` on that
abbrev stuck_with : (limit : ℕ) → Tables
stuck_with limit = tables_with (
    program 2 1 0 ((Write 0 (Num (pos 1)) ∷ Write 0 (Num (pos 2)) ∷ Write 0 (Num (pos 3)) ∷ []) ∷ [])
    ∷ program 0 1 0 ((Write 0 (Num (pos 1)) ∷ Write 0 (Num (pos 2)) ∷ []) ∷ []) ∷ []) (
    instance 0 (0 ∷ 1 ∷ []) (0 ∷ []) ∷ instance 1 [] (1 ∷ []) ∷ []) (
    Inner 2 ∷ Inner 1 ∷ []) limit All One

unfoldable pub cycle_below_limit : Tables
cycle_below_limit = stuck_with 3

unfoldable pub cycle_at_limit : Tables
cycle_at_limit = stuck_with 2

-- ---- processes of which one writes more than anybody reads

-- `while 1 { read a x; read b y; write o (x + y); write f x; }` of the source 0 and of channel 2, and
-- `write o 0; write o 0; while 1 { read i x; write o x; }`, which puts on that what it reads from channel 1
unfoldable pub delayed_network : Tables
delayed_network = tables (
    program 2 2 2 (
    (While (Num (pos 1)) 1 ∷ []) ∷
    (Read 0 0 ∷ Read 1 1 ∷ Write 0 (Bin Add (Var 0) (Var 1)) ∷ Write 1 (Var 0) ∷ []) ∷ [])
    ∷ program 1 1 1 (
    (Write 0 (Num (pos 0)) ∷ Write 0 (Num (pos 0)) ∷ While (Num (pos 1)) 1 ∷ []) ∷
    (Read 0 0 ∷ Write 0 (Var 0) ∷ []) ∷ []) ∷ []) (
    instance 0 (0 ∷ 2 ∷ []) (3 ∷ 1 ∷ []) ∷ instance 1 (1 ∷ []) (2 ∷ []) ∷ []) (
    Source ∷ Inner 1 ∷ Inner 1 ∷ Sink 1 ∷ [])

-- `while 1 { write o 3; }` on channel 1, and `while 1 { read i x; read by k; write o (x * k); }` of the source 0 and of
-- that
abbrev scaled_under : (limit : ℕ) → Policy → Tables
scaled_under limit policy = tables_with (
    program 0 1 0 ((While (Num (pos 1)) 1 ∷ []) ∷ (Write 0 (Num (pos 3)) ∷ []) ∷ [])
    ∷ program 2 1 2 (
    (While (Num (pos 1)) 1 ∷ []) ∷ (Read 0 0 ∷ Read 1 1 ∷ Write 0 (Bin Mul (Var 0) (Var 1)) ∷ []) ∷ []) ∷ []) (
    instance 0 [] (1 ∷ []) ∷ instance 1 (0 ∷ 1 ∷ []) (2 ∷ []) ∷ []) (
    Source ∷ Inner 1 ∷ Sink 1 ∷ []) limit policy One

unfoldable pub scaled_network : Tables
scaled_network = scaled_under MAX_CAPACITY Cycles

unfoldable pub scaled_to_limit_network : Tables
scaled_to_limit_network = scaled_under 2 All

-- ---- processes that fault

-- `write z 1; write z E;`
abbrev faulting : Term → Tables
faulting expression = tables (
    program 0 1 0 ((Write 0 (Num (pos 1)) ∷ Write 0 expression ∷ []) ∷ []) ∷ []) (
    instance 0 [] (0 ∷ []) ∷ []) (
    Sink 1 ∷ [])

-- `(1 / 0)`
unfoldable pub zero_divisor_network : Tables
zero_divisor_network = faulting (Bin Div (Num (pos 1)) (Num (pos 0)))

-- `(9223372036854775807 + 1)`
unfoldable pub overflow_network : Tables
overflow_network = faulting (Bin Add (Num (pos 9223372036854775807)) (Num (pos 1)))
