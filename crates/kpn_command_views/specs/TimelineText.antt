-- The timeline that `kpn timeline` writes: events in the Trace Event Format (JSON), each on a line. One microsecond is
-- one tick. A process is a track, and its gets, puts and waits are slices on it. A channel is a counter of the items
-- that lie unread on it.
use Rattle.std.specs.Prelude.{ℕ, ◌+◌, ◌-◌, true, nat_lt, if◌then◌else◌, ℤ, List, [], ◌∷◌, ◌++◌, length, map, codes, take, drop}
use Rattle.std.specs.List.{concat, range_with_len}
use Rattle.std.specs.Fmt.{decimal, signed_decimal}
use Rattle.kpn_net.specs.declared.wait.Wait.{Wait}
use Rattle.kpn_net.specs.declared.wait.Wait.TheVariants.{Nobody, Empty, Full}
use Rattle.kpn_net.specs.Tables.{Tables}
use Rattle.kpn_net.specs.Waits.{wait_at}
use Rattle.kpn_history.specs.declared.event.Event.{Event}
use Rattle.kpn_history.specs.declared.event.Event.TheVariants.{Get, Put, Grow}
use Rattle.kpn_text_names.specs.Names.{name_at}
use Rattle.kpn_text.specs.Document.{Document}
use Rattle.kpn_ticks.specs.Ticks.{Clocks, latest_of, written_of, read_of, get_tick, put_tick, clocks_with_event, start, clocks_after}
use Rattle.kpn_ticks.specs.Held.{reads_before}

-- ---- the slices

-- the track of process p, with its name
abbrev pub track_line : (p : ℕ) → (name : List ℕ) → List ℕ
track_line p name =
    codes ",{\"ph\":\"M\",\"pid\":1,\"tid\":" ++ decimal (p + 1)
    ++ codes ",\"name\":\"thread_name\",\"args\":{\"name\":\"" ++ name ++ codes "\"}}\n"

-- the front of a slice on the track of process p, up to its begin
abbrev pub slice_front : (p begin : ℕ) → List ℕ
slice_front p begin =
    codes ",{\"ph\":\"X\",\"pid\":1,\"tid\":" ++ decimal (p + 1) ++ codes ",\"ts\":" ++ decimal begin

-- the words of a slice of one tick, up to the name of its channel
abbrev pub get_words : List ℕ
get_words = codes ",\"dur\":1,\"name\":\"get "

abbrev pub put_words : List ℕ
put_words = codes ",\"dur\":1,\"name\":\"put "

-- what stands after the name: the item
abbrev pub item_end : ℤ → List ℕ
item_end item = codes "\",\"args\":{\"item\":" ++ signed_decimal item ++ codes "}}\n"

-- a slice of one tick, in which process p gets or puts an item. Its words stand in front of its name
abbrev pub item_slice : (p tick : ℕ) → (words name : List ℕ) → ℤ → List ℕ
item_slice p tick words name item = slice_front p (tick - 1) ++ (words ++ name) ++ item_end item

-- the end of the slice of a wait of this many ticks
abbrev pub wait_end : (ticks : ℕ) → (name why : List ℕ) → List ℕ
wait_end ticks name why =
    codes ",\"dur\":" ++ decimal ticks ++ codes ",\"name\":\"waits " ++ name ++ why ++ codes "\"}\n"

-- a wait of process p from the end of its latest slice to the tick before this one, if that is longer than nothing
abbrev pub wait_slice : (p latest tick : ℕ) → (name why : List ℕ) → List ℕ
wait_slice p latest tick name why =
    if nat_lt (latest + 1) tick
    then slice_front p latest ++ wait_end (tick - 1 - latest) name why
    else []

-- the growth of a channel, for which process p waits
abbrev pub growth_line : (p latest : ℕ) → (name : List ℕ) → List ℕ
growth_line p latest name =
    codes ",{\"ph\":\"i\",\"s\":\"t\",\"pid\":1,\"tid\":" ++ decimal (p + 1) ++ codes ",\"ts\":" ++ decimal latest
    ++ codes ",\"name\":\"" ++ name ++ codes " grows\"}\n"

-- a get or put, and the wait before it if it begins later than one tick after the latest one
abbrev pub move_lines : (p latest tick : ℕ) → (words why name : List ℕ) → ℤ → List ℕ
move_lines p latest tick words why name item = wait_slice p latest tick name why ++ item_slice p tick words name item

-- what is drawn of an event
abbrev pub event_lines : (names : List (List ℕ)) → Tables → Clocks → Event → List ℕ
event_lines names t s (Get p c v) =
    move_lines p (latest_of s p) (get_tick s p c) get_words [] (name_at names c) v
event_lines names t s (Put p c v) =
    move_lines p (latest_of s p) (put_tick t s p c) put_words (codes " full") (name_at names c) v
event_lines names t s (Grow p c n) = growth_line p (latest_of s p) (name_at names c)
event_lines names t s event = []

-- what is drawn of these events, before which these are the clocks
abbrev pub all_event_lines : (names : List (List ℕ)) → Tables → Clocks → List Event → List ℕ
all_event_lines names t s [] = []
all_event_lines names t s (event ∷ events) =
    event_lines names t s event ++ all_event_lines names t (clocks_with_event t s event) events

-- what is drawn of process p, which has this wait at the end: its wait goes on for one tick after the last one
abbrev pub last_wait : (names : List (List ℕ)) → Clocks → (p : ℕ) → Wait → List ℕ
last_wait names s p Nobody = []
last_wait names s p (Empty c) = wait_slice p (latest_of s p) (s.last + 2) (name_at names c) []
last_wait names s p (Full c) = wait_slice p (latest_of s p) (s.last + 2) (name_at names c) (codes " full")

-- ---- the counters

-- what stands between the tick and the number of items of a channel
abbrev pub counter_label : (name : List ℕ) → List ℕ
counter_label name = codes ",\"name\":\"" ++ name ++ codes "\",\"args\":{\"unread\":"

-- this many items, and what stands around them
abbrev pub counter_end : (label : List ℕ) → (unread : ℕ) → List ℕ
counter_end label unread = label ++ decimal unread ++ codes "}}\n"

-- this many items lie unread on a channel from this tick on
abbrev pub counter_line : (label : List ℕ) → (tick unread : ℕ) → List ℕ
counter_line label tick unread =
    codes ",{\"ph\":\"C\",\"pid\":1,\"ts\":" ++ decimal tick ++ counter_end label unread

-- these reads, one after another, of this many unread items
abbrev pub read_lines : (label : List ℕ) → (unread : ℕ) → (reads : List ℕ) → List ℕ
read_lines label unread [] = []
read_lines label unread (tick ∷ reads) =
    counter_line label tick (unread - 1) ++ read_lines label (unread - 1) reads

-- the writes and reads of a channel by their ticks, with this many unread items at first
abbrev pub counter_lines : (label : List ℕ) → (unread : ℕ) → (written reads : List ℕ) → List ℕ
counter_lines label unread [] reads = read_lines label unread reads
counter_lines label unread (tick ∷ written) reads =
    let gone = reads_before tick reads in
    let now = unread - gone + 1 in
    read_lines label unread (take gone reads) ++ counter_line label tick now
    ++ counter_lines label now written (drop gone reads)

-- ---- the whole

abbrev pub timeline_head : List ℕ
timeline_head =
    codes "{\"traceEvents\":[\n{\"ph\":\"M\",\"pid\":1,\"name\":\"process_name\",\"args\":{\"name\":\"kpn\"}}\n"

-- what is written of each of the first n numbers, in order
abbrev pub each_below : (n : ℕ) → (line : ℕ → List ℕ) → List ℕ
each_below n line = concat (map line (range_with_len 0 n))

abbrev pub channel_counters : (names : List (List ℕ)) → Clocks → (c : ℕ) → List ℕ
channel_counters names s c =
    counter_lines (counter_label (name_at names c)) 0 (written_of s c) (read_of s c)

-- what is drawn of this many processes with these waits at the end
abbrev pub last_waits : (names : List (List ℕ)) → (processes : ℕ) → List Wait → Clocks → List ℕ
last_waits names processes waits s = each_below processes (λ p. last_wait names s p (wait_at waits p))

-- the timeline of these events of the network, after which its processes have these waits
abbrev pub timeline : Document → Tables → List Wait → List Event → List ℕ
timeline d t waits events =
    timeline_head ++ each_below (length t.instances) (λ p. track_line p (name_at d.names.instances p))
    ++ all_event_lines d.names.channels t (start t true) events
    ++ last_waits d.names.channels (length t.instances) waits (clocks_after t true events)
    ++ each_below (length t.channels) (channel_counters d.names.channels (clocks_after t true events))
    ++ codes "]}\n"
