-- A history of each worked network.
use Rattle.std.specs.Prelude.{pos, List, [], ◌∷◌}
use Rattle.kpn_history.specs.declared.event.How.TheVariants as how
use Rattle.kpn_history.specs.declared.event.Event.{Event}
use Rattle.kpn_history.specs.declared.event.Event.TheVariants.{Get, Put, WaitEmpty, WaitFull, Ended, Feed, Close, Take, Leave, Grow}

-- ---- runs to the end

unfoldable pub copy_run : List Event
copy_run =
    Feed 0 (pos 1) ∷ Feed 0 (pos 2) ∷ Feed 0 (pos 3) ∷
    Close 0 ∷ Get 0 0 (pos 1) ∷ Put 0 1 (pos 1) ∷
    Take 1 (pos 1) ∷ Get 0 0 (pos 2) ∷ Put 0 1 (pos 2) ∷
    Take 1 (pos 2) ∷ Get 0 0 (pos 3) ∷ Put 0 1 (pos 3) ∷
    Take 1 (pos 3) ∷ WaitEmpty 0 0 ∷ []

-- the sink is left while the process waits for room on it: from then on it is never full
unfoldable pub left_sink_run : List Event
left_sink_run =
    Feed 0 (pos 1) ∷ Feed 0 (pos 2) ∷ Get 0 0 (pos 1) ∷
    Put 0 1 (pos 1) ∷ Get 0 0 (pos 2) ∷ WaitFull 0 1 ∷
    Leave 1 ∷ Put 0 1 (pos 2) ∷ WaitEmpty 0 0 ∷ Close 0 ∷ []

-- the caller takes one item of the sink and leaves it
unfoldable pub left_after_one_run : List Event
left_after_one_run =
    Feed 0 (pos 1) ∷ Feed 0 (pos 2) ∷ Feed 0 (pos 3) ∷
    Close 0 ∷ Get 0 0 (pos 1) ∷ Put 0 1 (pos 1) ∷
    Take 1 (pos 1) ∷ Leave 1 ∷ Get 0 0 (pos 2) ∷ Put 0 1 (pos 2) ∷
    Get 0 0 (pos 3) ∷ Put 0 1 (pos 3) ∷ WaitEmpty 0 0 ∷ []

-- the source is closed before its list was fed
unfoldable pub early_close_run : List Event
early_close_run = Close 0 ∷ WaitEmpty 0 0 ∷ []

unfoldable pub two_run : List Event
two_run =
    Put 0 0 (pos 1) ∷ WaitEmpty 1 1 ∷ WaitFull 0 0 ∷
    Grow 0 0 2 ∷ Put 0 0 (pos 2) ∷ Put 0 1 (pos 3) ∷
    Ended 0 how.Done ∷ Get 1 1 (pos 3) ∷ Get 1 0 (pos 1) ∷
    Get 1 0 (pos 2) ∷ Put 1 2 (pos 312) ∷ Take 2 (pos 312) ∷
    Ended 1 how.Done ∷ []

-- the reader closes the cycle, so the growth of the writer's channel is the reader's
unfoldable pub reader_closes_run : List Event
reader_closes_run =
    Put 0 0 (pos 1) ∷ WaitFull 0 0 ∷ WaitEmpty 1 1 ∷
    Grow 1 0 2 ∷ Put 0 0 (pos 2) ∷ Put 0 1 (pos 3) ∷
    Ended 0 how.Done ∷ Get 1 1 (pos 3) ∷ Get 1 0 (pos 1) ∷
    Get 1 0 (pos 2) ∷ Put 1 2 (pos 312) ∷ Take 2 (pos 312) ∷
    Ended 1 how.Done ∷ []

-- both channels are full and awaited: b, which has the least capacity, grows; p, which does not write it, closes the
-- cycle
unfoldable pub larger_run : List Event
larger_run =
    Put 0 0 (pos 1) ∷ Put 0 0 (pos 2) ∷ Put 1 1 (pos 1) ∷
    WaitFull 1 1 ∷ WaitFull 0 0 ∷ Grow 0 1 2 ∷
    Put 1 1 (pos 2) ∷ Get 1 0 (pos 1) ∷ Put 0 0 (pos 3) ∷
    Get 0 1 (pos 1) ∷ Get 0 1 (pos 2) ∷ Ended 0 how.Done ∷
    Get 1 0 (pos 2) ∷ Get 1 0 (pos 3) ∷ Ended 1 how.Done ∷ []

-- both channels are full with one capacity: a, which has the least number, grows, and q closes the cycle
unfoldable pub tie_run : List Event
tie_run =
    Put 0 0 (pos 1) ∷ Put 1 1 (pos 1) ∷ WaitFull 0 0 ∷
    WaitFull 1 1 ∷ Grow 1 0 2 ∷ Put 0 0 (pos 2) ∷
    Get 0 1 (pos 1) ∷ Put 1 1 (pos 2) ∷ Get 0 1 (pos 2) ∷
    Ended 0 how.Done ∷ Get 1 0 (pos 1) ∷ Get 1 0 (pos 2) ∷
    Ended 1 how.Done ∷ []

unfoldable pub self_loop_run : List Event
self_loop_run =
    Put 0 0 (pos 1) ∷ WaitFull 0 0 ∷ Grow 0 0 2 ∷
    Put 0 0 (pos 2) ∷ Get 0 0 (pos 1) ∷ Get 0 0 (pos 2) ∷
    Put 0 1 (pos 3) ∷ Take 1 (pos 3) ∷ Ended 0 how.Done ∷ []

-- from 1 to 2 and to 4
unfoldable pub doubling_run : List Event
doubling_run =
    Put 0 0 (pos 1) ∷ WaitFull 0 0 ∷ Grow 0 0 2 ∷
    Put 0 0 (pos 2) ∷ WaitFull 0 0 ∷ Grow 0 0 4 ∷
    Put 0 0 (pos 3) ∷ Put 0 0 (pos 4) ∷ Get 0 0 (pos 1) ∷
    Get 0 0 (pos 2) ∷ Get 0 0 (pos 3) ∷ Get 0 0 (pos 4) ∷
    Ended 0 how.Done ∷ []

unfoldable pub two_readers_run : List Event
two_readers_run = WaitEmpty 0 0 ∷ WaitEmpty 1 1 ∷ []

unfoldable pub ended_reader_run : List Event
ended_reader_run =
    Put 0 0 (pos 1) ∷ Ended 1 how.Done ∷ Put 0 0 (pos 2) ∷
    Put 0 0 (pos 3) ∷ Put 0 0 (pos 4) ∷ Put 0 0 (pos 5) ∷
    Ended 0 how.Done ∷ []

-- the writer waits on the full channel before the reader ends
unfoldable pub freed_writer_run : List Event
freed_writer_run =
    Put 0 0 (pos 1) ∷ WaitFull 0 0 ∷ Ended 1 how.Done ∷
    Put 0 0 (pos 2) ∷ Put 0 0 (pos 3) ∷ Put 0 0 (pos 4) ∷
    Put 0 0 (pos 5) ∷ Ended 0 how.Done ∷ []

unfoldable pub zero_divisor_run : List Event
zero_divisor_run = Put 0 0 (pos 1) ∷ Take 0 (pos 1) ∷ Ended 0 how.ZeroDivisor ∷ []

unfoldable pub overflow_run : List Event
overflow_run = Put 0 0 (pos 1) ∷ Ended 0 how.Overflow ∷ Take 0 (pos 1) ∷ []

-- ---- runs that stop, or go on

-- until the sink had six items
unfoldable pub kahn_run : List Event
kahn_run =
    WaitEmpty 0 1 ∷ WaitEmpty 1 0 ∷ Put 2 1 (pos 0) ∷ Put 3 2 (pos 1) ∷
    WaitEmpty 2 3 ∷ Get 0 1 (pos 0) ∷ WaitEmpty 3 4 ∷ Put 0 0 (pos 0) ∷
    Put 0 5 (pos 0) ∷ Take 5 (pos 0) ∷ Get 1 0 (pos 0) ∷ Get 0 2 (pos 1) ∷
    Put 1 3 (pos 0) ∷ Put 0 0 (pos 1) ∷ Get 1 0 (pos 1) ∷ Get 2 3 (pos 0) ∷
    Put 0 5 (pos 1) ∷ Take 5 (pos 1) ∷ Put 1 4 (pos 1) ∷ Put 2 1 (pos 0) ∷
    Get 0 1 (pos 0) ∷ WaitEmpty 1 0 ∷ Get 3 4 (pos 1) ∷ WaitEmpty 2 3 ∷
    Put 0 0 (pos 0) ∷ Put 3 2 (pos 1) ∷ Put 0 5 (pos 0) ∷ Take 5 (pos 0) ∷
    Get 1 0 (pos 0) ∷ WaitEmpty 3 4 ∷ Get 0 2 (pos 1) ∷ Put 1 3 (pos 0) ∷
    Put 0 0 (pos 1) ∷ Get 1 0 (pos 1) ∷ Get 2 3 (pos 0) ∷ Put 0 5 (pos 1) ∷
    Take 5 (pos 1) ∷ Put 1 4 (pos 1) ∷ Put 2 1 (pos 0) ∷ Get 0 1 (pos 0) ∷
    WaitEmpty 1 0 ∷ Get 3 4 (pos 1) ∷ WaitEmpty 2 3 ∷ Put 0 0 (pos 0) ∷
    Put 3 2 (pos 1) ∷ Put 0 5 (pos 0) ∷ Take 5 (pos 0) ∷ Get 1 0 (pos 0) ∷
    WaitEmpty 3 4 ∷ Get 0 2 (pos 1) ∷ Put 1 3 (pos 0) ∷ Put 0 0 (pos 1) ∷
    Get 1 0 (pos 1) ∷ Get 2 3 (pos 0) ∷ Put 0 5 (pos 1) ∷ Take 5 (pos 1) ∷ []

unfoldable pub two_at_limit_run : List Event
two_at_limit_run = Put 0 0 (pos 1) ∷ WaitEmpty 1 1 ∷ WaitFull 0 0 ∷ []

-- from 2 to the limit, which is 3
unfoldable pub doubled_to_limit_run : List Event
doubled_to_limit_run =
    Put 0 0 (pos 1) ∷ Put 0 0 (pos 2) ∷ WaitFull 0 0 ∷
    Grow 0 0 3 ∷ Put 0 0 (pos 3) ∷ WaitFull 0 0 ∷ []

unfoldable pub clogged_run : List Event
clogged_run = Put 0 0 (pos 1) ∷ WaitEmpty 1 1 ∷ WaitEmpty 2 2 ∷ WaitFull 0 0 ∷ []

-- ---- runs under the policy `all`

-- the writer's channel grows twice, since no process goes on and it is the one on which a process waits
unfoldable pub resolved_run : List Event
resolved_run =
    Put 0 0 (pos 1) ∷ WaitEmpty 1 1 ∷ WaitEmpty 2 2 ∷
    WaitFull 0 0 ∷ Grow 0 0 2 ∷ Put 0 0 (pos 2) ∷
    WaitFull 0 0 ∷ Grow 0 0 3 ∷ Put 0 0 (pos 3) ∷
    Ended 0 how.Done ∷ []

-- the last to wait is a reader that waits for the other one; the growth is the writer's
unfoldable pub reader_waits_last_run : List Event
reader_waits_last_run =
    Put 0 0 (pos 1) ∷ WaitFull 0 0 ∷ WaitEmpty 1 1 ∷
    WaitEmpty 2 2 ∷ Grow 0 0 2 ∷ Put 0 0 (pos 2) ∷ []

-- from 1 to 2, and to the limit, which is 3
unfoldable pub resolved_to_limit_run : List Event
resolved_to_limit_run =
    Put 0 0 (pos 1) ∷ WaitEmpty 1 1 ∷ WaitEmpty 2 2 ∷
    WaitFull 0 0 ∷ Grow 0 0 2 ∷ Put 0 0 (pos 2) ∷
    WaitFull 0 0 ∷ Grow 0 0 3 ∷ Put 0 0 (pos 3) ∷
    WaitFull 0 0 ∷ []

-- channel 3 is full and smaller than channel 0, and nobody waits on it
unfoldable pub small_full_run : List Event
small_full_run =
    Put 3 3 (pos 1) ∷ Ended 3 how.Done ∷ Put 0 0 (pos 1) ∷
    Put 0 0 (pos 2) ∷ WaitEmpty 1 1 ∷ WaitEmpty 2 2 ∷
    WaitFull 0 0 ∷ Grow 0 0 3 ∷ Put 0 0 (pos 3) ∷
    Ended 0 how.Done ∷ []

-- the last thing that settles a run: an end, a close, a take of the last item and a leave, each in one of the next runs
unfoldable pub end_settles_run : List Event
end_settles_run =
    Close 1 ∷ Put 1 2 (pos 5) ∷ Take 2 (pos 5) ∷
    WaitEmpty 1 1 ∷ Put 0 0 (pos 1) ∷ WaitFull 0 0 ∷
    Ended 2 how.Done ∷ Grow 0 0 2 ∷ Put 0 0 (pos 2) ∷ []

unfoldable pub close_settles_run : List Event
close_settles_run =
    Put 1 2 (pos 5) ∷ Take 2 (pos 5) ∷ WaitEmpty 1 1 ∷
    Put 0 0 (pos 1) ∷ WaitFull 0 0 ∷ Ended 2 how.Done ∷
    Close 1 ∷ Grow 0 0 2 ∷ Put 0 0 (pos 2) ∷ []

unfoldable pub take_settles_run : List Event
take_settles_run =
    Close 1 ∷ Put 1 2 (pos 5) ∷ WaitEmpty 1 1 ∷
    Put 0 0 (pos 1) ∷ WaitFull 0 0 ∷ Ended 2 how.Done ∷
    Take 2 (pos 5) ∷ Grow 0 0 2 ∷ Put 0 0 (pos 2) ∷ []

unfoldable pub leave_settles_run : List Event
leave_settles_run =
    Close 1 ∷ Put 1 2 (pos 5) ∷ WaitEmpty 1 1 ∷
    Put 0 0 (pos 1) ∷ WaitFull 0 0 ∷ Ended 2 how.Done ∷
    Leave 2 ∷ Grow 0 0 2 ∷ Put 0 0 (pos 2) ∷ []

-- all stand still, and the last wait has closed a cycle: its channel grows, though channel 1 is smaller
unfoldable pub cycle_goes_first_run : List Event
cycle_goes_first_run =
    Put 1 1 (pos 1) ∷ WaitFull 1 1 ∷ Put 0 0 (pos 1) ∷
    Put 0 0 (pos 2) ∷ WaitFull 0 0 ∷ Grow 0 0 3 ∷
    Put 0 0 (pos 3) ∷ Ended 0 how.Done ∷ Put 1 1 (pos 2) ∷
    Ended 1 how.Done ∷ []

-- the channel of the cycle is at the limit, so channel 1 grows, and then the cycle is left
unfoldable pub other_grows_run : List Event
other_grows_run =
    Put 1 1 (pos 1) ∷ WaitFull 1 1 ∷ Put 0 0 (pos 1) ∷
    Put 0 0 (pos 2) ∷ WaitFull 0 0 ∷ Grow 1 1 2 ∷
    Put 1 1 (pos 2) ∷ Ended 1 how.Done ∷ []

-- ---- runs that stop with more written than anybody reads

unfoldable pub delayed_run : List Event
delayed_run =
    Feed 0 (pos 7) ∷ Close 0 ∷ Put 1 2 (pos 0) ∷
    WaitFull 1 2 ∷ Get 0 0 (pos 7) ∷ Get 0 2 (pos 0) ∷
    Put 0 3 (pos 7) ∷ Take 3 (pos 7) ∷ Put 0 1 (pos 7) ∷
    Put 1 2 (pos 0) ∷ Get 1 1 (pos 7) ∷ WaitFull 1 2 ∷
    WaitEmpty 0 0 ∷ []

unfoldable pub scaled_run : List Event
scaled_run =
    Feed 0 (pos 5) ∷ Close 0 ∷ Put 0 1 (pos 3) ∷
    WaitFull 0 1 ∷ Get 1 0 (pos 5) ∷ Get 1 1 (pos 3) ∷
    Put 1 2 (pos 15) ∷ Take 2 (pos 15) ∷ Put 0 1 (pos 3) ∷
    WaitFull 0 1 ∷ WaitEmpty 1 0 ∷ []

-- the same, and then the generator's channel grows to the limit, which is 2
unfoldable pub scaled_to_limit_run : List Event
scaled_to_limit_run =
    Feed 0 (pos 5) ∷ Close 0 ∷ Put 0 1 (pos 3) ∷
    WaitFull 0 1 ∷ Get 1 0 (pos 5) ∷ Get 1 1 (pos 3) ∷
    Put 1 2 (pos 15) ∷ Take 2 (pos 15) ∷ Put 0 1 (pos 3) ∷
    WaitFull 0 1 ∷ WaitEmpty 1 0 ∷ Grow 0 1 2 ∷
    Put 0 1 (pos 3) ∷ WaitFull 0 1 ∷ []

-- a copy of what was fed so far; the source stays open
unfoldable pub open_run : List Event
open_run = Feed 0 (pos 1) ∷ Get 0 0 (pos 1) ∷ Put 0 1 (pos 1) ∷ Take 1 (pos 1) ∷ WaitEmpty 0 0 ∷ []
