-- Lists of events that no run brings: the last event of each breaks one rule and no other.
use Rattle.std.specs.Prelude.{pos, List, [], ◌∷◌, ◌++◌, take}
use Rattle.kpn_history.specs.declared.event.How.TheVariants as how
use Rattle.kpn_history.specs.declared.event.Event.{Event}
use Rattle.kpn_history.specs.declared.event.Event.TheVariants.{Get, Put, WaitEmpty, WaitFull, Ended, Feed, Close, Take, Leave, Grow}
use Rattle.check_histories.specs.Runs.{two_run, two_at_limit_run, clogged_run, larger_run, tie_run, doubling_run, doubled_to_limit_run, close_settles_run, small_full_run, reader_waits_last_run, cycle_goes_first_run, resolved_to_limit_run}

-- ---- a process says and meets what its text says

unfoldable pub puts_another_item : List Event
puts_another_item = take 4 two_run ++ Put 0 0 (pos 9) ∷ []

-- it reads another channel first
unfoldable pub gets_out_of_turn : List Event
gets_out_of_turn = Put 0 0 (pos 1) ∷ Get 1 0 (pos 1) ∷ []

-- a write whose expression faults puts nothing
unfoldable pub puts_for_a_fault : List Event
puts_for_a_fault = Put 0 0 (pos 1) ∷ Take 0 (pos 1) ∷ Put 0 0 (pos 0) ∷ []

unfoldable pub ends_too_early : List Event
ends_too_early = Put 0 0 (pos 1) ∷ Ended 0 how.Done ∷ []

-- an end by another cause than the one that its text comes to
unfoldable pub ends_as_done : List Event
ends_as_done = Put 0 0 (pos 1) ∷ Ended 0 how.Done ∷ []

unfoldable pub ends_as_overflow : List Event
ends_as_overflow = Put 0 0 (pos 1) ∷ Ended 0 how.Overflow ∷ []

unfoldable pub ends_as_zero_divisor : List Event
ends_as_zero_divisor = Put 0 0 (pos 1) ∷ Ended 0 how.ZeroDivisor ∷ []

-- it waits on an empty channel, and comes to read another one
unfoldable pub waits_where_it_does_not_read : List Event
waits_where_it_does_not_read = WaitEmpty 1 0 ∷ []

-- it waits on a full channel, and comes to write another one
unfoldable pub waits_where_it_does_not_write : List Event
waits_where_it_does_not_write = take 5 two_run ++ WaitFull 0 0 ∷ []

-- ---- a process that has ended or is blocked does nothing

unfoldable pub ends_twice : List Event
ends_twice = Put 0 0 (pos 1) ∷ Ended 1 how.Done ∷ Ended 1 how.Done ∷ []

unfoldable pub waits_while_blocked : List Event
waits_while_blocked = WaitEmpty 0 0 ∷ WaitEmpty 0 0 ∷ []

-- ---- a wait has its reason

-- an item is there
unfoldable pub waits_for_an_unread_item : List Event
waits_for_an_unread_item = Feed 0 (pos 1) ∷ WaitEmpty 0 0 ∷ []

-- the channel is not full
unfoldable pub waits_with_room : List Event
waits_with_room = WaitFull 0 0 ∷ []

-- as many items as the capacity are unread, and nobody is there to read them
unfoldable pub waits_for_an_ended_reader : List Event
waits_for_an_ended_reader = Put 0 0 (pos 1) ∷ Ended 1 how.Done ∷ WaitFull 0 0 ∷ []

unfoldable pub waits_for_a_left_sink : List Event
waits_for_a_left_sink =
    Feed 0 (pos 1) ∷ Feed 0 (pos 2) ∷ Get 0 0 (pos 1) ∷
    Put 0 1 (pos 1) ∷ Leave 1 ∷ Get 0 0 (pos 2) ∷ WaitFull 0 1 ∷ []

-- ---- a channel is a queue with a capacity

unfoldable pub gets_the_newest : List Event
gets_the_newest = Feed 0 (pos 1) ∷ Feed 0 (pos 2) ∷ Get 0 0 (pos 2) ∷ []

-- more is read than was written
unfoldable pub gets_once_more : List Event
gets_once_more = Feed 0 (pos 1) ∷ Get 0 0 (pos 1) ∷ Put 0 1 (pos 1) ∷ Get 0 0 (pos 1) ∷ []

unfoldable pub takes_once_more : List Event
takes_once_more = two_run ++ Take 2 (pos 312) ∷ []

unfoldable pub puts_into_a_full_channel : List Event
puts_into_a_full_channel = Put 0 0 (pos 1) ∷ Put 0 0 (pos 2) ∷ []

-- ---- a channel grows if that is owed, and at no other time

-- another event comes in place of the growth that is owed
unfoldable pub growth_left_out : List Event
growth_left_out = take 3 two_run ++ Leave 2 ∷ []

-- the channel is empty
unfoldable pub grows_another_channel : List Event
grows_another_channel = take 3 two_run ++ Grow 0 1 2 ∷ []

-- the growth names the reader, which did not close the cycle
unfoldable pub grows_for_the_reader : List Event
grows_for_the_reader = take 3 two_run ++ Grow 1 0 2 ∷ []

-- nobody waits
unfoldable pub grows_at_first : List Event
grows_at_first = Grow 0 0 2 ∷ []

unfoldable pub grows_twice : List Event
grows_twice = take 4 two_run ++ Grow 0 0 3 ∷ []

-- the writer waits on the full channel for a process that waits in a cycle with others
unfoldable pub grows_without_a_cycle : List Event
grows_without_a_cycle = clogged_run ++ Grow 0 0 2 ∷ []

unfoldable pub grows_at_the_limit : List Event
grows_at_the_limit = two_at_limit_run ++ Grow 0 0 2 ∷ []

-- of two full channels of the cycle the one with the larger capacity
unfoldable pub grows_the_larger : List Event
grows_the_larger = take 5 larger_run ++ Grow 0 0 3 ∷ []

-- the growth names the writer of the channel, which did not close the cycle
unfoldable pub grows_for_its_writer : List Event
grows_for_its_writer = take 5 larger_run ++ Grow 1 1 2 ∷ []

-- of two full channels with one capacity the one with the greater number
unfoldable pub grows_the_greater_number : List Event
grows_the_greater_number = take 4 tie_run ++ Grow 1 1 2 ∷ []

-- ---- a growth makes a channel as large as the network says, and states that capacity

-- after two growths by one the channel holds three
unfoldable pub puts_as_if_doubled : List Event
puts_as_if_doubled = take 5 doubling_run ++ Grow 0 0 3 ∷ Put 0 0 (pos 3) ∷ Put 0 0 (pos 4) ∷ []

-- twice the capacity, and above the limit
unfoldable pub puts_past_the_limit : List Event
puts_past_the_limit = take 5 doubled_to_limit_run ++ Put 0 0 (pos 4) ∷ []

-- it was made as large as the limit, and would stay so
unfoldable pub grows_past_the_limit : List Event
grows_past_the_limit = doubled_to_limit_run ++ Grow 0 0 3 ∷ []

-- a channel of capacity 2 doubles, so 4 is right
unfoldable pub tells_too_small_a_capacity : List Event
tells_too_small_a_capacity = take 5 doubling_run ++ Grow 0 0 3 ∷ []

-- a channel of capacity 2 grows by one, so 3 is right
unfoldable pub tells_too_large_a_capacity : List Event
tells_too_large_a_capacity = take 5 doubling_run ++ Grow 0 0 4 ∷ []

-- ---- under the policy `all` a growth comes if all stand still

-- process 2 is ready
unfoldable pub grows_while_one_is_ready : List Event
grows_while_one_is_ready = Put 0 0 (pos 1) ∷ WaitEmpty 1 1 ∷ WaitFull 0 0 ∷ Grow 0 0 2 ∷ []

-- its source is open
unfoldable pub grows_before_the_close : List Event
grows_before_the_close = take 6 close_settles_run ++ Grow 0 0 2 ∷ []

-- channel 3, which is smaller and full
unfoldable pub grows_where_nobody_waits : List Event
grows_where_nobody_waits = take 7 small_full_run ++ Grow 3 3 2 ∷ []

-- the growth names the process that came to wait last, which does not wait for it
unfoldable pub grows_for_the_last_to_wait : List Event
grows_for_the_last_to_wait = take 4 reader_waits_last_run ++ Grow 2 0 2 ∷ []

-- the sink may be left, but the growth is owed
unfoldable pub growth_at_stop_left_out : List Event
growth_at_stop_left_out = take 7 close_settles_run ++ Leave 2 ∷ []

-- the channel of the cycle is below the limit
unfoldable pub passes_over_the_cycle : List Event
passes_over_the_cycle = take 5 cycle_goes_first_run ++ Grow 1 1 2 ∷ []

-- it was made as large as the limit, which is 3
unfoldable pub doubles_past_the_limit : List Event
doubles_past_the_limit = resolved_to_limit_run ++ Grow 0 0 3 ∷ []

-- and holds no more than that
unfoldable pub puts_past_the_doubled : List Event
puts_past_the_doubled = take 9 resolved_to_limit_run ++ Put 0 0 (pos 4) ∷ []

-- ---- the outside feeds and closes sources, and takes from sinks and leaves them

unfoldable pub feeds_no_source : List Event
feeds_no_source = Feed 0 (pos 1) ∷ []

unfoldable pub feeds_after_the_close : List Event
feeds_after_the_close = Close 0 ∷ Feed 0 (pos 1) ∷ []

unfoldable pub closes_no_source : List Event
closes_no_source = Close 1 ∷ []

unfoldable pub closes_twice : List Event
closes_twice = Close 0 ∷ Close 0 ∷ []

unfoldable pub takes_from_no_sink : List Event
takes_from_no_sink = Put 0 0 (pos 1) ∷ Take 0 (pos 1) ∷ []

unfoldable pub takes_after_the_leave : List Event
takes_after_the_leave = Feed 0 (pos 1) ∷ Get 0 0 (pos 1) ∷ Put 0 1 (pos 1) ∷ Leave 1 ∷ Take 1 (pos 1) ∷ []

unfoldable pub leaves_no_sink : List Event
leaves_no_sink = Leave 0 ∷ []

unfoldable pub leaves_twice : List Event
leaves_twice = Leave 1 ∷ Leave 1 ∷ []

-- ---- numbers are numbers of the network

-- the network has two processes, 0 and 1
unfoldable pub nobody_puts : List Event
nobody_puts = Put 2 0 (pos 1) ∷ []

unfoldable pub nobody_gets : List Event
nobody_gets = Put 0 0 (pos 1) ∷ Get 2 0 (pos 1) ∷ []

unfoldable pub nobody_ends : List Event
nobody_ends = Ended 2 how.Done ∷ []

-- and one channel, 0
unfoldable pub nobody_puts_nowhere : List Event
nobody_puts_nowhere = Put 2 1 (pos 1) ∷ []
