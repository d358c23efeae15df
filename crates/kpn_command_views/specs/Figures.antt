-- The figures of a history: how often each channel and each process did what, and the most items that were unread.
use Rattle.std.specs.Prelude.{◌≡◌, ℕ, ◌+◌, ◌-◌, ◌<◌, ◌≤◌, max, Bool, false, nat_eq, List, length, take, count_by, Option, Some, None, slice_index_or, slice_set}
use Rattle.kpn_net.specs.Tables.{Tables}
use Rattle.kpn_history.specs.declared.event.Event.{Event}
use Rattle.kpn_history.specs.declared.event.Event.TheVariants.{Get, Put, WaitEmpty, WaitFull, Feed, Take, Grow}
use Rattle.kpn_history.specs.Talks.{process_of, channel_of}
use Rattle.kpn_history.specs.Channels.{written_on, read_on, unread_on, is_growth_of}
use Rattle.kpn_command_views.specs.declared.figures.ChannelFigures.{ChannelFigures}
use Rattle.kpn_command_views.specs.declared.figures.ProcessFigures.{ProcessFigures}
use Rattle.kpn_command_views.specs.declared.figures.Figures.{Figures}

-- ---- what the figures count

-- the reader of the channel comes to wait for an item
abbrev pub waits_for_item : (c : ℕ) → Event → Bool
waits_for_item c (WaitEmpty p d) = nat_eq d c
waits_for_item c event = false

-- the writer of the channel comes to wait for room
abbrev pub waits_for_room : (c : ℕ) → Event → Bool
waits_for_room c (WaitFull p d) = nat_eq d c
waits_for_room c event = false

-- the process gets an item
abbrev pub is_get_of : (p : ℕ) → Event → Bool
is_get_of p (Get q c v) = nat_eq q p
is_get_of p event = false

-- the process puts an item
abbrev pub is_put_of : (p : ℕ) → Event → Bool
is_put_of p (Put q c v) = nat_eq q p
is_put_of p event = false

-- the process comes to wait for an item
abbrev pub is_wait_empty_of : (p : ℕ) → Event → Bool
is_wait_empty_of p (WaitEmpty q c) = nat_eq q p
is_wait_empty_of p event = false

-- the process comes to wait for room
abbrev pub is_wait_full_of : (p : ℕ) → Event → Bool
is_wait_full_of p (WaitFull q c) = nat_eq q p
is_wait_full_of p event = false

-- how many items are unread on the channel after the first k events
abbrev pub unread_behind : List Event → (c k : ℕ) → ℕ
unread_behind H c k = length (unread_on (take k H) c)

-- the most items that are unread on the channel after any number of first events
pub record IsMostUnread (H : List Event) (c most : ℕ) : Type 0 where
  pub reached : (k : ℕ) × ((k ≤ length H) × (unread_behind H c k ≡ most))
  pub bounded : (k : ℕ) → k ≤ length H → unread_behind H c k ≤ most

-- ---- the figures

-- the figures of a channel count its items, its growths and the waits on it
pub record CountsChannel (H : List Event) (c : ℕ) (figures : ChannelFigures) : Type 0 where
  pub put : figures.put ≡ length (written_on H c)
  pub read : figures.read ≡ length (read_on H c)
  pub most : IsMostUnread H c figures.most
  pub growths : figures.growths ≡ count_by (is_growth_of c) H
  pub waits_empty : figures.waits_empty ≡ count_by (waits_for_item c) H
  pub waits_full : figures.waits_full ≡ count_by (waits_for_room c) H

-- the figures of a process count what it got and put and its waits
pub record CountsProcess (H : List Event) (p : ℕ) (figures : ProcessFigures) : Type 0 where
  pub gets : figures.gets ≡ count_by (is_get_of p) H
  pub puts : figures.puts ≡ count_by (is_put_of p) H
  pub waits_empty : figures.waits_empty ≡ count_by (is_wait_empty_of p) H
  pub waits_full : figures.waits_full ≡ count_by (is_wait_full_of p) H

-- nothing is counted; this stands for a channel that is not there
abbrev pub no_channel : ChannelFigures
no_channel = record { put = 0; read = 0; most = 0; growths = 0; waits_empty = 0; waits_full = 0 }

-- the same for a process
abbrev pub no_process : ProcessFigures
no_process = record { gets = 0; puts = 0; waits_empty = 0; waits_full = 0 }

-- each channel has its figures
abbrev pub CountChannels : List Event → List ChannelFigures → Type 0
CountChannels H figures =
    (c : ℕ) → c < length figures → CountsChannel H c (slice_index_or figures c no_channel)

-- each process has its figures
abbrev pub CountProcesses : List Event → List ProcessFigures → Type 0
CountProcesses H figures =
    (p : ℕ) → p < length figures → CountsProcess H p (slice_index_or figures p no_process)

-- the figures of a history of the network: those of each channel and of each process
pub record AreFigures (t : Tables) (H : List Event) (figures : Figures) : Type 0 where
  pub channel_count : length figures.channels ≡ length t.channels
  pub channels : CountChannels H figures.channels
  pub process_count : length figures.processes ≡ length t.instances
  pub processes : CountProcesses H figures.processes

-- ---- scaffolding: one event more

-- the figures of a channel and one event on it, without the most unread items
abbrev pub channel_counts_then : ChannelFigures → Event → ChannelFigures
channel_counts_then f (Get p c v) = record f { read = f.read + 1 }
channel_counts_then f (Put p c v) = record f { put = f.put + 1 }
channel_counts_then f (WaitEmpty p c) = record f { waits_empty = f.waits_empty + 1 }
channel_counts_then f (WaitFull p c) = record f { waits_full = f.waits_full + 1 }
channel_counts_then f (Feed c v) = record f { put = f.put + 1 }
channel_counts_then f (Take c v) = record f { read = f.read + 1 }
channel_counts_then f (Grow p c n) = record f { growths = f.growths + 1 }
channel_counts_then f event = f

-- the figures with what is unread now
abbrev pub with_most : ChannelFigures → ChannelFigures
with_most f = record f { most = max f.most (f.put - f.read) }

abbrev pub channel_then : ChannelFigures → Event → ChannelFigures
channel_then f event = with_most (channel_counts_then f event)

-- how much the figures of a channel count
abbrev pub channel_total : ChannelFigures → ℕ
channel_total f = f.put + f.read + f.growths + f.waits_empty + f.waits_full

-- the figures after a step of those with this number, if there are such
abbrev pub changed_at : {F : Type 0} → (none : F) → (step : F → F) → Option ℕ → List F → List F
changed_at none step None figures = figures
changed_at none step (Some k) figures = slice_set figures k (step (slice_index_or figures k none))

-- the figures of the channels after one event more
abbrev pub channels_then : List ChannelFigures → Event → List ChannelFigures
channels_then figures event = changed_at no_channel (λ f. channel_then f event) (channel_of event) figures

abbrev pub process_then : ProcessFigures → Event → ProcessFigures
process_then f (Get p c v) = record f { gets = f.gets + 1 }
process_then f (Put p c v) = record f { puts = f.puts + 1 }
process_then f (WaitEmpty p c) = record f { waits_empty = f.waits_empty + 1 }
process_then f (WaitFull p c) = record f { waits_full = f.waits_full + 1 }
process_then f event = f

abbrev pub process_total : ProcessFigures → ℕ
process_total f = f.gets + f.puts + f.waits_empty + f.waits_full

-- the figures of the processes after one event more
abbrev pub processes_then : List ProcessFigures → Event → List ProcessFigures
processes_then figures event = changed_at no_process (λ f. process_then f event) (process_of event) figures
