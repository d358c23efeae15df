-- What a final run says of all other runs from the same lists, whatever the order in which their processes went: they
-- have made no more. So all final runs end alike. In Kahn 1974 this holds of the journals of runs that no channel
-- stops. Here it also holds of runs that full channels stop, with capacities as in Parks 1995, which grow by a rule
-- after Geilen and Basten 2003.
use Rattle.std.specs.Prelude.{◌≡◌, ◌↔◌, ℕ, ◌<◌, ◌≤◌, false, List, length, count_by, Contains}
use Rattle.kpn_lang.specs.Prefix.{IsPrefix}
use Rattle.kpn_net.specs.declared.tables.End.TheVariants.{Process}
use Rattle.kpn_net.specs.Tables.{Tables, reader_of}
use Rattle.kpn_net.specs.Process.{Family, IsFamilyPrefix}
use Rattle.kpn_history.specs.declared.event.How.{How}
use Rattle.kpn_history.specs.declared.event.Event.{Event}
use Rattle.kpn_history.specs.declared.event.Event.TheVariants.{Ended}
use Rattle.kpn_history.specs.Talks.{talk_of}
use Rattle.kpn_history.specs.Channels.{written_on, read_on, is_growth_of, is_left}
use Rattle.kpn_history.specs.Waiting.{waits_of}
use Rattle.kpn_history.specs.Legal.{Legal}
use Rattle.kpn_history.specs.Ends.{IsSettled}
use Rattle.kpn_history.specs.Stops.{OwesNothing}
use Rattle.kpn_history.specs.Complete.{IsFedFrom}

-- how often a channel has grown
abbrev pub growths_of : List Event → (c : ℕ) → ℕ
growths_of H c = count_by (is_growth_of c) H

-- a run from these lists: a legal history that is fed from them
pub record IsRunFrom (t : Tables) (given : Family) (H : List Event) : Type 0 where
  pub legal : Legal t H
  pub fed : IsFedFrom t H given

-- a final run: it is settled, and no growth is owed
pub record IsFinalRun (t : Tables) (given : Family) (H : List Event) : Type 0 where
  pub run : IsRunFrom t given H
  pub settled : IsSettled t H
  pub nothing_owed : OwesNothing t H

-- a history has made no more than another one. What each process said, what was written on each channel, and what a
-- process read from it, begins the same in the other one. A process that has ended has ended there in the same way. No
-- channel has grown more often
pub record HasMadeNoMore (t : Tables) (H G : List Event) : Type 0 where
  pub said : (p : ℕ) → p < length t.instances → IsPrefix (talk_of H p) (talk_of G p)
  pub ended : (p : ℕ) (how : How) → Contains H (Ended p how) → Contains G (Ended p how)
  pub written : IsFamilyPrefix (written_on H) (written_on G)
  pub read : (c p : ℕ) → reader_of t c ≡ Process p → IsPrefix (read_on H c) (read_on G c)
  pub grown : (c : ℕ) → growths_of H c ≤ growths_of G c

-- two histories end alike. Each process has said the same, and waits for the same or has ended in the same way. The
-- same was written on each channel, and the same was read from it, but from a sink that was left. Each channel has
-- grown as often
pub record EndAlike (t : Tables) (H G : List Event) : Type 0 where
  pub said : (p : ℕ) → p < length t.instances → talk_of H p ≡ talk_of G p
  pub ended : (p : ℕ) (how : How) → Contains H (Ended p how) ↔ Contains G (Ended p how)
  pub waits : waits_of t H ≡ waits_of t G
  pub written : (c : ℕ) → written_on H c ≡ written_on G c
  pub read : (c : ℕ) → is_left H c ≡ false → is_left G c ≡ false → read_on H c ≡ read_on G c
  pub grown : (c : ℕ) → growths_of H c ≡ growths_of G c
