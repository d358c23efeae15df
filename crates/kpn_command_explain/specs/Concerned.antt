-- The places in a description that a fault concerns.
use Rattle.std.specs.Prelude.{ℕ, List, length, slice_index_or, None}
use Rattle.kpn_net.specs.declared.fault.NetFault.{NetFault}
use Rattle.kpn_net.specs.declared.fault.NetFault.TheVariants as net
use Rattle.kpn_text.specs.declared.fault.TextFault.{TextFault}
use Rattle.kpn_text.specs.declared.fault.TextFault.TheVariants as fault
use Rattle.kpn_text_tokens.specs.declared.tokens.Lexeme.{Lexeme}
use Rattle.kpn_command_explain.specs.declared.concerned.FaultPlaces.{FaultPlaces}
use Rattle.kpn_command_explain.specs.declared.spots.TokenSpot.{TokenSpot}
use Rattle.kpn_command_explain.specs.declared.spots.TokenSpot.TheVariants as spot
use Rattle.kpn_command_explain.specs.Names.{name_beginning_at, last_before, first_between, first_behind}
use Rattle.kpn_command_explain.specs.Spots.{starts_of, spot_at}

abbrev pub one_place : (at : ℕ) → FaultPlaces
one_place at = record { first = at; second = None }

-- the word `network`
abbrev pub network_place : List Lexeme → ℕ
network_place ls = slice_index_or (starts_of spot.Outside ls) 0 0

-- the name with this number at a spot, or the word `network` if there are fewer
abbrev pub numbered_place : List Lexeme → TokenSpot → (number : ℕ) → ℕ
numbered_place ls s number = slice_index_or (starts_of s ls) number (network_place ls)

-- the table that a name at this spot was to be new in: a variable, an array or a table beside the ports
abbrev pub table_of : TokenSpot → TokenSpot
table_of spot.Target = spot.Port
table_of spot.Row = spot.Port
table_of spot.Shared = spot.Port
table_of other = other

-- a name, and the one before it that is the same and of the same table
abbrev pub concerned_names : (text : List ℕ) → List Lexeme → TokenSpot → (at : ℕ) → FaultPlaces
concerned_names text ls s at =
    record { first = at; second = last_before text (name_beginning_at text at) at (starts_of s ls) }

abbrev pub two_names : (text : List ℕ) → List Lexeme → (at : ℕ) → FaultPlaces
two_names text ls at = concerned_names text ls (table_of (spot_at at ls)) at

-- where the process that has this byte ends: at the next one, or at the word `network`
abbrev pub process_end : List Lexeme → (at : ℕ) → ℕ
process_end ls at = first_behind at (network_place ls) (starts_of spot.Process ls)

-- a variable in an expression, and the first place after it in its process at which it gets a value
abbrev pub value_behind : (text : List ℕ) → List Lexeme → (at : ℕ) → FaultPlaces
value_behind text ls at = record {
  first = at;
  second = first_between text (name_beginning_at text at) at (process_end ls at) (starts_of spot.Target ls);
}

-- the same; any other name has one place
abbrev pub unknown_places : (text : List ℕ) → List Lexeme → (at : ℕ) → TokenSpot → FaultPlaces
unknown_places text ls at spot.Variable = value_behind text ls at
unknown_places text ls at other = one_place at

-- the declaration of a channel, and the last time that its name stands at a spot
abbrev pub last_use : (text : List ℕ) → List Lexeme → TokenSpot → (declared : ℕ) → FaultPlaces
last_use text ls s declared =
    record {
      first = declared;
      second = last_before text (name_beginning_at text declared) (length text) (starts_of s
          ls);
    }

abbrev pub channel_use : (text : List ℕ) → List Lexeme → TokenSpot → (channel : ℕ) → FaultPlaces
channel_use text ls s channel = last_use text ls s (numbered_place ls spot.Channel channel)

-- the places of a fault of the network: an instance, a channel, or the word `network`
abbrev pub net_places : (text : List ℕ) → List Lexeme → NetFault → FaultPlaces
net_places text ls net.TooMany = one_place (network_place ls)
net_places text ls (net.NoSuchProgram instance) = one_place (numbered_place ls spot.Instance instance)
net_places text ls (net.PortCount instance) = one_place (numbered_place ls spot.Instance instance)
net_places text ls (net.NoSuchChannel instance) = one_place (numbered_place ls spot.Instance instance)
net_places text ls (net.NoWriter channel) = one_place (numbered_place ls spot.Channel channel)
net_places text ls (net.TwoWriters channel) = channel_use text ls spot.Writes channel
net_places text ls (net.NoReader channel) = one_place (numbered_place ls spot.Channel channel)
net_places text ls (net.TwoReaders channel) = channel_use text ls spot.Reads channel
net_places text ls (net.Capacity channel) = one_place (numbered_place ls spot.Channel channel)
net_places text ls net.NoMemory = one_place (network_place ls)

-- the places of a fault in a text with these tokens; none of them counts for a fault of memory
abbrev pub places_of : (text : List ℕ) → List Lexeme → TextFault → FaultPlaces
places_of text ls (fault.TooLong at) = one_place at
places_of text ls (fault.Token at) = one_place at
places_of text ls (fault.Grammar at) = one_place at
places_of text ls (fault.UnknownName at) = unknown_places text ls at (spot_at at ls)
places_of text ls (fault.DoubleName at) = two_names text ls at
places_of text ls (fault.Program process broken) = one_place (numbered_place ls spot.Process process)
places_of text ls (fault.Net broken) = net_places text ls broken
places_of text ls fault.NoMemory = one_place 0
