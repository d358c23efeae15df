-- Scaffolding: what the code's tables keep of the ends at one side of a channel: the end itself if there is only one.
-- Only contracts of private functions use it.
use Rattle.std.specs.Prelude.{◌≡◌, ℕ, Bool, true, false, List, [], ◌∷◌, length, map}
use Rattle.std.specs.List.{range_with_len}
use Rattle.kpn_net.specs.declared.tables.End.{End}
use Rattle.kpn_net.specs.declared.network.sides.Side.{Side}
use Rattle.kpn_net.specs.declared.network.sides.Side.TheVariants.{Nobody, One, Several}

-- what the tables keep of these ends
abbrev pub side_of : List End → Side
side_of [] = Nobody
side_of (end ∷ []) = One end
side_of (end ∷ other ∷ ends) = Several

-- what they keep with one end more
abbrev pub side_with : Side → End → Side
side_with Nobody end = One end
side_with (One other) end = Several
side_with Several end = Several

abbrev pub is_nobody : Side → Bool
is_nobody Nobody = true
is_nobody (One end) = false
is_nobody Several = false

abbrev pub is_several : Side → Bool
is_several Nobody = false
is_several (One end) = false
is_several Several = true

-- the end if there is one, else the other one
abbrev pub end_or : End → Side → End
end_or other Nobody = other
end_or other (One end) = end
end_or other Several = other

-- a side is kept for each channel
pub record Keeps (sides : List Side) (ends : ℕ → List End) : Type 0 where
  pub each : sides ≡ map (λ c. side_of (ends c)) (range_with_len 0 (length sides))
