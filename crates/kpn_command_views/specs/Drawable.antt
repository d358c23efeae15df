-- A picture that is small enough: no place in it is beyond the numbers of the code.
use Rattle.std.specs.Prelude.{◌≤◌, ◌-◌}
use Rattle.kpn_command_views.specs.declared.scale.Scale.{Scale}
use Rattle.kpn_command_views.specs.PictureText.{ticks_in}

pub record IsDrawable (s : Scale) : Type 0 where
  pub ticks : ticks_in s ≤ 2000
  pub room : s.edge - s.front ≤ 2001
  pub left : s.left ≤ 248
  pub wide : s.wide ≤ 44
