-- The names so far are the ends so far, which leave the rest of the names to be checked.
use Rattle.kpn_command_base.proofs.Common.{◌≡◌, ◌<◌, map, take, drop, All, ends_of, ends_named, with_ends}
use Rattle.kpn_command_base.proofs.sources.ends_of.Given as goal

abbrev pub invariant-loop-option : goal.invariant-loop-option
invariant-loop-option l = record {
  named : ends_named l.ends l.document (map (λ o. o.name.now) l.options)
      ≡ with_ends l.ends l.document (map (λ e. e.number) l.named.items)
      (map (λ o. o.name.now) (drop l.option-index l.options));
  files : map (λ e. e.file.now) l.named.items ≡ map (λ o. o.file.now) (take l.option-index l.options);
  there : All (λ e. e.number < ends_of l.ends l.document.tables) l.named.items;
}
