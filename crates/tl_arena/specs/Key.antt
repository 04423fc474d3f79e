-- What the table of an arena is told when it is made, as the rule has it. All of it is this project's own.
use Rattle.std.specs.Prelude.{map}
use Rattle.tl_rule.specs.declared.view.About.{About}
use Rattle.tl_arena.specs.declared.key.Key.{Key}

-- what never changes of an arena, as the key of its table keeps it.
abbrev pub about_in : Key → About
about_in key = record {
  slots = key.slots;
  masters = key.masters;
  ports = key.ports;
  owners = key.sources.value;
  resets = map (λ bank. bank.value) key.resets.items;
}
