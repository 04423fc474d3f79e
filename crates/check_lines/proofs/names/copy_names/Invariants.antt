-- The copies so far are those of the names so far.
use Rattle.std.proofs.Common.{◌≡◌, take}
use Rattle.check_lines.specs.Names.{texts_of}
use Rattle.check_lines.proofs.names.copy_names.Given as goal

abbrev pub invariant-loop-name : goal.invariant-loop-name
invariant-loop-name l = texts_of l.copies.items ≡ texts_of (take l.name-index l.names)
