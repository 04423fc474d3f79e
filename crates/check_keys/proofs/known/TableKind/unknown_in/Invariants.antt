-- The first unknown key of the entries that are left is that of all.
use Rattle.std.proofs.Common.{◌≡◌}
use Rattle.toml.specs.View.{members_view}
use Rattle.check_keys.specs.Known.{first_unknown}
use Rattle.check_keys.proofs.known.TableKind.unknown_in.Given as goal

abbrev pub invariant-loop-key : goal.invariant-loop-key
invariant-loop-key l = record {
  next : goal.iterator-loop-key.can_next l.key-iterator;
  ends : goal.iterator-loop-key.is_finite l.key-iterator;
  same : first_unknown l.self (members_view l.key-iterator) ≡ first_unknown l.self (members_view l.table.entries);
}
