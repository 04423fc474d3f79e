-- The hosts so far, and those that are left, are those of all.
use Rattle.std.proofs.Common.{◌≡◌, ◌++◌, drop, map}
use Rattle.check_keys.specs.Value.{integer_or_text_view}
use Rattle.check_description.specs.Listed.{hosts_from, listed_view}
use Rattle.check_description.proofs.listed.list_hosts.Given as goal

abbrev pub invariant-loop-number : goal.invariant-loop-number
invariant-loop-number l =
    map listed_view l.masters.items
    ++ hosts_from l.stride l.number (map integer_or_text_view (drop l.number l.hosts))
    ≡ hosts_from l.stride 0 (map integer_or_text_view l.hosts)
