-- The scopes so far stand before the rest.
use Rattle.std.proofs.Common.{◌≡◌, ◌++◌, drop, map}
use Rattle.check_vcd.specs.Header.{path}
use Rattle.check_vcd.proofs.header.path.Given as goal

abbrev pub invariant-loop-scope : goal.invariant-loop-scope
invariant-loop-scope l =
    l.text.items ++ path (map (λ scope. scope.items) (drop l.scope-index l.scopes)) l.name
    ≡ path (map (λ scope. scope.items) l.scopes) l.name
