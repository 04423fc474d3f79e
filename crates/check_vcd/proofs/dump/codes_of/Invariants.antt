-- What is known of an identifier, and what the signals to come say of it, is what all of them say.
use Rattle.std.proofs.Common.{◌≡◌, ℕ, List, drop, map}
use Rattle.check_vcd.specs.Codes.{coded_from, coded_in, find_in}
use Rattle.check_vcd.specs.Header.{var_view}
use Rattle.check_vcd.proofs.dump.codes_of.Given as goal

abbrev pub invariant-loop-var : goal.invariant-loop-var
invariant-loop-var l =
    (code : List ℕ) → coded_from (find_in l.codes code) (map var_view (drop l.var-index l.vars)) code
    ≡ coded_in (map var_view l.vars) code
