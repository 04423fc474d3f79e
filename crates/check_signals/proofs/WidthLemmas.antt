-- How many bits an identifier has.
use Rattle.std.proofs.Common.{◌≡◌, ℕ, Bool, true, false, cond, nat_lt, List, [], ◌∷◌, None, Some, ap, arith, refl, sym}
use Rattle.std.proofs.lemmas.Bool.{ltb-false}
use Rattle.std.specs.Str.{bytes_eq}
use Rattle.check_vcd.specs.Codes.{coded_from, as_widest}
use Rattle.check_vcd.specs.Header.{Var}
use Rattle.check_vcd.specs.declared.codes.Coded.{Coded}
use Rattle.check_signals.specs.Source.{width_by}

-- an identifier of which nothing is known, but that it has 0 bits
abbrev empty : Coded
empty = record { width = 0; slot = None }

widened-empty : (width : ℕ) → as_widest (Some empty) width ≡ record { width = width; slot = None }
widened-empty width = go (nat_lt 0 width) refl
  where
    go : (t : Bool) → nat_lt 0 width ≡ t
        → cond t (record { width = width; slot = None }) empty ≡ record { width = width; slot = None }
    go true is = refl
    go false is =
        let none : width ≡ 0 = omega (arith, ltb-false 0 width is) in
        ap (λ (n : ℕ). let c : Coded = record { width = n; slot = None } in c) (sym none)

-- it is as one of which nothing is known
pub from-zero : (vars : List Var) (code : List ℕ)
    → width_by (coded_from (Some (record { width = 0; slot = None })) vars code) ≡ width_by (coded_from None vars code)
from-zero [] code = refl
from-zero (var ∷ vars) code = go (bytes_eq var.code code) (from-zero vars code)
  where
    go : (t : Bool) → width_by (coded_from (Some empty) vars code) ≡ width_by (coded_from None vars code)
        → width_by (cond t (coded_from (Some (as_widest (Some empty) var.width)) vars code)
        (coded_from (Some empty) vars code))
        ≡ width_by (cond t (coded_from (Some (as_widest None var.width)) vars code) (coded_from None vars code))
    go true rest = ap (λ (c : Coded). width_by (coded_from (Some c) vars code)) (widened-empty var.width)
    go false rest = rest
