-- There is a place for each port and for the error port.
use Rattle.std.proofs.Common.{◌≡◌, ◌∙◌, ℕ, suc, ◌+◌, List, [], ◌∷◌, length, None, refl, ap}
use Rattle.std.proofs.lemmas.List.{length-append}
use Rattle.check_description.specs.Port.{Port}
use Rattle.check_description.specs.Slave.{denying_slave}
use Rattle.check_start.specs.Loads.{loads_at_reset, loads_from}
use Rattle.check_model.specs.Model.{fresh, ports_at_reset, ports_from}

length-ports_from : (images : List (List ℕ)) (number : ℕ) (ports : List Port)
    → length (ports_from images number ports) ≡ length ports
length-ports_from images number [] = refl
length-ports_from images number (port ∷ ports) = ap suc (length-ports_from images (number + 1) ports)

length-loads_from : (images : List (List ℕ)) (number : ℕ) (ports : List Port)
    → length (loads_from images number ports) ≡ length ports
length-loads_from images number [] = refl
length-loads_from images number (port ∷ ports) = ap suc (length-loads_from images (number + 1) ports)

pub ports_counted : (images : List (List ℕ)) (ports : List Port) → length (ports_at_reset images ports) ≡ length ports + 1
ports_counted images ports =
    length-append (ports_from images 0 ports) (fresh denying_slave ∷ [])
    ∙ ap (λ n. n + 1) (length-ports_from images 0 ports)

pub loads_counted : (images : List (List ℕ)) (ports : List Port) → length (loads_at_reset images ports) ≡ length ports + 1
loads_counted images ports =
    length-append (loads_from images 0 ports) (None ∷ []) ∙ ap (λ n. n + 1) (length-loads_from images 0 ports)
