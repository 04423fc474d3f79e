-- The identifiers that a dump declares. This project's own.
use Rattle.std.specs.Prelude.{ℕ, ◌+◌, ◌-◌, ◌*◌, nat_le, nat_lt, Bool, ◌&&◌, List, [], ◌∷◌, Option, None, Some, slice_get, if◌then◌else◌}
use Rattle.std.specs.HashMap.{get_by}
use Rattle.std.specs.Str.{bytes_eq}
use Rattle.check_vcd.specs.Header.{Var}
use Rattle.check_vcd.specs.declared.codes.Coded.{Coded}
use Rattle.check_vcd.specs.declared.codes.Codes.{Codes}

-- a sign of an identifier, of which there are 94 (IEEE 1364, "Value change dump files")
abbrev pub is_sign : ℕ → Bool
is_sign byte = nat_le 33 byte && nat_le byte 126

-- the place of an identifier of one or two signs: those of one sign come first
abbrev pub place_of : List ℕ → Option ℕ
place_of [] = None
place_of (only ∷ []) = if is_sign only then Some (only - 33) else None
place_of (low ∷ high ∷ []) = if is_sign low && is_sign high then Some (94 + (low - 33) + 94 * (high - 33)) else None
place_of (low ∷ high ∷ more ∷ code) = None

-- what stands at a place, if there is such a place
abbrev pub cell_at : List (Option Coded) → Option ℕ → Option (Option Coded)
cell_at short None = None
cell_at short (Some place) = slice_get short place

-- what is known of an identifier: by its place, if it has one, and else by all its signs.
abbrev pub known_by : Option (Option Coded) → Option Coded → Option Coded
known_by None hashed = hashed
known_by (Some cell) hashed = cell

-- what is known of an identifier, if it is declared
abbrev pub find_in : Codes → List ℕ → Option Coded
find_in codes code =
    known_by (cell_at codes.short.items (place_of code)) (get_by (λ known. bytes_eq code known.items) codes.known)

-- an identifier that one more signal has, of so many bits: it is as wide as the widest
abbrev pub as_widest : Option Coded → ℕ → Coded
as_widest None width = record { width = width; slot = None }
as_widest (Some known) width = if nat_lt known.width width then record { width = width; slot = None } else known

-- what is known of an identifier, and what signals say of it
abbrev pub coded_from : Option Coded → List Var → List ℕ → Option Coded
coded_from known [] code = known
coded_from known (var ∷ vars) code =
    if bytes_eq var.code code then coded_from (Some (as_widest known var.width)) vars code
    else coded_from known vars code

-- what the signals of a header say of an identifier: how many bits the widest that has it has
abbrev pub coded_in : List Var → List ℕ → Option Coded
coded_in vars code = coded_from None vars code
