-- What is read at a place of a list.
use Rattle.std.proofs.Common.{◌≡◌, ◌∙◌, sym, ℕ, zero, suc, ◌<◌, List, [], ◌∷◌, length, map, get_or, slice_get, Some, option_map, Result, Ok, Err, OnOk, refl, ap, arith}
use Rattle.std.proofs.lemmas.Option.{slice_get-get_or, slice_get-map}
use Rattle.check_description.specs.Port.{port_view}
use Rattle.check_description.specs.declared.port.Port as code_port

-- where there is something, it is the same whatever would be read beyond the end
pub same_default : {A : Type 0} (items : List A) (place : ℕ) (one other : A) → place < length items
    → get_or items place one ≡ get_or items place other
same_default [] place one other below = absurd (omega (arith, below))
same_default (item ∷ items) zero one other below = refl
same_default (item ∷ items) (suc place) one other below = same_default items place one other (omega (arith, below))

-- it is what is read
pub read_there : {A : Type 0} (items : List A) (place : ℕ) (item read : A) → slice_get items place ≡ Some item
    → read ≡ get_or items place read → read ≡ item
read_there [] place item read there is = absurd (cc)
read_there (first ∷ items) zero item read there is = let same : first ≡ item = cc in is ∙ same
read_there (first ∷ items) (suc place) item read there is = read_there items place item read there is

pub is_there : {A : Type 0} (items : List A) (place : ℕ) (read : A) → place < length items → read ≡ get_or items place read
    → slice_get items place ≡ Some read
is_there items place read below is = slice_get-get_or items place read below ∙ ap (λ item. Some item) (sym is)

-- a port of a file as contracts see it
pub port_at : (ports : List code_port.Port) (number : ℕ) (port : code_port.Port) → number < length ports
    → port ≡ get_or ports number port → slice_get (map port_view ports) number ≡ Some (port_view port)
port_at ports number port below is =
    slice_get-map port_view ports number ∙ ap (option_map port_view) (is_there ports number port below is)

-- what is so after a success, by what else is
pub on_ok : {A E P Q : Type 0} (result : Result A E) → (P → Q) → OnOk result P → OnOk result Q
on_ok (Ok value) more is = more is
on_ok (Err fault) more is = tt
