-- One image more, and the fault of one image.
use Rattle.std.proofs.Common.{◌≡◌, ◌∙◌, ◌⊎◌, inl, inr, ℕ, List, [], ◌∷◌, ◌++◌, ◌<◌, length, map, get_or, slice_get, Option, Some, Result, Ok, Err, IfErr, Vec, Global, ap, sym, arith}
use Rattle.std.proofs.lemmas.List.{length-map, map-append}
use Rattle.std.proofs.lemmas.Option.{slice_get-get_or, slice_get-map, slice_get_within}
use Rattle.std.specs.Result.{IsErrAnd}
use Rattle.std.specs.Prelude.{option_map}
use Rattle.tl_types.proofs.Lists.{slice_get-push}
use Rattle.check_description.specs.Port.{Port, port_view}
use Rattle.check_description.specs.declared.port.Port as code_port
use Rattle.check_program.specs.Images.{FitPorts, IsFaultOfImages, IsFaultOfPort}
use Rattle.check_program.specs.declared.fault.CheckFault.{CheckFault}

-- what contracts see of the port at a place
pub seen_at : (ports : List code_port.Port) (number : ℕ) (port : code_port.Port) → number < length ports
    → port ≡ get_or ports number port → slice_get (map port_view ports) number ≡ Some (port_view port)
seen_at ports number port within is =
    let at : slice_get ports number ≡ Some port =
    slice_get-get_or ports number port within ∙ ap (λ (p : code_port.Port). Some p) (sym is) in
    slice_get-map port_view ports number ∙ ap (λ (o : Option code_port.Port). option_map port_view o) at

same_port : (ports : List Port) (number : ℕ) (one other : Port) → slice_get ports number ≡ Some one
    → slice_get ports number ≡ Some other → one ≡ other
same_port ports number one other at also = cc

pub fit_more : (Is : Port → List ℕ → Type 0) (ports : List Port) (images : List (List ℕ)) (port : Port) (bytes : List ℕ)
    → FitPorts Is ports images → slice_get ports (length images) ≡ Some port → Is port bytes
    → FitPorts Is ports (images ++ bytes ∷ [])
fit_more Is ports images port bytes fit at is number other found here there =
    go (slice_get-push images bytes found number there)
  where
    go : (slice_get images number ≡ Some found) ⊎ ((number ≡ length images) × (bytes ≡ found)) → Is other found
    go (inl before) = fit number other found here before
    go (inr last) =
        let its : slice_get ports (length images) ≡ Some other = rw (← last.0) here in
        rw (← same_port ports (length images) port other at its, ← last.1) is

pub fit_none : (Is : Port → List ℕ → Type 0) (ports : List Port) → FitPorts Is ports []
fit_none Is ports number port bytes here there =
    let within = slice_get_within {A = List ℕ} [] number bytes there in absurd (omega (arith, within))

-- the same of the vectors that hold the bytes
pub one_more : (Is : Port → List ℕ → Type 0) (ports : List Port) (vectors : List (Vec ℕ Global)) (image : Vec ℕ Global)
    (port : Port) → FitPorts Is ports (map (λ (v : Vec ℕ Global). v.items) vectors)
    → slice_get ports (length vectors) ≡ Some port → Is port image.items
    → FitPorts Is ports (map (λ (v : Vec ℕ Global). v.items) (vectors ++ image ∷ []))
one_more Is ports vectors image port fit at is =
    let bytes = λ (v : Vec ℕ Global). v.items in
    let here : slice_get ports (length (map bytes vectors)) ≡ Some port = rw (length-map vectors bytes) at in
    rw (map-append bytes vectors (image ∷ [])) (fit_more Is ports (map bytes vectors) port image.items fit here is)

-- what an error is
pub if_err : {A E : Type 0} (r : Result A E) (P : E → Type 0) (fault : E) → IsErrAnd r (λ e. e ≡ fault) → P fault → IfErr r P
if_err (Ok x) P fault is its = tt
if_err (Err e) P fault is its = rw is its

pub fault_of_one : (ports : List Port) (number : ℕ) (port : Port) (fault : CheckFault)
    → slice_get ports number ≡ Some port → IsFaultOfPort number port fault → IsFaultOfImages ports fault
fault_of_one ports number port fault at is = inr (number, (port, (at, is)))
