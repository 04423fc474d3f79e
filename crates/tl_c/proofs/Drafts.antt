-- The images of a draft, and the slaves that are made with them.
use Rattle.std.proofs.Common.{◌≡◌, ◌∙◌, ℕ, zero, suc, ◌+◌, ◌≤◌, Bool, false, List, [], ◌∷◌, ◌++◌, length, replicate, slice_get, slice_set, Option, Some, None, Result, Ok, Err, Vec, nat_lt, refl, sym, ap, subst, arith}
use Rattle.std.specs.declared.alloc.Global.{Global}
use Rattle.std.proofs.lemmas.Bool.Decides.{nat_tests}
use Rattle.std.proofs.lemmas.List.{length-replicate, length-set, map-set, replicate-append-replicate}
use Rattle.check_flight.specs.declared.order.SideOrders.{SideOrders}
use Rattle.tl_text.specs.Reading.{◌>>=◌}
use Rattle.check_keys.specs.declared.fault.SystemFault.{SystemFault}
use Rattle.check_description.specs.Port.{Port}
use Rattle.check_description.specs.Ranges.{first_length}
use Rattle.check_description.specs.Slave.{error_slave}
use Rattle.check_start.specs.Slaves.{image_at, slaves_at_reset, slaves_from}
use Rattle.check_start.specs.declared.slaves.SlaveSide.{SlaveSide}
use Rattle.check_description.specs.File.{Parts}
use Rattle.check_description.specs.Name.{NamesParts}
use Rattle.tl_c.specs.Calls.{HoldsDraft}
use Rattle.tl_c.specs.Draft.{DraftView, IsDraft, bytes_of, image_bytes, fault_at, image_fault, slot_of, slots_of, with_image}
use Rattle.tl_c.specs.declared.held.HandleContent.{HandleContent}
use Rattle.tl_c.specs.declared.held.HandleContent.TheVariants as held

-- ---- before any image is handed in

pub replicate_more : {A : Type 0} (n : ℕ) (x : A) → replicate n x ++ x ∷ [] ≡ replicate (n + 1) x
replicate_more n x = replicate-append-replicate n 1 x

-- no bytes are given of any port
pub none_at : (n port : ℕ) → image_at (image_bytes (replicate n None)) port ≡ []
none_at zero port = refl
none_at (suc n) zero = refl
none_at (suc n) (suc port) = none_at n port

pub fresh_is_draft : (file : List ℕ) (parts : Parts) → NamesParts file parts
    → IsDraft (record { file = file; parts = parts; images = replicate (length parts.ports) None })
fresh_is_draft file parts named = record {
  named = named;
  sized = length-replicate (length parts.ports) None;
  fits = λ port said here.
      let none = ap length (none_at (length parts.ports) port) in omega (arith, none);
}

-- ---- with one image more

-- an image that is taken is no longer than the range
pub taken_fits : (port count : ℕ) (said : Port) → fault_at port count (Some said) ≡ None → count ≤ first_length said.ranges
taken_fits port count said none = grind (arith, nat_tests)

-- one image set, as contracts see it
pub slots_set : (images : List (Option (Vec ℕ Global))) (port : ℕ) (bytes : Vec ℕ Global)
    → slots_of (slice_set images port (Some bytes)) ≡ slice_set (slots_of images) port (Some bytes.items)
slots_set images port bytes =
    map-set slot_of images port (Some bytes)

-- the bytes of images, one of them set
pub bytes_set : (images : List (Option (List ℕ))) (port : ℕ) (bytes : List ℕ)
    → image_bytes (slice_set images port (Some bytes)) ≡ slice_set (image_bytes images) port bytes
bytes_set images port bytes = map-set bytes_of images port (Some bytes)

pub set_fits : (images : List (List ℕ)) (ports : List Port) (port : ℕ) (bytes : List ℕ)
    → ((other : ℕ) (said : Port) → slice_get ports other ≡ Some said → length (image_at images other) ≤ first_length said.ranges)
    → ((said : Port) → slice_get ports port ≡ Some said → length bytes ≤ first_length said.ranges)
    → (other : ℕ) (said : Port) → slice_get ports other ≡ Some said
    → length (image_at (slice_set images port bytes) other) ≤ first_length said.ranges
set_fits [] ports port bytes fit new other said here = fit other said here
set_fits (image ∷ images) [] port bytes fit new other said here = absurd (cc)
set_fits (image ∷ images) (first ∷ ports) zero bytes fit new zero said here = new said here
set_fits (image ∷ images) (first ∷ ports) zero bytes fit new (suc other) said here = fit (suc other) said here
set_fits (image ∷ images) (first ∷ ports) (suc port) bytes fit new zero said here = fit zero said here
set_fits (image ∷ images) (first ∷ ports) (suc port) bytes fit new (suc other) said here =
    set_fits images ports port bytes (λ k at is. fit (suc k) at is) new other said here

pub put_is_draft : (draft : DraftView) (port : ℕ) (bytes : List ℕ) → IsDraft draft → image_fault draft port bytes ≡ None
    → IsDraft (with_image draft port bytes)
put_is_draft draft port bytes is none = record {
  named = is.named;
  sized = length-set draft.images port (Some bytes) ∙ is.sized;
  fits = λ other said here.
      let P : List (List ℕ) → Type 0 = λ l. length (image_at l other) ≤ first_length said.ranges in
      subst P (sym (bytes_set draft.images port bytes))
      (set_fits (image_bytes draft.images) draft.parts.ports port bytes is.fits
      (λ at there. taken_fits port (length bytes) at (subst (λ p. fault_at port (length bytes) p ≡ None) there none)) other said
      here);
}

-- ---- the slaves of a draft

bind_err : {A B F : Type 0} (r : Result A F) (f : A → B) (fault : F) → (r >>= (λ x. Ok (f x))) ≡ Err fault → r ≡ Err fault
bind_err (Ok x) f fault is = absurd (cc)
bind_err (Err e) f fault is = cc

-- no image is too long, so each port has its slave
pub slaves_fit : (corrupt : Bool) (side : SlaveSide) (orders : SideOrders) (images : List (List ℕ)) (number : ℕ) (ports : List Port)
    → ((k : ℕ) (said : Port) → slice_get ports k ≡ Some said → length (image_at images (number + k)) ≤ first_length said.ranges)
    → (fault : SystemFault) → slaves_from corrupt side orders images number ports ≡ Err fault → ⊥
slaves_fit corrupt side orders images number [] fit fault is = cc
slaves_fit corrupt side orders images number (said ∷ ports) fit fault is =
    let least : length (image_at images (number + 0)) ≤ first_length said.ranges = fit 0 said refl in
    let zeroth : number + 0 ≡ number = omega arith in
    let fits : nat_lt (first_length said.ranges) (length (image_at images number)) ≡ false =
    (let few : length (image_at images number) ≤ first_length said.ranges =
    subst (λ k. length (image_at images k) ≤ first_length said.ranges) zeroth least in grind (arith, nat_tests)) in
    let rest : ((slaves_from corrupt side orders images (number + 1) ports) >>= (λ slaves. Ok (_ ∷ slaves))) ≡ Err fault = rw fits at is in
    slaves_fit corrupt side orders images (number + 1) ports
    (λ k at there. let next : number + suc k ≡ number + 1 + k = omega arith in
    subst (λ n. length (image_at images n) ≤ first_length at.ranges) next (fit (suc k) at there)) fault
    (bind_err (slaves_from corrupt side orders images (number + 1) ports) (λ slaves. _ ∷ slaves) fault rest)

pub slaves_are : (corrupt : Bool) (side : SlaveSide) (orders : SideOrders) (images : List (List ℕ)) (ports : List Port)
    → ((k : ℕ) (said : Port) → slice_get ports k ≡ Some said → length (image_at images k) ≤ first_length said.ranges)
    → (fault : SystemFault) → slaves_at_reset corrupt side orders images ports ≡ Err fault → ⊥
slaves_are corrupt side orders images ports fit fault is =
    slaves_fit corrupt side orders images 0 ports
    (λ k said there. let same : k ≡ 0 + k = omega arith in
    subst (λ n. length (image_at images n) ≤ first_length said.ranges) same (fit k said there)) fault
    (bind_err (slaves_from corrupt side orders images 0 ports) (λ slaves. slaves ++ error_slave corrupt orders.masters ∷ []) fault is)

-- ---- what a handle holds

-- what is so of a draft, by what else is so of it
pub holds_draft : (P Q : DraftView → Type 0) (value : Option HandleContent) → ((draft : DraftView) → P draft → Q draft)
    → HoldsDraft P value → HoldsDraft Q value
holds_draft P Q (Some (held.Draft d)) more is = more d is
holds_draft P Q (Some (held.Model c)) more is = is
holds_draft P Q (Some (held.Judge j)) more is = is
holds_draft P Q None more is = is
