-- The values that are kept, as one of them changes or a time begins.
use Rattle.std.proofs.Common.{◌≡◌, ℕ, ◌+◌, ◌<◌, ◌≤◌, ◌==◌, false, cond, Bool, List, [], ◌∷◌, ◌++◌, length, get_or, map, set, All, Result, Ok, Err, zero, refl, sym, ap, ap₂, arith, suc, ◌∙◌}
use Rattle.std.proofs.lemmas.Bool.Decides.{nat_tests}
use Rattle.std.proofs.lemmas.List.{map-set}
use Rattle.std.proofs.Math.Seq.{map-set_same}
use Rattle.std.specs.Result.{OnOk}
use Rattle.std.specs.declared.alloc.AllocError.{AllocError}
use Rattle.check_samples.specs.Digits.{extended, joined_of, set_extended, with_joined}
use Rattle.check_samples.specs.Slot.{before_of}
use Rattle.check_samples.specs.declared.slot.Slot.{Slot}
use Rattle.check_samples.specs.declared.tap.Tap.{Tap}
use Rattle.std.proofs.lemmas.List.Elements.{All-get_or}

-- a value that changed before a time began was so before it
passed : (slot : Slot) (times : ℕ) → slot.since ≤ times → before_of (times + 1) slot ≡ slot.digits.items
passed slot times past =
    let test : slot.since == times + 1 ≡ false = grind (arith, nat_tests) in
    ap (λ (b : Bool). cond b slot.earlier.items slot.digits.items) test

-- two functions that agree on each element
same-maps : {A B : Type 0} (f g : A → B) (xs : List A) → ((k : ℕ) (d : A) → k < length xs → f (get_or xs k d) ≡ g (get_or xs k d))
    → map f xs ≡ map g xs
same-maps f g [] same = refl
same-maps f g (x ∷ xs) same =
    ap₂ (λ y ys. y ∷ ys) (same 0 x (omega arith)) (same-maps f g xs (λ k d h. same (suc k) d (omega (arith, h))))

pub all-passed : (slots : List Slot) (times : ℕ) → All (λ slot. slot.since ≤ times) slots
    → map (before_of (times + 1)) slots ≡ map (λ slot. slot.digits.items) slots
all-passed slots times past =
    same-maps (before_of (times + 1)) (λ slot. slot.digits.items) slots
    (λ k d inside. passed (get_or slots k d) times (All-get_or (λ (slot : Slot). slot.since ≤ times) slots k d inside past))

-- what is put together then is so of what they are
pub joined-passed : (slots : List Slot) (parts : List Tap) (cleared joined : List ℕ) (times : ℕ) (r : Result Unit AllocError)
    → All (λ slot. slot.since ≤ times) slots → cleared ≡ []
    → OnOk r (joined ≡ cleared ++ joined_of (map (λ slot. slot.digits.items) slots) parts)
    → OnOk r (map (before_of (times + 1)) slots ++ (joined ∷ []) ≡ with_joined parts (map (λ slot. slot.digits.items) slots))
joined-passed slots parts cleared joined times (Err fault) past none does = tt
joined-passed slots parts cleared joined times (Ok done) past none does =
    let all = joined_of (map (λ (slot : Slot). slot.digits.items) slots) parts in
    ap₂ (λ (values : List (List ℕ)) (last : List ℕ). values ++ (last ∷ [])) (all-passed slots times past)
    (does ∙ ap (λ (front : List ℕ). front ++ all) none)

-- ---- one value changes

pub change-before : (slots : List Slot) (joined : List ℕ) (i times : ℕ) (old new : Slot) (r : Result Unit AllocError)
    → old ≡ get_or slots i old → OnOk r (before_of times new ≡ before_of times old)
    → OnOk r (map (before_of times) (set slots i new) ++ (joined ∷ []) ≡ map (before_of times) slots ++ (joined ∷ []))
change-before slots joined i times old new (Err fault) is does = tt
change-before slots joined i times old new (Ok done) is does =
    ap (λ (values : List (List ℕ)). values ++ (joined ∷ []))
    (map-set_same (before_of times) slots i new old (does ∙ ap (before_of times) is))

pub change-width : (slots : List Slot) (i : ℕ) (old new : Slot) → old ≡ get_or slots i old → new.width ≡ old.width
    → map (λ slot. slot.width) (set slots i new) ≡ map (λ slot. slot.width) slots
change-width slots i old new is same =
    map-set_same (λ slot. slot.width) slots i new old (same ∙ ap (λ (slot : Slot). slot.width) is)

pub change-now : (slots : List Slot) (i : ℕ) (old new : Slot) (digits : List ℕ) (r : Result Unit AllocError)
    → i < length slots → old ≡ get_or slots i old → OnOk r (new.digits.items ≡ extended old.width digits)
    → OnOk r (map (λ slot. slot.digits.items) (set slots i new)
    ≡ set_extended (map (λ slot. slot.width) slots) (map (λ slot. slot.digits.items) slots) i digits)
change-now slots i old new digits (Err fault) inside is does = tt
change-now slots i old new digits (Ok done) inside is does =
    let width : get_or (map (λ (slot : Slot). slot.width) slots) i 0 ≡ old.width =
    width-at slots i old inside ∙ ap (λ (slot : Slot). slot.width) (sym is) in
    map-set (λ slot. slot.digits.items) slots i new
    ∙ ap (λ (value : List ℕ). set (map (λ (slot : Slot). slot.digits.items) slots) i value)
    (does ∙ ap (λ (w : ℕ). extended w digits) (sym width))
  where
    width-at : (xs : List Slot) (k : ℕ) (d : Slot) → k < length xs
        → get_or (map (λ (slot : Slot). slot.width) xs) k 0 ≡ (get_or xs k d).width
    width-at [] k d h = absurd (omega (arith, h))
    width-at (x ∷ xs) zero d h = refl
    width-at (x ∷ xs) (suc k) d h = width-at xs k d (omega (arith, h))
