-- Bins, as they are counted.
use Rattle.std.proofs.Common.{◌≡◌, ◌∙◌, ℕ, ◌+◌, ◌<◌, Bool, true, false, cond, List, [], ◌∷◌, ◌++◌, Some, BTreeMap, refl, ap, sym, subst, arith}
use Rattle.std.specs.Prelude.{if◌then◌else◌, unwrap_or, Result, Ok, Err, OnErr, OnOk, All}
use Rattle.std.specs.Ordering.{is_eq}
use Rattle.std.specs.BTreeMap.{IsUnchanged, Updates, get, get_by, insert_entry, values}
use Rattle.std.specs.Map.{values_of}
use Rattle.std.proofs.lemmas.Map.Views.{All-values-insert_entry}
use Rattle.std.specs.Cmp.{Equal-is, IsTotalOrder}
use Rattle.std.specs.declared.cmp.Ordering.{Ordering}
use Rattle.std.specs.declared.cmp.Ordering.TheVariants.{Equal}
use Rattle.check_bins.specs.contracts.bin.BinOrd.TheImpl.Laws.{total-law}
use Rattle.check_bins.specs.declared.bin.Bin.{Bin}
use Rattle.check_bins.specs.declared.counts.Counts.{Counts}
use Rattle.check_bins.specs.Counting.{Adds, bin_cmp, capped, how_often}

pub how_often-append : (bin : Bin) (xs ys : List Bin) → how_often bin (xs ++ ys) ≡ how_often bin xs + how_often bin ys
how_often-append bin [] ys = omega arith
how_often-append bin (x ∷ xs) ys = go (is_eq (bin_cmp x bin)) (how_often-append bin xs ys)
  where
    go : (b : Bool) → how_often bin (xs ++ ys) ≡ how_often bin xs + how_often bin ys
        → (if b then how_often bin (xs ++ ys) + 1 else how_often bin (xs ++ ys))
        ≡ (if b then how_often bin xs + 1 else how_often bin xs) + how_often bin ys
    go true rest = omega (arith, rest)
    go false rest = rest

pub adds_none : (counts : Counts) → Adds counts counts []
adds_none counts bin n is = let e : n ≡ n + 0 = omega arith in is ∙ ap capped e

pub adds_then : (old mid new : Counts) (xs ys : List Bin) → Adds old mid xs → Adds mid new ys → Adds old new (xs ++ ys)
adds_then old mid new xs ys first second bin n is =
    let e : n + how_often bin xs + how_often bin ys ≡ n + how_often bin (xs ++ ys) =
    (let h = how_often-append bin xs ys in omega (arith, h)) in
    second bin (n + how_often bin xs) (first bin n is) ∙ ap capped e

-- ---- one bin more

abbrev pub count_in : BTreeMap Bin ℕ → Bin → ℕ
count_in counts bin = unwrap_or (get bin_cmp counts bin) 0

-- bins that are the same have the same count
pub bins_total : IsTotalOrder bin_cmp
unfolding bin_cmp
bins_total = total-law

same_count : (counts : BTreeMap Bin ℕ) (one other : Bin) → is_eq (bin_cmp one other) ≡ true
    → count_in counts one ≡ count_in counts other
same_count counts one other same =
    let equal : bin_cmp one other ≡ Equal = (Equal-is (bin_cmp one other)).0 same in
    ap (λ (f : Bin → Ordering). unwrap_or (get_by f counts) 0) (λ i k. bins_total.congr one other k equal i)

pub adds_one : (old new : BTreeMap Bin ℕ) (bin : Bin) (count : ℕ) → Updates bin_cmp old new bin (Some count)
    → count ≡ capped (count_in old bin + 1) → (other : Bin) (before : ℕ) → count_in old other ≡ capped before
    → count_in new other ≡ capped (before + how_often other (bin ∷ []))
adds_one old new bin count updates is other n before = go (is_eq (bin_cmp bin other)) refl
  where
    get_is : (b : Bool) → is_eq (bin_cmp bin other) ≡ b
        → count_in new other ≡ unwrap_or (cond b (Some count) (get bin_cmp old other)) 0
    get_is b same =
        ap (λ o. unwrap_or o 0) (updates.0 other)
        ∙ ap (λ t. unwrap_or (cond t (Some count) (get bin_cmp old other)) 0) same

    often_is : (b : Bool) → is_eq (bin_cmp bin other) ≡ b → how_often other (bin ∷ []) ≡ (if b then 0 + 1 else 0)
    often_is b same = ap (λ t. if t then 0 + 1 else 0) same

    go : (b : Bool) → is_eq (bin_cmp bin other) ≡ b → count_in new other ≡ capped (n + how_often other (bin ∷ []))
    go true same =
        let was : count_in old bin ≡ capped n = same_count old bin other same ∙ before in
        let sum : capped (count_in old bin + 1) ≡ capped (n + (0 + 1)) = omega (arith, was) in
        get_is true same ∙ is ∙ sum ∙ ap (λ k. capped (n + k)) (sym (often_is true same))
    go false same =
        let none : n ≡ n + 0 = omega arith in
        get_is false same ∙ before ∙ ap capped none ∙ ap (λ k. capped (n + k)) (sym (often_is false same))

-- ---- what a call that may fail counts

pub adds_ok : {E : Type 0} (old mid new : Counts) (xs ys : List Bin) (r : Result (Unit {0}) E) → Adds old mid xs
    → OnOk r (Adds mid new ys) → OnOk r (Adds old new (xs ++ ys))
adds_ok old mid new xs ys (Ok done) first second = adds_then old mid new xs ys first second
adds_ok old mid new xs ys (Err fault) first second = tt

-- ---- a bin that is kept occurred

pub stays_some : {E V : Type 0} (cmp : Bin → Bin → Ordering) (old new : BTreeMap Bin ℕ) (bin : Bin) (count : ℕ)
    (r : Result V E) → All (λ (n : ℕ). 0 < n) (values old) → 0 < count
    → OnOk r (new.entries ≡ insert_entry cmp old.entries bin count) → OnErr r (IsUnchanged old new)
    → All (λ (n : ℕ). 0 < n) (values new)
stays_some cmp old new bin count (Ok done) all some entries same =
    subst (λ (es : List (Bin × ℕ)). All (λ (n : ℕ). 0 < n) (values_of es)) (sym entries)
    (All-values-insert_entry cmp bin count (λ (n : ℕ). 0 < n) old.entries all some)
stays_some cmp old new bin count (Err fault) all some entries same =
    subst (λ (es : List (Bin × ℕ)). All (λ (n : ℕ). 0 < n) (values_of es)) (sym same) all
