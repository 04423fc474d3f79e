-- A text that is fed in two parts.
use Rattle.std.proofs.Common.{◌≡◌, ℕ, ◌+◌, ◌-◌, ◌<◌, ◌≤◌, Bool, true, false, List, ◌++◌, take, drop, length, slice_range, sym, ap, ◌∙◌, subst, arith, append_assoc, length-drop, take-add, take-append-drop}
use Rattle.std.proofs.lemmas.List.{take_all}
use Rattle.check_records.specs.Draft.{EndsWith, FeedsTo, DraftGoesOn, Partial, full_size, partial}
use Rattle.check_records.specs.declared.draft.Draft.{Draft}
use Rattle.check_records.specs.declared.draft.Fed.{Fed}
use Rattle.check_records.specs.declared.draft.TheConstants.{MAX_ROW}
use Rattle.check_records.proofs.DraftLemmas.{ends-behind, goes-trans}
use Rattle.csv.specs.Records.{fields_of}

-- the second part
pub part-behind : (text : List ℕ) (n : ℕ) → n ≤ length text → slice_range text n (length text) ≡ drop n text
part-behind text n inside = take_all (length text - n) (drop n text) (omega (arith, length-drop n text))

-- the second part ends the record, or it goes on
pub feeds-on : (old mid new : Draft) (text : List ℕ) (n : ℕ) (rest whole : Fed) (ended : Bool) → n ≤ length text
    → DraftGoesOn (partial old) (take n text) (partial mid) → FeedsTo mid (drop n text) new rest ended
    → whole.taken ≡ n + rest.taken
    → FeedsTo old text new whole ended
feeds-on old mid new text n rest whole true inside on feeds sum = (
  feeds.0,
  subst (λ (xs : List ℕ). EndsWith (partial old) xs (fields_of new.columns) feeds.0)
      (sym (ap (λ (count : ℕ). take count text) sum ∙ take-add n rest.taken text))
      (ends-behind (partial old) (partial mid) (take n text) (take rest.taken (drop n text)) (fields_of new.columns)
      feeds.0 on feeds.1),
  feeds.2,
)
feeds-on old mid new text n rest whole false inside on feeds sum =
    let all = feeds.0 in (
      omega (arith, all, sum, length-drop n text),
      subst (λ (xs : List ℕ). DraftGoesOn (partial old) xs (partial new)) (take-append-drop n text)
          (goes-trans (partial old) (partial mid) (partial new) (take n text) (drop n text) on feeds.1),
      feeds.2,
    )

-- the second part makes it too long
pub long-on : (o p : Partial) (text : List ℕ) (n : ℕ) → DraftGoesOn o (take n text) p
    → ((rest : List ℕ) → MAX_ROW < full_size p (drop n text ++ rest))
    → (rest : List ℕ) → MAX_ROW < full_size o (text ++ rest)
long-on o p text n on long rest =
    let parts : take n text ++ (drop n text ++ rest) ≡ text ++ rest =
    sym (append_assoc (take n text) (drop n text) rest)
    ∙ ap (λ (xs : List ℕ). xs ++ rest) (take-append-drop n text) in
    subst (λ (xs : List ℕ). MAX_ROW < full_size o xs) parts
    (subst (λ (size : ℕ). MAX_ROW < size) (sym (on.size (drop n text ++ rest))) (long rest))
