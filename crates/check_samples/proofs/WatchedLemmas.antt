-- Domains that are noted one after the other.
use Rattle.std.proofs.Common.{◌≡◌, ◌∙◌, ℕ, zero, suc, ◌+◌, ◌<◌, false, List, [], ◌∷◌, ◌++◌, drop, get_or, length, map, set, take, Option, None, Some, is_some, ap, arith, refl, sym}
use Rattle.std.specs.List.{list_any}
use Rattle.check_samples.specs.Rows.{Dues, Rows, and_then, due_at, no_rows, rows_due, rows_of}
use Rattle.check_samples.specs.Sampling.{Sampling, beat_rows, dues_of}
use Rattle.check_samples.specs.declared.channel.Channel.{Channel}
use Rattle.check_samples.specs.declared.edges.Needs.{Needs}

module _ {A B C : Type 0} (made : A → C) (view : A → B) where
  -- what is made of those so far, and of those to come by their places
  abbrev pub noting : (ℕ → List B → List C) → ℕ → ℕ → List A → List C
  noting after place k xs = map made (take k xs) ++ after place (map view (drop k xs))

  -- it is the same after the one at a place became another
  noted-more : (after : ℕ → List B → List C) (on : ℕ → B → C)
      → ((place : ℕ) (b : B) (bs : List B) → after place (b ∷ bs) ≡ on place b ∷ after (place + 1) bs)
      → (xs : List A) (k place : ℕ) (d new : A) → k < length xs → made new ≡ on place (view (get_or xs k d))
      → noting after (place + 1) (suc k) (set xs k new) ≡ noting after place k xs
  noted-more after on step [] k place d new inside is = absurd (omega (arith, inside))
  noted-more after on step (x ∷ xs) zero place d new inside is =
      ap (λ (c : C). c ∷ after (place + 1) (map view xs)) is ∙ sym (step place (view x) (map view xs))
  noted-more after on step (x ∷ xs) (suc k) place d new inside is =
      ap (λ (cs : List C). made x ∷ cs) (noted-more after on step xs k place d new (omega (arith, inside)) is)

  pub noted : (after : ℕ → List B → List C) (on : ℕ → B → C)
      → ((place : ℕ) (b : B) (bs : List B) → after place (b ∷ bs) ≡ on place b ∷ after (place + 1) bs)
      → (xs : List A) (k : ℕ) (d new : A) → k < length xs → made new ≡ on k (view (get_or xs k d))
      → noting after (k + 1) (k + 1) (set xs k new) ≡ noting after k k xs
  noted after on step xs k d new inside is =
      ap (λ (n : ℕ). noting after (k + 1) n (set xs k new)) (let e : k + 1 ≡ suc k = omega arith in e)
      ∙ noted-more after on step xs k k d new inside is

-- ---- nothing is due

no-due : (dues : Dues) (place : ℕ) → list_any (λ due. is_some due) dues ≡ false → due_at dues place ≡ None
no-due [] place none = refl
no-due (None ∷ dues) zero none = refl
no-due (None ∷ dues) (suc place) none = no-due dues place none
no-due (Some needs ∷ dues) place none = absurd (cc)

pub rows-none : (dues : Dues) (time : ℕ) (values : List (List ℕ)) (channels : List Channel)
    → list_any (λ due. is_some due) dues ≡ false → rows_of dues time values channels ≡ no_rows
rows-none dues time values [] none = refl
rows-none dues time values (channel ∷ channels) none =
    ap (λ (due : Option Needs). and_then (rows_due due time values channel) (rows_of dues time values channels))
    (no-due dues channel.domain none)
    ∙ ap (λ (rest : Rows). and_then no_rows rest) (rows-none dues time values channels none)

pub rows-idle : (s : Sampling) (time : ℕ) → list_any (λ due. is_some due) (dues_of s.before s.now s.watched) ≡ false
    → beat_rows time s ≡ no_rows
rows-idle s time none = rows-none (dues_of s.before s.now s.watched) time s.before s.channels none
