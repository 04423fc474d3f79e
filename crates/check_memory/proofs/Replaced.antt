-- Cells of which a window is replaced, place by place.
use Rattle.std.proofs.Common.{◌≡◌, ◌∙◌, ◌⊎◌, inl, inr, ⊎_elim, ℕ, ◌+◌, ◌-◌, ◌<◌, ◌≤◌, List, ◌++◌, length, take, drop, get_or, Option, None, sym, ap, arith}
use Rattle.std.proofs.lemmas.List.{ext_get_or, length-take-le, length-drop, length-append, get_or-take, get_or-drop, get_or_append_left, get_or-append_right}
use Rattle.std.proofs.lemmas.Bool.{cases_lt}
use Rattle.check_memory.specs.Known.{replaced}

pub length-replaced : (cells new : List (Option ℕ)) (start : ℕ) → start + length new ≤ length cells
    → length (replaced cells start new) ≡ length cells
length-replaced cells new start inside =
    length-append (take start cells ++ new) (drop (start + length new) cells)
    ∙ omega (
      arith,
      length-append (take start cells) new,
      length-take-le start cells (omega (arith, inside)),
      length-drop (start + length new) cells,
      inside,
    )

pub get_or-replaced_in : (cells new : List (Option ℕ)) (start k : ℕ) → start + length new ≤ length cells
    → k < length new → get_or (replaced cells start new) (start + k) None ≡ get_or new k None
get_or-replaced_in cells new start k inside below =
    let front : length (take start cells) ≡ start = length-take-le start cells (omega (arith, inside)) in
    let both : length (take start cells ++ new) ≡ start + length new = length-append (take start cells) new
    ∙ omega (arith, front) in
    let e : start + k - start ≡ k = omega arith in
    get_or_append_left (take start cells ++ new) (drop (start + length new) cells) None (start + k)
    (omega (arith, both, below))
    ∙ get_or-append_right (take start cells) new start (start + k) None front (omega arith)
    ∙ ap (λ i. get_or new i None) e

pub get_or-replaced_out : (cells new : List (Option ℕ)) (start a : ℕ) → start + length new ≤ length cells
    → (a < start) ⊎ (start + length new ≤ a) → get_or (replaced cells start new) a None ≡ get_or cells a None
get_or-replaced_out cells new start a inside (inl before) =
    let front : length (take start cells) ≡ start = length-take-le start cells (omega (arith, inside)) in
    let both : length (take start cells ++ new) ≡ start + length new = length-append (take start cells) new
    ∙ omega (arith, front) in
    get_or_append_left (take start cells ++ new) (drop (start + length new) cells) None a (omega (arith, both, before))
    ∙ get_or_append_left (take start cells) new None a (omega (arith, front, before))
    ∙ get_or-take start cells a None before
get_or-replaced_out cells new start a inside (inr past) =
    let front : length (take start cells) ≡ start = length-take-le start cells (omega (arith, inside)) in
    let both : length (take start cells ++ new) ≡ start + length new = length-append (take start cells) new
    ∙ omega (arith, front) in
    let e : start + length new + (a - (start + length new)) ≡ a = omega (arith, past) in
    get_or-append_right (take start cells ++ new) (drop (start + length new) cells)
    (start + length new) a None both past
    ∙ get_or-drop (start + length new) cells (a - (start + length new)) None ∙ ap (λ i. get_or cells i None) e

-- cells that are told place by place
pub replaced_by_places : (cells left new : List (Option ℕ)) (start : ℕ) → start + length new ≤ length cells
    → length left ≡ length cells
    → ((j : ℕ) → j < length new → get_or left (start + j) None ≡ get_or new j None)
    → ((place : ℕ) → (place < start) ⊎ (start + length new ≤ place) → get_or left place None ≡ get_or cells place None)
    → left ≡ replaced cells start new
replaced_by_places cells left new start inside long here there =
    ext_get_or None left (replaced cells start new) (long ∙ sym (length-replaced cells new start inside))
    (λ place below. ⊎_elim
    (λ before. out place (inl before))
    (λ from. ⊎_elim
    (λ (in_window : place < start + length new).
    let e : start + (place - start) ≡ place = omega (arith, from) in
    let in' : place - start < length new = omega (arith, from, in_window) in
    ap (λ p. get_or left p None) (sym e) ∙ here (place - start) in'
    ∙ sym (get_or-replaced_in cells new start (place - start) inside in')
    ∙ ap (λ p. get_or (replaced cells start new) p None) e)
    (λ past. out place (inr past))
    (cases_lt place (start + length new)))
    (cases_lt place start))
  where
    out : (place : ℕ) → (place < start) ⊎ (start + length new ≤ place)
        → get_or left place None ≡ get_or (replaced cells start new) place None
    out place beside = there place beside ∙ sym (get_or-replaced_out cells new start place inside beside)
