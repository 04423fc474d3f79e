-- A window that is put a part at a time.
use Rattle.std.proofs.Common.{◌≡◌, ℕ, ◌+◌, ◌≤◌, List, [], ◌∷◌, ◌++◌, length, take, drop, Option, unwrap_or, refl, sym, ap, ◌∙◌, arith}
use Rattle.std.proofs.lemmas.List.{append_assoc, append-nil, length-append, take-append-drop, drop-drop, length-take-le, length-drop}
use Rattle.std.proofs.Common.{take-add}
use Rattle.tl_types.proofs.Zipped.{zipped_length}
use Rattle.tl_ops.specs.Store.{with_window}
use Rattle.tl_ops.specs.Window.{merged}
use Rattle.tl_ops.proofs.LaneLists.{middle, middle_replaced}

pub length-merged : (old : List ℕ) (given : List (Option ℕ)) → length given ≡ length old
    → length (merged old given) ≡ length old
length-merged old given paired = zipped_length _ old given paired

merged-append : (xs ys : List ℕ) (gs hs : List (Option ℕ)) → length gs ≡ length xs
    → merged (xs ++ ys) (gs ++ hs) ≡ merged xs gs ++ merged ys hs
merged-append [] ys [] hs paired = refl
merged-append [] ys (g ∷ gs) hs paired = absurd (omega (arith, paired))
merged-append (x ∷ xs) ys [] hs paired = absurd (omega (arith, paired))
merged-append (x ∷ xs) ys (g ∷ gs) hs paired =
    ap (λ bytes. unwrap_or g x ∷ bytes) (merged-append xs ys gs hs (omega (arith, paired)))

pub with_window-none : (bytes : List ℕ) (start : ℕ) → with_window bytes start [] ≡ bytes
with_window-none bytes start =
    let e : start + 0 ≡ start = omega arith in
    rw (append-nil, e) (take-append-drop start bytes)

-- a list in four parts: before a window, its first m bytes, the next n, and what follows
four_parts : (bytes : List ℕ) (start m n : ℕ)
    → bytes ≡ take start bytes ++ (take m (drop start bytes)
    ++ (take n (drop (start + m) bytes) ++ drop (start + m + n) bytes))
four_parts bytes start m n =
    let third = sym (take-append-drop n (drop (start + m) bytes))
    ∙ ap (λ rest. take n (drop (start + m) bytes) ++ rest) (drop-drop n (start + m) bytes) in
    let second = sym (take-append-drop m (drop start bytes))
    ∙ ap (λ rest. take m (drop start bytes) ++ rest) (drop-drop m start bytes ∙ third) in
    sym (take-append-drop start bytes) ∙ ap (λ rest. take start bytes ++ rest) second

-- a put of the first m bytes, and then of the next n, is a put of both
pub window_grows : (bytes : List ℕ) (start m n : ℕ) (given : List (Option ℕ)) → start + (m + n) ≤ length bytes
    → m + n ≤ length given
    → (let first = with_window bytes start (merged (take m (drop start bytes)) (take m given)) in
    with_window first (start + m) (merged (take n (drop (start + m) first)) (take n (drop m given))))
    ≡ with_window bytes start (merged (take (m + n) (drop start bytes)) (take (m + n) given))
window_grows bytes start m n given inside enough =
    let a = take start bytes in
    let b = take m (drop start bytes) in
    let c = take n (drop (start + m) bytes) in
    let d = drop (start + m + n) bytes in
    let new_b = merged b (take m given) in
    let new_c = merged c (take n (drop m given)) in
    let a_long : length a ≡ start = length-take-le start bytes (omega (arith, inside)) in
    let b_long : length b ≡ m = length-take-le m (drop start bytes) (omega (arith, inside, length-drop start bytes)) in
    let c_long : length c ≡ n =
    length-take-le n (drop (start + m) bytes) (omega (arith, inside, length-drop (start + m) bytes)) in
    let first_given : length (take m given) ≡ length b =
    omega (arith, b_long, length-take-le m given (omega (arith, enough))) in
    let next_given : length (take n (drop m given)) ≡ length c =
    omega (arith, c_long, length-take-le n (drop m given) (omega (arith, enough, length-drop m given))) in
    let b_kept : length new_b ≡ length b = length-merged b (take m given) first_given in
    let c_kept : length new_c ≡ length c = length-merged c (take n (drop m given)) next_given in
    let front : length (a ++ new_b) ≡ start + m = length-append a new_b ∙ omega (arith, a_long, b_kept, b_long) in
    let parts = four_parts bytes start m n in
    let first = with_window bytes start new_b in
    let first_is : first ≡ (a ++ new_b) ++ (c ++ d) =
    ap (λ bs. with_window bs start new_b) parts ∙ middle_replaced a b (c ++ d) new_b start a_long b_kept
    ∙ sym (append_assoc a new_b (c ++ d)) in
    let next_is : take n (drop (start + m) first) ≡ c =
    ap (λ bs. take n (drop (start + m) bs)) first_is ∙ middle (a ++ new_b) c d (start + m) n front c_long in
    let whole : bytes ≡ a ++ ((b ++ c) ++ d) = parts ∙ ap (λ rest. a ++ rest) (sym (append_assoc b c d)) in
    let both : take (m + n) (drop start bytes) ≡ b ++ c =
    take-add m n (drop start bytes) ∙ ap (λ rest. b ++ take n rest) (drop-drop m start bytes) in
    let new_both : merged (take (m + n) (drop start bytes)) (take (m + n) given) ≡ new_b ++ new_c =
    ap (λ old. merged old (take (m + n) given)) both ∙ ap (λ gs. merged (b ++ c) gs) (take-add m n given)
    ∙ merged-append b c (take m given) (take n (drop m given)) first_given in
    let long_both : length (new_b ++ new_c) ≡ length (b ++ c) =
    omega (arith, length-append new_b new_c, length-append b c, b_kept, c_kept) in
    let regrouped : (a ++ new_b) ++ (new_c ++ d) ≡ a ++ ((new_b ++ new_c) ++ d) = simp append_assoc in
    ap (λ old. with_window first (start + m) (merged old (take n (drop m given)))) next_is
    ∙ ap (λ bs. with_window bs (start + m) new_c) first_is
    ∙ middle_replaced (a ++ new_b) c d new_c (start + m) front c_kept
    ∙ regrouped
    ∙ sym (middle_replaced a (b ++ c) d (new_b ++ new_c) start a_long long_both)
    ∙ ap (λ bs. with_window bs start (new_b ++ new_c)) (sym whole)
    ∙ ap (λ new. with_window bytes start new) (sym new_both)

-- a byte put after the first ones, where a zero stood
pub byte_put : (front done rest : List ℕ) (was byte place : ℕ) → length (front ++ done) ≡ place
    → with_window (front ++ (done ++ (was ∷ rest))) place (byte ∷ []) ≡ front ++ ((done ++ byte ∷ []) ++ rest)
byte_put front done rest was byte place at =
    let grouped : front ++ (done ++ (was ∷ rest)) ≡ (front ++ done) ++ ((was ∷ []) ++ rest) =
    sym (append_assoc front done (was ∷ rest)) in
    let regrouped : (front ++ done) ++ ((byte ∷ []) ++ rest) ≡ front ++ ((done ++ byte ∷ []) ++ rest) =
    simp append_assoc in
    ap (λ bs. with_window bs place (byte ∷ [])) grouped
    ∙ middle_replaced (front ++ done) (was ∷ []) rest (byte ∷ []) place at refl
    ∙ regrouped
