-- What a page shows after its words and masks are written.
use Rattle.std.proofs.Common.{◌≡◌, ◌∙◌, ◌⊎◌, inl, inr, ⊎_elim, ℕ, zero, suc, ◌+◌, ◌*◌, ◌/◌, ◌%◌, ◌<◌, ◌≤◌, Bool, true, false, ◌||◌, slice_index, List, [], ◌∷◌, ◌++◌, length, take, drop, set, get_or, map, replicate, Option, Some, None, unwrap_or, refl, sym, ap, arith}
use Rattle.std.specs.List.{zip}
use Rattle.std.specs.Int.{bit_at}
use Rattle.std.proofs.lemmas.List.{append_assoc, length-map, length-take-le, length-drop, get_or-take, get_or-drop, set_split, get_or-replicate}
use Rattle.tl_types.specs.Bytes.{bit_in, given_byte, given_in, bytes_of_words}
use Rattle.tl_types.proofs.Given.{given_in-same, given_in-all, length-given_in, bit_in-lt}
use Rattle.tl_types.specs.declared.operation.AskOp.{AskOp}
use Rattle.tl_types.specs.declared.operation.AskOp.TheVariants.{PutFull, PutPartial, Arithmetic, Logical, Get, Intent}
use Rattle.tl_types.specs.declared.operation.Logic.TheVariants.{Xor, Or, And, Swap}
use Rattle.tl_ops.specs.Store.{with_window}
use Rattle.tl_ops.specs.Window.{merged, new_window, operand_of, combine_arith, combine_logic}
use Rattle.tl_ops.specs.Cell.{lanes_of}
use Rattle.tl_ops.specs.declared.kind.Kind.{Kind}
use Rattle.tl_ops.specs.declared.kind.Kind.TheVariants.{Ram, ClearRegs}
use Rattle.tl_ops.proofs.Kept.{length-new_window}
use Rattle.check_memory.specs.Known.{known, all_known, replaced}
use Rattle.check_memory.specs.Cells.{put_cell, put_cells, clear_cell, combined, new_cells, is_atomic, is_swap}
use Rattle.check_memory.specs.Place.{given_bit, known_bit, fill_of}
use Rattle.check_cells.proofs.Lanes.{window-given_in, bytes_of-words, filled, filled_bits}
use Rattle.check_cells.proofs.Written.{written}
use Rattle.check_memory.proofs.Wholeness.{known-new}
use Rattle.check_memory.proofs.Soundness.{swapped}

-- ---- read

pub bit_in-part : (masks : List ℕ) (first count start k : ℕ) → start ≡ 8 * first → k < 8 * count
    → bit_in (take count (drop first masks)) k ≡ bit_in masks (start + k)
unfolding bit_in
bit_in-part masks first count start k at below =
    let word : (start + k) / 8 ≡ first + k / 8 = omega (arith, at) in
    let lane : (start + k) % 8 ≡ k % 8 = omega (arith, at) in
    rw (word, lane) (ap (λ m. bit_at m (k % 8)) (get_or-take count (drop first masks) (k / 8) 0 (omega (arith, below))
    ∙ get_or-drop first masks (k / 8) 0))

pub words_shown : (masks lanes words : List ℕ) (start first count : ℕ) → start ≡ 8 * first
    → start + 8 * count ≤ length lanes → bytes_of_words words ≡ take (8 * count) (drop start lanes)
    → given_in (bit_in (take count (drop first masks))) (lanes_of words)
    ≡ take (8 * count) (drop start (given_in (bit_in masks) lanes))
words_shown masks lanes words start first count at inside bytes =
    let is : lanes_of words ≡ take (8 * count) (drop start lanes) = sym (bytes_of-words words) ∙ bytes in
    let wide : length (take (8 * count) (drop start lanes)) ≡ 8 * count =
    length-take-le (8 * count) (drop start lanes) (omega (arith, inside, length-drop start lanes)) in
    ap (given_in (bit_in (take count (drop first masks)))) is
    ∙ given_in-same (bit_in (take count (drop first masks))) (λ k. bit_in masks (start + k))
    (take (8 * count) (drop start lanes))
    (λ k below. bit_in-part masks first count start k at (omega (arith, below, wide)))
    ∙ sym (window-given_in (bit_in masks) start (8 * count) lanes)

-- ---- puts

pub given_merged : (bits bits' : ℕ → ℕ) (old : List ℕ) (given : List (Option ℕ)) → length given ≡ length old
    → ((k : ℕ) → k < length given → bits' k ≡ given_bit (bits k) (get_or given k None))
    → given_in bits' (merged old given) ≡ map (λ pair. put_cell pair.0 pair.1) (zip (given_in bits old) given)
given_merged bits bits' [] [] paired are = refl
given_merged bits bits' [] (g ∷ given) paired are = absurd (omega (arith, paired))
given_merged bits bits' (byte ∷ old) [] paired are = absurd (omega (arith, paired))
given_merged bits bits' (byte ∷ old) (None ∷ given) paired are =
    ap (λ b. given_byte b byte ∷ given_in (λ k. bits' (suc k)) (merged old given)) (are 0 (omega arith))
    ∙ ap (λ cells. given_byte (bits 0) byte ∷ cells)
    (given_merged (λ k. bits (suc k)) (λ k. bits' (suc k)) old given (omega (arith, paired))
    (λ k below. are (suc k) (omega (arith, below))))
given_merged bits bits' (byte ∷ old) (Some new ∷ given) paired are =
    ap (λ b. given_byte b new ∷ given_in (λ k. bits' (suc k)) (merged old given)) (are 0 (omega arith))
    ∙ ap (λ cells. Some new ∷ cells)
    (given_merged (λ k. bits (suc k)) (λ k. bits' (suc k)) old given (omega (arith, paired))
    (λ k below. are (suc k) (omega (arith, below))))

pub length-merged' : (old : List ℕ) (given : List (Option ℕ)) → length given ≡ length old
    → length (merged old given) ≡ length old
length-merged' old given paired = length-new_window Ram PutPartial old given paired

pub put_shown : (masks masks' lanes : List ℕ) (start : ℕ) (given : List (Option ℕ))
    → start + length given ≤ length lanes
    → ((k : ℕ) → k < length given
    → bit_in masks' (start + k) ≡ given_bit (bit_in masks (start + k)) (get_or given k None))
    → ((place : ℕ) → (place < start) ⊎ (start + length given ≤ place) → bit_in masks' place ≡ bit_in masks place)
    → given_in (bit_in masks') (with_window lanes start (merged (take (length given) (drop start lanes)) given))
    ≡ replaced (given_in (bit_in masks) lanes) start
    (map (λ pair. put_cell pair.0 pair.1)
    (zip (take (length given) (drop start (given_in (bit_in masks) lanes))) given))
put_shown masks masks' lanes start given inside are outside =
    let n = length given in
    let old = take n (drop start lanes) in
    let wide : n ≡ length old = sym
    (length-take-le n (drop start lanes) (omega (arith, inside, length-drop start lanes))) in
    let long : length (merged old given) ≡ n = length-merged' old given wide ∙ sym wide in
    let window = window-given_in (bit_in masks) start n lanes in
    written masks masks' lanes start (merged old given) _ (omega (arith, long, inside))
    (given_merged (λ k. bit_in masks (start + k)) (λ k. bit_in masks' (start + k)) old given wide are
    ∙ ap (λ cells. map (λ pair. put_cell pair.0 pair.1) (zip cells given)) (sym window))
    (λ place where_. outside place (rw long at where_))

-- one byte
pub byte_shown : (masks masks' lanes : List ℕ) (place byte : ℕ) → place < length lanes → bit_in masks' (place + 0) ≡ 1
    → ((other : ℕ) → (other < place) ⊎ (place + 1 ≤ other) → bit_in masks' other ≡ bit_in masks other)
    → given_in (bit_in masks') (with_window lanes place (byte ∷ []))
    ≡ set (given_in (bit_in masks) lanes) place (Some byte)
byte_shown masks masks' lanes place byte within is outside =
    let cells = given_in (bit_in masks) lanes in
    let next : place + 1 ≡ suc place = omega arith in
    written masks masks' lanes place (byte ∷ []) (Some byte ∷ []) (omega (arith, within))
    (ap (λ b. given_byte b byte ∷ []) is) outside
    ∙ append_assoc (take place cells) (Some byte ∷ []) (drop (place + 1) cells)
    ∙ ap (λ n. take place cells ++ (Some byte ∷ drop n cells)) next
    ∙ sym (set_split cells place (Some byte) (omega (arith, within, length-given_in (bit_in masks) lanes)))

-- ---- atomics

given_none : (bits : ℕ → ℕ) (bytes : List ℕ) → ((k : ℕ) → k < length bytes → bits k ≡ 0)
    → given_in bits bytes ≡ replicate (length bytes) None
given_none bits [] are = refl
given_none bits (byte ∷ bytes) are =
    ap (λ b. given_byte b byte ∷ given_in (λ k. bits (suc k)) bytes) (are 0 (omega arith))
    ∙ ap (λ cells. None ∷ cells) (given_none (λ k. bits (suc k)) bytes
    (λ k below. are (suc k) (omega (arith, below))))

bit_set : (bit byte : ℕ) (cells : List (Option ℕ)) → bit < 2 → all_known (given_byte bit byte ∷ cells) ≡ true
    → (bit ≡ 1) × (all_known cells ≡ true)
bit_set zero byte cells small all = cc
bit_set (suc zero) byte cells small all = (refl, all)
bit_set (suc (suc bit)) byte cells small all = absurd (omega (arith, small))

-- where all bytes are known all bits are set
pub bits_of_known : (bits : ℕ → ℕ) (bytes : List ℕ) → ((k : ℕ) → bits k < 2) → all_known (given_in bits bytes) ≡ true
    → (k : ℕ) → k < length bytes → bits k ≡ 1
bits_of_known bits [] small all k below = absurd (omega (arith, below))
bits_of_known bits (byte ∷ bytes) small all zero below =
    (bit_set (bits 0) byte (given_in (λ k. bits (suc k)) bytes) (small 0) all).0
bits_of_known bits (byte ∷ bytes) small all (suc k) below =
    bits_of_known (λ k. bits (suc k)) bytes (λ k. small (suc k))
    (bit_set (bits 0) byte (given_in (λ k. bits (suc k)) bytes) (small 0) all).1 k (omega (arith, below))

-- an atomic on a window that is not wholly known leaves it unknown, but a swap
combined_unknown : (combine : List ℕ → List ℕ → List ℕ) (old given : List (Option ℕ)) → all_known old ≡ false
    → combined combine old given ≡ replicate (length old) None
combined_unknown combine old given is = rw is refl

pub unknown_left : (op : AskOp) (old given : List (Option ℕ)) → is_atomic op ≡ true → is_swap op ≡ false
    → all_known old ≡ false → new_cells Ram op old given ≡ replicate (length old) None
unknown_left PutFull old given atomic swap is = cc
unknown_left PutPartial old given atomic swap is = cc
unknown_left (Arithmetic op) old given atomic swap is = combined_unknown (combine_arith op) old given is
unknown_left (Logical Xor) old given atomic swap is = combined_unknown (combine_logic Xor) old given is
unknown_left (Logical Or) old given atomic swap is = combined_unknown (combine_logic Or) old given is
unknown_left (Logical And) old given atomic swap is = combined_unknown (combine_logic And) old given is
unknown_left (Logical Swap) old given atomic swap is = cc
unknown_left Get old given atomic swap is = cc
unknown_left (Intent _) old given atomic swap is = cc

pub swap_left : (op : AskOp) (old : List (Option ℕ)) (bytes : List ℕ) (given : List (Option ℕ)) → is_swap op ≡ true
    → length given ≡ length bytes → new_cells Ram op old given ≡ known (new_window Ram op bytes given)
swap_left PutFull old bytes given swap long = cc
swap_left PutPartial old bytes given swap long = cc
swap_left (Arithmetic op) old bytes given swap long = cc
swap_left (Logical Xor) old bytes given swap long = cc
swap_left (Logical Or) old bytes given swap long = cc
swap_left (Logical And) old bytes given swap long = cc
swap_left (Logical Swap) old bytes given swap long =
    ap known (sym (swapped bytes (operand_of given) (length-map given (λ b. unwrap_or b 0) ∙ long)))
swap_left Get old bytes given swap long = cc
swap_left (Intent _) old bytes given swap long = cc

-- what a window shows after an atomic, by whether its bytes are marked as known
new_shown : (op : AskOp) (bits bits' : ℕ → ℕ) (old : List ℕ) (given : List (Option ℕ)) (marked whole : Bool)
    → length given ≡ length old → is_atomic op ≡ true
    → ((k : ℕ) → k < length old → bits' k ≡ known_bit marked)
    → (whole ≡ true → (k : ℕ) → k < length old → bits k ≡ 1)
    → (whole ≡ false → all_known (given_in bits old) ≡ false)
    → (marked ≡ true → (whole ≡ true) ⊎ (is_swap op ≡ true)) → (marked ≡ false → (whole ≡ false) × (is_swap op ≡ false))
    → given_in bits' (new_window Ram op old given) ≡ new_cells Ram op (given_in bits old) given
new_shown op bits bits' old given true whole long atomic are full lost some none =
    let new = new_window Ram op old given in
    let wide : length new ≡ length old = length-new_window Ram op old given long in
    given_in-all bits' new (λ k below. are k (omega (arith, below, wide)))
    ∙ ⊎_elim
    (λ is. sym (ap (λ cells. new_cells Ram op cells given) (given_in-all bits old (full is))
    ∙ known-new Ram op old given (λ _. long)))
    (λ is. sym (swap_left op (given_in bits old) old given is long))
    (some refl)
new_shown op bits bits' old given false whole long atomic are full lost some none =
    let new = new_window Ram op old given in
    let wide : length new ≡ length old = length-new_window Ram op old given long in
    let neither = none refl in
    given_none bits' new (λ k below. are k (omega (arith, below, wide)))
    ∙ ap (λ n. replicate n None) (wide ∙ sym (length-given_in bits old))
    ∙ sym (unknown_left op (given_in bits old) given atomic neither.1 (lost neither.0))

pub atomic_shown : (op : AskOp) (masks masks' lanes : List ℕ) (start : ℕ) (given : List (Option ℕ))
    (marked whole : Bool) → start + length given ≤ length lanes → is_atomic op ≡ true
    → ((k : ℕ) → k < length given → bit_in masks' (start + k) ≡ known_bit marked)
    → ((place : ℕ) → (place < start) ⊎ (start + length given ≤ place) → bit_in masks' place ≡ bit_in masks place)
    → (whole ≡ true → (k : ℕ) → k < length given → bit_in masks (start + k) ≡ 1)
    → (whole ≡ false → ((k : ℕ) → k < length given → bit_in masks (start + k) ≡ 1) → ⊥)
    → (marked ≡ true → (whole ≡ true) ⊎ (is_swap op ≡ true)) → (marked ≡ false → (whole ≡ false) × (is_swap op ≡ false))
    → given_in (bit_in masks') (with_window lanes start
    (new_window Ram op (take (length given) (drop start lanes)) given))
    ≡ replaced (given_in (bit_in masks) lanes) start
    (new_cells Ram op (take (length given) (drop start (given_in (bit_in masks) lanes))) given)
atomic_shown op masks masks' lanes start given marked whole inside atomic are outside full gap some none =
    let n = length given in
    let old = take n (drop start lanes) in
    let wide : n ≡ length old = sym
    (length-take-le n (drop start lanes) (omega (arith, inside, length-drop start lanes))) in
    let long : length (new_window Ram op old given) ≡ n = length-new_window Ram op old given wide ∙ sym wide in
    let bits = λ (k : ℕ). bit_in masks (start + k) in
    let lost : whole ≡ false → all_known (given_in bits old) ≡ false =
    λ is. not_true (all_known (given_in bits old))
    (λ all. gap is (λ k below. bits_of_known bits old (λ k. bit_in-lt masks (start + k)) all k
    (omega (arith, below, wide)))) in
    written masks masks' lanes start (new_window Ram op old given) _ (omega (arith, long, inside))
    (new_shown op bits (λ k. bit_in masks' (start + k)) old given marked whole wide atomic
    (λ k below. are k (omega (arith, below, wide)))
    (λ is k below. full is k (omega (arith, below, wide))) lost some none
    ∙ ap (λ cells. new_cells Ram op cells given) (sym (window-given_in (bit_in masks) start n lanes)))
    (λ place where_. outside place (rw long at where_))
  where
    not_true : (b : Bool) → (b ≡ true → ⊥) → b ≡ false
    not_true true lost = absurd (lost refl)
    not_true false lost = refl

-- where a window was whole, or the operation is a swap
pub either : (b c : Bool) → (b || c) ≡ true → (b ≡ true) ⊎ (c ≡ true)
either true c is = inl refl
either false c is = inr is

pub neither : (b c : Bool) → (b || c) ≡ false → (b ≡ false) × (c ≡ false)
neither true c is = cc
neither false c is = (refl, is)

-- a page of words that are zero, under masks that are all ones or all zeros
pub filled_page : (lanes masks : List ℕ) (known : Bool) (n m : ℕ) → lanes ≡ replicate n 0
    → masks ≡ replicate m (255 * known_bit known) → n ≡ 8 * m
    → given_in (bit_in masks) lanes ≡ replicate n (fill_of known)
filled_page lanes masks known n m zeros ones whole =
    ap (given_in (bit_in masks)) zeros
    ∙ filled (bit_in masks) known n
    (λ k below. filled_bits masks known m (λ i small. ap (λ ms. slice_index ms i) ones
    ∙ get_or-replicate m i (255 * known_bit known) 0 small) k (omega (arith, below, whole)))

-- an atomic combines the same at each kind of slave
pub atomic_same : (kind : Kind) (op : AskOp) (old given : List (Option ℕ)) → is_atomic op ≡ true
    → new_cells Ram op old given ≡ new_cells kind op old given
atomic_same kind PutFull old given is = cc
atomic_same kind PutPartial old given is = cc
atomic_same kind (Arithmetic op) old given is = refl
atomic_same kind (Logical op) old given is = refl
atomic_same kind Get old given is = cc
atomic_same kind (Intent _) old given is = cc

-- ---- bits cleared, place by place

pub get_or-put_cells : (old given : List (Option ℕ)) (k : ℕ) → length given ≡ length old → k < length old
    → get_or (put_cells ClearRegs old given) k None ≡ clear_cell (get_or old k None) (get_or given k None)
get_or-put_cells [] given k paired below = absurd (omega (arith, below))
get_or-put_cells (cell ∷ old) [] k paired below = absurd (omega (arith, paired))
get_or-put_cells (cell ∷ old) (g ∷ given) zero paired below = refl
get_or-put_cells (cell ∷ old) (g ∷ given) (suc k) paired below =
    get_or-put_cells old given k (omega (arith, paired)) (omega (arith, below))

pub clear_given : (cell given : Option ℕ) → clear_cell cell (Some (unwrap_or given 0)) ≡ clear_cell cell given
clear_given None given = refl
clear_given (Some byte) given = refl
