-- The cells of the address space, and the pages that show them.
use Rattle.std.proofs.Common.{◌≡◌, ◌∙◌, ◌⊎◌, inl, inr, ⊎_elim, ℕ, zero, suc, ◌+◌, ◌-◌, ◌/◌, ◌%◌, ◌<◌, ◌≤◌, Bool, true, false, ◌==◌, if◌then◌else◌, List, [], ◌∷◌, ◌++◌, length, take, drop, set, get_or, slice_get, replicate, Option, Some, None, refl, sym, ap, arith, rules}
use Rattle.std.proofs.lemmas.List.{append_assoc, take_at, drop_at, drop-drop, ext_get_or, length-take-le, length-drop, length-append, get_or-take, get_or-drop, get_or-replicate}
use Rattle.std.proofs.lemmas.List.FromFn.{length-map-range_with_len, get_or-map-range_with_len}
use Rattle.std.proofs.lemmas.Bool.{cases_lt, cases_eq}
use Rattle.check_memory.specs.Paged.{Slot}
use Rattle.check_memory.specs.Known.{replaced}
use Rattle.check_memory.specs.Place.{tabulate, fill_of}
use Rattle.check_memory.specs.Paged.{content, IsAt}
use Rattle.check_memory.proofs.Replaced.{length-replaced, get_or-replaced_in, get_or-replaced_out}

-- ---- cells by their address

pub length-tabulate : (f : ℕ → Option ℕ) (n : ℕ) → length (tabulate f n) ≡ n
unfolding tabulate
length-tabulate f n = length-map-range_with_len f 0 n

pub get-tabulate : (f : ℕ → Option ℕ) (n i : ℕ) → i < n → get_or (tabulate f n) i None ≡ f i
unfolding tabulate
get-tabulate f n i below = get_or-map-range_with_len f 0 n i i None below (omega arith)

pub same_tabulate : (f g : ℕ → Option ℕ) (n : ℕ) → ((i : ℕ) → i < n → f i ≡ g i) → tabulate f n ≡ tabulate g n
same_tabulate f g n are = ext_get_or None (tabulate f n) (tabulate g n) (length-tabulate f n
    ∙ sym (length-tabulate g n)) (λ i below.
    let within : i < n = omega (arith, below, length-tabulate f n) in
    get-tabulate f n i within ∙ are i within ∙ sym (get-tabulate g n i within))

-- a window of them is one of a page
pub window_seen : (f : ℕ → Option ℕ) (n : ℕ) (page : List (Option ℕ)) (address start width : ℕ) → address + width ≤ n
    → start + width ≤ length page → ((k : ℕ) → k < width → f (address + k) ≡ get_or page (start + k) None)
    → take width (drop address (tabulate f n)) ≡ take width (drop start page)
window_seen f n page address start width inside inside' are =
    let long : length (take width (drop address (tabulate f n))) ≡ width =
    length-take-le width (drop address (tabulate f n))
    (omega (arith, inside, length-drop address (tabulate f n), length-tabulate f n)) in
    let long' : length (take width (drop start page)) ≡ width =
    length-take-le width (drop start page) (omega (arith, inside', length-drop start page)) in
    ext_get_or None _ _ (long ∙ sym long') (λ k below.
    let within : k < width = omega (arith, below, long) in
    get_or-take width (drop address (tabulate f n)) k None within ∙ get_or-drop address (tabulate f n) k None
    ∙ get-tabulate f n (address + k) (omega (arith, within, inside))
    ∙ are k within ∙ sym (get_or-take width (drop start page) k None within ∙ get_or-drop start page k None))

-- a window written after another
pub replaced-more : (cells new more : List (Option ℕ)) (start next : ℕ) → start ≤ length cells
    → next ≡ start + length new → replaced (replaced cells start new) next more ≡ replaced cells start (new ++ more)
replaced-more cells new more start next inside at =
    let front = take start cells ++ new in
    let back = drop (start + length new) cells in
    let long : length front ≡ next =
    length-append (take start cells) new ∙ omega (arith, length-take-le start cells inside, at) in
    let ends : start + length new + length more ≡ start + length (new ++ more) =
    omega (arith, length-append new more) in
    let past : drop (next + length more) (front ++ back) ≡ drop (start + length (new ++ more)) cells =
    sym (drop-drop (length more) next (front ++ back)) ∙ ap (drop (length more)) (drop_at front back next long)
    ∙ drop-drop (length more) (start + length new) cells ∙ ap (λ n. drop n cells) ends in
    ap (λ f. (f ++ more) ++ drop (next + length more) (front ++ back)) (take_at front back next long)
    ∙ ap (λ d. (front ++ more) ++ d) past
    ∙ ap (λ f. f ++ drop (start + length (new ++ more)) cells) (append_assoc (take start cells) new more)

-- cells that are written in a window
pub replaced_seen : (f g : ℕ → Option ℕ) (n address : ℕ) (cells : List (Option ℕ)) → address + length cells ≤ n
    → ((k : ℕ) → k < length cells → g (address + k) ≡ get_or cells k None)
    → ((a : ℕ) → (a < address) ⊎ (address + length cells ≤ a) → g a ≡ f a)
    → tabulate g n ≡ replaced (tabulate f n) address cells
replaced_seen f g n address cells inside here there =
    let room : address + length cells ≤ length (tabulate f n) = omega (arith, inside, length-tabulate f n) in
    ext_get_or None (tabulate g n) (replaced (tabulate f n) address cells) (length-tabulate g n
    ∙ sym (length-tabulate f n) ∙ sym (length-replaced (tabulate f n) cells address room)) (λ a below.
    let within : a < n = omega (arith, below, length-tabulate g n) in
    let other : (a < address) ⊎ (address + length cells ≤ a)
    → get_or (tabulate g n) a None ≡ get_or (replaced (tabulate f n) address cells) a None =
    λ where_. get-tabulate g n a within ∙ there a where_ ∙ sym (get-tabulate f n a within)
    ∙ sym (get_or-replaced_out (tabulate f n) cells address a room where_) in
    ⊎_elim
    (λ before. other (inl before))
    (λ from. ⊎_elim
    (λ in_window.
    let e : address + (a - address) ≡ a = omega (arith, from) in
    let k_in : a - address < length cells = omega (arith, from, in_window) in
    get-tabulate g n a within ∙ ap g (sym e) ∙ here (a - address) k_in
    ∙ sym (get_or-replaced_in (tabulate f n) cells address (a - address) room k_in)
    ∙ ap (λ i. get_or (replaced (tabulate f n) address cells) i None) e)
    (λ past. other (inr past))
    (cases_lt a (address + length cells)))
    (cases_lt a address))

-- ---- what pages show

eq_true : (x y : ℕ) → x ≡ y → (x == y) ≡ true
eq_true x y same = rw same (search rules)

eq_false : (x y : ℕ) → (x ≡ y → ⊥) → (x == y) ≡ false
eq_false x y apart = search rules

-- the page of a number, where no other has it
pub content_here : (slots : List Slot) (at number : ℕ) (slot : Slot) (known : Bool) (address : ℕ)
    → slice_get slots at ≡ Some slot → slot.number ≡ number → ((i : ℕ) → IsAt slots number i → i ≡ at)
    → number ≡ address / 256
    → content slots known address ≡ get_or slot.page (address % 256) None
content_here [] at number slot known address is numbered alone here = cc
content_here (s ∷ slots) zero number slot known address is numbered alone here =
    let same : s ≡ slot = cc in
    let test : (s.number == address / 256) ≡ true =
    eq_true s.number (address / 256) (ap (λ (t : Slot). t.number) same ∙ numbered ∙ here) in
    rw test (ap (λ (t : Slot). get_or t.page (address % 256) None) same)
content_here (s ∷ slots) (suc at) number slot known address is numbered alone here =
    let apart : s.number ≡ address / 256 → ⊥ = λ same. let first : 0 ≡ suc at =
    alone 0 (ap (λ (n : ℕ). Some n) (same ∙ sym here)) in absurd (omega (arith, first)) in
    let test : (s.number == address / 256) ≡ false = eq_false s.number (address / 256) apart in
    rw test (content_here slots at number slot known address is numbered (λ i there. let e : suc i ≡ suc at =
    alone (suc i) there in omega (arith, e)) here)

-- other numbers are shown as before
pub content_there : (slots : List Slot) (at : ℕ) (slot new : Slot) (known : Bool) (address : ℕ)
    → slice_get slots at ≡ Some slot → new.number ≡ slot.number → (slot.number ≡ address / 256 → ⊥)
    → content (set slots at new) known address ≡ content slots known address
content_there [] at slot new known address is same apart = refl
content_there (s ∷ slots) zero slot new known address is same apart =
    let was : s ≡ slot = cc in
    let test : (new.number == address / 256) ≡ false =
    eq_false new.number (address / 256) (λ e. apart (sym same ∙ e)) in
    let test' : (s.number == address / 256) ≡ false =
    eq_false s.number (address / 256) (λ e. apart (sym (ap (λ (t : Slot). t.number) was) ∙ e)) in
    rw (test, test') refl
content_there (s ∷ slots) (suc at) slot new known address is same apart =
    ap (λ rest. if s.number == address / 256 then get_or s.page (address % 256) None else rest)
    (content_there slots at slot new known address is same apart)

-- a number that no page has
pub content_absent : (slots : List Slot) (number : ℕ) (known : Bool) (address : ℕ) → ((i : ℕ) → IsAt slots number i → ⊥)
    → number ≡ address / 256 → content slots known address ≡ fill_of known
content_absent [] number known address none here = refl
content_absent (s ∷ slots) number known address none here =
    let test : (s.number == address / 256) ≡ false =
    eq_false s.number (address / 256) (λ same. none 0 (ap (λ (n : ℕ). Some n) (same ∙ sym here))) in
    rw test (content_absent slots number known address (λ i there. none (suc i) there) here)

-- a new page of bytes that nothing has written
content_more : (slots : List Slot) (slot : Slot) (known : Bool) (address : ℕ)
    → (slot.number ≡ address / 256 → get_or slot.page (address % 256) None ≡ content slots known address)
    → ((slot.number ≡ address / 256) → (i : ℕ) → IsAt slots slot.number i → ⊥)
    → content (slots ++ slot ∷ []) known address ≡ content slots known address
content_more [] slot known address fresh none =
    ⊎_elim
    (λ same. let test : (slot.number == address / 256) ≡ true = eq_true slot.number (address / 256) same in
    rw test (fresh same))
    (λ apart. let test : (slot.number == address / 256) ≡ false = eq_false slot.number (address / 256) apart in
    rw test refl)
    (cases_eq slot.number (address / 256))
content_more (s ∷ slots) slot known address fresh none =
    ⊎_elim
    (λ same. let test : (s.number == address / 256) ≡ true = eq_true s.number (address / 256) same in rw test refl)
    (λ apart. let test : (s.number == address / 256) ≡ false = eq_false s.number (address / 256) apart in
    rw test (content_more slots slot known address (λ same. fresh same ∙ rw test refl)
    (λ same i there. none same (suc i) there)))
    (cases_eq s.number (address / 256))

pub content_push : (slots : List Slot) (slot : Slot) (known : Bool) (address : ℕ)
    → slot.page ≡ replicate 256 (fill_of known) → ((i : ℕ) → IsAt slots slot.number i → ⊥)
    → content (slots ++ slot ∷ []) known address ≡ content slots known address
content_push slots slot known address page none =
    content_more slots slot known address
    (λ same. ap (λ p. get_or p (address % 256) None) page
    ∙ get_or-replicate 256 (address % 256) (fill_of known) None (omega arith)
    ∙ sym (content_absent slots slot.number known address none same))
    (λ same. none)
