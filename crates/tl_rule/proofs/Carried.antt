-- The order of the slots that a seat has taken out: how it turns, and how it follows what the seat's view says.
use Rattle.std.proofs.Common.{◌≡◌, ◌≢◌, ℕ, zero, suc, ◌+◌, ◌<◌, Bool, true, false, ◌||◌, cond, List, [], ◌∷◌, ◌++◌, length, sym, refl, ap, subst, ◌∙◌, arith, eqb, eq-eqb, ne_eqb, get_or, set, length-set, length-append, count_by, replicate, Some}
use Rattle.std.proofs.lemmas.List.Sums.{sum_by-set, count_by-le-length}
use mathlib.Core.Logic.{dite}
use native.Mathlib.Decide.{ℕ_discrete, dec_lt}
use Rattle.atomic_table.specs.Table.{turned, rest}
use Rattle.tl_types.specs.Request.{Request}
use Rattle.tl_rule.specs.declared.view.Held.{Held}
use Rattle.tl_rule.specs.declared.view.Held.TheVariants.{Nothing, Filled, Sent, Taken}
use Rattle.tl_rule.specs.Record.{Berth}
use Rattle.tl_rule.specs.Serving.{ask_at, drop_slot, HasDistinctSlots}
use Rattle.tl_rule.specs.Moves.{Seat}
use Rattle.tl_rule.specs.Carried.{firsts, has, place, IsTop, is_carried, is_held, CarriesHand, CarriesServed}
use Rattle.tl_rule.proofs.Tables.{past}
use Rattle.tl_rule.proofs.Lists.{set_elim}
use Rattle.tl_rule.proofs.Serving.{push_else, drop_else, drop_here, first_not}

-- ---- turning

pub firsts_more : (cs : List (ℕ × Berth)) (c : ℕ × Berth) → firsts (cs ++ c ∷ []) ≡ firsts cs ++ c.0 ∷ []
firsts_more [] c = refl
firsts_more (x ∷ cs) c = ap (λ l. x.0 ∷ l) (firsts_more cs c)

pub firsts_turned : (cs : List (ℕ × Berth)) (x : ℕ) (xs : List ℕ) → firsts cs ≡ x ∷ xs
    → firsts (turned cs) ≡ xs ++ x ∷ []
firsts_turned [] x xs e = absurd (cc)
firsts_turned (c ∷ cs) x xs e =
    firsts_more cs c ∙ (let p : c.0 ≡ x = cc in let q : firsts cs ≡ xs = cc in λ i. q i ++ p i ∷ [])

pub top_of : (m : Seat) (i : ℕ) (xs : List ℕ) → firsts m.1 ≡ i ∷ xs → IsTop m i
top_of m i xs e = elim m.1 as (λ cs. firsts cs ≡ i ∷ xs → (x : Berth)
    × (cs ≡ (i, x) ∷ rest cs)) [
      | [] ↦ λ e. absurd (cc)
      | c
          ∷ cs ↦ λ e. (c.1, let p : c.0 ≡ i = cc in λ t. (p t, c.1) ∷ cs)
    ] e

swap : (a b c : Bool) → (a || (b || c)) ≡ (b || (a || c))
swap true true c = refl
swap true false c = refl
swap false true c = refl
swap false false c = refl

pub has_turned : (x : ℕ) (xs : List ℕ) (i : ℕ) → has (xs ++ x ∷ []) i ≡ has (x ∷ xs) i
has_turned x [] i = refl
has_turned x (y ∷ ys) i = ap (λ b. eqb y i || b) (has_turned x ys i) ∙ swap (eqb y i) (eqb x i) (has ys i)

place_more : (x : ℕ) (xs : List ℕ) (i : ℕ) → has xs i ≡ true → place (xs ++ x ∷ []) i ≡ place xs i
place_more x [] i h = absurd (cc)
place_more x (y ∷ ys) i h = dite (ℕ_discrete y i)
    (λ e. let b = eq-eqb y i e in
    ap (λ c. cond c 0 (suc (place (ys ++ x ∷ []) i))) b ∙ ap (λ c. cond c 0 (suc (place ys i))) (sym b))
    (λ ne. let b = ne_eqb y i ne in let h' : has ys i ≡ true = subst (λ c. (c || has ys i) ≡ true) b h in
    ap (λ c. cond c 0 (suc (place (ys ++ x ∷ []) i))) b ∙ ap suc (place_more x ys i h')
    ∙ ap (λ c. cond c 0 (suc (place ys i))) (sym b))

pub still_there : (x : ℕ) (xs : List ℕ) (i : ℕ) → x ≢ i → has (x ∷ xs) i ≡ true → has xs i ≡ true
still_there x xs i ne h = subst (λ c. (c || has xs i) ≡ true) (ne_eqb x i ne) h

-- a turn brings each slot but the first one place nearer
pub nearer : (x : ℕ) (xs : List ℕ) (i : ℕ) → x ≢ i → has (x ∷ xs) i ≡ true → place (xs ++ x ∷ []) i < place (x ∷ xs) i
nearer x xs i ne h = let a = place_more x xs i (still_there x xs i ne h) in
    let b : place (x ∷ xs) i ≡ suc (place xs i) = ap (λ c. cond c 0 (suc (place xs i))) (ne_eqb x i ne) in omega arith

has_first : (i : ℕ) (order : List ℕ) → has (i ∷ order) i ≡ true
has_first i order = ap (λ b. b || has order i) (eq-eqb i i refl)

has_later : (i j : ℕ) (order : List ℕ) → j ≢ i → has order j ≡ true → has (i ∷ order) j ≡ true
has_later i j order ne h = ap (λ b. b || has order j) (ne_eqb i j (λ e. ne (sym e))) ∙ h

-- ---- a master's hand

abbrev pub bit : Bool → ℕ
bit b = cond b 1 0

module _ (hand : List Held) (order : List ℕ) (i : ℕ) (y : Held) (lt : i < length hand) where
  carried_set : count_by is_carried (set hand i y) + bit
      (is_carried (get_or hand i Nothing)) ≡ count_by is_carried hand + bit (is_carried y)
  carried_set = sum_by-set (λ x. bit (is_carried x)) hand i y Nothing lt

  -- the record of a slot is taken out
  pub takes_one : is_carried (get_or hand i Nothing) ≡ false → is_carried y ≡ true → CarriesHand hand order
      → CarriesHand (set hand i y) (i ∷ order)
  takes_one was is c = record {
    all = set_elim hand i y Nothing lt (λ j z. is_carried z ≡ true → has (i ∷ order) j ≡ true) (λ _. has_first i order)
        (λ j ne n. has_later i j order ne (c.all j n));
    many = let s = carried_set in let a : bit (is_carried (get_or hand i Nothing)) ≡ 0 = ap bit was in
        let b : bit (is_carried y) ≡ 1 = ap bit is in let k = c.many in omega arith;
  }

  -- and is given back
  pub gives_one : is_carried (get_or hand i Nothing) ≡ true → is_carried y ≡ false → CarriesHand hand (i ∷ order)
      → CarriesHand (set hand i y) order
  gives_one was is c = record {
    all = set_elim hand i y Nothing lt (λ j z. is_carried z ≡ true → has order j ≡ true) (λ n. absurd (cc))
        (λ j ne n. still_there i order j (λ e. ne (sym e)) (c.all j n));
    many = let s = carried_set in let a : bit (is_carried (get_or hand i Nothing)) ≡ 1 = ap bit was in
        let b : bit (is_carried y) ≡ 0 = ap bit is in let k = c.many in omega arith;
  }

  -- there is room for one more
  pub has_room : is_carried (get_or hand i Nothing) ≡ false → is_carried y ≡ true → CarriesHand hand order
      → length order < length hand
  has_room was is c = let k = (takes_one was is c).many in let l = count_by-le-length is_carried (set hand i y) in
      let e = length-set hand i y in omega arith

  -- how many slots the hand has, after a change
  pub held_set : count_by is_held (set hand i y) + bit (is_held (get_or hand i Nothing)) ≡ count_by is_held hand + bit
      (is_held y)
  held_set = sum_by-set (λ x. bit (is_held x)) hand i y Nothing lt

pub hand_reordered : (hand : List Held) (old new : List ℕ) → ((i : ℕ) → has new i ≡ has old i) → length new ≡ length old
    → CarriesHand hand old → CarriesHand hand new
hand_reordered hand old new members long c = record { all = λ i n. members i ∙ c.all i n; many = c.many ∙ sym long }

blank_hand : (n i : ℕ) → get_or (replicate n Nothing) i Nothing ≡ Nothing
blank_hand zero i = refl
blank_hand (suc n) zero = refl
blank_hand (suc n) (suc i) = blank_hand n i

none_carried : (n : ℕ) → count_by is_carried (replicate n Nothing) ≡ 0
none_carried zero = refl
none_carried (suc n) = let e = none_carried n in omega arith

pub fresh_hand : (n : ℕ) → CarriesHand (replicate n Nothing) []
fresh_hand n = record { all = λ i h. let e = ap is_carried (blank_hand n i) in absurd (cc); many = none_carried n }

pub none_yet : (n : ℕ) → count_by is_held (replicate n Nothing) ≡ 0
none_yet zero = refl
none_yet (suc n) = let e = none_yet n in omega arith

nothing_if : (h : Held) → bit (is_held h) ≡ 0 → h ≡ Nothing
nothing_if Nothing e = refl
nothing_if Filled e = absurd (omega arith)
nothing_if (Sent q p n) e = absurd (omega arith)
nothing_if (Taken p) e = absurd (omega arith)

-- a hand that has no slot has nothing anywhere
pub none_held : (hand : List Held) → count_by is_held hand ≡ 0 → (i : ℕ) → get_or hand i Nothing ≡ Nothing
none_held hand none i =
    dite (dec_lt i (length hand)) (λ lt. let s = held_set hand [] i Nothing lt in
    nothing_if (get_or hand i Nothing) (omega arith)) (λ ge. past hand i Nothing (omega arith))

-- ---- what a port serves

pub serves_one : (serving : List (ℕ × Request)) (order : List ℕ) (i : ℕ) (ask : Request) → CarriesServed serving order
    → CarriesServed (serving ++ (i, ask) ∷ []) (i ∷ order)
serves_one serving order i ask c = record {
  all = λ j q is. dite (ℕ_discrete j i) (λ e. subst (λ (k : ℕ). has (i ∷ order) k ≡ true) (sym e) (has_first i order))
      (λ ne. has_later i j order ne (c.all j q (sym (push_else serving i j ask ne) ∙ is)));
  many = let l = length-append serving ((i, ask) ∷ []) in let k = c.many in omega arith;
}

dropped_length : (fs : List (ℕ × Request)) (i : ℕ) (ask : Request) → ask_at fs i ≡ Some ask
    → length fs ≡ suc (length (drop_slot i fs))
dropped_length [] i ask is = absurd (cc)
dropped_length (f ∷ fs) i ask is = dite (ℕ_discrete f.0 i)
    (λ e. let s : drop_slot i (f ∷ fs) ≡ fs = ap (λ b. cond b fs (f ∷ drop_slot i fs)) (eq-eqb f.0 i e) in
    let l = ap (λ (x : List (ℕ × Request)). length x) s in omega arith)
    (λ n. let s : drop_slot i (f ∷ fs) ≡ f ∷ drop_slot i fs =
    ap (λ b. cond b fs (f ∷ drop_slot i fs)) (ne_eqb f.0 i n) in
    let l = ap (λ (x : List (ℕ × Request)). length x) s in
    let r = dropped_length fs i ask (sym (first_not f fs i n) ∙ is) in omega arith)

pub answers_one : (serving : List (ℕ × Request)) (order : List ℕ) (i : ℕ) (ask : Request) → HasDistinctSlots serving
    → ask_at serving i ≡ Some ask → CarriesServed serving (i ∷ order) → CarriesServed (drop_slot i serving) order
answers_one serving order i ask once is c = record {
  all = λ j q there. let ne : j ≢ i =
      (λ e. let z = subst (λ (k : ℕ). ask_at (drop_slot i serving) k ≡ Some q) e there in
      let w = drop_here serving i once in absurd (cc)) in
      still_there i order j (λ e. ne (sym e)) (c.all j q (sym (drop_else serving i j ne) ∙ there));
  many = let l = dropped_length serving i ask is in let k = c.many in omega arith;
}

pub service_reordered : (serving : List (ℕ × Request)) (old new : List ℕ) → ((i : ℕ) → has new i ≡ has old i)
    → length new ≡ length old → CarriesServed serving old → CarriesServed serving new
service_reordered serving old new members long c =
    record { all = λ i q n. members i ∙ c.all i q n; many = c.many ∙ sym long }
