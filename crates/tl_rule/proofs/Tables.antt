-- A table that is written as `Parts`: where its words and views stand, and what a change of one does.
use Rattle.std.proofs.Common.{◌≡◌, ℕ, zero, suc, ◌+◌, ◌<◌, ◌≤◌, Bool, true, false, List, [], ◌∷◌, ◌++◌, map, length, get_or, set, sym, refl, ap, subst, ◌∙◌, arith}
use mathlib.Core.Option.{some, some-injective, some-ne-none}
use lib.ListN.{get_elem?}
use Rattle.tl_slots.specs.declared.phase.Phase.{Phase}
use Rattle.tl_slots.specs.declared.phase.Phase.TheVariants.{Free}
use Rattle.tl_slots.specs.Word.{word}
use Rattle.tl_rule.specs.declared.view.About.{About}
use Rattle.tl_rule.specs.declared.view.Hands.{Hands}
use Rattle.tl_rule.specs.declared.view.Desk.{Desk}
use Rattle.tl_rule.specs.declared.view.View.{View}
use Rattle.tl_rule.specs.declared.view.View.TheVariants.{Dealer, Master, Port}
use Rattle.tl_rule.specs.Rule.{views_of, leave_word}

module _ {A : Type 0} where
  pub at_get : (l : List A) (i : ℕ) (a d : A) → get_elem? l i ≡ some a → (i < length l) × (get_or l i d ≡ a)
  at_get [] i a d e = absurd (some-ne-none a (sym e))
  at_get (x ∷ xs) zero a d e = (omega arith, some-injective x a e)
  at_get (x ∷ xs) (suc i) a d e = let r = at_get xs i a d e in let l = r.0 in (omega arith, r.1)

  pub of_get : (l : List A) (i : ℕ) (a d : A) → i < length l → get_or l i d ≡ a → get_elem? l i ≡ some a
  of_get [] i a d h e = absurd (omega arith)
  of_get (x ∷ xs) zero a d h e = ap some e
  of_get (x ∷ xs) (suc i) a d h e = of_get xs i a d (omega arith) e

no_master : (ps : List Desk) (j : ℕ) (v : Hands) → get_elem? (map Port ps) j ≡ some (Master v) → ⊥
no_master [] j v e = absurd (some-ne-none (Master v) (sym e))
no_master (x ∷ ps) zero v e = cc
no_master (x ∷ ps) (suc j) v e = no_master ps j v e

pub master_at : (ms : List Hands) (ps : List Desk) (j : ℕ) (v : Hands)
    → get_elem? (map Master ms ++ map Port ps) j ≡ some (Master v) → get_elem? ms j ≡ some v
master_at [] ps j v e = absurd (no_master ps j v e)
master_at (x ∷ ms) ps zero v e = cc
master_at (x ∷ ms) ps (suc j) v e = master_at ms ps j v e

pub port_at : (ms : List Hands) (ps : List Desk) (j : ℕ) (u : Desk)
    → get_elem? (map Master ms ++ map Port ps) j ≡ some (Port u) → (p : ℕ) × (j ≡ length ms + p)
    × (get_elem? ps p ≡ some u)
port_at [] [] j u e = absurd (some-ne-none (Port u) (sym e))
port_at [] (x ∷ ps) zero u e = (0, refl, cc)
port_at [] (x ∷ ps) (suc j) u e = let r = port_at [] ps j u e in let l = r.1 in (suc r.0, omega arith, r.2)
port_at (x ∷ ms) ps zero u e = absurd (cc)
port_at (x ∷ ms) ps (suc j) u e = let r = port_at ms ps j u e in let l = r.1 in (r.0, omega arith, r.2)

pub set_master : (ms : List Hands) (ps : List Desk) (j : ℕ) (w : Hands) → j < length ms
    → set (map Master ms ++ map Port ps) j (Master w) ≡ map Master (set ms j w) ++ map Port ps
set_master [] ps j w h = absurd (omega arith)
set_master (x ∷ ms) ps zero w h = refl
set_master (x ∷ ms) ps (suc j) w h = ap (λ (l : List View). Master x ∷ l) (set_master ms ps j w (omega arith))

set_port_first : (ps : List Desk) (p : ℕ) (w : Desk) → set (map Port ps) p (Port w) ≡ map Port (set ps p w)
set_port_first [] p w = refl
set_port_first (x ∷ ps) zero w = refl
set_port_first (x ∷ ps) (suc p) w = ap (λ (l : List View). Port x ∷ l) (set_port_first ps p w)

pub set_port : (ms : List Hands) (ps : List Desk) (j p : ℕ) (w : Desk) → j ≡ length ms + p
    → set (map Master ms ++ map Port ps) j (Port w) ≡ map Master ms ++ map Port (set ps p w)
set_port [] ps j p w e = let same : j ≡ p = omega arith in
    subst (λ (k : ℕ). set (map Port ps) k (Port w) ≡ map Port (set ps p w)) (sym same) (set_port_first ps p w)
set_port (x ∷ ms) ps zero p w e = absurd (omega arith)
set_port (x ∷ ms) ps (suc j) p w e = ap (λ (l : List View). Master x ∷ l) (set_port ms ps j p w (omega arith))

pub length_set : {A : Type 0} (l : List A) (i : ℕ) (a : A) → length (set l i a) ≡ length l
length_set [] i a = refl
length_set (x ∷ xs) zero a = refl
length_set (x ∷ xs) (suc i) a = ap suc (length_set xs i a)

-- the view of a master stands after the dealer's, at its number
pub master_view : (a : About) (ms : List Hands) (ps : List Desk) (id : ℕ) (v : Hands)
    → get_elem? (views_of a ms ps) id ≡ some (Master v)
    → (j : ℕ) × (get_elem? ms j ≡ some v) × ((w : Hands)
    → set (views_of a ms ps) id (Master w) ≡ views_of a (set ms j w) ps) × (id ≡ suc j)
master_view a ms ps zero v e = absurd (cc)
master_view a ms ps (suc j) v e = let at = master_at ms ps j v e in let near = (at_get ms j v v at).0 in (
  j,
  at,
  λ w. ap (λ (l : List View). Dealer a (length ms) (length ps) ∷ l) (set_master ms ps j w near)
      ∙ ap (λ (n : ℕ). Dealer a n (length ps) ∷ (map Master (set ms j w) ++ map Port ps)) (sym (length_set ms j w)),
  refl,
)

pub port_view : (a : About) (ms : List Hands) (ps : List Desk) (id : ℕ) (v : Desk)
    → get_elem? (views_of a ms ps) id ≡ some (Port v)
    → (p : ℕ) × (get_elem? ps p ≡ some v) × ((w : Desk)
    → set (views_of a ms ps) id (Port w) ≡ views_of a ms (set ps p w))
port_view a ms ps zero v e = absurd (cc)
port_view a ms ps (suc j) v e = let at = port_at ms ps j v e in let p = at.0 in (
  p,
  at.2,
  λ w. ap (λ (l : List View). Dealer a (length ms) (length ps) ∷ l) (set_port ms ps j p w at.1)
      ∙ ap (λ (n : ℕ). Dealer a (length ms) n ∷ (map Master ms ++ map Port (set ps p w))) (sym (length_set ps p w)),
)

pub word_at : (fs : List Phase) (ls : List ℕ) (i : ℕ) → i < length fs
    → get_or (map word fs ++ ls) i 0 ≡ word (get_or fs i Free)
word_at [] ls i h = absurd (omega arith)
word_at (f ∷ fs) ls zero h = refl
word_at (f ∷ fs) ls (suc i) h = word_at fs ls i (omega arith)

pub set_word : (fs : List Phase) (ls : List ℕ) (i : ℕ) (f : Phase) → i < length fs
    → set (map word fs ++ ls) i (word f) ≡ map word (set fs i f) ++ ls
set_word [] ls i f h = absurd (omega arith)
set_word (g ∷ fs) ls zero f h = refl
set_word (g ∷ fs) ls (suc i) f h = ap (λ (l : List ℕ). word g ∷ l) (set_word fs ls i f (omega arith))

pub set_leaf : (fs : List Phase) (ls : List ℕ) (j m n : ℕ) → j ≡ length fs + m
    → set (map word fs ++ ls) j n ≡ map word fs ++ set ls m n
set_leaf [] ls j m n e = let same : j ≡ m = omega arith in ap (λ (k : ℕ). set ls k n) same
set_leaf (f ∷ fs) ls zero m n e = absurd (omega arith)
set_leaf (f ∷ fs) ls (suc j) m n e = ap (λ (l : List ℕ). word f ∷ l) (set_leaf fs ls j m n (omega arith))

-- past the end of a list stands the default
pub past : {A : Type 0} (l : List A) (i : ℕ) (d : A) → length l ≤ i → get_or l i d ≡ d
past [] i d h = refl
past (x ∷ xs) zero d h = absurd (omega arith)
past (x ∷ xs) (suc i) d h = past xs i d (omega arith)

-- the leave words, once a master has left
pub set_left : (ls : List Bool) (m : ℕ) → set (map leave_word ls) m 1 ≡ map leave_word (set ls m true)
set_left [] m = refl
set_left (l ∷ ls) zero = refl
set_left (l ∷ ls) (suc m) = ap (λ (w : List ℕ). leave_word l ∷ w) (set_left ls m)

-- a leave word stands after those of all slots
pub leaf_at : (fs : List Phase) (ls : List ℕ) (m : ℕ) → get_or (map word fs ++ ls) (length fs + m) 0 ≡ get_or ls m 0
leaf_at [] ls m = let e : zero + m ≡ m = omega arith in ap (λ (k : ℕ). get_or ls k 0) e
leaf_at (f ∷ fs) ls m = let e : length (f ∷ fs) + m ≡ suc (length fs + m) = omega arith in
    ap (λ (k : ℕ). get_or (word f ∷ (map word fs ++ ls)) k 0) e ∙ leaf_at fs ls m

pub leave_at : (ls : List Bool) (m : ℕ) → get_or (map leave_word ls) m 0 ≡ leave_word (get_or ls m false)
leave_at [] m = refl
leave_at (l ∷ ls) zero = refl
leave_at (l ∷ ls) (suc m) = leave_at ls m

pub many_words : (fs : List Phase) (ls : List Bool) → length (map word fs ++ map leave_word ls) ≡ length fs + length ls
many_words [] [] = refl
many_words [] (l ∷ ls) = let e = many_words [] ls in omega arith
many_words (f ∷ fs) ls = let e = many_words fs ls in omega arith
