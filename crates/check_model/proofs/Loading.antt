-- What a reset loads, port by port.
use Rattle.std.proofs.Common.{◌≡◌, ◌∙◌, sym, ℕ, zero, suc, ◌+◌, ◌≤◌, ◌<◌, List, [], ◌∷◌, ◌++◌, length, map, set, get_or, Option, None, refl, ap, arith, append-nil}
use Rattle.std.specs.List.{zip}
use Rattle.std.proofs.lemmas.List.{length-set, get_or-set_other, drop_all}
use Rattle.std.proofs.lemmas.List.Edits.{paste_all, paste_more, paste_none}
use lib.Seq.{paste}

module _ {A B : Type 0} (one : A → Option B → A) where
  -- what each element becomes by what stands at its place of another list
  abbrev pub all : List A → List (Option B) → List A
  all items loads = map (λ pair. one pair.0 pair.1) (zip items loads)

  length-all : (items : List A) (loads : List (Option B)) → length loads ≡ length items
      → length (all items loads) ≡ length items
  length-all [] loads same = refl
  length-all (item ∷ items) [] same = absurd (omega (arith, same))
  length-all (item ∷ items) (load ∷ loads) same = ap suc (length-all items loads (omega (arith, same)))

  all_there : (items : List A) (loads : List (Option B)) (place : ℕ) (other : A) → length loads ≡ length items
      → place < length items → get_or (all items loads) place other ≡ one (get_or items place other) (get_or loads place None)
  all_there [] loads place other same below = absurd (omega (arith, below))
  all_there (item ∷ items) [] place other same below = absurd (omega (arith, same))
  all_there (item ∷ items) (load ∷ loads) zero other same below = refl
  all_there (item ∷ items) (load ∷ loads) (suc place) other same below =
      all_there items loads place other (omega (arith, same)) (omega (arith, below))

  -- so many have become that, and the rest of both lists is as it was
  pub record First (items now : List A) (loads left : List (Option B)) (count : ℕ) : Type 0 where
    pub counted : length now ≡ length items
    pub left_counted : length left ≡ length loads
    pub are : now ≡ paste items 0 (all items loads) count
    pub rest : (place : ℕ) (other : A) → count ≤ place → get_or now place other ≡ get_or items place other
    pub left_is : (place : ℕ) → count ≤ place → get_or left place None ≡ get_or loads place None

  pub none_yet : (items : List A) (loads : List (Option B)) → First items items loads loads 0
  none_yet items loads = record {
    counted = refl;
    left_counted = refl;
    are = paste_none items 0 (all items loads);
    rest = λ place other from. refl;
    left_is = λ place from. refl;
  }

  pub one_more : (items now : List A) (loads left : List (Option B)) (count : ℕ) (other new : A) (load after : Option B)
      → length loads ≡ length items → count < length items → First items now loads left count
      → load ≡ get_or left count None → new ≡ one (get_or now count other) load
      → First items (set now count new) loads (set left count after) (count + 1)
  one_more items now loads left count other new load after same below is taken made =
      let long = length-all items loads same in
      let here : 0 + count ≡ count = omega arith in
      let is_new : new ≡ get_or (all items loads) count other =
      made ∙ ap (λ l. one (get_or now count other) l) (taken ∙ is.left_is count (omega arith))
      ∙ ap (λ i. one i (get_or loads count None)) (is.rest count other (omega arith))
      ∙ sym (all_there items loads count other same below) in
      record {
        counted = length-set now count new ∙ is.counted;
        left_counted = length-set left count after ∙ is.left_counted;
        are = ap (λ l. set l count new) is.are
            ∙ ap (λ n. set (paste items 0 (all items loads) count) count n) is_new
            ∙ ap (λ p. set (paste items 0 (all items loads) count) p (get_or (all items loads) count other)) (sym here)
            ∙ paste_more items 0 (all items loads) count other (omega (arith, below)) (omega (arith, below, long));
        rest = λ place d from. get_or-set_other now count place new d (λ at. absurd (omega (arith, from, at))) ∙ is.rest place d (omega (arith, from));
        left_is = λ place from. get_or-set_other left count place after None (λ at. absurd (omega (arith, from, at))) ∙ is.left_is place (omega (arith, from));
      }

  pub all_are : (items now : List A) (loads left : List (Option B)) (count : ℕ) → length loads ≡ length items
      → count ≡ length items → First items now loads left count → now ≡ all items loads
  all_are items now loads left count same whole is =
      let long = length-all items loads same in
      is.are ∙ paste_all items 0 (all items loads) count (omega (arith, whole, long))
      ∙ ap (λ beyond. all items loads ++ beyond) (drop_all (0 + count) items (omega (arith, whole)))
      ∙ append-nil (all items loads)
