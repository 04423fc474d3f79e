-- Replies that begin in turn are to the requests that began first.
use Rattle.std.proofs.Common.{◌≡◌, ◌∙◌, ℕ, zero, suc, ◌+◌, ◌<◌, ◌≤◌, ◌%◌, ◌^◌, Bool, true, false, if◌then◌else◌, List, [], ◌∷◌, ◌++◌, length, length-append, slice_get, Option, Some, None, refl, ap, sym, subst, arith, eqb-true}
use Rattle.std.specs.Prelude.{◌&&◌, ◌==◌, IsTrue, unwrap_or}
use Rattle.std.proofs.lemmas.List.{append_assoc}
use Rattle.check_watch.specs.declared.beat.Beat.{Beat}
use Rattle.check_watch.specs.declared.beat.Beat.TheVariants.{A, D}
use Rattle.check_watch.specs.declared.beat.Link.{Link}
use Rattle.check_watch.specs.Plan.{Plan, Sighting, is_fifo, is_link, link_number, side_of, source_of}
use Rattle.check_watch.proofs.InFlight.{same_link}
use Rattle.check_turns.specs.Turns.{AreInOrder, AreInTurn, answered_at, answers, answers_at, asked_at, asks, asks_at, begins_after, count_if, is_reply, is_request, next, number_of}

-- ---- lists

pushed : {X : Type 0} (xs : List X) (x : X) → length (xs ++ x ∷ []) ≡ length xs + 1
pushed xs x = length-append xs (x ∷ [])

at_left : {X : Type 0} (xs ys : List X) (k : ℕ) (x : X) → slice_get xs k ≡ Some x → slice_get (xs ++ ys) k ≡ Some x
at_left [] ys k x is = cc
at_left (y ∷ xs) ys zero x is = is
at_left (y ∷ xs) ys (suc k) x is = at_left xs ys k x is

at_end : {X : Type 0} (xs : List X) (x : X) (k : ℕ) → k ≡ length xs → slice_get (xs ++ x ∷ []) k ≡ Some x
at_end [] x k is = ap (λ n. slice_get (x ∷ []) n) is
at_end (y ∷ xs) x zero is = absurd (omega (arith, is))
at_end (y ∷ xs) x (suc k) is = at_end xs x k (omega (arith, is))

-- what stands behind a beginning
behind : {X : Type 0} (xs more : List X) (k : ℕ) (x : X) → k ≡ length xs → slice_get (xs ++ more) k ≡ Some x
    → (rest : List X) × (more ≡ x ∷ rest)
behind [] [] k x is at = absurd (cc)
behind [] (y ∷ more) zero x is at = (more, ap (λ o. unwrap_or o y ∷ more) at)
behind [] (y ∷ more) (suc k) x is at = absurd (omega (arith, is))
behind (y ∷ xs) more zero x is at = absurd (omega (arith, is))
behind (y ∷ xs) more (suc k) x is at = behind xs more k x (omega (arith, is)) at

module _ (plan : Plan) (link : Link) where
  -- ---- counts are lengths

  abbrev IsCounted : ℕ → List ℕ → ℕ → Type 0
  IsCounted count sources most = (count ≡ length sources) × (length sources ≤ most)

  more_counted : (flag : Bool) (count : ℕ) (sources : List ℕ) (source most : ℕ) → most + 2 < 2 ^ 64
      → IsCounted count sources most
      → IsCounted (count_if flag count) (if flag then sources ++ source ∷ [] else sources) (most + 1)
  more_counted true count sources source most few is =
      let long = pushed sources source in (
        omega (arith, few, is.0, is.1, long),
        omega (arith, is.1, long),
      )
  more_counted false count sources source most few is = (is.0, omega (arith, is.1))

  asks_counted : (past : List Sighting) → length past + 1 < 2 ^ 64
      → IsCounted (asked_at plan past link) (asks plan past link) (length past)
  asks_counted [] few = (refl, omega arith)
  asks_counted (x ∷ past) few =
      let is = more_counted (asks_at plan past x link) (asked_at plan past link) (asks plan past link) (source_of x.beat)
      (length past) (omega (arith, few)) (asks_counted past (omega (arith, few))) in
      (is.0, omega (arith, is.1))

  answers_counted : (past : List Sighting) → length past + 1 < 2 ^ 64
      → IsCounted (answered_at plan past link) (answers plan past link) (length past)
  answers_counted [] few = (refl, omega arith)
  answers_counted (x ∷ past) few =
      let is = more_counted (answers_at plan past x link) (answered_at plan past link) (answers plan past link)
      (source_of x.beat) (length past) (omega (arith, few)) (answers_counted past (omega (arith, few))) in
      (is.0, omega (arith, is.1))

  -- ---- the last request of a source stands at its number

  stands : (past : List Sighting) → length past + 1 < 2 ^ 64 → (source k : ℕ) → number_of plan past link source ≡ k + 1
      → slice_get (asks plan past link) k ≡ Some source
  stands [] few source k is = absurd (omega (arith, is))
  stands (x ∷ past) few source k is =
      go (asks_at plan past x link) (source_of x.beat == source) refl (λ before. stands past (omega (arith, few)) source k before)
      is
    where
      go : (begins own : Bool) → (source_of x.beat == source) ≡ own
          → (number_of plan past link source ≡ k + 1 → slice_get (asks plan past link) k ≡ Some source)
          → (if begins && own then next (asked_at plan past link) else number_of plan past link source) ≡ k + 1
          → slice_get (if begins then asks plan past link ++ source_of x.beat ∷ [] else asks plan past link) k ≡ Some source
      go false own same stood at = stood at
      go true false same stood at = at_left (asks plan past link) (source_of x.beat ∷ []) k source (stood at)
      go true true same stood at =
          let counted = asks_counted past (omega (arith, few)) in
          let place : k ≡ length (asks plan past link) = omega (arith, at, few, counted.0, counted.1) in
          at_end (asks plan past link) (source_of x.beat) k place ∙ ap Some (eqb-true (source_of x.beat) source same)

  -- ---- replies

  module _ (fifo : IsTrue (is_fifo plan.layout link)) where
    abbrev crosses : Sighting → Bool
    crosses x = is_link x.link (side_of link) (link_number link)

    -- a beat begins a request, or a reply, or none
    one_more : (past : List Sighting) (x : Sighting) → length past + 2 < 2 ^ 64 → AreInTurn plan (x ∷ past)
        → AreInOrder plan past link → AreInOrder plan (x ∷ past) link
    one_more past x few turns order = go x.beat refl (crosses x) refl (begins_after plan past x) refl
      where
        P : Bool → Bool → Type 0
        P asked answered =
            (more : List ℕ) × ((if asked then asks plan past link ++ source_of x.beat ∷ [] else asks plan past link)
            ≡ (if answered then answers plan past link ++ source_of x.beat ∷ [] else answers plan past link) ++ more)

        asked_more : P true false
        asked_more = (
          order.0 ++ source_of x.beat ∷ [],
          ap (λ l. l ++ source_of x.beat ∷ []) order.1
              ∙ append_assoc (answers plan past link) order.0 (source_of x.beat ∷ []),
        )

        answered_more : crosses x ≡ true → IsTrue (is_reply x.beat) → IsTrue (begins_after plan past x) → P false true
        answered_more here reply begins =
            let own : x.link ≡ link = same_link x.link link here in
            let counted = answers_counted past (omega (arith, few)) in
            let turn : number_of plan past link (source_of x.beat) ≡ next (answered_at plan past link) =
            subst (λ (l : Link). number_of plan past l (source_of x.beat) ≡ next (answered_at plan past l)) own
            (turns.1 (subst (λ (l : Link). IsTrue (is_fifo plan.layout l)) (sym own) fifo) reply begins) in
            let place = length (answers plan past link) in
            let number : number_of plan past link (source_of x.beat) ≡ place + 1 =
            omega (arith, turn, few, counted.0, counted.1) in
            let at = stands past (omega (arith, few)) (source_of x.beat) place number in
            let rest = behind (answers plan past link) order.0 place (source_of x.beat) refl
            (subst (λ (l : List ℕ). slice_get l place ≡ Some (source_of x.beat)) order.1 at) in (
              rest.0,
              order.1 ∙ ap (λ l. answers plan past link ++ l) rest.1
                  ∙ sym (append_assoc (answers plan past link) (source_of x.beat ∷ []) rest.0),
            )

        go : (beat : Beat) → x.beat ≡ beat → (here : Bool) → crosses x ≡ here → (begins : Bool)
            → begins_after plan past x ≡ begins
            → P (here && (is_request beat && begins)) (here && (is_reply beat && begins))
        go beat is false at begins first = order
        go (A ask) is true at true first = asked_more
        go (A ask) is true at false first = order
        go (D reply) is true at true first = answered_more at (ap is_reply is) first
        go (D reply) is true at false first = order

    pub in_order : (past : List Sighting) → length past + 1 < 2 ^ 64 → AreInTurn plan past → AreInOrder plan past link
    in_order [] few turns = ([], refl)
    in_order (x ∷ past) few turns =
        one_more past x (omega (arith, few)) turns (in_order past (omega (arith, few)) turns.0)
