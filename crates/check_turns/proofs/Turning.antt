-- What is kept of the order of replies, after one beat more.
use Rattle.std.proofs.Common.{◌≡◌, ◌∙◌, ℕ, zero, suc, ◌≤◌, Bool, true, false, if◌then◌else◌, List, [], ◌∷◌, ◌++◌, length, Option, Some, None, refl, ap, sym, subst, arith}
use Rattle.std.specs.Prelude.{◌&&◌, ◌==◌, is_some, slice_index_or}
use Rattle.check_watch.specs.declared.beat.Link.{Link}
use Rattle.check_watch.specs.Plan.{Plan, Sighting, is_fifo, is_link, link_number, side_of, source_of}
use Rattle.check_watch.proofs.InFlight.{same_link}
use Rattle.check_sides.specs.Groups.{is_any_set}
use Rattle.check_turns.specs.Turns.{IsInTurn, answered_at, asked_at, begins_after, count_if, is_reply, is_request, next, number_of}
use Rattle.check_turns.specs.View.{IsAfter, IsFresh, IsFreshBy, IsNotedBy, IsTurns, KeepsTurns, LinkTurnsView, TurnsView, number_in, turns_at, turns_in}

-- ---- before any beat

some_by : (flag : Bool) (one : Option LinkTurnsView) → IsFreshBy flag one → is_some one ≡ flag
some_by true (Some one) is = refl
some_by true None is = absurd is
some_by false (Some one) is = absurd is
some_by false None is = refl

-- nothing is kept of a link of a side on which no link has its replies in order
pub none_fresh : (flags : List Bool) (number : ℕ) → is_any_set flags ≡ false
    → IsFreshBy (slice_index_or flags number false) (turns_in [] number)
none_fresh [] number none = tt
none_fresh (true ∷ flags) number none = absurd (let wrong : true ≡ false = none in cc)
none_fresh (false ∷ flags) zero none = tt
none_fresh (false ∷ flags) (suc number) none = none_fresh flags number none

fresh_by : (flag : Bool) (one : LinkTurnsView) → IsFreshBy flag (Some one) → IsFresh one
fresh_by true one is = is
fresh_by false one is = absurd is

pub fresh_turns : (plan : Plan) (turns : TurnsView)
    → ((link : Link) → IsFreshBy (is_fifo plan.layout link) (turns_at turns link)) → KeepsTurns plan [] turns
fresh_turns plan turns fresh = record {
  lawful = tt;
  there = λ link. some_by (is_fifo plan.layout link) (turns_at turns link) (fresh link);
  kept = λ link one is.
      let none = fresh_by (is_fifo plan.layout link) one
      (subst (λ (o : Option LinkTurnsView). IsFreshBy (is_fifo plan.layout link) o) is (fresh link)) in
      record { asked = none.asked; answered = none.answered; numbers = λ source. none.numbers source };
}

-- ---- counts: `here` says whether a beat crosses at the link, `of` whether it is of the channel, `first` whether it is the
-- first of its message

same_count : (here of first : Bool) (count : ℕ) → (here ≡ true → first ≡ false) → count_if (here && (of && first)) count ≡ count
same_count false of first count never = refl
same_count true false first count never = refl
same_count true true false count never = refl
same_count true true true count never = absurd (let wrong : true ≡ false = never refl in cc)

same_number : (here of first own : Bool) (number other : ℕ) → (here ≡ true → first ≡ false)
    → (if (here && (of && first)) && own then number else other) ≡ other
same_number false of first own number other never = refl
same_number true false first own number other never = refl
same_number true true false own number other never = refl
same_number true true true own number other never = absurd (let wrong : true ≡ false = never refl in cc)

more_count : (here of first : Bool) (count : ℕ) → here ≡ true → first ≡ true
    → count_if of count ≡ count_if (here && (of && first)) count
more_count true true true count at begins = refl
more_count true false first count at begins = refl
more_count true true false count at begins = cc
more_count false of first count at begins = cc

more_number : (here of first own : Bool) (number other : ℕ) → here ≡ true → first ≡ true
    → (if of && own then number else other) ≡ (if (here && (of && first)) && own then number else other)
more_number true true true own number other at begins = refl
more_number true false first own number other at begins = refl
more_number true true false own number other at begins = cc
more_number false of first own number other at begins = cc

-- a message begins, if one does where replies come in order
pub begins_if : (fifo begins : Bool) → (fifo && begins) ≡ true → begins ≡ true
begins_if true begins is = is
begins_if false begins is = cc

-- ---- one beat more

module _ (plan : Plan) (past : List Sighting) (x : Sighting) where
  abbrev first : Bool
  first = begins_after plan past x

  abbrev crosses : Link → Bool
  crosses link = is_link x.link (side_of link) (link_number link)

  -- nothing has begun at a link with a beat that crosses elsewhere, or is not the first of its message
  stays : (link : Link) (one : LinkTurnsView) → (crosses link ≡ true → first ≡ false) → IsTurns plan past link one
      → IsTurns plan (x ∷ past) link one
  stays link one never is = record {
    asked = is.asked ∙ sym (same_count (crosses link) (is_request x.beat) first (asked_at plan past link) never);
    answered = is.answered ∙ sym (same_count (crosses link) (is_reply x.beat) first (answered_at plan past link) never);
    numbers = λ source. is.numbers source
        ∙ sym (same_number (crosses link) (is_request x.beat) first (source_of x.beat == source) (next (asked_at plan past link))
        (number_of plan past link source) never);
  }

  grows : (link : Link) (old new : LinkTurnsView) → crosses link ≡ true → first ≡ true → IsTurns plan past link old
      → IsAfter old new x.beat → IsTurns plan (x ∷ past) link new
  grows link old new at begins is after = record {
    asked = after.asked ∙ ap (count_if (is_request x.beat)) is.asked
        ∙ more_count (crosses link) (is_request x.beat) first (asked_at plan past link) at begins;
    answered = after.answered ∙ ap (count_if (is_reply x.beat)) is.answered
        ∙ more_count (crosses link) (is_reply x.beat) first (answered_at plan past link) at begins;
    numbers = λ source.
        let own = is_request x.beat && (source_of x.beat == source) in
        after.numbers source
        ∙ ap (λ (n : ℕ). if own then next n else number_in old.numbers source) is.asked
        ∙ ap (λ (n : ℕ). if own then next (asked_at plan past link) else n) (is.numbers source)
        ∙ more_number (crosses link) (is_request x.beat) first (source_of x.beat == source) (next (asked_at plan past link))
        (number_of plan past link source) at begins;
  }

  module _ (turns : TurnsView) (keeps : KeepsTurns plan past turns) (in_turn : IsInTurn plan past x) where
    -- a beat that begins no message of a link whose replies come in order changes nothing
    pub not_noted : (is_fifo plan.layout x.link && first) ≡ false → KeepsTurns plan (x ∷ past) turns
    not_noted never = record {
      lawful = (keeps.lawful, in_turn);
      there = keeps.there;
      kept = λ link one is. stays link one (λ at. none link one is at) (keeps.kept link one is);
    }
      where
        and_false : (fifo begins : Bool) → fifo ≡ true → (fifo && begins) ≡ false → begins ≡ false
        and_false true begins is none = none
        and_false false begins is none = cc

        none : (link : Link) (one : LinkTurnsView) → turns_at turns link ≡ Some one → crosses link ≡ true → first ≡ false
        none link one is at =
            let own : x.link ≡ link = same_link x.link link at in
            let fifo : is_fifo plan.layout link ≡ true =
            sym (keeps.there link) ∙ ap (λ (o : Option LinkTurnsView). is_some o) is in
            and_false (is_fifo plan.layout x.link) first (ap (λ l. is_fifo plan.layout l) own ∙ fifo) never

    module _ (new : TurnsView)
        (notes : (link : Link) → IsNotedBy (crosses link) x.beat (turns_at turns link) (turns_at new link)) where
      some_noted : (here : Bool) (old later : Option LinkTurnsView) → IsNotedBy here x.beat old later
          → is_some later ≡ is_some old
      some_noted true (Some old) (Some later) is = refl
      some_noted true (Some old) None is = absurd is
      some_noted true None (Some later) is = absurd is
      some_noted true None None is = refl
      some_noted false old later is = ap (λ (o : Option LinkTurnsView). is_some o) is

      -- a beat that begins a message is noted at its link
      pub noted : first ≡ true → KeepsTurns plan (x ∷ past) new
      noted begins = record {
        lawful = (keeps.lawful, in_turn);
        there = λ link. some_noted (crosses link) (turns_at turns link) (turns_at new link) (notes link) ∙ keeps.there link;
        kept = λ link one is. go link one (crosses link) refl (turns_at turns link) refl
            (subst (λ (o : Option LinkTurnsView). IsNotedBy (crosses link) x.beat (turns_at turns link) o) is (notes link));
      }
        where
          go : (link : Link) (one : LinkTurnsView) (here : Bool) → crosses link ≡ here → (old : Option LinkTurnsView)
              → turns_at turns link ≡ old → IsNotedBy here x.beat old (Some one) → IsTurns plan (x ∷ past) link one
          go link one true at (Some old) was is = grows link old one at begins (keeps.kept link old was) is
          go link one true at None was is = absurd is
          go link one false at old was is =
              stays link one (λ here. absurd (let wrong : true ≡ false = sym here ∙ at in cc))
              (keeps.kept link one (was ∙ sym is))

-- ---- tables of links

-- one link more
pub more_fresh : (flags : List Bool) (table : List (Option LinkTurnsView)) (flag : Bool) (one : Option LinkTurnsView)
    → length flags ≡ length table
    → ((number : ℕ) → IsFreshBy (slice_index_or flags number false) (turns_in table number)) → IsFreshBy flag one
    → (number : ℕ) → IsFreshBy (slice_index_or (flags ++ flag ∷ []) number false) (turns_in (table ++ one ∷ []) number)
more_fresh [] [] flag one same fresh is zero = is
more_fresh [] [] flag one same fresh is (suc number) = tt
more_fresh [] (other ∷ table) flag one same fresh is number = absurd (omega (arith, same))
more_fresh (other ∷ flags) [] flag one same fresh is number = absurd (omega (arith, same))
more_fresh (first ∷ flags) (other ∷ table) flag one same fresh is zero = fresh 0
more_fresh (first ∷ flags) (other ∷ table) flag one same fresh is (suc number) =
    more_fresh flags table flag one (omega (arith, same)) (λ n. fresh (suc n)) is number

-- nothing stands behind a table
pub none_behind : (table : List (Option LinkTurnsView)) (number : ℕ) → length table ≤ number → turns_in table number ≡ None
none_behind [] number past = refl
none_behind (one ∷ table) zero past = absurd (omega (arith, past))
none_behind (one ∷ table) (suc number) past = none_behind table number (omega (arith, past))

pub fresh_none : (old new : Option LinkTurnsView) → old ≡ None → new ≡ None → IsFreshBy (is_some old) new
fresh_none None None was is = tt
fresh_none None (Some one) was is = cc
fresh_none (Some one) new was is = cc
