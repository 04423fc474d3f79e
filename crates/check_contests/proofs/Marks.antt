-- Flags of a block, as requests are looked at one after the other.
use Rattle.std.proofs.Common.{◌≡◌, ◌∙◌, ◌⊎◌, inl, inr, ⊎_elim, ℕ, ◌+◌, ◌-◌, ◌^◌, ◌<◌, ◌≤◌, Bool, true, false, ◌&&◌, ◌||◌, ◌↔◌, List, length, get_or, set, refl, sym, ap, subst, arith}
use Rattle.std.proofs.lemmas.Bool.{and_parts, cases_lt, true_from_ne_false, and_left}
use Rattle.std.proofs.lemmas.List.{get_or-set_same, get_or-set_other}
use Rattle.tl_types.specs.Request.{Request}
use Rattle.check_contests.specs.Writes.{in_window, writes}
use Rattle.check_contests.proofs.Clash.{not_both}
use Rattle.check_contests.proofs.Effect.{place_in, where_is, written_in}
use Rattle.check_contests.proofs.Near.{out_below, out_above, not_written}

-- so many places from one on were looked at: those of a test are flagged as well
pub record Marked (test : ℕ → Bool) (old flags : List Bool) (start count : ℕ) : Type 0 where
  pub flagged : (j : ℕ) → j < count → get_or flags (start + j) false ≡ (get_or old (start + j) false || test j)
  pub kept : (k : ℕ) → (k < start) ⊎ (start + count ≤ k) → get_or flags k false ≡ get_or old k false

-- and it is known whether there is one
pub record Met (test : ℕ → Bool) (count : ℕ) (met : Bool) : Type 0 where
  pub met_at : met ≡ true → (j : ℕ) × (test j ≡ true)
  pub unmet : met ≡ false → (j : ℕ) → j < count → test j ≡ false

-- none was looked at yet
pub marked_none : (test : ℕ → Bool) (old : List Bool) (start : ℕ) → Marked test old old start 0
marked_none test old start = record {
  flagged = λ j below. absurd (omega (arith, below));
  kept = λ k beside. refl;
}

pub met_none : (test : ℕ → Bool) → Met test 0 false
met_none test = record { met_at = λ is. cc; unmet = λ is j below. absurd (omega (arith, below)) }

pub or_false : (b c : Bool) → c ≡ false → b ≡ (b || c)
or_false true c is = refl
or_false false c is = sym is

or_true : (b c : Bool) → c ≡ true → true ≡ (b || c)
or_true true c is = refl
or_true false c is = sym is

-- one place more, where the test does not hold
marked_no : (test : ℕ → Bool) (old flags : List Bool) (start count : ℕ) → Marked test old flags start count
    → test count ≡ false → Marked test old flags start (count + 1)
marked_no test old flags start count is none = record {
  flagged = λ j below. ⊎_elim
      (λ before. is.flagged j before)
      (λ from. let here : j ≡ count = omega (arith, below, from) in
      is.kept (start + j) (inr (omega (arith, here)))
      ∙ or_false (get_or old (start + j) false) (test j) (ap test here ∙ none))
      (cases_lt j count);
  kept = λ k beside. is.kept k
      (⊎_elim (λ before. inl before) (λ past. inr (omega (arith, past))) beside);
}

-- one place more, where it does
marked_yes : (test : ℕ → Bool) (old flags : List Bool) (start count : ℕ) → Marked test old flags start count
    → test count ≡ true → start + count < length flags
    → Marked test old (set flags (start + count) true) start (count + 1)
marked_yes test old flags start count is holds room = record {
  flagged = λ j below. ⊎_elim
      (λ (before : j < count).
      get_or-set_other flags (start + count) (start + j) true false (λ same. absurd (omega (arith, before, same)))
      ∙ is.flagged j before)
      (λ from. let here : j ≡ count = omega (arith, below, from) in
      ap (λ n. get_or (set flags (start + count) true) (start + n) false) here
      ∙ get_or-set_same flags (start + count) true false room
      ∙ or_true (get_or old (start + j) false) (test j) (ap test here ∙ holds))
      (cases_lt j count);
  kept = λ k beside.
      get_or-set_other flags (start + count) k true false (λ same. ⊎_elim
      (λ (before : k < start). absurd (omega (arith, before, same)))
      (λ (past : start + (count + 1) ≤ k). absurd (omega (arith, past, same))) beside)
      ∙ is.kept k (⊎_elim (λ before. inl before) (λ past. inr (omega (arith, past))) beside);
}

-- ---- a whole window

abbrev pub shared : Request → Request → ℕ → Bool
shared ask other address = writes ask.op ask address && writes other.op other address

-- outside of its window a request shares no byte
pub shares_in : (ask other : Request) (address : ℕ) → in_window ask address ≡ false → shared ask other address ≡ false
shares_in ask other address out =
    and_left (writes ask.op ask address) (writes other.op other address) (not_written ask.op ask address out)

-- all places of a window were looked at, by a test that holds nowhere else
pub all_flagged : (test : ℕ → Bool) (ask : Request) (block at start count : ℕ) (old flags : List Bool)
    → Marked (λ j. test (ask.address + j)) old flags start count
    → ((address : ℕ) → in_window ask address ≡ false → test address ≡ false)
    → at ≡ ask.address → start ≡ at - block → block ≤ ask.address → count ≡ 2 ^ ask.size
    → (k : ℕ) → get_or flags k false ≡ (get_or old k false || test (block + k))
all_flagged test ask block at start count old flags is none here first from width k = ⊎_elim
    (λ beside.
    is.kept k (⊎_elim
    (λ (before : block + k < ask.address). inl (omega (arith, before, here, first, from)))
    (λ (past : ask.address + 2 ^ ask.size ≤ block + k). inr (omega (arith, past, here, first, from, width))) beside)
    ∙ or_false (get_or old k false) (test (block + k)) (none (block + k)
    (⊎_elim (λ before. out_below ask (block + k) before) (λ past. out_above ask (block + k) past) beside)))
    (λ place.
    let same : start + place.0 ≡ k = omega (arith, here, first, from, place.2) in
    ap (λ n. get_or flags n false) (sym same)
    ∙ is.flagged place.0 (omega (arith, place.1, width))
    ∙ ap (λ n. get_or old n false || test (ask.address + place.0)) same
    ∙ ap (λ n. get_or old k false || test n) (sym place.2))
    (where_is ask (block + k))

-- so it is known whether there is a byte that both write
pub is_met : (ask other : Request) (count : ℕ) (met : Bool) → Met (λ j. shared ask other (ask.address + j)) count met
    → count ≡ 2 ^ ask.size → (met ≡ true) ↔ ((address : ℕ) × (shared ask other address ≡ true))
is_met ask other count met is width = (
  λ met'. let at = is.met_at met' in (ask.address + at.0, at.1),
  λ at. true_from_ne_false met (λ unmet.
      let place = place_in ask at.0 (written_in ask.op ask at.0
      (and_parts (writes ask.op ask at.0) (writes other.op other at.0) at.1).0) in
      not_both (ap (λ n. shared ask other n) (sym place.2) ∙ at.1)
      (is.unmet unmet place.0 (omega (arith, place.1, width)))),
)

-- ---- a step of the loop

-- where the test holds, and the place is flagged
pub step_yes : (test : ℕ → Bool) (old flags flags' : List Bool) (start count : ℕ) → Marked test old flags start count
    → test count ≡ true → start + count < length flags → flags' ≡ set flags (start + count) true
    → Marked test old flags' start (count + 1)
step_yes test old flags flags' start count is holds room same =
    subst (λ (fs : List Bool). Marked test old fs start (count + 1)) (sym same)
    (marked_yes test old flags start count is holds room)

-- where it does not, and nothing changes
pub step_no : (test : ℕ → Bool) (old flags flags' : List Bool) (start count : ℕ) → Marked test old flags start count
    → test count ≡ false → flags' ≡ flags → Marked test old flags' start (count + 1)
step_no test old flags flags' start count is none same =
    subst (λ (fs : List Bool). Marked test old fs start (count + 1)) (sym same) (marked_no test old flags start count is none)

-- the same of whether there is one
pub met_yes : (test : ℕ → Bool) (count : ℕ) (met : Bool) → test count ≡ true → met ≡ true → Met test (count + 1) met
met_yes test count met holds is = record { met_at = λ _. (count, holds); unmet = λ unmet. not_both is unmet }

pub met_no : (test : ℕ → Bool) (count : ℕ) (met met' : Bool) → Met test count met → test count ≡ false → met' ≡ met
    → Met test (count + 1) met'
met_no test count met met' is none same = record {
  met_at = λ met_now. is.met_at (sym same ∙ met_now);
  unmet = λ unmet j below. ⊎_elim
      (λ before. is.unmet (sym same ∙ unmet) j before)
      (λ from. let here : j ≡ count = omega (arith, below, from) in ap test here ∙ none)
      (cases_lt j count);
}
