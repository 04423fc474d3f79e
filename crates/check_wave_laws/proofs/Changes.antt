-- The values after some of the changes of a dump.
use Rattle.std.proofs.Common.{◌≡◌, ◌∙◌, ℕ, zero, suc, ◌<◌, ◌≤◌, ◌⊎◌, inl, inr, ◌==◌, Bool, true, false, cond, not, nat_lt, List, [], ◌∷◌, ◌++◌, length, get_or, filter, Contains, Option, None, Some, ap, arith, append-nil, refl, subst, sym}
use Rattle.std.specs.Prelude.{⊤}
use Rattle.std.specs.List.{last_or}
use Rattle.std.proofs.lemmas.Bool.{cases_eq, cond-false, cond-true, eq-eqb, le-leb, le-ltb, leb-false, leb-true, lt-leb, lt-ltb, ltb-false, ltb-true, ne_eqb}
use Rattle.std.proofs.lemmas.List.{get_or-set_other, get_or-set_same, length-set, same_lists}
use Rattle.std.proofs.lemmas.List.Elements.{filter-append}
use Rattle.std.proofs.lemmas.List.FromFn.{fill_by_all, get_or-map-range_with_len, length-map-range_with_len}
use Rattle.check_vcd.specs.Body.{Happens, At, Sets, Resumes, Wrong}
use Rattle.check_samples.specs.Digits.{extended, set_extended, with_joined}
use Rattle.check_samples.specs.Sampling.{Sampling, with_value}
use Rattle.check_wave_laws.specs.Sampled.{ValueChange, NeverFalls, Wave, changes_after, cut_after, gaps_after, is_before, is_until, is_whole, last_of, value_after, value_by, values_after, values_before, values_until}

-- ---- times

-- what is so of the time of each change
abbrev pub EachTime : (Option ℕ → Type 0) → List ValueChange → Type 0
EachTime P [] = ⊤
EachTime P (change ∷ changes) = P change.time × EachTime P changes

pub each-weaker : (P Q : Option ℕ → Type 0) (changes : List ValueChange) → ((at : Option ℕ) → P at → Q at)
    → EachTime P changes → EachTime Q changes
each-weaker P Q [] so each = tt
each-weaker P Q (change ∷ changes) so each = (so change.time each.0, each-weaker P Q changes so each.1)

pub each-push : (P : Option ℕ → Type 0) (changes : List ValueChange) (change : ValueChange) → EachTime P changes
    → P change.time → EachTime P (changes ++ (change ∷ []))
each-push P [] change each one = (one, tt)
each-push P (other ∷ changes) change each one = (each.0, each-push P changes change each.1 one)

-- no later than the present time; the present time is less; at this time or later
abbrev pub IsUpTo : Option ℕ → Option ℕ → Type 0
IsUpTo time None = ⊤
IsUpTo None (Some at) = ⊥
IsUpTo (Some time) (Some at) = at ≤ time

abbrev pub IsLess : Option ℕ → ℕ → Type 0
IsLess None next = ⊤
IsLess (Some time) next = time < next

abbrev pub IsFrom : ℕ → Option ℕ → Type 0
IsFrom time None = ⊥
IsFrom time (Some at) = time ≤ at

pub up-to-self : (time : Option ℕ) → IsUpTo time time
up-to-self None = tt
up-to-self (Some time) = omega arith

pub up-to-next : (time : Option ℕ) (next : ℕ) (at : Option ℕ) → IsLess time next → IsUpTo time at
    → IsUpTo (Some next) at
up-to-next time next None less up = tt
up-to-next None next (Some at) less up = absurd up
up-to-next (Some time) next (Some at) less up = omega (arith, less, up)

pub up-to-before : (time : Option ℕ) (next : ℕ) (at : Option ℕ) → IsLess time next → IsUpTo time at
    → is_before next at ≡ true
up-to-before time next None less up = refl
up-to-before None next (Some at) less up = absurd up
up-to-before (Some time) next (Some at) less up = lt-ltb at next (omega (arith, less, up))

pub before-until : (time : ℕ) (at : Option ℕ) → is_before time at ≡ true → is_until time at ≡ true
before-until time None is = refl
before-until time (Some at) is = le-leb at time (omega (arith, ltb-true at time is))

pub up-to-until : (time : ℕ) (at : Option ℕ) → IsUpTo (Some time) at → is_until time at ≡ true
up-to-until time None up = refl
up-to-until time (Some at) up = le-leb at time up

pub until-before : (time : ℕ) (at : Option ℕ) → is_until time at ≡ false → is_before time at ≡ false
until-before time None is = is
until-before time (Some at) is = le-ltb at time (omega (arith, leb-false at time is))

pub from-until : (time next : ℕ) (at : Option ℕ) → time < next → IsFrom next at → is_until time at ≡ false
from-until time next None less from = absurd from
from-until time next (Some at) less from = lt-leb at time (omega (arith, less, from))

pub from-before : (time : ℕ) (at : Option ℕ) → IsFrom time at → is_before time at ≡ false
from-before time None from = absurd from
from-before time (Some at) from = le-ltb at time from

from-earlier : (time next : ℕ) (at : Option ℕ) → time ≤ next → IsFrom next at → IsFrom time at
from-earlier time next None order from = absurd from
from-earlier time next (Some at) order from = omega (arith, order, from)

-- what changes from a time on does so then or later
pub changes-from : (time : ℕ) (happens : List Happens) → NeverFalls (Some time) happens
    → EachTime (IsFrom time) (changes_after (Some time) happens)
changes-from time [] rises = tt
changes-from time (At next ∷ happens) rises =
    each-weaker (IsFrom next) (IsFrom time) (changes_after (Some next) happens)
    (λ at from. from-earlier time next at (leb-true time next rises.0) from) (changes-from next happens rises.1)
changes-from time (Sets slot digits ∷ happens) rises = (omega arith, changes-from time happens rises)
changes-from time (Resumes line ∷ happens) rises = changes-from time happens rises
changes-from time (Wrong line mistake ∷ happens) rises = tt

gap-here : (time : ℕ) (gap : Option ℕ) (gaps : List (Option ℕ)) → (Contains gaps gap → IsFrom time gap)
    → Contains (Some time ∷ gaps) gap → IsFrom time gap
gap-here time gap gaps more has = go has.0 has.1 has.2
  where
    go : (k : ℕ) → k < length (Some time ∷ gaps) → get_or (Some time ∷ gaps) k gap ≡ gap → IsFrom time gap
    go zero inside is =
        let self : IsFrom time (Some time) = omega arith in subst (λ (g : Option ℕ). IsFrom time g) is self
    go (suc k) inside is = more (k, omega (arith, inside), is)

-- where changes are told again from a time on they are so then or later
pub gaps-from : (time : ℕ) (happens : List Happens) → NeverFalls (Some time) happens → (gap : Option ℕ)
    → Contains (gaps_after (Some time) happens) gap → IsFrom time gap
gaps-from time [] rises gap has = absurd (omega (arith, has.1))
gaps-from time (At next ∷ happens) rises gap has =
    from-earlier time next gap (leb-true time next rises.0) (gaps-from next happens rises.1 gap has)
gaps-from time (Sets slot digits ∷ happens) rises gap has = gaps-from time happens rises gap has
gaps-from time (Resumes line ∷ happens) rises gap has =
    gap-here time gap (gaps_after (Some time) happens) (gaps-from time happens rises gap) has
gaps-from time (Wrong line mistake ∷ happens) rises gap has = absurd (omega (arith, has.1))

-- what is wrong from a time on is so then or later
pub whole-before : (time : ℕ) (happens : List Happens) (early : ℕ) → NeverFalls (Some time) happens → early < time
    → is_whole (cut_after (Some time) happens) early ≡ true
whole-before time [] early rises less = refl
whole-before time (At next ∷ happens) early rises less =
    whole-before next happens early rises.1 (omega (arith, less, leb-true time next rises.0))
whole-before time (Sets slot digits ∷ happens) early rises less = whole-before time happens early rises less
whole-before time (Resumes line ∷ happens) early rises less = whole-before time happens early rises less
whole-before time (Wrong line mistake ∷ happens) early rises less =
    ap (λ (t : Bool). not t) (lt-leb time early less)

-- ---- the changes up to a time

all-pass : (test : Option ℕ → Bool) (changes : List ValueChange) → EachTime (λ at. test at ≡ true) changes
    → filter (λ (change : ValueChange). test change.time) changes ≡ changes
all-pass test [] each = refl
all-pass test (change ∷ changes) each =
    let rest = filter (λ (other : ValueChange). test other.time) changes in
    cond-true (test change.time) (change ∷ rest) rest each.0
    ∙ ap (λ (cs : List ValueChange). change ∷ cs) (all-pass test changes each.1)

none-passes : (test : Option ℕ → Bool) (changes : List ValueChange) → EachTime (λ at. test at ≡ false) changes
    → filter (λ (change : ValueChange). test change.time) changes ≡ []
none-passes test [] each = refl
none-passes test (change ∷ changes) each =
    let rest = filter (λ (other : ValueChange). test other.time) changes in
    cond-false (test change.time) (change ∷ rest) rest each.0 ∙ none-passes test changes each.1

first-pass : (test : Option ℕ → Bool) (past later : List ValueChange) → EachTime (λ at. test at ≡ true) past
    → EachTime (λ at. test at ≡ false) later
    → filter (λ (change : ValueChange). test change.time) (past ++ later) ≡ past
first-pass test past later on off =
    filter-append (λ (change : ValueChange). test change.time) past later
    ∙ ap (λ (cs : List ValueChange). cs ++ filter (λ (change : ValueChange). test change.time) later) (all-pass test past on)
    ∙ ap (λ (cs : List ValueChange). past ++ cs) (none-passes test later off)
    ∙ append-nil past

pub before-past : (wave : Wave) (past later : List ValueChange) (time : ℕ) → wave.changes ≡ past ++ later
    → EachTime (λ at. is_before time at ≡ true) past → EachTime (λ at. is_before time at ≡ false) later
    → values_before wave time ≡ with_joined wave.probes.joins (values_after wave past)
before-past wave past later time is on off =
    ap (λ (vs : List (List ℕ)). with_joined wave.probes.joins vs)
    (ap (λ (cs : List ValueChange). values_after wave (filter (λ (change : ValueChange). is_before time change.time) cs)) is
    ∙ ap (λ (cs : List ValueChange). values_after wave cs) (first-pass (is_before time) past later on off))

pub until-past : (wave : Wave) (past later : List ValueChange) (time : ℕ) → wave.changes ≡ past ++ later
    → EachTime (λ at. is_until time at ≡ true) past → EachTime (λ at. is_until time at ≡ false) later
    → values_until wave time ≡ values_after wave past
until-past wave past later time is on off =
    ap (λ (cs : List ValueChange). values_after wave (filter (λ (change : ValueChange). is_until time change.time) cs)) is
    ∙ ap (λ (cs : List ValueChange). values_after wave cs) (first-pass (is_until time) past later on off)

-- ---- one change more

last-push : (last : Option ValueChange) (changes : List ValueChange) (change : ValueChange)
    → last_or last (changes ++ (change ∷ [])) ≡ Some change
last-push last [] change = refl
last-push last (other ∷ changes) change = last-push (Some other) changes change

last-same : (slot : ℕ) (changes : List ValueChange) (change : ValueChange) → (change.slot == slot) ≡ true
    → last_of slot (changes ++ (change ∷ [])) ≡ Some change
last-same slot changes change same =
    let kept = filter (λ (other : ValueChange). other.slot == slot) changes in
    ap (λ (cs : List ValueChange). last_or None cs)
    (filter-append (λ (other : ValueChange). other.slot == slot) changes (change ∷ [])
    ∙ ap (λ (cs : List ValueChange). kept ++ cs) (cond-true (change.slot == slot) (change ∷ []) [] same))
    ∙ last-push None kept change

last-other : (slot : ℕ) (changes : List ValueChange) (change : ValueChange) → (change.slot == slot) ≡ false
    → last_of slot (changes ++ (change ∷ [])) ≡ last_of slot changes
last-other slot changes change other =
    let kept = filter (λ (one : ValueChange). one.slot == slot) changes in
    ap (λ (cs : List ValueChange). last_or None cs)
    (filter-append (λ (one : ValueChange). one.slot == slot) changes (change ∷ [])
    ∙ ap (λ (cs : List ValueChange). kept ++ cs) (cond-false (change.slot == slot) (change ∷ []) [] other)
    ∙ append-nil kept)

module _ (wave : Wave) (changes : List ValueChange) where
  pub length-values : length (values_after wave changes) ≡ length wave.first
  length-values = length-map-range_with_len (value_after wave changes) 0 (length wave.first)

  value-at : (slot : ℕ) (d : List ℕ) → slot < length wave.first
      → get_or (values_after wave changes) slot d ≡ value_after wave changes slot
  value-at slot d inside =
      get_or-map-range_with_len (value_after wave changes) 0 (length wave.first) slot slot d inside (omega arith)

module _ (wave : Wave) (changes : List ValueChange) (change : ValueChange) where
  value-same : value_after wave (changes ++ (change ∷ [])) change.slot
      ≡ extended (get_or wave.widths change.slot 0) change.digits
  value-same =
      ap (λ (last : Option ValueChange). value_by (get_or wave.first change.slot []) (get_or wave.widths change.slot 0) last)
      (last-same change.slot changes change (eq-eqb change.slot change.slot refl))

  value-other : (slot : ℕ) → (slot ≡ change.slot → ⊥)
      → value_after wave (changes ++ (change ∷ [])) slot ≡ value_after wave changes slot
  value-other slot other =
      ap (λ (last : Option ValueChange). value_by (get_or wave.first slot []) (get_or wave.widths slot 0) last)
      (last-other slot changes change (ne_eqb change.slot slot (λ same. other (sym same))))

  set-at : change.slot < length wave.first → (k : ℕ) (d : List ℕ) → k < length wave.first
      → (k ≡ change.slot) ⊎ (k ≡ change.slot → ⊥)
      → get_or (values_after wave (changes ++ (change ∷ []))) k d
      ≡ get_or (set_extended wave.widths (values_after wave changes) change.slot change.digits) k d
  set-at inside k d within (inl same) =
      subst (λ (n : ℕ). get_or (values_after wave (changes ++ (change ∷ []))) n d
      ≡ get_or (set_extended wave.widths (values_after wave changes) change.slot change.digits) n d) (sym same)
      (value-at wave (changes ++ (change ∷ [])) change.slot d inside ∙ value-same
      ∙ sym (get_or-set_same (values_after wave changes) change.slot
      (extended (get_or wave.widths change.slot 0) change.digits) d
      (omega (arith, inside, length-values wave changes))))
  set-at inside k d within (inr other) =
      value-at wave (changes ++ (change ∷ [])) k d within ∙ value-other k other
      ∙ sym (get_or-set_other (values_after wave changes) change.slot k
      (extended (get_or wave.widths change.slot 0) change.digits) d other ∙ value-at wave changes k d within)

  -- in a slot that is kept
  values-push : change.slot < length wave.first → values_after wave (changes ++ (change ∷ []))
      ≡ set_extended wave.widths (values_after wave changes) change.slot change.digits
  values-push inside =
      let all : length (values_after wave (changes ++ (change ∷ []))) ≡ length wave.first =
      length-values wave (changes ++ (change ∷ [])) in
      same_lists (values_after wave (changes ++ (change ∷ [])))
      (set_extended wave.widths (values_after wave changes) change.slot change.digits)
      (all ∙ sym (length-set (values_after wave changes) change.slot
      (extended (get_or wave.widths change.slot 0) change.digits) ∙ length-values wave changes))
      (λ k d below. set-at inside k d (omega (arith, below, all)) (cases_eq k change.slot))

  -- in a slot that is not
  values-past : length wave.first ≤ change.slot
      → values_after wave (changes ++ (change ∷ [])) ≡ values_after wave changes
  values-past past =
      let all : length (values_after wave (changes ++ (change ∷ []))) ≡ length wave.first =
      length-values wave (changes ++ (change ∷ [])) in
      same_lists (values_after wave (changes ++ (change ∷ []))) (values_after wave changes)
      (all ∙ sym (length-values wave changes))
      (λ k d below. at k d (omega (arith, below, all)))
    where
      at : (k : ℕ) (d : List ℕ) → k < length wave.first
          → get_or (values_after wave (changes ++ (change ∷ []))) k d ≡ get_or (values_after wave changes) k d
      at k d within =
          value-at wave (changes ++ (change ∷ [])) k d within
          ∙ value-other k (λ same. omega (arith, within, past, same))
          ∙ sym (value-at wave changes k d within)

-- before any change the values are the first ones
pub values-none : (wave : Wave) → wave.first ≡ values_after wave []
values-none wave =
    fill_by_all (value_after wave []) wave.first (length wave.first) [] refl (λ k below. refl)

-- ---- what a sampler keeps

-- what a change leaves as it is
pub record IsKept (after before : Sampling) : Type 0 where
  pub time : after.time ≡ before.time
  pub joins : after.joins ≡ before.joins
  pub channels : after.channels ≡ before.channels
  pub widths : after.widths ≡ before.widths
  pub earlier : after.before ≡ before.before
  pub watched : after.watched ≡ before.watched
  pub resets : after.resets ≡ before.resets

pub value-kept : (s : Sampling) (slot : ℕ) (digits : List ℕ) → IsKept (with_value s slot digits) s
value-kept s slot digits = go (nat_lt slot (length s.now))
  where
    go : (t : Bool) → IsKept (cond t (record s { now = set_extended s.widths s.now slot digits }) s) s
    go true = record {
      time = refl;
      joins = refl;
      channels = refl;
      widths = refl;
      earlier = refl;
      watched = refl;
      resets = refl;
    }
    go false = record {
      time = refl;
      joins = refl;
      channels = refl;
      widths = refl;
      earlier = refl;
      watched = refl;
      resets = refl;
    }

-- and what it changes
pub now-push : (wave : Wave) (past : List ValueChange) (s : Sampling) (change : ValueChange) → s.now ≡ values_after wave past
    → s.widths ≡ wave.widths
    → (with_value s change.slot change.digits).now ≡ values_after wave (past ++ (change ∷ []))
now-push wave past s change now widths = go (nat_lt change.slot (length s.now)) refl
  where
    size : length s.now ≡ length wave.first
    size = ap (λ (vs : List (List ℕ)). length vs) now ∙ length-values wave past

    go : (t : Bool) → nat_lt change.slot (length s.now) ≡ t
        → (cond t (record s { now = set_extended s.widths s.now change.slot change.digits }) s).now
        ≡ values_after wave (past ++ (change ∷ []))
    go true inside =
        ap (λ (ws : List ℕ). set_extended ws s.now change.slot change.digits) widths
        ∙ ap (λ (vs : List (List ℕ)). set_extended wave.widths vs change.slot change.digits) now
        ∙ sym (values-push wave past change (omega (arith, ltb-true change.slot (length s.now) inside, size)))
    go false outside =
        now
        ∙ sym (values-past wave past change (omega (arith, ltb-false change.slot (length s.now) outside, size)))
