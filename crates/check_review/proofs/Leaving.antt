-- The requests that are left, if these are asked for.
use Rattle.std.proofs.Common.{◌≡◌, ◌∙◌, ℕ, Bool, true, false, not, ◌&&◌, List, ◌∷◌, Option, Some, None, Result, Ok, Err, OnOk, IfNone, IfSome, is_some, refl, ap, sym, subst}
use Rattle.std.proofs.lemmas.Option.{none-some, same_Some}
use Rattle.check_watch.specs.declared.pending.Change.{Change}
use Rattle.check_turns.specs.Lawful.{IsLawfulInOrder}
use Rattle.check_sides.specs.Pending.{IsChange}
use Rattle.check_sides.specs.Plan.{Plan}
use Rattle.check_turns.specs.View.{KeepsOrdered}
use Rattle.check_rows.specs.Row.{SeenRow, beats_of}
use Rattle.check_coverage.specs.View.{Covers}
use Rattle.check_unanswered.specs.Began.{IsComplete, IsLeft}
use Rattle.check_unanswered.specs.View.{Holds, PendingView}
use Rattle.check_rows.specs.declared.request.Left.{Left}
use Rattle.check_review.specs.Waiting.{WaitsView}
use Rattle.check_review.specs.Waiting.{waiting_in}
use Rattle.check_review.specs.declared.tally.Tally.{Tally}
use Rattle.check_review.specs.Count.{answered_in, answered_in_past, asked_in, asked_in_past}
use Rattle.check_review.specs.Stretches.{Earlier, bins_in}
use Rattle.check_review.specs.Order.{is_watched, sightings_of, watched}
use Rattle.check_review.specs.Times.{waits_after}
use Rattle.check_review.specs.Verdict.{IsWhatIsLeft}
use Rattle.check_review.specs.View.{Kept, Tallied}
use Rattle.check_review.proofs.Watched.{seen_one, seen_other, watched_one, watched_other}

-- what is answered of the requests that are kept
pub what_is_left : (plan : Plan) (rows : List SeenRow) (pending : Option PendingView) (kept : PendingView)
    (left : Option Left) → pending ≡ Some kept → IfSome pending (Holds plan rows)
    → (Holds plan rows kept → IfNone left (IsComplete plan rows))
    → (Holds plan rows kept → IfSome left (IsLeft plan rows)) → IsWhatIsLeft (is_some pending) plan rows left
what_is_left plan rows None kept left is holds complete some = absurd (cc)
what_is_left plan rows (Some one) kept None is holds complete some =
    let same : one ≡ kept = cc in complete (subst (Holds plan rows) same holds)
what_is_left plan rows (Some one) kept (Some left) is holds complete some =
    let same : one ≡ kept = cc in some (subst (Holds plan rows) same holds)

-- a step at a watched link, with what it was seen to do to the requests in flight, and a note of that
pub record IsNoted (earlier : Earlier) (plan : Plan) (before : List SeenRow) (row : SeenRow) (old mid new : Tally)
    (what : Option Change) : Type 0 where
  pub here : is_watched plan.layout row.sighting.link ≡ true
  pub tallied : Tallied earlier plan (row ∷ before) mid
  pub same : mid.pending ≡ old.pending
  pub asked : is_some what ≡ is_some old.pending
  pub change : IsLawfulInOrder plan (row.sighting ∷ sightings_of plan.layout before)
      → IfSome what (IsChange plan (sightings_of plan.layout before) row.sighting)
  pub noted : Tallied earlier plan (row ∷ before) mid → Tallied earlier plan (row ∷ before) new
  pub holds : IfSome mid.pending (Holds plan (watched plan.layout before)) → is_some what ≡ is_some mid.pending
      → IfSome what (IsChange plan (sightings_of plan.layout before) row.sighting)
      → IfSome new.pending (Holds plan (row ∷ watched plan.layout before))
  pub waits : new.waits ≡ waits_after earlier.system.within plan (row ∷ watched plan.layout before)

pub kept_noted : (earlier : Earlier) (plan : Plan) (before : List SeenRow) (row : SeenRow) (old mid new : Tally)
    (change : Option Change) → Kept earlier plan before old → IsNoted earlier plan before row old mid new change
    → Kept earlier plan (row ∷ before) new
kept_noted earlier plan before row old mid new change kept step =
    let lawful : IsLawfulInOrder plan (row.sighting ∷ sightings_of plan.layout before) =
    subst (IsLawfulInOrder plan) (seen_one plan.layout row before step.here) step.tallied.keeps.lawful in
    let H : Option PendingView → Type 0 = λ p. IfSome p (Holds plan (watched plan.layout before)) in
    let R : List SeenRow → Type 0 = λ rows. IfSome new.pending (Holds plan rows) in
    record {
      tallied = step.noted step.tallied;
      pending = subst R (sym (watched_one plan.layout row before step.here))
          (step.holds (subst H (sym step.same) kept.pending) (step.asked ∙ ap is_some (sym step.same))
          (step.change lawful));
      waits = step.waits ∙ ap (waits_after earlier.system.within plan) (sym (watched_one plan.layout row before step.here));
    }

-- a row at a link that is not watched
pub kept_unwatched : (earlier : Earlier) (plan : Plan) (before : List SeenRow) (row : SeenRow) (tally : Tally)
    → is_watched plan.layout row.sighting.link ≡ false → Kept earlier plan before tally
    → Kept earlier plan (row ∷ before) tally
kept_unwatched earlier plan before row tally other kept =
    let same = sym (seen_other plan.layout row before other) in
    let R : List SeenRow → Type 0 = λ rows. IfSome tally.pending (Holds plan rows) in
    record {
      tallied = record {
        keeps = subst (λ past. KeepsOrdered plan past tally.watch) same kept.tallied.keeps;
        loads = kept.tallied.loads;
        requests = kept.tallied.requests ∙ ap (asked_in_past (asked_in earlier.ended) plan) same;
        answered = kept.tallied.answered ∙ ap (answered_in_past (answered_in earlier.ended) plan) same;
        covers = subst (λ rows. IfSome tally.coverage (Covers plan (bins_in earlier.ended) rows)) (sym (watched_other plan.layout row before other))
            kept.tallied.covers;
      };
      pending = subst R (sym (watched_other plan.layout row before other)) kept.pending;
      waits = kept.waits ∙ ap (waits_after earlier.system.within plan) (sym (watched_other plan.layout row before other));
    }

unasked : (pending : Option PendingView) (P : PendingView → Type 0) → is_some pending ≡ false → IfSome pending P
unasked None P none = tt
unasked (Some one) P none = absurd (cc)

-- no request is timed if there is no limit
untimed : (within : Option ℕ) (waits : Option WaitsView) (plan : Plan) (before after : List SeenRow)
    → waits ≡ waits_after within plan before → is_some waits ≡ false → waits ≡ waits_after within plan after
untimed None waits plan before after is none = is
untimed (Some limit) waits plan before after is none = let some = ap is_some is in absurd (cc)

-- a row that is taken where it is not asked which requests are left, nor how long they wait
pub kept_unasked : (earlier : Earlier) (plan : Plan) (before : List SeenRow) (row : SeenRow) (old new : Tally)
    → Kept earlier plan before old → is_some old.pending ≡ false → new.pending ≡ old.pending → is_some old.waits ≡ false
    → new.waits ≡ old.waits → Tallied earlier plan (row ∷ before) new → Kept earlier plan (row ∷ before) new
kept_unasked earlier plan before row old new kept none same untimed_then waits tallied = record {
  tallied = tallied;
  pending = unasked new.pending (Holds plan (watched plan.layout (row ∷ before))) (ap is_some same ∙ none);
  waits = waits ∙ untimed earlier.system.within old.waits plan (watched plan.layout before)
      (watched plan.layout (row ∷ before)) kept.waits untimed_then;
}

-- what is counted is that of a judge with other requests that wait
pub tallied_waiting : (earlier : Earlier) (plan : Plan) (crossed : List SeenRow) (old new : Tally)
    → new ≡ record old { waits = new.waits } → Tallied earlier plan crossed old → Tallied earlier plan crossed new
tallied_waiting earlier plan crossed old new rest tallied =
    subst (Tallied earlier plan crossed) (sym rest) (record {
      keeps = tallied.keeps;
      loads = tallied.loads;
      requests = tallied.requests;
      answered = tallied.answered;
      covers = tallied.covers;
    })

-- the requests that wait after a row that was noted
pub still_waits : (earlier : Earlier) (plan : Plan) (before : List SeenRow) (row : SeenRow) (old mid new : Tally)
    → Kept earlier plan before old → is_watched plan.layout row.sighting.link ≡ true
    → Tallied earlier plan (row ∷ before) mid → mid.waits ≡ old.waits
    → (KeepsOrdered plan (beats_of (row ∷ watched plan.layout before)) mid.watch
    → mid.waits ≡ waits_after earlier.system.within plan (watched plan.layout before)
    → new.waits ≡ waits_after earlier.system.within plan (row ∷ watched plan.layout before))
    → new.waits ≡ waits_after earlier.system.within plan (row ∷ watched plan.layout before)
still_waits earlier plan before row old mid new kept here tallied same noted =
    noted (subst (λ past. KeepsOrdered plan past mid.watch) (seen_one plan.layout row before here) tallied.keeps)
    (same ∙ kept.waits)

-- neither is there
pub none_kept : (a b : Bool) → (not a && not b) ≡ true → (a ≡ false) × (b ≡ false)
none_kept true b is = absurd (cc)
none_kept false true is = absurd (cc)
none_kept false false is = (refl, refl)

-- the requests that wait are noted, if there is a limit
pub waits_noted : {X E : Type 0} (result : Result X E) (within : Option ℕ) (old new : WaitsView) (waits : Option WaitsView) (plan : Plan)
    (rows : List SeenRow) (row : SeenRow) → waits ≡ Some old → waits ≡ waits_after within plan rows → new.limit ≡ old.limit
    → (old.requests ≡ waiting_in plan rows → OnOk result (new.requests ≡ waiting_in plan (row ∷ rows)))
    → OnOk result (Some new ≡ waits_after within plan (row ∷ rows))
waits_noted {X = X} {E = E} result None old new waits plan rows row is same limit noted = absurd (none-some old (sym same ∙ is))
waits_noted {X = X} {E = E} result (Some most) old new waits plan rows row is same limit noted =
    go result (noted (ap (λ (w : WaitsView). w.requests) kept))
  where
    kept : old ≡ record { limit = most; requests = waiting_in plan rows }
    kept = same_Some _ _ (sym is ∙ same)

    both : new.requests ≡ waiting_in plan (row ∷ rows) → Some new ≡ waits_after (Some most) plan (row ∷ rows)
    both requests =
        let limits : new.limit ≡ most = limit ∙ ap (λ (w : WaitsView). w.limit) kept in
        λ i. Some (record { limit = limits i; requests = requests i })

    go : (r : Result X E) → OnOk r (new.requests ≡ waiting_in plan (row ∷ rows))
        → OnOk r (Some new ≡ waits_after (Some most) plan (row ∷ rows))
    go (Ok x) requests = both requests
    go (Err e) requests = tt
