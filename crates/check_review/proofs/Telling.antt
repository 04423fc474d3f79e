-- What is told, beat by beat.
use Rattle.std.proofs.Common.{◌≡◌, ◌∙◌, ℕ, inl, inr, Bool, true, false, ◌&&◌, if◌then◌else◌, List, [], ◌∷◌, ◌++◌, append_assoc, append-nil, refl, sym, ap, subst}
use Rattle.check_watch.specs.declared.seen.SeenEntry.{SeenEntry}
use Rattle.check_watch.specs.declared.beat.Beat.{Beat}
use Rattle.check_watch.specs.declared.beat.Beat.TheVariants.{A, D}
use Rattle.check_watch.specs.declared.beat.Link.{Link}
use Rattle.check_watch.specs.declared.beat.Link.TheVariants.{Master, Port}
use Rattle.check_watch.specs.Plan.{Sighting, Layout, Plan, HasSource, source_of}
use Rattle.tl_map.specs.declared.owners.Owner.{Owner}
use Rattle.tl_map.specs.Owners.{AreLawfulOwners}
use Rattle.tl_map.proofs.Kept.{one_owner}
use Rattle.check_watch.specs.declared.seen.Seen.{Seen}
use Rattle.check_watch.specs.declared.seen.Seen.TheVariants.{Part, WholeAsk, WholeReply}
use Rattle.check_sides.specs.Plan.{IsPlan}
use Rattle.check_sides.specs.Groups.{plan_at, port_plan}
use Rattle.check_watch.specs.Scene.{Scene}
use Rattle.check_turns.specs.Lawful.{scene, what_is_seen}
use Rattle.check_watch.specs.Lawful.{IsAllowed, IsAllowedBeat}
use Rattle.check_rows.specs.Row.{SeenRow}
use Rattle.check_coverage.specs.Flights.{is_counted}
use Rattle.check_coverage.proofs.Lawful.{counted_together}
use Rattle.check_review.specs.Order.{is_watched, sightings_of}
use Rattle.check_lines.specs.Trace.{AppendsLine, HasOwner, IsLine, entry_line}
use Rattle.check_review.specs.Told.{AppendsTold, AppendsToldOf, IsCountedOfOwner, IsTold, IsToldOf}
use Rattle.check_review.proofs.Watched.{seen_one, seen_other}

-- ---- the line of a beat

-- the source of a lawful beat is one that its link has
source_of_beat : (plan : Plan) (here : Scene) (x : Sighting) (beat : Beat) → IsAllowedBeat plan here x beat
    → HasSource plan.layout x.link (source_of beat)
source_of_beat plan here x (A beat) allowed = allowed.source
source_of_beat plan here x (D beat) allowed = allowed.source

has_source : (plan : Plan) (here : Scene) (x : Sighting) → IsAllowed plan here x
    → HasSource plan.layout x.link (source_of x.beat)
has_source plan here x allowed = source_of_beat plan here x x.beat allowed

has_owner : (layout : Layout) (link : Link) (source : ℕ) → HasSource layout link source
    → HasOwner layout.owners link source
has_owner layout (Master m) source has = tt
has_owner layout (Port p) source has = let is = has.1 in let owned = is.1 in (owned.0, owned.1.0, owned.1.1)

-- where messages of a link are counted, its sources are those of the masters
pub counted_of_owner : (plan : Plan) (past : List Sighting) (x : Sighting)
    → IsAllowed (plan_at plan x.link) (scene plan past x) x
    → IsCountedOfOwner plan.layout.links plan.layout.owners x.link (source_of x.beat)
counted_of_owner plan past x allowed counted =
    let here : HasSource (plan_at plan x.link).layout x.link (source_of x.beat) =
    has_source (plan_at plan x.link) (scene plan past x) x allowed in
    let P : Bool → Type 0 = λ alone.
    HasSource (if alone then port_plan plan else plan).layout x.link (source_of x.beat) in
    has_owner plan.layout x.link (source_of x.beat)
    (subst P (counted_together plan.layout x.link counted) here)

pub line_is_told : (owners : List Owner) (link : Link) (source : ℕ) (entry : SeenEntry) (old new : List ℕ)
    → HasOwner owners link source → AppendsLine owners link source entry old new
    → (line : List ℕ) × (new ≡ old ++ line) × IsLine owners link source entry line
line_is_told owners link source entry old new owner (inl line) = line
line_is_told owners link source entry old new owner (inr none) = absurd (none.1 owner)

-- what is told at the judge's layout is told at the plan's
pub tells_step : (trace other : Bool) (plan : Plan) (past : List Sighting) (x : Sighting) (layout : Layout)
    (sees : Seen) (old new : List ℕ)
    → other ≡ trace → layout ≡ plan.layout → sees ≡ what_is_seen plan past x
    → IsAllowed (plan_at plan x.link) (scene plan past x) x
    → (IsCountedOfOwner layout.links layout.owners x.link (source_of x.beat)
    → AppendsToldOf (other && is_counted layout.links x.link) layout.owners x.link (source_of x.beat) sees old new)
    → AppendsToldOf (trace && is_counted plan.layout.links x.link) plan.layout.owners x.link (source_of x.beat)
    (what_is_seen plan past x) old new
tells_step trace other plan past x layout sees old new same_trace same_layout same_seen allowed tells =
    let P : Bool → Layout → Seen → Type 0 =
    λ t l s. IsCountedOfOwner l.links l.owners x.link (source_of x.beat)
    → AppendsToldOf (t && is_counted l.links x.link) l.owners x.link (source_of x.beat) s old new in
    let by_trace : P trace layout sees = subst (λ t. P t layout sees) same_trace tells in
    let by_layout : P trace plan.layout sees = subst (λ l. P trace l sees) same_layout by_trace in
    let by_seen : P trace plan.layout (what_is_seen plan past x) =
    subst (λ s. P trace plan.layout s) same_seen by_layout in
    by_seen (counted_of_owner plan past x allowed)

-- ---- a text that grows

pub tells_nothing : (trace : Bool) (plan : Plan) (past : List Sighting) (text : List ℕ)
    → AppendsTold trace plan past past text text
tells_nothing trace plan past text = record {
  more = [];
  grown = sym (append-nil text);
  told = λ so_far is. subst (IsTold trace plan past) (sym (append-nil so_far)) is;
}

pub tells_then : (trace : Bool) (plan : Plan) (past mid now : List Sighting) (old between new : List ℕ)
    → AppendsTold trace plan past mid old between → AppendsTold trace plan mid now between new
    → AppendsTold trace plan past now old new
tells_then trace plan past mid now old between new one two = record {
  more = one.more ++ two.more;
  grown = two.grown ∙ ap (λ l. l ++ two.more) one.grown ∙ append_assoc old one.more two.more;
  told = λ so_far is. subst (IsTold trace plan now) (append_assoc so_far one.more two.more)
      (two.told (so_far ++ one.more) (one.told so_far is));
}

tells_one : (trace : Bool) (plan : Plan) (past : List Sighting) (x : Sighting) (old new : List ℕ)
    → AppendsToldOf (trace && is_counted plan.layout.links x.link) plan.layout.owners x.link (source_of x.beat)
    (what_is_seen plan past x) old new
    → AppendsTold trace plan past (x ∷ past) old new
tells_one trace plan past x old new one = record {
  more = one.0;
  grown = one.1;
  told = λ so_far is. (so_far, one.0, refl, is, one.2);
}

-- a row whose link is watched, and one whose link is not
pub tells_row : (trace : Bool) (plan : Plan) (before : List SeenRow) (row : SeenRow) (old new : List ℕ)
    → is_watched plan.layout row.sighting.link ≡ true
    → AppendsToldOf (trace && is_counted plan.layout.links row.sighting.link) plan.layout.owners row.sighting.link
    (source_of row.sighting.beat)
    (what_is_seen plan (sightings_of plan.layout before) row.sighting) old new
    → AppendsTold trace plan (sightings_of plan.layout before) (sightings_of plan.layout (row ∷ before)) old new
tells_row trace plan before row old new watched one =
    subst (λ now. AppendsTold trace plan (sightings_of plan.layout before) now old new)
    (sym (seen_one plan.layout row before watched))
    (tells_one trace plan (sightings_of plan.layout before) row.sighting old new one)

-- nothing is told of a row where replies are not told
pub tells_quietly : (plan : Plan) (before : List SeenRow) (row : SeenRow) (text : List ℕ)
    → is_watched plan.layout row.sighting.link ≡ true
    → AppendsTold false plan (sightings_of plan.layout before) (sightings_of plan.layout (row ∷ before)) text text
tells_quietly plan before row text watched =
    tells_row false plan before row text text watched ([], sym (append-nil text), refl)

pub tells_no_row : (trace : Bool) (plan : Plan) (before : List SeenRow) (row : SeenRow) (text : List ℕ)
    → is_watched plan.layout row.sighting.link ≡ false
    → AppendsTold trace plan (sightings_of plan.layout before) (sightings_of plan.layout (row ∷ before)) text text
tells_no_row trace plan before row text watched =
    subst (λ now. AppendsTold trace plan (sightings_of plan.layout before) now text text)
    (sym (seen_other plan.layout row before watched))
    (tells_nothing trace plan (sightings_of plan.layout before) text)

-- the same, whether its link is watched or not
pub tells_none : (plan : Plan) (before : List SeenRow) (row : SeenRow) (text : List ℕ)
    → AppendsTold false plan (sightings_of plan.layout before) (sightings_of plan.layout (row ∷ before)) text text
tells_none plan before row text = go (is_watched plan.layout row.sighting.link) refl
  where
    go : (watched : Bool) → is_watched plan.layout row.sighting.link ≡ watched
        → AppendsTold false plan (sightings_of plan.layout before) (sightings_of plan.layout (row ∷ before)) text text
    go true is = tells_quietly plan before row text is
    go false is = tells_no_row false plan before row text is

-- ---- one text is told

one_line : (owners : List Owner) → AreLawfulOwners owners → (link : Link) (source : ℕ) (entry : SeenEntry)
    (line other : List ℕ) → IsLine owners link source entry line → IsLine owners link source entry other → line ≡ other
one_line owners lawful (Master m) source entry line other one two = one ∙ sym two
one_line owners lawful (Port p) source entry line other one two =
    let same : (one.0 ≡ two.0) × (one.1 ≡ two.1) =
    one_owner owners lawful one.0 one.1 two.0 two.1 source one.2 two.2 in
    one.3 ∙ (λ i. entry_line (same.0 i) (same.1 i) entry) ∙ sym two.3

one_told_of : (counted : Bool) (owners : List Owner) → AreLawfulOwners owners → (link : Link) (source : ℕ) (sees : Seen)
    (text other : List ℕ) → IsToldOf counted owners link source sees text
    → IsToldOf counted owners link source sees other → text ≡ other
one_told_of true owners lawful link source (WholeReply entry) text other one two =
    one_line owners lawful link source entry text other one two
one_told_of true owners lawful link source WholeAsk text other one two = one ∙ sym two
one_told_of true owners lawful link source Part text other one two = one ∙ sym two
one_told_of false owners lawful link source sees text other one two = one ∙ sym two

pub one_told : (trace : Bool) (plan : Plan) (past : List Sighting) (text other : List ℕ) → IsPlan plan
    → IsTold trace plan past text → IsTold trace plan past other → text ≡ other
one_told trace plan [] text other is one two = one ∙ sym two
one_told trace plan (x ∷ past) text other is one two =
    let so_far : one.0 ≡ two.0 = one_told trace plan past one.0 two.0 is one.3 two.3 in
    let more : one.1 ≡ two.1 =
    one_told_of (trace && is_counted plan.layout.links x.link) plan.layout.owners is.owners x.link (source_of x.beat)
    (what_is_seen plan past x) one.1 two.1 one.4 two.4 in
    one.2 ∙ (λ i. so_far i ++ more i) ∙ sym two.2

-- ---- where replies are not traced nothing is told

none_of : (owners : List Owner) (link : Link) (source : ℕ) (sees : Seen) (text : List ℕ)
    → IsToldOf false owners link source sees text → text ≡ []
none_of owners link source sees text is = is

pub untraced : (plan : Plan) (past : List Sighting) (text : List ℕ) → IsTold false plan past text → text ≡ []
untraced plan [] text is = is
untraced plan (x ∷ past) text is =
    is.2 ∙ ap (λ l. l ++ is.1) (untraced plan past is.0 is.3)
    ∙ none_of plan.layout.owners x.link (source_of x.beat) (what_is_seen plan past x) is.1 is.4
