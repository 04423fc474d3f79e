-- The present time of a dump: what changes up to it, and the edges there were.
use Rattle.std.proofs.Common.{◌≡◌, ◌∙◌, ℕ, zero, suc, ◌+◌, ◌<◌, ◌≤◌, ◌⊎◌, inl, inr, ◌||◌, Bool, true, false, cond, List, [], ◌∷◌, ◌++◌, map, slice_get, Option, None, Some, is_none, ap, arith, refl, subst, sym}
use Rattle.std.specs.Prelude.{⊤, ◌↔◌}
use Rattle.std.proofs.lemmas.Bool.{and_from, and_parts, both_ways, cases_lt}
use Rattle.std.proofs.lemmas.Option.{same_Some}
use Rattle.check_samples.specs.Digits.{bits_of, with_joined}
use Rattle.check_samples.specs.Domain.{Domain, Watched, unwatched}
use Rattle.check_samples.specs.EdgeFault.{some_crossed}
use Rattle.check_samples.specs.Edges.{needs_of, no_edges, with_edge}
use Rattle.check_samples.specs.Rows.{due_at, has_edge, is_early, is_late, some_crosses, ticks}
use Rattle.check_samples.specs.Sampling.{dues_of, watched_from}
use Rattle.check_samples.specs.declared.clock.Clock.{Clock}
use Rattle.check_samples.specs.declared.edges.Edges.{Edges}
use Rattle.check_samples.specs.declared.edges.Needs.{Needs}
use Rattle.check_samples.specs.declared.reset.Reset.{Reset}
use Rattle.check_wave_laws.specs.Sampled.{AllWatched, EdgesAre, HasEdge, StandsBelow, MayLose, IsJoinedUntil, ValueChange, WasReset, Wave, active_in, always, crossed_in, is_before, is_until, is_whole, masked_in, outside_in, values_after, values_before, values_until, IsSampled, SampledRow, time_of_sampled}
use Rattle.check_wave_laws.proofs.Changes.{EachTime, IsLess, IsUpTo, before-past, before-until, each-weaker, until-before, until-past, up-to-before}
use Rattle.check_wave_laws.proofs.Edges.{DuesAre, NeedsAre, no-edge, no-row, or-right}

-- ---- the present time ends

-- the values before the present time, if it is known
abbrev pub BeforeIs : Wave → Option ℕ → List (List ℕ) → Type 0
BeforeIs wave None values = ⊤
BeforeIs wave (Some time) values = values ≡ values_before wave time

-- the changes up to the present time, and those from the next one on
pub record Ends (wave : Wave) (time next : Option ℕ) : Type 0 where
  pub past : List ValueChange
  pub later : List ValueChange
  pub changes : wave.changes ≡ past ++ later
  pub until : EachTime (IsUpTo time) past
  pub gap : (early : ℕ) → StandsBelow next early → EachTime (λ at. is_until early at ≡ false) later
  pub joined : (early : ℕ) → StandsBelow next early → IsJoinedUntil wave early
  pub whole : (early : ℕ) → StandsBelow next early → is_whole wave.cut early ≡ true

module _ (wave : Wave) (time next : Option ℕ) (ends : Ends wave time next) where
  before-is : (at : ℕ) → IsLess time at → StandsBelow next at
      → values_before wave at ≡ with_joined wave.probes.joins (values_after wave ends.past)
  before-is at less below =
      before-past wave ends.past ends.later at ends.changes
      (each-weaker (IsUpTo time) (λ other. is_before at other ≡ true) ends.past
      (λ other up. up-to-before time at other less up) ends.until)
      (each-weaker (λ other. is_until at other ≡ false) (λ other. is_before at other ≡ false) ends.later
      (λ other no. until-before at other no) (ends.gap at below))

  pub until-is : (at : ℕ) → EachTime (λ other. is_until at other ≡ true) ends.past → StandsBelow next at
      → values_until wave at ≡ values_after wave ends.past
  until-is at up below = until-past wave ends.past ends.later at ends.changes up (ends.gap at below)

  -- between the present time and the next one there is no edge
  pub quiet-edge : (clock : Clock) (so : List (List ℕ) → Bool) (below : Option ℕ) (one : HasEdge wave clock so below)
      → IsLess time one.time → StandsBelow next one.time → ⊥
  quiet-edge clock so below one less bound =
      no-edge wave (values_after wave ends.past) clock so below one (before-is one.time less bound)
      (until-is one.time (each-weaker (IsUpTo time) (λ other. is_until one.time other ≡ true) ends.past
      (λ other up. before-until one.time other (up-to-before time one.time other less up)) ends.until) bound)

  -- and nothing has a row
  pub quiet : (row : SampledRow) → IsLess time (time_of_sampled row) → StandsBelow next (time_of_sampled row)
      → IsSampled wave row → ⊥
  quiet row less below is =
      let at = time_of_sampled row in
      no-row wave (values_after wave ends.past) row (before-is at less below)
      (until-is at (each-weaker (IsUpTo time) (λ other. is_until at other ≡ true) ends.past
      (λ other up. before-until at other (up-to-before time at other less up)) ends.until) below) is

-- ---- the edges of the present time

pub below-less : (next : Option ℕ) (early time : ℕ) → early < time → StandsBelow next time → StandsBelow next early
below-less None early time less below = tt
below-less (Some next) early time less below = omega (arith, less, below)

-- a clock ticks at a time
abbrev pub ticks-at : Wave → Clock → ℕ → Bool
ticks-at wave clock time = ticks (values_before wave time) (values_until wave time) clock

pub rising : (wave : Wave) (clock : Clock) (so : List (List ℕ) → Bool) (below : Option ℕ) (one : HasEdge wave clock so below)
    → ticks-at wave clock one.time ≡ true
rising wave clock so below one =
    and_from (is_early clock.edge (bits_of (values_before wave one.time) clock.tap))
    (is_late clock.edge (bits_of (values_until wave one.time) clock.tap)) one.early one.late

module _ (wave : Wave) (time : ℕ) (next : Option ℕ) (ends : Ends wave (Some time) next)
    (below : StandsBelow next time) (clock : Clock) (so : List (List ℕ) → Bool) where
  widen : HasEdge wave clock so (Some time) → HasEdge wave clock so next
  widen one = record {
    time = one.time;
    before = below-less next one.time time one.before below;
    early = one.early;
    late = one.late;
    was = one.was;
  }

  here-is : ticks-at wave clock time ≡ true → so (values_before wave time) ≡ true → HasEdge wave clock so next
  here-is up was =
      let both = and_parts (is_early clock.edge (bits_of (values_before wave time) clock.tap))
      (is_late clock.edge (bits_of (values_until wave time) clock.tap)) up in
      record { time = time; before = below; early = both.0; late = both.1; was = was }

  -- an edge below the next time is below the present one or at it
  where-is : (P : Type 0) → (HasEdge wave clock so (Some time) → P)
      → (ticks-at wave clock time ≡ true → so (values_before wave time) ≡ true → P) → HasEdge wave clock so next → P
  where-is P early now one = go (cases_lt one.time time) (cases_lt time one.time)
    where
      go : (one.time < time) ⊎ (time ≤ one.time) → (time < one.time) ⊎ (one.time ≤ time) → P
      go (inl less) later =
          early (record { time = one.time; before = less; early = one.early; late = one.late; was = one.was })
      go (inr from) (inl later) = absurd (quiet-edge wave (Some time) next ends clock so next one later one.before)
      go (inr from) (inr to) =
          let same : one.time ≡ time = omega (arith, from, to) in
          now (subst (λ (n : ℕ). ticks-at wave clock n ≡ true) same (rising wave clock so next one))
          (subst (λ (n : ℕ). so (values_before wave n) ≡ true) same one.was)

  -- whether there was one, if the clock ticks at the present time
  flag-up : (flag : Bool) → ticks-at wave clock time ≡ true → (flag ≡ true) ↔ HasEdge wave clock so (Some time)
      → ((flag || so (values_before wave time)) ≡ true) ↔ HasEdge wave clock so next
  flag-up flag up know = (λ e. to flag (so (values_before wave time)) refl refl e, λ one. back one)
    where
      to : (f w : Bool) → flag ≡ f → so (values_before wave time) ≡ w → (f || w) ≡ true → HasEdge wave clock so next
      to true w is was e = widen (know.0 is)
      to false true is was e = here-is up was
      to false false is was e = absurd (cc)

      back : HasEdge wave clock so next → (flag || so (values_before wave time)) ≡ true
      back one =
          where-is ((flag || so (values_before wave time)) ≡ true)
          (λ early. ap (λ (f : Bool). f || so (values_before wave time)) (know.1 early))
          (λ rise was. or-right flag (so (values_before wave time)) was) one

  -- and if it does not
  flag-same : (flag : Bool) → ticks-at wave clock time ≡ false → (flag ≡ true) ↔ HasEdge wave clock so (Some time)
      → (flag ≡ true) ↔ HasEdge wave clock so next
  flag-same flag still know = (
    λ e. widen (know.0 e),
    λ one. where-is (flag ≡ true) know.1 (λ rise was. absurd (both_ways (ticks-at wave clock time) still rise)) one,
  )

-- no edge is below the first time
module _ (wave : Wave) (next : Option ℕ) (ends : Ends wave None next) where
  flag-none : (clock : Clock) (so : List (List ℕ) → Bool) → (false ≡ true) ↔ HasEdge wave clock so next
  flag-none clock so = (
    λ e. absurd (both_ways false refl e),
    λ one. absurd (quiet-edge wave None next ends clock so next one tt one.before),
  )

  edges-none : (place : ℕ) (domain : Domain) → EdgesAre wave place domain next no_edges
  edges-none place domain = record {
    any = flag-none domain.clock always;
    outside = flag-none domain.clock (outside_in domain);
    in_reset = flag-none domain.clock (active_in domain);
    crossed = flag-none domain.clock (crossed_in wave place domain);
    masked = flag-none domain.clock (masked_in wave place domain);
  }

  pub all-none : (place : ℕ) (domains : List Domain) → AllWatched wave next place domains (map unwatched domains)
  all-none place [] = tt
  all-none place (domain ∷ domains) = (refl, edges-none place domain, all-none (place + 1) domains)

module _ (wave : Wave) (time : ℕ) (next : Option ℕ) (ends : Ends wave (Some time) next)
    (below : StandsBelow next time) where
  edges-more : (place : ℕ) (domain : Domain) (edges : Edges) → EdgesAre wave place domain (Some time) edges
      → (t : Bool) → ticks-at wave domain.clock time ≡ t
      → EdgesAre wave place domain next (cond t (with_edge edges (active_in domain (values_before wave time))
      (some_crosses place (values_before wave time) wave.probes.channels)) edges)
  edges-more place domain edges so_far true up =
      let clock = domain.clock in
      record {
        any = (λ e. here-is wave time next ends below clock always up refl, λ one. refl);
        outside = flag-up wave time next ends below clock (outside_in domain) edges.outside up so_far.outside;
        in_reset = flag-up wave time next ends below clock (active_in domain) edges.in_reset up so_far.in_reset;
        crossed = flag-up wave time next ends below clock (crossed_in wave place domain) edges.crossed up so_far.crossed;
        masked = flag-up wave time next ends below clock (masked_in wave place domain) edges.masked up so_far.masked;
      }
  edges-more place domain edges so_far false still =
      let clock = domain.clock in
      record {
        any = flag-same wave time next ends below clock always edges.any still so_far.any;
        outside = flag-same wave time next ends below clock (outside_in domain) edges.outside still so_far.outside;
        in_reset = flag-same wave time next ends below clock (active_in domain) edges.in_reset still so_far.in_reset;
        crossed = flag-same wave time next ends below clock (crossed_in wave place domain) edges.crossed still
            so_far.crossed;
        masked = flag-same wave time next ends below clock (masked_in wave place domain) edges.masked still so_far.masked;
      }

  pub all-more : (place : ℕ) (domains : List Domain) (watched : List Watched)
      → AllWatched wave (Some time) place domains watched → AllWatched wave next place domains
      (watched_from place (values_before wave time) (values_until wave time) wave.probes.channels watched)
  all-more place [] [] are = tt
  all-more place [] (one ∷ watched) are = absurd are
  all-more place (domain ∷ domains) [] are = absurd are
  all-more place (domain ∷ domains) (one ∷ watched) are = (
    are.0,
    subst (λ (d : Domain). EdgesAre wave place domain next (cond (ticks-at wave d.clock time)
        (with_edge one.edges (active_in d (values_before wave time))
        (some_crosses place (values_before wave time) wave.probes.channels)) one.edges)) (sym are.0)
        (edges-more place domain one.edges are.1 (ticks-at wave domain.clock time) refl),
    all-more (place + 1) domains watched are.2,
  )

-- what has to be known of a domain at a time follows from the edges below it
needs-are : (wave : Wave) (place : ℕ) (domain : Domain) (time : ℕ) (edges : Edges)
    → EdgesAre wave place domain (Some time) edges → NeedsAre wave domain time (needs_of domain.reset edges)
needs-are wave place domain time edges are = record {
  valid = are.in_reset.0;
  has_valid = are.in_reset.1;
  ready = λ e. to domain.reset refl e;
  has_ready = λ why. back domain.reset refl why;
}
  where
    to : (reset : Option Reset) → domain.reset ≡ reset → (is_none reset || edges.in_reset) ≡ true
        → (domain.reset ≡ None) ⊎ WasReset wave domain time
    to None is e = inl is
    to (Some reset) is e = inr (are.in_reset.0 e)

    back : (reset : Option Reset) → domain.reset ≡ reset → (domain.reset ≡ None) ⊎ WasReset wave domain time
        → (is_none reset || edges.in_reset) ≡ true
    back None is why = refl
    back (Some reset) is (inl none) = absurd (cc)
    back (Some reset) is (inr was) = are.in_reset.1 was

-- what is due of all domains at a time
module _ (wave : Wave) (time : ℕ) where
  due-here : (domain : Domain) (edges : Edges) (t : Bool)
      → has_edge (values_before wave time) (values_until wave time) domain ≡ t → (needs : Needs)
      → cond t (Some (needs_of domain.reset edges)) None ≡ Some needs
      → (has_edge (values_before wave time) (values_until wave time) domain ≡ true) × (needs_of domain.reset edges ≡ needs)
  due-here domain edges true edge needs is = (edge, same_Some (needs_of domain.reset edges) needs is)
  due-here domain edges false edge needs is = absurd (cc)

  due-each : (first : ℕ) (domains : List Domain) (watched : List Watched) → AllWatched wave (Some time) first domains watched
      → (place : ℕ) (needs : Needs)
      → due_at (dues_of (values_before wave time) (values_until wave time) watched) place ≡ Some needs
      → (domain : Domain) × (slice_get domains place ≡ Some domain)
      × (has_edge (values_before wave time) (values_until wave time) domain ≡ true) × NeedsAre wave domain time needs
  due-each first [] [] are place needs is = absurd (cc)
  due-each first [] (one ∷ watched) are place needs is = absurd are
  due-each first (domain ∷ domains) [] are place needs is = absurd are
  due-each first (domain ∷ domains) (one ∷ watched) are zero needs is =
      let edges = one.edges in
      let found : cond (has_edge (values_before wave time) (values_until wave time) domain)
      (Some (needs_of domain.reset edges)) None ≡ Some needs =
      subst (λ (d : Domain). cond (has_edge (values_before wave time) (values_until wave time) d)
      (Some (needs_of d.reset edges)) None ≡ Some needs) are.0 is in
      let both = due-here domain edges (has_edge (values_before wave time) (values_until wave time) domain) refl needs found in (
        domain,
        refl,
        both.0,
        subst (λ (n : Needs). NeedsAre wave domain time n) both.1
            (needs-are wave first domain time edges are.1),
      )
  due-each first (domain ∷ domains) (one ∷ watched) are (suc place) needs is =
      due-each (first + 1) domains watched are.2 place needs is

  due-all : (first : ℕ) (domains : List Domain) (watched : List Watched) → AllWatched wave (Some time) first domains watched
      → (place : ℕ) (domain : Domain) → slice_get domains place ≡ Some domain
      → has_edge (values_before wave time) (values_until wave time) domain ≡ true
      → (needs : Needs)
      × (due_at (dues_of (values_before wave time) (values_until wave time) watched) place ≡ Some needs)
      × NeedsAre wave domain time needs
  due-all first [] [] are place domain is edge = absurd (cc)
  due-all first [] (one ∷ watched) are place domain is edge = absurd are
  due-all first (other ∷ domains) [] are place domain is edge = absurd are
  due-all first (other ∷ domains) (one ∷ watched) are zero domain is edge =
      let same : one.domain ≡ domain = are.0 ∙ same_Some other domain is in
      let known : EdgesAre wave first domain (Some time) one.edges =
      subst (λ (d : Domain). EdgesAre wave first d (Some time) one.edges) (same_Some other domain is) are.1 in (
        needs_of domain.reset one.edges,
        ap (λ (d : Domain). cond (has_edge (values_before wave time) (values_until wave time) d)
            (Some (needs_of d.reset one.edges)) None) same
            ∙ ap (λ (t : Bool). cond t (Some (needs_of domain.reset one.edges)) None) edge,
        needs-are wave first domain time one.edges known,
      )
  due-all first (other ∷ domains) (one ∷ watched) are (suc place) domain is edge =
      due-all (first + 1) domains watched are.2 place domain is edge

  pub dues-are : (watched : List Watched) → AllWatched wave (Some time) 0 wave.probes.domains watched
      → DuesAre wave time (dues_of (values_before wave time) (values_until wave time) watched)
  dues-are watched are = record {
    each = λ place needs is.
        let due = due-each 0 wave.probes.domains watched are place needs is in
        record { domain = due.0; has = due.1; edge = due.2; are = due.3 };
    all = λ place domain is edge. due-all 0 wave.probes.domains watched are place domain is edge;
  }

-- the edges below the present time, if it is known
abbrev pub WatchedSoFar : Wave → Option ℕ → List Watched → Type 0
WatchedSoFar wave None watched = watched ≡ map unwatched wave.probes.domains
WatchedSoFar wave (Some time) watched = AllWatched wave (Some time) 0 wave.probes.domains watched

-- whether a beat crossed below the present time
none-crossed : (domains : List Domain) → some_crossed (map unwatched domains) ≡ false
none-crossed [] = refl
none-crossed (domain ∷ domains) = none-crossed domains

module _ (wave : Wave) (time : ℕ) where
  -- a beat had crossed in one of these domains, of which the first has this place
  abbrev CrossedAmong : ℕ → List Domain → Type 0
  CrossedAmong first domains =
      (place : ℕ) × (domain : Domain) × (slice_get domains place ≡ Some domain)
      × HasEdge wave domain.clock (crossed_in wave (first + place) domain) (Some time)

  crossed-each : (first : ℕ) (domains : List Domain) (watched : List Watched)
      → AllWatched wave (Some time) first domains watched → some_crossed watched ≡ true → CrossedAmong first domains
  crossed-each first [] [] are crossed = absurd (cc)
  crossed-each first [] (one ∷ watched) are crossed = absurd are
  crossed-each first (domain ∷ domains) [] are crossed = absurd are
  crossed-each first (domain ∷ domains) (one ∷ watched) are crossed =
      go one.edges.crossed refl (crossed-each (first + 1) domains watched are.2) crossed
    where
      go : (t : Bool) → one.edges.crossed ≡ t → (some_crossed watched ≡ true → CrossedAmong (first + 1) domains)
          → (t || some_crossed watched) ≡ true → CrossedAmong first (domain ∷ domains)
      go true is rest e = (
        0,
        domain,
        refl,
        subst (λ (n : ℕ). HasEdge wave domain.clock (crossed_in wave n domain) (Some time))
            (let same : first ≡ first + 0 = omega arith in same) (are.1.crossed.0 is),
      )
      go false is rest e =
          let more = rest e in (
            suc more.0,
            more.1,
            more.2,
            subst (λ (n : ℕ). HasEdge wave more.1.clock (crossed_in wave n more.1) (Some time))
                (let same : first + 1 + more.0 ≡ first + suc more.0 = omega arith in same) more.3,
          )

  crossed-some : (first : ℕ) (domains : List Domain) (watched : List Watched)
      → AllWatched wave (Some time) first domains watched → (place : ℕ) (domain : Domain)
      → slice_get domains place ≡ Some domain
      → HasEdge wave domain.clock (crossed_in wave (first + place) domain) (Some time) → some_crossed watched ≡ true
  crossed-some first [] [] are place domain is edge = absurd (cc)
  crossed-some first [] (one ∷ watched) are place domain is edge = absurd are
  crossed-some first (other ∷ domains) [] are place domain is edge = absurd are
  crossed-some first (other ∷ domains) (one ∷ watched) are zero domain is edge =
      let same : other ≡ domain = same_Some other domain is in
      let here : HasEdge wave domain.clock (crossed_in wave first domain) (Some time) =
      subst (λ (n : ℕ). HasEdge wave domain.clock (crossed_in wave n domain) (Some time))
      (let zeroed : first + 0 ≡ first = omega arith in zeroed) edge in
      ap (λ (t : Bool). t || some_crossed watched) (are.1.crossed.1
      (subst (λ (d : Domain). HasEdge wave d.clock (crossed_in wave first d) (Some time)) (sym same) here))
  crossed-some first (other ∷ domains) (one ∷ watched) are (suc place) domain is edge =
      or-right one.edges.crossed (some_crossed watched) (crossed-some (first + 1) domains watched are.2 place domain is
      (subst (λ (n : ℕ). HasEdge wave domain.clock (crossed_in wave n domain) (Some time))
      (let same : first + suc place ≡ first + 1 + place = omega arith in same) edge))

pub crossed-gap : (wave : Wave) (time : Option ℕ) (watched : List Watched) → WatchedSoFar wave time watched
    → some_crossed watched ≡ true → MayLose wave time
crossed-gap wave None watched is crossed =
    both_ways (some_crossed watched)
    (ap (λ (ws : List Watched). some_crossed ws) is ∙ none-crossed wave.probes.domains) crossed
crossed-gap wave (Some time) watched is crossed =
    let one = crossed-each wave time 0 wave.probes.domains watched is crossed in
    record {
      place = one.0;
      domain = one.1;
      is = one.2;
      edge = subst (λ (n : ℕ). HasEdge wave one.1.clock (crossed_in wave n one.1) (Some time))
          (let same : 0 + one.0 ≡ one.0 = omega arith in same) one.3;
    }

pub gap-crossed : (wave : Wave) (time : Option ℕ) (watched : List Watched) → WatchedSoFar wave time watched
    → MayLose wave time → some_crossed watched ≡ true
gap-crossed wave None watched is gap = absurd gap
gap-crossed wave (Some time) watched is gap =
    crossed-some wave time 0 wave.probes.domains watched is gap.place gap.domain gap.is
    (subst (λ (n : ℕ). HasEdge wave gap.domain.clock (crossed_in wave n gap.domain) (Some time))
    (let same : gap.place ≡ 0 + gap.place = omega arith in same) gap.edge)
