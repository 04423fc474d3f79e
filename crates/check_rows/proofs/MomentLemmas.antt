-- A row put in at its place among rows that cross one after the other.
use Rattle.std.proofs.Common.{◌≡◌, ◌∙◌, ℕ, zero, suc, Bool, true, false, ◌+◌, ◌-◌, ◌<◌, ◌≤◌, lit≤, List, [], ◌∷◌, ◌++◌, take, drop, length, map, get_or, set, All, Contains, arith, refl, sym, subst, ap}
use Rattle.std.specs.List.{insert, refill}
use Rattle.std.proofs.lemmas.List.{drop-append-le, drop_at, get_or-map, length-append, length-drop, length-map, length-take-le, take-append-le, take-take, take_all}
use Rattle.std.proofs.lemmas.List.Elements.{All-append, All-drop, All-take}
use Rattle.check_beats.specs.Bus.{bus_bytes}
use Rattle.check_beats.specs.declared.bus.Bus.{Bus}
use Rattle.check_beats.specs.declared.bus.Bus.TheVariants.{One, Two, Four, Eight, Sixteen, ThirtyTwo, SixtyFour}
use Rattle.check_watch.specs.Plan.{seen_at}
use Rattle.check_rows.specs.Moment.{Cross, HasBeat, IsGap, AreLanesKept, IsKeptGap, IsLink, IsMoment, Moment, kept_place, kept_row, moment_of, place_at, place_by, place_of_row}
use Rattle.check_rows.specs.Row.{SeenRow, seen_row}
use Rattle.check_rows.specs.declared.moment.Kept.{Kept}
use Rattle.check_rows.specs.declared.row.Row.{Row}
use Rattle.check_watch.specs.declared.beat.Beat.{Beat}
use Rattle.check_watch.specs.declared.beat.Beat.TheVariants.{A, D}
use Rattle.check_watch.specs.declared.beat.Link.{Link}
use Rattle.check_watch.specs.declared.beat.Link.TheVariants.{Master, Port}

-- a beat's place is one of 638: two channels of 64 masters and of 255 ports
inside-at : (link : Link) (beat : Beat) → IsLink link → place_at link beat < 638
inside-at (Master n) (A b) h = omega (arith, h)
inside-at (Port n) (A b) h = omega (arith, h)
inside-at (Port n) (D b) h = omega (arith, h)
inside-at (Master n) (D b) h = omega (arith, h)

-- a row's is one of 639: that of a reset stands before those of beats
inside-by : (is_reset : Bool) (link : Link) (beat : Beat) → IsLink link → place_by is_reset link beat < 639
inside-by true link beat h = omega arith
inside-by false link beat h = let inside = inside-at link beat h in omega (arith, inside)

all-inside : (rows : List SeenRow) → All (λ row. IsLink row.sighting.link) rows → All (λ row. place_of_row row < 639) rows
all-inside rows all k d inside = let row = get_or rows k d in
    inside-by row.is_reset row.sighting.link row.sighting.beat (all k d inside)

-- rows that cross one after the other from a place on do so from a lower one on
cross-lower : (low higher : ℕ) (rows : List SeenRow) → low ≤ higher → Cross higher rows → Cross low rows
unfolding Cross
cross-lower low higher [] below cross = tt
cross-lower low higher (row ∷ more) below cross = let first = cross.0 in (omega (arith, below, first), cross.1)

-- the first row after a place
cross-behind : (row : SeenRow) (rows : List SeenRow) (low : ℕ) (d : SeenRow) → Cross low rows
    → (0 < length rows → place_of_row row < place_of_row (get_or rows 0 d))
    → Cross (place_of_row row + 1) rows
unfolding Cross
cross-behind row [] low d cross behind = tt
cross-behind row (first ∷ more) low d cross behind = let here = behind (omega arith) in (omega (arith, here), cross.1)

-- what stands among them stands at `low` or after it
cross-low : (low : ℕ) (rows : List SeenRow) (i : ℕ) (d : SeenRow) → Cross low rows → i < length rows
    → low ≤ place_of_row (get_or rows i d)
unfolding Cross
cross-low low [] i d cross inside = absurd (omega (arith, inside))
cross-low low (row ∷ more) zero d cross inside = cross.0
cross-low low (row ∷ more) (suc i) d cross inside =
    let next = cross-low (place_of_row row + 1) more i d cross.1 (omega (arith, inside)) in
    let first = cross.0 in
    omega (arith, next, first)

-- a row after the first i, of which the last is nearest, is after the first
cross-first : (low : ℕ) (first row d : SeenRow) (more : List SeenRow) (i : ℕ) → Cross low (first ∷ more) → i ≤ length more
    → place_of_row (get_or (first ∷ more) i d) < place_of_row row → place_of_row first < place_of_row row
unfolding Cross
cross-first low first row d more zero cross inside before = before
cross-first low first row d more (suc i) cross inside before =
    let next = cross-low (place_of_row first + 1) more i d cross.1 (omega (arith, inside)) in
    omega (arith, next, before)

cross-insert : (low : ℕ) (rows : List SeenRow) (i : ℕ) (row d : SeenRow) → Cross low rows → low ≤ place_of_row row → i ≤ length rows
    → ((k : ℕ) → k + 1 ≡ i → place_of_row (get_or rows k d) < place_of_row row)
    → (i < length rows → place_of_row row < place_of_row (get_or rows i d))
    → Cross low (insert rows i row)
unfolding Cross
cross-insert low rows zero row d cross above inside before behind = (above, cross-behind row rows low d cross behind)
cross-insert low [] (suc i) row d cross above inside before behind = absurd (omega (arith, inside))
cross-insert low (first ∷ more) (suc i) row d cross above inside before behind =
    let later = cross-first low first row d more i cross (omega (arith, inside)) (before i (omega arith)) in (
      cross.0,
      cross-insert (place_of_row first + 1) more i row d cross.1 (omega (arith, later)) (omega (arith, inside))
          (λ k is. before (suc k) (omega (arith, is))) (λ in_more. behind (omega (arith, in_more))),
    )

-- so many rows are no more than there are places
cross-length : (low : ℕ) (rows : List SeenRow) → Cross low rows → All (λ row. place_of_row row < 639) rows
    → length rows ≤ 639 - low
unfolding Cross
cross-length low [] cross all = omega arith
cross-length low (row ∷ more) cross all =
    let rest = cross-length (place_of_row row + 1) more cross.1 (λ k d inside. all (suc k) d (omega (arith, inside))) in
    let first = cross.0 in
    let here = all 0 row (omega arith) in
    omega (arith, rest, first, here)

all-one : (P : SeenRow → Type 0) (row : SeenRow) → P row → All P (row ∷ [])
all-one P row here zero d inside = here
all-one P row here (suc k) d inside = absurd (omega (arith, inside))

all-insert : (P : SeenRow → Type 0) (rows : List SeenRow) (i : ℕ) (row : SeenRow) → All P rows → P row → All P (insert rows i row)
all-insert P rows i row all here =
    All-append P (take i rows) (row ∷ drop i rows) (All-take P i rows all)
    (All-append P (row ∷ []) (drop i rows) (all-one P row here) (All-drop P i rows all))

length-more : (rows : List SeenRow) (i : ℕ) (row : SeenRow) → length (insert rows i row) ≡ suc (length rows)
length-more rows zero row = refl
length-more [] (suc i) row = refl
length-more (first ∷ more) (suc i) row = ap suc (length-more more i row)

pub moment-empty : (time : ℕ) → IsMoment (record { time = time; rows = [] })
unfolding Cross
moment-empty time = record {
  in_order = tt;
  at_time = (λ k d inside. absurd (omega (arith, inside)));
  links = (λ k d inside. absurd (omega (arith, inside)));
}

pub moment-one : (row : SeenRow) → IsLink row.sighting.link → IsMoment (record { time = row.time; rows = row ∷ [] })
unfolding Cross
moment-one row link =
    record {
      in_order = (omega arith, tt);
      at_time = all-one (λ other. other.time ≡ row.time) row refl;
      links = all-one (λ other. IsLink other.sighting.link) row link;
    }

-- a row that is put in where it belongs
pub record Belongs (moment : Moment) (i : ℕ) (row : SeenRow) : Type 0 where
  pub lawful : IsMoment moment
  pub link : IsLink row.sighting.link
  pub now : row.time ≡ moment.time
  pub gap : IsGap moment.rows (place_of_row row) i

pub moment-insert : (moment : Moment) (i : ℕ) (row : SeenRow) → Belongs moment i row
    → IsMoment (record { time = moment.time; rows = insert moment.rows i row })
moment-insert moment i row h = record {
  in_order = cross-insert 0 moment.rows i row row h.lawful.in_order (omega arith) h.gap.inside
      (λ k is. h.gap.before k row is) (h.gap.behind row);
  at_time = all-insert (λ other. other.time ≡ moment.time) moment.rows i row h.lawful.at_time h.now;
  links = all-insert (λ other. IsLink other.sighting.link) moment.rows i row h.lawful.links h.link;
}

-- it has room
pub moment-room : (moment : Moment) (i : ℕ) (row : SeenRow) → Belongs moment i row → length moment.rows < 639
moment-room moment i row h =
    let more = moment-insert moment i row h in
    let short = cross-length 0 (insert moment.rows i row) more.in_order
    (all-inside (insert moment.rows i row) more.links) in
    let one_more = length-more moment.rows i row in
    omega (arith, short, one_more)

-- ---- rows that are kept, each with the place where its lanes begin

-- a row with these lanes
abbrev seen_with : Row → List ℕ → SeenRow
seen_with row lanes =
    record { line = row.line; time = row.time; is_reset = row.is_reset; sighting = seen_at row.link row.beat row.known lanes }

-- a row is seen the same among more lanes
kept-more : (lanes more : List ℕ) (kept : Kept) → kept.first + bus_bytes kept.row.bus ≤ length lanes
    → kept_row (lanes ++ more) kept ≡ kept_row lanes kept
kept-more lanes more kept inside =
    let first : drop kept.first (lanes ++ more) ≡ drop kept.first lanes ++ more =
    drop-append-le kept.first lanes more (omega (arith, inside)) in
    let size = length-drop kept.first lanes in
    let part : take (bus_bytes kept.row.bus) (drop kept.first lanes ++ more)
    ≡ take (bus_bytes kept.row.bus) (drop kept.first lanes) =
    take-append-le (bus_bytes kept.row.bus) (drop kept.first lanes) more (omega (arith, inside, size)) in
    ap (λ (xs : List ℕ). seen_with kept.row xs)
    (ap (λ (xs : List ℕ). take (bus_bytes kept.row.bus) xs) first ∙ part)

all-more : (lanes more : List ℕ) (rows : List Kept)
    → All (λ kept. kept.first + bus_bytes kept.row.bus ≤ length lanes) rows
    → map (kept_row (lanes ++ more)) rows ≡ map (kept_row lanes) rows
all-more lanes more [] inside = refl
all-more lanes more (kept ∷ rows) inside =
    let rest = all-more lanes more rows (λ k d within. inside (suc k) d (omega (arith, within))) in
    ap (λ (x : SeenRow). x ∷ map (kept_row (lanes ++ more)) rows) (kept-more lanes more kept (inside 0 kept (omega arith)))
    ∙ ap (λ (xs : List SeenRow). kept_row lanes kept ∷ xs) rest

map-insert : (f : Kept → SeenRow) (rows : List Kept) (i : ℕ) (kept : Kept)
    → map f (insert rows i kept) ≡ insert (map f rows) i (f kept)
map-insert f rows zero kept = refl
map-insert f [] (suc i) kept = refl
map-insert f (row ∷ rows) (suc i) kept = ap (λ (xs : List SeenRow). f row ∷ xs) (map-insert f rows i kept)

-- a row whose lanes are put after those of the others
abbrev pub added : Row → List ℕ → Kept
added row lanes = record { row = row; first = length lanes }

pub rows-insert : (rows : List Kept) (lanes buffer : List ℕ) (row : Row) (i : ℕ)
    → All (λ kept. kept.first + bus_bytes kept.row.bus ≤ length lanes) rows
    → map (kept_row (lanes ++ take (bus_bytes row.bus) buffer)) (insert rows i (added row lanes))
    ≡ insert (map (kept_row lanes) rows) i (seen_row row buffer)
rows-insert rows lanes buffer row i inside =
    let bus = bus_bytes row.bus in
    let part = take bus buffer in
    let last : take bus (drop (length lanes) (lanes ++ part)) ≡ take bus buffer =
    ap (λ (xs : List ℕ). take bus xs) (drop_at lanes part (length lanes) refl) ∙ take-take bus bus buffer (omega arith) in
    map-insert (kept_row (lanes ++ part)) rows i (added row lanes)
    ∙ ap (λ (xs : List SeenRow). insert xs i (kept_row (lanes ++ part) (added row lanes))) (all-more lanes part rows inside)
    ∙ ap (λ (xs : List ℕ). insert (map (kept_row lanes) rows) i (seen_with row xs)) last

pub bus-small : (bus : Bus) → bus_bytes bus ≤ 64
bus-small One = lit≤ tt
bus-small Two = lit≤ tt
bus-small Four = lit≤ tt
bus-small Eight = lit≤ tt
bus-small Sixteen = lit≤ tt
bus-small ThirtyTwo = lit≤ tt
bus-small SixtyFour = lit≤ tt

pub none-kept : (time : ℕ) → AreLanesKept time [] []
none-kept time = record {
  moment = moment-empty time;
  inside = λ k d inside. absurd (omega (arith, inside));
  room = omega arith;
}

-- a row that is put in among those that are kept
pub record CanBeKept (time : ℕ) (rows : List Kept) (lanes buffer : List ℕ) (row : Row) (i : ℕ) : Type 0 where
  pub kept : AreLanesKept time rows lanes
  pub link : IsLink row.link
  pub now : row.time ≡ time
  pub long : bus_bytes row.bus ≤ length buffer
  pub gap : IsGap (map (kept_row lanes) rows) (place_by row.is_reset row.link row.beat) i

pub can-be-kept : (time : ℕ) (rows : List Kept) (lanes buffer : List ℕ) (row : Row) (i : ℕ) (old : Moment)
    → moment_of time rows lanes ≡ old → AreLanesKept time rows lanes → IsLink row.link → row.time ≡ old.time
    → bus_bytes row.bus ≤ length buffer → IsGap old.rows (place_by row.is_reset row.link row.beat) i
    → CanBeKept time rows lanes buffer row i
can-be-kept time rows lanes buffer row i old is kept link now long gap = record {
  kept = kept;
  link = link;
  now = subst (λ (m : Moment). row.time ≡ m.time) (sym is) now;
  long = long;
  gap = subst (λ (m : Moment). IsGap m.rows (place_by row.is_reset row.link row.beat) i) (sym is) gap;
}

belongs : (time : ℕ) (rows : List Kept) (lanes buffer : List ℕ) (row : Row) (i : ℕ)
    → CanBeKept time rows lanes buffer row i → Belongs (moment_of time rows lanes) i (seen_row row buffer)
belongs time rows lanes buffer row i h =
    record { lawful = h.kept.moment; link = h.link; now = h.now; gap = h.gap }

-- there is room for it
pub kept-room : (time : ℕ) (rows : List Kept) (lanes buffer : List ℕ) (row : Row) (i : ℕ)
    → CanBeKept time rows lanes buffer row i → length rows < 639
kept-room time rows lanes buffer row i h =
    let room = moment-room (moment_of time rows lanes) i (seen_row row buffer) (belongs time rows lanes buffer row i h) in
    let size : length (map (kept_row lanes) rows) ≡ length rows = length-map rows (kept_row lanes) in
    omega (arith, room, size)

pub kept-inside : (time : ℕ) (rows : List Kept) (lanes buffer : List ℕ) (row : Row) (i : ℕ)
    → CanBeKept time rows lanes buffer row i → i ≤ length rows
kept-inside time rows lanes buffer row i h =
    let inside = h.gap.inside in
    let size : length (map (kept_row lanes) rows) ≡ length rows = length-map rows (kept_row lanes) in
    omega (arith, inside, size)

one-kept : (P : Kept → Type 0) (row : Kept) → P row → All P (row ∷ [])
one-kept P row here zero d inside = here
one-kept P row here (suc k) d inside = absurd (omega (arith, inside))

kept-length : (rows : List Kept) (i : ℕ) (row : Kept) → length (insert rows i row) ≡ suc (length rows)
kept-length rows zero row = refl
kept-length [] (suc i) row = refl
kept-length (first ∷ more) (suc i) row = ap suc (kept-length more i row)

all-kept : (P : Kept → Type 0) (rows : List Kept) (i : ℕ) (row : Kept) → All P rows → P row → All P (insert rows i row)
all-kept P rows i row all here =
    All-append P (take i rows) (row ∷ drop i rows) (All-take P i rows all)
    (All-append P (row ∷ []) (drop i rows) (one-kept P row here) (All-drop P i rows all))

pub kept-insert : (time : ℕ) (rows : List Kept) (lanes buffer : List ℕ) (row : Row) (i : ℕ)
    → CanBeKept time rows lanes buffer row i
    → AreLanesKept time (insert rows i (added row lanes)) (lanes ++ take (bus_bytes row.bus) buffer)
kept-insert time rows lanes buffer row i h =
    let bus = bus_bytes row.bus in
    let part = take bus buffer in
    let fits = belongs time rows lanes buffer row i h in
    let same = rows-insert rows lanes buffer row i h.kept.inside in
    let size : length (lanes ++ part) ≡ length lanes + bus =
    length-append lanes part ∙ ap (λ (n : ℕ). length lanes + n) (length-take-le bus buffer h.long) in
    let count : length (insert rows i (added row lanes)) ≡ suc (length rows) = kept-length rows i (added row lanes) in
    let room = h.kept.room in
    let small = bus-small row.bus in
    record {
      moment = subst (λ (xs : List SeenRow). IsMoment (record { time = time; rows = xs })) (sym same)
          (moment-insert (moment_of time rows lanes) i (seen_row row buffer) fits);
      inside = all-kept (λ kept. kept.first + bus_bytes kept.row.bus ≤ length (lanes ++ part)) rows i (added row lanes)
          (λ k d within. let one = h.kept.inside k d within in omega (arith, one, size)) (omega (arith, size));
      room = omega (arith, size, count, room, small);
    }

-- ---- one row alone

lone-kept : (row : Row) (buffer : List ℕ) → IsLink row.link → bus_bytes row.bus ≤ length buffer
    → AreLanesKept row.time (added row [] ∷ []) (take (bus_bytes row.bus) buffer)
lone-kept row buffer link long = kept-insert row.time [] [] buffer row 0 (record {
  kept = none-kept row.time;
  link = link;
  now = refl;
  long = long;
  gap = record {
    inside = omega arith;
    before = λ k row is. absurd (omega (arith, is));
    behind = λ row inside. absurd (omega (arith, inside));
  };
})

lone-row : (row : Row) (buffer : List ℕ)
    → map (kept_row (take (bus_bytes row.bus) buffer)) (added row [] ∷ []) ≡ seen_row row buffer ∷ []
lone-row row buffer = rows-insert [] [] buffer row 0 (λ k d inside. absurd (omega (arith, inside)))

-- a list that is written over, all of it
renewed : {X : Type 0} → (xs ws : List X) → length ws ≡ length xs → refill (length xs) xs ws ≡ ws
renewed xs ws same =
    take-append-le (length xs) ws (drop (length ws) xs) (omega (arith, same)) ∙ take_all (length xs) ws (omega (arith, same))

-- a list of one item after that item is written over
lone-set : {X : Type 0} → (xs : List X) (x : X) → length xs ≡ 1 → set xs 0 x ≡ x ∷ []
lone-set [] x one = cc
lone-set (y ∷ []) x one = refl
lone-set (y ∷ z ∷ ys) x one = absurd (omega (arith, one))

-- a moment of one row, in the room of another one
module _ (olds : List Kept) (was buffer : List ℕ) (row : Row)
    (one : length olds ≡ 1) (wide : length was ≡ bus_bytes row.bus) (long : bus_bytes row.bus ≤ length buffer) where
  lone-rows : refill (length olds) olds (set olds 0 (added row [])) ≡ added row [] ∷ []
  lone-rows =
      let set_is = lone-set olds (added row []) one in
      rw set_is (renewed olds (added row [] ∷ []) (sym one))

  lone-lanes : refill (length was) was (take (bus_bytes row.bus) buffer) ≡ take (bus_bytes row.bus) buffer
  lone-lanes = renewed was (take (bus_bytes row.bus) buffer) (length-take-le (bus_bytes row.bus) buffer long ∙ sym wide)

  pub lone-kept-in : IsLink row.link → AreLanesKept row.time (refill (length olds) olds (set olds 0 (added row [])))
      (refill (length was) was (take (bus_bytes row.bus) buffer))
  lone-kept-in link = rw (lone-rows, lone-lanes) (lone-kept row buffer link long)

  pub lone-row-in : map (kept_row (refill (length was) was (take (bus_bytes row.bus) buffer)))
      (refill (length olds) olds (set olds 0 (added row []))) ≡ seen_row row buffer ∷ []
  lone-row-in = rw (lone-rows, lone-lanes) (lone-row row buffer)

-- ---- what is said of rows that are kept, said of the rows as they are seen

pub links-kept : (lanes : List ℕ) (rows : List Kept)
    → All (λ row. IsLink row.sighting.link) (map (kept_row lanes) rows) → All (λ kept. IsLink kept.row.link) rows
links-kept lanes rows all k d within =
    let size : length (map (kept_row lanes) rows) ≡ length rows = length-map rows (kept_row lanes) in
    rw (get_or-map (kept_row lanes) rows k d (kept_row lanes d) within)
    at (all k (kept_row lanes d) (omega (arith, size, within)))

place-seen : (lanes : List ℕ) (rows : List Kept) (k : ℕ) (row : SeenRow) → k < length rows
    → (P : ℕ → Type 0) → ((kept : Kept) → P (kept_place (get_or rows k kept)))
    → P (place_of_row (get_or (map (kept_row lanes) rows) k row))
place-seen lanes [] k row within P is = absurd (omega (arith, within))
place-seen lanes (first ∷ rows) k row within P is =
    let same : get_or (map (kept_row lanes) (first ∷ rows)) k row ≡ kept_row lanes (get_or (first ∷ rows) k first) =
    get_or-map (kept_row lanes) (first ∷ rows) k first row within in
    subst (λ (x : SeenRow). P (place_of_row x)) (sym same) (is first)

pub gap-seen : (lanes : List ℕ) (rows : List Kept) (place i : ℕ) → IsKeptGap rows place i
    → IsGap (map (kept_row lanes) rows) place i
gap-seen lanes rows place i h =
    let size : length (map (kept_row lanes) rows) ≡ length rows = length-map rows (kept_row lanes) in
    record {
      inside = let inside = h.inside in omega (arith, inside, size);
      before = λ k row is. let inside = h.inside in
          place-seen lanes rows k row (omega (arith, inside, is)) (λ (n : ℕ). n < place) (λ kept. h.before k kept is);
      behind = λ row within.
          let here : i < length rows = omega (arith, within, size) in
          place-seen lanes rows i row here (λ (n : ℕ). place < n) (λ kept. h.behind kept here);
    }

-- a row that stands at a place is one of those that are seen
pub beat-seen : (time : ℕ) (lanes : List ℕ) (rows : List Kept) (kept : Kept) (row : SeenRow) → Contains rows kept
    → kept_place kept ≡ place_of_row row → HasBeat (moment_of time rows lanes) row
beat-seen time lanes rows kept row there same =
    let size : length (map (kept_row lanes) rows) ≡ length rows = length-map rows (kept_row lanes) in
    let within = there.1 in
    let in_map : Contains (map (kept_row lanes) rows) (kept_row lanes kept) = (
      there.0,
      omega (arith, within, size),
      get_or-map (kept_row lanes) rows there.0 kept (kept_row lanes kept) within ∙ ap (kept_row lanes) there.2,
    ) in
    (kept_row lanes kept, in_map, same)
