-- If no line tells of a contested request at a port, nothing is contested there.
use Rattle.std.proofs.Common.{◌≡◌, ◌≢◌, ◌∙◌, ℕ, ◌+◌, ◌^◌, ◌<◌, Bool, true, false, ◌&&◌, ◌||◌, cond, if◌then◌else◌, List, [], ◌∷◌, ◌++◌, Option, Some, refl, ap, sym, subst, arith}
use Rattle.std.specs.Prelude.{◌==◌, nat_le, nat_lt, unwrap_or}
use Rattle.std.specs.BTreeMap.{is_at}
use Rattle.std.specs.Map.{lookup}
use Rattle.std.specs.Ordering.{is_eq}
use Rattle.std.specs.List.{AllByRecursion}
use Rattle.std.proofs.lemmas.Bool.{leb-true, lt-ltb, ltb-true, ne_eqb, true≢false}
use Rattle.tl_types.specs.Request.{Request}
use Rattle.tl_types.specs.declared.operation.AskOp.TheVariants.{Arithmetic, Get, Intent, Logical, PutFull, PutPartial}
use Rattle.tl_types.specs.declared.operation.Hint.TheVariants.{PrefetchRead, PrefetchWrite}
use Rattle.tl_map.specs.Map.{IsLawfulAddressMap}
use Rattle.check_beats.specs.Message.{arith_of, logic_of, op_of}
use Rattle.check_beats.specs.declared.beat.AskHead.{AskHead}
use Rattle.check_cells.specs.Sent.{Sent}
use Rattle.check_contests.specs.Laws.{AreUncontested}
use Rattle.check_contests.specs.Writes.{writes as writes_at}
use Rattle.check_memory.specs.Partial.{Partial, first_of, permits, placed, start_in, start_of}
use Rattle.check_memory.specs.declared.slave.Slave.{Slave}
use Rattle.check_memory.specs.declared.slave.Slave.TheVariants.{Memory, Device}
use Rattle.check_watch.specs.Plan.{Plan, Sighting}
use Rattle.check_watch_laws.specs.Crossed.{AreWatched}
use Rattle.check_watch_laws.specs.Memories.{reset_of}
use Rattle.check_watch_laws.specs.Moments.{moments}
use Rattle.check_order_laws.specs.Open.{AreApart, IsOpen, NothingIsContested}
use Rattle.check_sides.specs.Groups.{is_alone, shared_past}
use Rattle.check_sides.specs.Lawful.{IsLawful}
use Rattle.check_sides.specs.Plan.{IsPlan}
use Rattle.check_sides.proofs.Fresh.{shared_none}
use Rattle.check_sides.proofs.Grouping.{shared_more, shared_same}
use Rattle.check_rows.specs.Row.{SeenRow, beats_of}
use Rattle.check_bins.specs.declared.bin.Bin.{Bin}
use Rattle.check_bins.specs.declared.bin.Bin.TheVariants as bin
use Rattle.check_coverage.specs.Bins.{bins, bins_of, meets, writes}
use Rattle.check_coverage.specs.Flights.{InFlight, in_flight}
use Rattle.check_coverage.specs.Mirrors.{mirrors_of, place_of}
use Rattle.check_bins.specs.Text.{TellsCoverage}
use Rattle.check_bins.specs.Counting.{bin_cmp, how_often}
use Rattle.check_bins.proofs.Counted.{how_often-append}
use Rattle.check_bins.proofs.Exact.{exact_eq}
use Rattle.check_text_laws.specs.Sums.{TellsNoContest}
use Rattle.check_text_laws.proofs.Apart.{OfFronts, fronts_more, fronts_none}
use Rattle.check_text_laws.proofs.Finding.{found}
use Rattle.check_text_laws.proofs.Heads.{IsHead, head}
use Rattle.check_text_laws.proofs.Meeting.{all_apart}
use Rattle.check_text_laws.proofs.Rows.{are_kept, shared_part}

-- ---- bytes

-- an operation whose opcode writes nothing writes no byte
writes_none : (first : AskHead) (ask : Request) (address : ℕ) → nat_lt first.opcode 4 ≡ false
    → writes_at (op_of first.opcode first.param) ask address ≡ false
writes_none first ask address is =
    go (first.opcode == 0) (first.opcode == 1) (first.opcode == 2) (first.opcode == 3) (first.opcode == 4)
    (first.param == 0)
    (below 0 (omega arith)) (below 1 (omega arith)) (below 2 (omega arith)) (below 3 (omega arith))
  where
    below : (n : ℕ) → n < 4 → (first.opcode == n) ≡ false
    below n small = ne_eqb first.opcode n (λ same. true≢false
        (sym (lt-ltb first.opcode 4 (omega (arith, same, small))) ∙ is))

    go : (a b c d e f : Bool) → a ≡ false → b ≡ false → c ≡ false → d ≡ false
        → writes_at (if a then PutFull else if b then PutPartial else if c then Arithmetic (arith_of first.param)
        else if d then Logical (logic_of first.param) else if e then Get
        else Intent (if f then PrefetchRead else PrefetchWrite)) ask address ≡ false
    go false false false false true f is_a is_b is_c is_d = refl
    go false false false false false f is_a is_b is_c is_d = refl
    go true b c d e f is_a is_b is_c is_d = absurd (true≢false is_a)
    go false true c d e f is_a is_b is_c is_d = absurd (true≢false is_b)
    go false false true d e f is_a is_b is_c is_d = absurd (true≢false is_c)
    go false false false true e f is_a is_b is_c is_d = absurd (true≢false is_d)

both_true : (a b : Bool) → (a && b) ≡ true → (a ≡ true) × (b ≡ true)
both_true true b is = (refl, is)
both_true false b is = absurd (cc)

neither : (a b c d : Bool) → ((a && b) && (c || d)) ≡ false → a ≡ true → b ≡ true → (c ≡ false) × (d ≡ false)
neither true true false false fails is_a is_b = (refl, refl)
neither true true true d fails is_a is_b = absurd (cc)
neither true true false true fails is_a is_b = absurd (cc)
neither true false c d fails is_a is_b = absurd (cc)
neither false b c d fails is_a is_b = absurd (cc)

no_write : (permitted written : Bool) → written ≡ false → (permitted && written) ≡ false
no_write true written is = is
no_write false written is = refl

-- requests that do not meet as they are counted are not contested
uncontested : (memory : Partial) (port : ℕ) (ask other : Request) (one two : Option InFlight)
    (first : IsHead port one ask) (second : IsHead port two other)
    → meets (mirrors_of (Memory memory)) first.flight.first second.flight.first ≡ false → AreUncontested memory ask other
uncontested memory port ask other one two first second apart address inside its_inside = (
  no_write (permits memory ask) (writes_at ask.op (placed memory ask) address)
      (ap (λ o. writes_at o (placed memory ask) address) first.op
      ∙ writes_none first.flight.first (placed memory ask) address none.0),
  no_write (permits memory other) (writes_at other.op (placed memory other) address)
      (ap (λ o. writes_at o (placed memory other) address) second.op
      ∙ writes_none second.flight.first (placed memory other) address none.1),
)
  where
    -- where the memory has their windows
    here : place_of (mirrors_of (Memory memory)) first.flight.first ≡ start_of memory ask
    here = λ i. start_in (first_of memory.ranges) memory.mirrors (sym first.address i) (2 ^ sym first.size i)

    there : place_of (mirrors_of (Memory memory)) second.flight.first ≡ start_of memory other
    there = λ i. start_in (first_of memory.ranges) memory.mirrors (sym second.address i) (2 ^ sym second.size i)

    mine : (nat_le (start_of memory ask) address ≡ true) × (nat_lt address (start_of memory ask + 2 ^ ask.size) ≡ true)
    mine = both_true (nat_le (start_of memory ask) address) (nat_lt address (start_of memory ask + 2 ^ ask.size)) inside

    its : (nat_le (start_of memory other) address ≡ true)
        × (nat_lt address (start_of memory other + 2 ^ other.size) ≡ true)
    its = both_true (nat_le (start_of memory other) address) (nat_lt address (start_of memory other + 2 ^ other.size))
        its_inside

    below : nat_lt (place_of (mirrors_of (Memory memory)) first.flight.first)
        (place_of (mirrors_of (Memory memory)) second.flight.first + 2 ^ second.flight.first.size) ≡ true
    below =
        let low = leb-true (start_of memory ask) address mine.0 in
        let high = ltb-true address (start_of memory other + 2 ^ other.size) its.1 in
        (λ i. nat_lt (here i) (there i + 2 ^ sym second.size i))
        ∙ lt-ltb (start_of memory ask) (start_of memory other + 2 ^ other.size) (omega (arith, low, high))

    above : nat_lt (place_of (mirrors_of (Memory memory)) second.flight.first)
        (place_of (mirrors_of (Memory memory)) first.flight.first + 2 ^ first.flight.first.size) ≡ true
    above =
        let low = leb-true (start_of memory other) address its.0 in
        let high = ltb-true address (start_of memory ask + 2 ^ ask.size) mine.1 in
        (λ i. nat_lt (there i) (here i + 2 ^ sym first.size i))
        ∙ lt-ltb (start_of memory other) (start_of memory ask + 2 ^ ask.size) (omega (arith, low, high))

    none : (writes first.flight.first ≡ false) × (writes second.flight.first ≡ false)
    none = neither _ _ (writes first.flight.first) (writes second.flight.first) apart below above

-- ---- a port

apart_by : (wide other : ℕ) → wide ≢ other → (wide == other) ≡ false
apart_by wide other apart = ne_eqb wide other apart

-- after the rows so far no two requests that are open are contested
module _ (plan : Plan) (is_plan : IsPlan plan) (map : IsLawfulAddressMap plan.layout.ports) (port : ℕ) where
  abbrev p : Plan
  p = plan

  abbrev past_of : List SeenRow → List Sighting
  past_of rows = shared_past plan.layout (beats_of rows)

  abbrev slave : Slave
  slave = (reset_of p port).kept

  -- two requests that are open at a memory
  pair_apart : (rows : List SeenRow) → AreWatched p.layout (past_of rows) → IsLawful plan (beats_of rows)
      → how_often (bin.Contested port) (bins plan rows) ≡ 0 → (memory : Partial) → slave ≡ Memory memory
      → (wide other : ℕ) (ask with : Sent) → wide ≢ other
      → IsOpen (moments p port (past_of rows)) wide ask → IsOpen (moments p port (past_of rows)) other with
      → AreUncontested memory ask.ask with.ask
  pair_apart rows watched lawful none memory is wide other ask with apart is_open its_open =
      let heads = λ (w : ℕ) (r : Sent) (o : IsOpen (moments p port (past_of rows)) w r).
      head plan is_plan map (past_of rows) watched (shared_part plan (beats_of rows) lawful)
      (in_flight plan rows) (are_kept plan rows lawful) port w r o in
      let first = heads wide ask is_open in
      let second = heads other with its_open in
      uncontested memory port ask.ask with.ask (found wide (in_flight plan rows)) (found other (in_flight plan rows)) first second
      (ap (λ s. meets (mirrors_of s) first.flight.first second.flight.first) (sym is)
      ∙ all_apart plan port rows none wide other first.flight second.flight (apart_by wide other apart) first.is second.is
      first.whole second.whole first.port_is second.port_is)

  now_apart : (rows : List SeenRow) → AreWatched p.layout (past_of rows) → IsLawful plan (beats_of rows)
      → how_often (bin.Contested port) (bins plan rows) ≡ 0 → (kept : Slave) → slave ≡ kept
      → AreApart kept (moments p port (past_of rows))
  now_apart rows watched lawful none Device is = tt
  now_apart rows watched lawful none (Memory memory) is = pair_apart rows watched lawful none memory is

  all_fronts : (rows : List SeenRow) → AreWatched p.layout (past_of rows) → IsLawful plan (beats_of rows)
      → how_often (bin.Contested port) (bins plan rows) ≡ 0
      → OfFronts (AreApart slave) (moments p port (past_of rows))
  all_fronts [] watched lawful none =
      subst (λ l. OfFronts (AreApart slave) (moments p port l)) (sym (shared_none plan.layout))
      (fronts_none (AreApart slave)
      (subst (λ l. AreApart slave (moments p port l)) (shared_none plan.layout)
      (now_apart [] watched lawful none slave refl)))
  all_fronts (row ∷ before) watched lawful none =
      go (is_alone plan.layout row.sighting.link) refl
      (all_fronts before (watched_before (is_alone plan.layout row.sighting.link) refl) lawful.0 earlier)
      (now_apart (row ∷ before) watched lawful none slave refl)
    where
      earlier : how_often (bin.Contested port) (bins plan before) ≡ 0
      earlier =
          let sum = how_often-append (bin.Contested port) (bins_of plan before row) (bins plan before) in
          omega (arith, sum, none)

      watched_before : (alone : Bool) → is_alone plan.layout row.sighting.link ≡ alone
          → AreWatched p.layout (past_of before)
      watched_before true is =
          subst (λ l. AreWatched p.layout l)
          (shared_same row.sighting.beat row.sighting.known row.sighting.lanes (beats_of before) plan.layout
          row.sighting.link is) watched
      watched_before false is =
          let all : AreWatched p.layout (row.sighting ∷ past_of before) =
          subst (λ l. AreWatched p.layout l)
          (shared_more row.sighting.beat row.sighting.known row.sighting.lanes (beats_of before) plan.layout
          row.sighting.link is) watched in
          all.1

      go : (alone : Bool) → is_alone plan.layout row.sighting.link ≡ alone
          → OfFronts (AreApart slave) (moments p port (past_of before))
          → AreApart slave (moments p port (past_of (row ∷ before)))
          → OfFronts (AreApart slave) (moments p port (past_of (row ∷ before)))
      go true is rest now =
          subst (λ l. OfFronts (AreApart slave) (moments p port l))
          (sym (shared_same row.sighting.beat row.sighting.known row.sighting.lanes (beats_of before) plan.layout
          row.sighting.link is)) rest
      go false is rest now =
          let more = shared_more row.sighting.beat row.sighting.known row.sighting.lanes (beats_of before)
          plan.layout row.sighting.link is in
          subst (λ l. OfFronts (AreApart slave) (moments p port l)) (sym more)
          (fronts_more p port (past_of before) row.sighting (AreApart slave) rest
          (subst (λ l. AreApart slave (moments p port l)) more now))

-- ---- the text

none_found : (bin : Bin) (entries : List (Bin × ℕ)) → AllByRecursion (λ (entry : Bin × ℕ). entry.0 ≢ bin) entries
    → unwrap_or (lookup (is_at (bin_cmp bin)) entries) 0 ≡ 0
none_found bin [] none = refl
none_found bin (e ∷ es) none = go (is_eq (bin_cmp bin e.0)) refl (none_found bin es none.1)
  where
    go : (b : Bool) → is_eq (bin_cmp bin e.0) ≡ b → unwrap_or (lookup (is_at (bin_cmp bin)) es) 0 ≡ 0
        → unwrap_or (cond b (Some e.1) (lookup (is_at (bin_cmp bin)) es)) 0 ≡ 0
    go true is rest = absurd (none.0 (sym (exact_eq bin e.0 is)))
    go false is rest = rest

-- what is not among several lists together is not in one of them
none_among : (bin : Bin) (later here earlier : List Bin) → how_often bin (later ++ (here ++ earlier)) ≡ 0
    → how_often bin here ≡ 0
none_among bin later here earlier none =
    let all = how_often-append bin later (here ++ earlier) in
    let rest = how_often-append bin here earlier in
    omega (arith, all, rest, none)

pub nothing_is_contested : (plan : Plan) (rows : List SeenRow) (later earlier : List Bin) (ports : ℕ) (old new : List ℕ)
    (port : ℕ) → IsPlan plan
    → IsLawfulAddressMap plan.layout.ports → AreWatched plan.layout (shared_past plan.layout (beats_of rows))
    → IsLawful plan (beats_of rows) → (tells : TellsCoverage ports (later ++ (bins plan rows ++ earlier)) old new)
    → TellsNoContest port tells.entries
    → NothingIsContested plan port (shared_past plan.layout (beats_of rows))
nothing_is_contested plan rows later earlier ports old new port is_plan map watched lawful tells none =
    let counts = tells.counts (bin.Contested port) in
    let zero_there = none_found (bin.Contested port) tells.entries none in
    all_fronts plan is_plan map port rows watched lawful
    (none_among (bin.Contested port) later (bins plan rows) earlier (omega (arith, counts, zero_there)))
