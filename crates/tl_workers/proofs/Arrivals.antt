-- How many requests go to each port, from request to request and from master to master.
use Rattle.std.proofs.Common.{◌≡◌, ℕ, zero, suc, ◌+◌, ◌*◌, ◌^◌, ◌<◌, ◌≤◌, ◌∙◌, List, [], ◌∷◌, ◌++◌, length, take, replicate, get_or, slice_get, set, cond, eqb, Some, refl, sym, ap, subst, arith, length-append, length-set, eq-eqb}
use Rattle.std.proofs.lemmas.Bool.{ne_eqb}
use Rattle.std.proofs.lemmas.List.{append-nil, length-map, take_more, flat_map_more, take_all, take-append-le, length-replicate}
use Rattle.std.proofs.lemmas.List.Sums.{sum_by-append, count_by-le-length}
use Rattle.std.proofs.lemmas.Option.{slice_get_within, slice_get-get_or, get_or_from_slice_get}
use mathlib.Core.Logic.{dite}
use native.Mathlib.Decide.{ℕ_discrete}
use Rattle.tl_types.specs.Request.{Request}
use Rattle.tl_types.proofs.Lists.{slice_get-set_same, slice_get-set_other}
use Rattle.tl_map.specs.declared.range.Range.{Range}
use Rattle.tl_map.specs.Map.{Routes}
use Rattle.tl_map.specs.Blocks.{counts_in}
use Rattle.tl_map.specs.declared.owners.Owner.{Owner}
use Rattle.tl_script.specs.declared.operation.Job.{Job}
use Rattle.tl_script.specs.declared.operation.Job.TheVariants.{Wait, Send}
use Rattle.tl_types.specs.declared.limits.TheConstants.{MAX_MASTERS}
use Rattle.tl_script.specs.System.{System, IsLawfulSystem, sends}
use Rattle.tl_script.specs.declared.system.TheConstants.{MAX_JOBS}
use Rattle.tl_workers.proofs.Asking.{next_sends}
use Rattle.tl_workers.proofs.Rows.{one_some}
use Rattle.tl_workers.specs.Start.{ArePortsOf, occurrences_of, GoTo, AddsArrivals, all_sends, AreJournals, IsNewBook}
use Rattle.tl_arena.specs.Views.{ArenaId, new_port}
use Rattle.tl_rule.specs.Views.{reset_of}
use Rattle.tl_port.specs.Book.{BookView, new_book}

-- ---- the ports of requests

ports_many : (ranges : List (List Range)) (asks : List Request) (ports : List ℕ) → ArePortsOf ranges asks ports
    → length ports ≡ length asks
ports_many ranges [] [] are = refl
ports_many ranges [] (p ∷ ports) are = absurd are
ports_many ranges (a ∷ asks) [] are = absurd are
ports_many ranges (a ∷ asks) (p ∷ ports) are = ap suc (ports_many ranges asks ports are.1)

ports_then : (ranges : List (List Range)) (xs ys : List Request) (ps qs : List ℕ) → ArePortsOf ranges xs ps
    → ArePortsOf ranges ys qs → ArePortsOf ranges (xs ++ ys) (ps ++ qs)
ports_then ranges [] ys [] qs are more = more
ports_then ranges [] ys (p ∷ ps) qs are more = absurd are
ports_then ranges (a ∷ xs) ys [] qs are more = absurd are
ports_then ranges (a ∷ xs) ys (p ∷ ps) qs are more = (are.0, ports_then ranges xs ys ps qs are.1 more)

times_then : (ps qs : List ℕ) (p : ℕ) → occurrences_of (ps ++ qs) p ≡ occurrences_of ps p + occurrences_of qs p
times_then ps qs p = sum_by-append (λ (q : ℕ). cond (eqb q p) 1 0) ps qs

times_here : (p : ℕ) → occurrences_of (p ∷ []) p ≡ 1
times_here p = ap (λ b. 0 + cond b 1 0) (eq-eqb p p refl)

times_elsewhere : (q p : ℕ) → (q ≡ p → ⊥) → occurrences_of (q ∷ []) p ≡ 0
times_elsewhere q p not = ap (λ b. 0 + cond b 1 0) (ne_eqb q p not)

-- ---- counts

pub adds_none : (ranges : List (List Range)) (counts : List ℕ) → AddsArrivals ranges [] counts counts
adds_none ranges counts = record {
  ports = [];
  are = tt;
  many = refl;
  each = λ p n is. is ∙ ap (λ (m : ℕ). Some m) (omega arith);
}

pub adds_one : (ranges : List (List Range)) (ask : Request) (port n : ℕ) (old : List ℕ) → slice_get old port ≡ Some n
    → Routes ranges ask port → AddsArrivals ranges (ask ∷ []) old (set old port (n + 1))
adds_one ranges ask port n old at goes = record {
  ports = port ∷ [];
  are = (goes, tt);
  many = length-set old port (n + 1);
  each = λ p m is. dite (ℕ_discrete port p)
      (λ (here : port ≡ p).
      let same : n ≡ m = one_some (slice_get old port) n m at (ap (λ (k : ℕ). slice_get old k) here ∙ is) in
      let one : occurrences_of (port ∷ []) p ≡ 1 =
      subst (λ (k : ℕ). occurrences_of (port ∷ []) k ≡ 1) here (times_here port) in
      let sum : n + 1 ≡ m + occurrences_of (port ∷ []) p = omega (arith, same, one) in
      ap (λ (k : ℕ). slice_get (set old port (n + 1)) k) (sym here)
      ∙ slice_get-set_same old port (n + 1) (slice_get_within old port n at) ∙ ap (λ (k : ℕ). Some k) sum)
      (λ (other : port ≡ p → ⊥).
      let none : occurrences_of (port ∷ []) p ≡ 0 = times_elsewhere port p other in
      let sum : m ≡ m + occurrences_of (port ∷ []) p = omega (arith, none) in
      slice_get-set_other old port p (n + 1) other ∙ is ∙ ap (λ (k : ℕ). Some k) sum);
}

pub adds_then : (ranges : List (List Range)) (xs ys : List Request) (a b c : List ℕ) → AddsArrivals ranges xs a b
    → AddsArrivals ranges ys b c → AddsArrivals ranges (xs ++ ys) a c
adds_then ranges xs ys a b c p q = record {
  ports = p.ports ++ q.ports;
  are = ports_then ranges xs ys p.ports q.ports p.are q.are;
  many = q.many ∙ p.many;
  each = λ port n is.
      let sum : (n + occurrences_of p.ports port) + occurrences_of q.ports port ≡ n + occurrences_of
      (p.ports ++ q.ports) port = omega (arith, times_then p.ports q.ports port) in
      q.each port (n + occurrences_of p.ports port) (p.each port n is) ∙ ap (λ (k : ℕ). Some k) sum;
}

-- a count was there before, and grew by so many requests, which are no more than there are
grown_by : (ranges : List (List Range)) (asks : List Request) (old new : List ℕ) (p m : ℕ)
    (adds : AddsArrivals ranges asks old new) → slice_get new p ≡ Some m → (n : ℕ) × (slice_get old p ≡ Some n)
    × (m ≡ n + occurrences_of adds.ports p)
grown_by ranges asks old new p m adds at =
    let within : p < length old = subst (λ (k : ℕ). p < k) adds.many (slice_get_within new p m at) in
    let was : slice_get old p ≡ Some (get_or old p 0) = slice_get-get_or old p 0 within in (
      get_or old p 0,
      was,
      one_some (slice_get new p) m (get_or old p 0 + occurrences_of adds.ports p) at
          (adds.each p (get_or old p 0) was),
    )

pub grown : (ranges : List (List Range)) (asks : List Request) (old new : List ℕ) (p m : ℕ) → AddsArrivals ranges asks old new
    → slice_get new p ≡ Some m → (n : ℕ) × (slice_get old p ≡ Some n) × (m ≤ n + length asks)
grown ranges asks old new p m adds at =
    let was = grown_by ranges asks old new p m adds at in (
      was.0,
      was.1,
      omega (
        arith,
        was.2,
        count_by-le-length (λ (q : ℕ). eqb q p) adds.ports,
        ports_many ranges asks adds.ports adds.are,
      ),
    )

-- ---- one master's operations

pub few_sends : (jobs : List Job) → length (sends jobs) ≤ length jobs
few_sends [] = omega arith
few_sends (Wait ∷ jobs) = let few = few_sends jobs in omega (arith, few)
few_sends (Send ask ∷ jobs) = let few = few_sends jobs in omega (arith, few)

-- the first k send at most k requests
pub few_before : (jobs : List Job) (k : ℕ) → length (sends (take k jobs)) ≤ k
few_before [] zero = omega arith
few_before [] (suc k) = omega arith
few_before (job ∷ jobs) zero = omega arith
few_before (Wait ∷ jobs) (suc k) = let few = few_before jobs k in omega (arith, few)
few_before (Send ask ∷ jobs) (suc k) = let few = few_before jobs k in omega (arith, few)

module _ (ranges : List (List Range)) (jobs : List Job) (k : ℕ) (d : Job) (within : k < length jobs) (old new : List ℕ)
    (was : AddsArrivals ranges (sends (take k jobs)) old new) where
  pub wait_adds : get_or jobs k d ≡ Wait → AddsArrivals ranges (sends (take (k + 1) jobs)) old new
  wait_adds is = subst (λ (asks : List Request). AddsArrivals ranges asks old new)
      (sym (next_sends jobs k d Wait within is ∙ append-nil (sends (take k jobs)))) was

  pub send_adds : (ask : Request) (port n : ℕ) (next : List ℕ) → get_or jobs k d ≡ Send ask
      → slice_get new port ≡ Some n → Routes ranges ask port → next ≡ set new port (n + 1)
      → AddsArrivals ranges (sends (take (k + 1) jobs)) old next
  send_adds ask port n next is at goes set_is =
      let one = subst (λ (l : List ℕ). AddsArrivals ranges (ask ∷ []) new l) (sym set_is)
      (adds_one ranges ask port n new at goes) in
      subst (λ (asks : List Request). AddsArrivals ranges asks old next)
      (sym (next_sends jobs k d (Send ask) within is))
      (adds_then ranges (sends (take k jobs)) (ask ∷ []) old new next was one)

-- ---- all masters' operations

-- all of it was written
pub all_written : {X : Type 0} (many : ℕ) (new rest : List X) → length new ≡ many → take many (new ++ rest) ≡ new
all_written many new rest is = take-append-le many new rest (omega (arith, is)) ∙ take_all many new (omega (arith, is))

zero_at : (many p n : ℕ) → slice_get (replicate many 0) p ≡ Some n → n ≡ 0
zero_at zero p n at = absurd cc
zero_at (suc many) zero n at = cc
zero_at (suc many) (suc p) n at = zero_at many p n at

next_list : (lists : List (List Job)) (k : ℕ) (jobs : List Job) → slice_get lists k ≡ Some jobs
    → all_sends (take (k + 1) lists) ≡ all_sends (take k lists) ++ sends jobs
next_list lists k jobs at =
    ap all_sends (take_more lists k jobs (slice_get_within lists k jobs at)
    ∙ ap (λ (js : List Job). take k lists ++ js ∷ []) (get_or_from_slice_get lists k jobs jobs at))
    ∙ sym (flat_map_more sends [] (take k lists) jobs)

-- the requests of some masters are not too many for a number
pub few_more : (lists : List (List Job)) (k most : ℕ) (jobs : List Job) → slice_get lists k ≡ Some jobs
    → length jobs ≤ most → length (all_sends (take k lists)) ≤ k * most
    → length (all_sends (take (k + 1) lists)) ≤ (k + 1) * most
few_more lists k most jobs at short few =
    let sum = ap (λ (asks : List Request). length asks) (next_list lists k jobs at)
    ∙ length-append (all_sends (take k lists)) (sends jobs) in
    let own = few_sends jobs in
    grind (arith, sum, own, few, short)

pub list_adds : (ranges : List (List Range)) (lists : List (List Job)) (k : ℕ) (jobs : List Job) (zeros old new : List ℕ)
    → slice_get lists k ≡ Some jobs → AddsArrivals ranges (all_sends (take k lists)) zeros old
    → AddsArrivals ranges (sends jobs) old new → AddsArrivals ranges (all_sends (take (k + 1) lists)) zeros new
list_adds ranges lists k jobs zeros old new at was more =
    subst (λ (asks : List Request). AddsArrivals ranges asks zeros new) (sym (next_list lists k jobs at))
    (adds_then ranges (all_sends (take k lists)) (sends jobs) zeros old new was more)

-- a count from zero on is no more than there are requests
pub from_zero : (ranges : List (List Range)) (asks : List Request) (many : ℕ) (new : List ℕ) (p m : ℕ)
    → AddsArrivals ranges asks (replicate many 0) new → slice_get new p ≡ Some m → m ≤ length asks
from_zero ranges asks many new p m adds at =
    let was = grown ranges asks (replicate many 0) new p m adds at in
    let none = zero_at many p was.0 was.1 in
    omega (arith, none, was.2)

-- the operations at a place of the lists are those at that place of the system
pub listed_at : (s : System) (lists : List (List Job)) (k : ℕ) (own : List Job) → lists ≡ s.jobs → k < length lists
    → own ≡ get_or lists k own → slice_get s.jobs k ≡ Some own
listed_at s lists k own are within is =
    ap (λ (l : List (List Job)). slice_get l k) (sym are) ∙ slice_get-get_or lists k own within
    ∙ ap (λ (jobs : List Job). Some jobs) (sym is)

-- and no others are there
pub listed_here : (s : System) (lists : List (List Job)) (k : ℕ) (own jobs : List Job) → lists ≡ s.jobs
    → k < length lists → own ≡ get_or lists k own → slice_get s.jobs k ≡ Some jobs → own ≡ jobs
listed_here s lists k own jobs are within is at =
    one_some (slice_get s.jobs k) own jobs (listed_at s lists k own are within is) at

pub listed_many : (s : System) (lists : List (List Job)) → lists ≡ s.jobs → length lists ≡ length s.jobs
listed_many s lists are = ap (λ (l : List (List Job)). length l) are

-- a master has not too many operations
pub short_list : (s : System) → IsLawfulSystem s → (k : ℕ) (jobs : List Job) → slice_get s.jobs k ≡ Some jobs
    → length jobs ≤ MAX_JOBS
short_list s lawful k jobs at =
    let below = slice_get_within s.jobs k jobs at in
    let lists = lawful.lists in
    let counted = length-map s.owners (λ (owner : Owner). owner.count) in
    let within : k < length (counts_in s.owners) = omega (arith, below, lists, counted) in
    (lawful.jobs k (get_or (counts_in s.owners) k 0) jobs (slice_get-get_or (counts_in s.owners) k 0 within) at).in_limit

-- a count and one master's operations more are a number
pub fits_number : (n asks k own : ℕ) → n ≤ asks → asks ≤ k * MAX_JOBS → k ≤ MAX_MASTERS → own ≤ MAX_JOBS
    → n + own < 2 ^ 64
fits_number n asks k own a b c d = omega (arith, a, b, c, d)

pub journals_are : (s : System) (new : List ℕ) (k : ℕ) → length s.jobs ≤ k
    → AddsArrivals s.ranges (all_sends (take k s.jobs)) (replicate (length s.ranges + 1) 0) new → AreJournals s new
journals_are s new k end adds =
    let all = subst (λ (lists : List (List Job)). AddsArrivals s.ranges (all_sends lists)
    (replicate (length s.ranges + 1) 0) new) (take_all k s.jobs end) adds in
    record {
      many = all.many ∙ length-replicate (length s.ranges + 1) 0;
      each = λ p n at.
          let was = grown_by s.ranges (all_sends s.jobs) (replicate (length s.ranges + 1) 0) new p n all at in
          record {
            ports = all.ports;
            are = all.are;
            count_is = omega (arith, zero_at (length s.ranges + 1) p was.0 was.1, was.2);
          };
    }

-- a book with a port's journal is new, and has room for all that goes to the port
pub book_is_new : (a : ArenaId) (s : System) (journals : List ℕ) (n journal : ℕ) (book : BookView)
    → AreJournals s journals → n < length journals → journal ≡ get_or journals n 0
    → book ≡ new_book (new_port a n) (reset_of a.about n) journal → IsNewBook a s n book
book_is_new a s journals n journal book are within read is =
    let own : book.journal ≡ journal = ap (λ (b : BookView). b.journal) is in
    let at : slice_get journals n ≡ Some journal =
    slice_get-get_or journals n 0 within ∙ ap (λ (m : ℕ). Some m) (sym read) in
    record {
      is = subst (λ (m : ℕ). book ≡ new_book (new_port a n) (reset_of a.about n) m) (sym own) is;
      room = subst (λ (m : ℕ). GoTo s.ranges (all_sends s.jobs) n m) (sym own) (are.each n journal at);
    }

pub new_in : (a : ArenaId) (s : System) (n : ℕ) (book : BookView) → IsNewBook a s n book → book.seat.arena ≡ a
new_in a s n book new = ap (λ (b : BookView). b.seat.arena) new.is
