-- Traces that agree with the histories of lawful books are those of one thread.
use Rattle.std.proofs.Common.{◌≡◌, ◌∙◌, ℕ, zero, suc, ◌<◌, ◌≤◌, ◌==◌, Bool, true, false, List, [], ◌∷◌, take, Option, Some, None, option_map, slice_get, refl, sym, ap, arith, ⊎_elim}
use Rattle.std.proofs.lemmas.Bool.{and_parts, cases_lt, eqb-true, eq-eqb}
use Rattle.std.proofs.lemmas.Option.{slice_get-map}
use Rattle.std.specs.Cmp.Derive.{both_true}
use Rattle.tl_types.specs.Request.{Request}
use Rattle.tl_types.specs.Response.{Response}
use Rattle.tl_types.specs.declared.trace.Entry.{Entry}
use Rattle.tl_ops.specs.Store.{Store, after, reply}
use Rattle.tl_ops.specs.History.{IsLawfulHistory, asks_of, replay}
use Rattle.tl_port.specs.Book.{BookView, reset}
use Rattle.tl_map.specs.declared.owners.Owner.{Owner}
use Rattle.tl_audit.specs.Agrees.{Agrees, HasEntry, IsNeverOutOfOrder, IsRecorded, names, pair_at, times_in, times_named}
use Rattle.tl_audit.specs.Reader.{AreLawful, AreOneThreads, CarriesReply, IsServedInOrder, IsTracedOnce, histories_of, replies_of}

-- ---- one thread's replies

-- the reply at a place is the memory's after the requests before it
reply_at : (store : Store) (history : List (Request × Response)) (i : ℕ) (ask : Request) (response : Response)
    → slice_get history i ≡ Some (ask, response)
    → slice_get (replies_of store (asks_of history)) i ≡ Some (reply (replay store (asks_of (take i history))) ask)
reply_at store [] i ask response there = absurd cc
reply_at store (pair ∷ history) zero ask response there = let same : pair.0 ≡ ask = cc in rw same refl
reply_at store (pair ∷ history) (suc i) ask response there = reply_at (after store pair.0) history i ask response there

-- so a lawful history has one thread's replies
lawful_reply : (store : Store) (history : List (Request × Response)) (i : ℕ) (ask : Request) (response : Response)
    → IsLawfulHistory store history
    → slice_get history i ≡ Some (ask, response) → slice_get (replies_of store (asks_of history)) i ≡ Some response
lawful_reply store history i ask response lawful there =
    reply_at store history i ask response there ∙ ap (λ (r : Response). Some r) (sym (lawful i ask response there))

-- a pair of the books' histories stands in the history of a book
record IsInBook (books : List BookView) (p i : ℕ) (pair : Request × Response) : Type 0 where
  book : BookView
  at : slice_get books p ≡ Some book
  there : slice_get book.history i ≡ Some pair

in_book : (books : List BookView) (p i : ℕ) (pair : Request × Response) → pair_at (histories_of books) p i ≡ Some pair
    → IsInBook books p i pair
in_book books p i pair has = by_book (slice_get books p) refl where
  by_book : (o : Option BookView) → slice_get books p ≡ o → IsInBook books p i pair
  by_book None none = absurd (let never = rw (slice_get-map (λ (b : BookView). b.history) books p, none) at has in cc)
  by_book (Some book) there =
      record { book = book; at = there; there = rw (slice_get-map (λ (b : BookView). b.history) books p, there) at has }

carried : (owners : List Owner) (books : List BookView) (m : ℕ) (e : Entry) → AreLawful books
    → IsRecorded owners (histories_of books) m e → CarriesReply owners books m e
carried owners books m e lawful recorded =
    let found = in_book books e.port e.index
    (record e.ask { source = recorded.wide }, record e.reply { source = recorded.wide }) recorded.at in
    let law = lawful e.port found.book found.at in
    record {
      book = found.book;
      port = found.at;
      wide = recorded.wide;
      is = recorded.is;
      asked = slice_get-map (λ (pair : Request × Response). pair.0) found.book.history e.index
          ∙ ap (option_map (λ (pair : Request × Response). pair.0)) found.there;
      replied = lawful_reply (reset found.book) found.book.history e.index (record e.ask { source = recorded.wide })
          (record e.reply { source = recorded.wide }) law.replies found.there;
    }

-- ---- once

-- no entry of a trace names the place
none_in : (p i : ℕ) (trace : List Entry) → times_in p i trace ≡ 0 → (k : ℕ) (e : Entry) → slice_get trace k ≡ Some e
    → names p i e ≡ true → ⊥
none_in p i [] none k e there is = absurd cc
none_in p i (d ∷ trace) none k e there is = by_name (λ rest. none_in p i trace rest) (names p i d) refl k there where
  by_name : (times_in p i trace ≡ 0 → (k : ℕ) (e : Entry) → slice_get trace k ≡ Some e → names p i e ≡ true → ⊥)
      → (b : Bool) → names p i d ≡ b → (k : ℕ) → slice_get (d ∷ trace) k ≡ Some e → ⊥
  by_name rest true named k there = let some = rw named at none in omega (arith, some)
  by_name rest false other zero there = let same : d ≡ e = cc in let is_d : names p i d ≡ true = rw same is in cc
  by_name rest false other (suc k) there = rest (rw other at none) k e there is

-- no entry of the traces names the place
none_of : (p i : ℕ) (traces : List (List Entry)) → times_named traces p i ≡ 0 → (m k : ℕ) (e : Entry)
    → HasEntry traces m k e → names p i e ≡ true → ⊥
none_of p i [] none m k e has is = has
none_of p i (trace ∷ traces) none zero k e has is = none_in p i trace (omega arith) k e has is
none_of p i (trace ∷ traces) none (suc m) k e has is = none_of p i traces (omega arith) m k e has is

-- one entry of a trace names the place
record IsNamedIn (p i : ℕ) (trace : List Entry) : Type 0 where
  place : ℕ
  entry : Entry
  at : slice_get trace place ≡ Some entry
  named : names p i entry ≡ true
  alone : (k : ℕ) (e : Entry) → slice_get trace k ≡ Some e → names p i e ≡ true → k ≡ place

-- the first entry does
first_in : (p i : ℕ) (d : Entry) (trace : List Entry) → names p i d ≡ true → times_in p i trace ≡ 0
    → IsNamedIn p i (d ∷ trace)
first_in p i d trace named rest = record { place = 0; entry = d; at = refl; named = named; alone = only } where
  only : (k : ℕ) (e : Entry) → slice_get (d ∷ trace) k ≡ Some e → names p i e ≡ true → k ≡ 0
  only zero e there is = refl
  only (suc k) e there is = absurd (none_in p i trace rest k e there is)

-- the first entry does not
later_in : (p i : ℕ) (d : Entry) (trace : List Entry) → names p i d ≡ false → IsNamedIn p i trace
    → IsNamedIn p i (d ∷ trace)
later_in p i d trace other rest =
    record { place = suc rest.place; entry = rest.entry; at = rest.at; named = rest.named; alone = only } where
      only : (k : ℕ) (e : Entry) → slice_get (d ∷ trace) k ≡ Some e → names p i e ≡ true → k ≡ suc rest.place
      only zero e there is = let same : d ≡ e = cc in absurd (let is_d : names p i d ≡ true = rw same is in cc)
      only (suc k) e there is = ap suc (rest.alone k e there is)

named_in : (p i : ℕ) (trace : List Entry) → times_in p i trace ≡ 1 → IsNamedIn p i trace
named_in p i [] one = absurd (omega (arith, one))
named_in p i (d ∷ trace) one = by_name (λ rest. named_in p i trace rest) (names p i d) refl where
  by_name : (times_in p i trace ≡ 1 → IsNamedIn p i trace) → (b : Bool) → names p i d ≡ b → IsNamedIn p i (d ∷ trace)
  by_name rest true named = let counted = rw named at one in first_in p i d trace named (omega (arith, counted))
  by_name rest false other = later_in p i d trace other (rest (rw other at one))

-- one entry of the traces does
record IsNamedOf (p i : ℕ) (traces : List (List Entry)) : Type 0 where
  master : ℕ
  place : ℕ
  entry : Entry
  at : HasEntry traces master place entry
  named : names p i entry ≡ true
  alone : (m k : ℕ) (e : Entry) → HasEntry traces m k e → names p i e ≡ true → (m ≡ master) × (k ≡ place)

-- an entry of the first trace does
first_of_all : (p i : ℕ) (trace : List Entry) (traces : List (List Entry)) → IsNamedIn p i trace
    → times_named traces p i ≡ 0 → IsNamedOf p i (trace ∷ traces)
first_of_all p i trace traces mine others =
    record { master = 0; place = mine.place; entry = mine.entry; at = mine.at; named = mine.named; alone = only } where
      only : (m k : ℕ) (e : Entry) → HasEntry (trace ∷ traces) m k e → names p i e ≡ true → (m ≡ 0) × (k ≡ mine.place)
      only zero k e has is = (refl, mine.alone k e has is)
      only (suc m) k e has is = absurd (none_of p i traces others m k e has is)

-- no entry of the first trace does
later_of_all : (p i : ℕ) (trace : List Entry) (traces : List (List Entry)) → times_in p i trace ≡ 0
    → IsNamedOf p i traces → IsNamedOf p i (trace ∷ traces)
later_of_all p i trace traces none rest =
    record {
      master = suc rest.master;
      place = rest.place;
      entry = rest.entry;
      at = rest.at;
      named = rest.named;
      alone = only;
    }
  where
    only : (m k : ℕ) (e : Entry) → HasEntry (trace ∷ traces) m k e → names p i e ≡ true → (m ≡ suc rest.master)
        × (k ≡ rest.place)
    only zero k e has is = absurd (none_in p i trace none k e has is)
    only (suc m) k e has is = let same = rest.alone m k e has is in (ap suc same.0, same.1)

named_of : (p i : ℕ) (traces : List (List Entry)) → times_named traces p i ≡ 1 → IsNamedOf p i traces
named_of p i [] one = absurd (omega (arith, one))
named_of p i (trace ∷ traces) one = by_count (λ rest. named_of p i traces rest) (times_in p i trace) refl where
  by_count : (times_named traces p i ≡ 1 → IsNamedOf p i traces) → (n : ℕ) → times_in p i trace ≡ n
      → IsNamedOf p i (trace ∷ traces)
  by_count rest zero none = later_of_all p i trace traces none (rest (omega arith))
  by_count rest (suc zero) here = first_of_all p i trace traces (named_in p i trace here) (omega arith)
  by_count rest (suc (suc n)) many = absurd (omega arith)

traced_once : (traces : List (List Entry)) (p i : ℕ) → times_named traces p i ≡ 1 → IsTracedOnce traces p i
traced_once traces p i one =
    let it = named_of p i traces one in
    let parts = and_parts (it.entry.port == p) (it.entry.index == i) it.named in
    record {
      master = it.master;
      place = it.place;
      entry = it.entry;
      at = it.at;
      port = eqb-true it.entry.port p parts.0;
      index = eqb-true it.entry.index i parts.1;
      alone = λ m k e has port index. it.alone m k e has (both_true (eq-eqb e.port p port) (eq-eqb e.index i index));
    }

-- ---- in order

in_turn : (trace : List Entry) → IsNeverOutOfOrder trace → IsServedInOrder trace
in_turn trace ordered j k earlier later first second before source port = ⊎_elim
    (λ (less : earlier.index < later.index). less)
    (λ (more : later.index ≤ earlier.index).
    absurd (ordered k (record {
      early = j;
      before = before;
      earlier = earlier;
      later = later;
      at_early = first;
      at = second;
      source = source;
      port = port;
      index = more;
    })))
    (cases_lt earlier.index later.index)

pub agreeing_is_one_threads : (owners : List Owner) (traces : List (List Entry)) (books : List BookView) → AreLawful books
    → Agrees owners traces (histories_of books) → AreOneThreads owners traces books
agreeing_is_one_threads owners traces books lawful agrees = record {
  replies = λ m k e has. carried owners books m e lawful (agrees.recorded m k e has);
  once = λ p i place. traced_once traces p i (agrees.once p i place);
  order = λ m trace there. in_turn trace (agrees.ordered m trace there);
}
