-- The text of a run by threads is one thread's, port by port.
use Rattle.std.proofs.Common.{subst, ◌≡◌, ◌∙◌, ℕ, ◌+◌, ◌<◌, Bool, List, [], ◌∷◌, ◌++◌, length, Option, Some, None, option_map, slice_get, get_or, refl, ap, arith, length-append}
use Rattle.std.proofs.lemmas.List.{length-map}
use Rattle.std.proofs.lemmas.Option.{slice_get-get_or, slice_get-map, slice_get_within}
use Rattle.tl_types.specs.declared.trace.Entry.{Entry}
use Rattle.tl_rule.specs.declared.view.About.{About}
use Rattle.tl_rule.specs.Views.{no_store, reset_of}
use Rattle.tl_arena.specs.Views.{ArenaId}
use Rattle.tl_port.specs.Book.{BookView, reset}
use Rattle.tl_audit.specs.Agrees.{HasEntry}
use Rattle.tl_audit.specs.Reader.{AreLawful, AreOneThreads, histories_of}
use Rattle.tl_audit.proofs.Reader.{agreeing_is_one_threads}
use Rattle.tl_script.specs.History.{account_text}
use Rattle.tl_script.specs.System.{System, IsLawfulSystem, error_store, resets}
use Rattle.tl_script.proofs.Banks.{ports_counted}
use Rattle.tl_script.specs.declared.operation.Job.{Job}
use Rattle.tl_serial.specs.Text.{run_text}
use Rattle.tl_program.specs.Engine.{IsThreadedText}
use Rattle.tl_program.specs.OneThread.{IsOneThreadsText, IsServedByOne}
use Rattle.tl_program.proofs.Slots.{all_slots}
use Rattle.tl_arena.specs.declared.account.HeldSlot.{HeldSlot}

-- the trace that an entry stands in
record IsInTrace (traces : List (List Entry)) (m k : ℕ) (e : Entry) : Type 0 where
  trace : List Entry
  at : slice_get traces m ≡ Some trace
  there : slice_get trace k ≡ Some e

in_trace : (traces : List (List Entry)) (m k : ℕ) (e : Entry) → HasEntry traces m k e → IsInTrace traces m k e
in_trace traces m k e has = by_trace (slice_get traces m) refl where
  by_trace : (o : Option (List Entry)) → slice_get traces m ≡ o → IsInTrace traces m k e
  by_trace None none = absurd (rw none at has)
  by_trace (Some trace) at = record { trace = trace; at = at; there = rw at at has }

-- there is a reset for each port
many_resets : (s : System) → IsLawfulSystem s → length (resets s) ≡ length s.ranges + 1
many_resets s lawful =
    let long = length-append s.stores (error_store ∷ []) in
    let same = ports_counted s lawful in
    omega arith

-- the port's store at reset is the system's
starts : (s : System) (about : About) (p : ℕ) → about.resets ≡ resets s → p < length (resets s)
    → slice_get (resets s) p ≡ Some (reset_of about p)
starts s about p same within = rw same (slice_get-get_or (resets s) p no_store within)

reset_is : (book : BookView) (arena : ArenaId) (p : ℕ) → book.seat.arena ≡ arena → book.seat.number ≡ p
    → reset book ≡ reset_of arena.about p
reset_is book arena p of_arena number = rw (of_arena, number) refl

module _ (history : Bool) (s : System) (text : List ℕ) (lawful : IsLawfulSystem s)
    (t : IsThreadedText history s text) where
  books_lawful : AreLawful t.books
  books_lawful p book at = (t.run.books_are.each p book at).lawful

  one : AreOneThreads s.owners t.traces t.books
  one = agreeing_is_one_threads s.owners t.traces t.books books_lawful t.agrees

  served : (m k : ℕ) (e : Entry) → HasEntry t.traces m k e → IsServedByOne s (histories_of t.books) m e
  served m k e has =
      let it = one.replies m k e has in
      let its = t.run.books_are.each e.port it.book it.port in
      let found = in_trace t.traces m k e has in
      let books = t.run.books_are.many in
      let all_resets = many_resets s lawful in
      let of_port = slice_get_within t.books e.port it.book it.port in
      let masters = t.run.traces_are.many in
      let of_master = slice_get_within t.traces m found.trace found.at in
      let within : m < length s.jobs = omega arith in
      let jobs : List Job = get_or s.jobs m [] in
      let trace_is = t.run.traces_are.each m jobs found.trace (slice_get-get_or s.jobs m [] within) found.at in
      let same : reset it.book ≡ reset_of t.run.arena.about e.port =
      reset_is it.book t.run.arena e.port its.arena_is its.number_is in
      record {
        routed = trace_is.routed k e found.there;
        reset = reset it.book;
        starts = rw same (starts s t.run.arena.about e.port (ap (λ (about : About). about.resets) t.run.about)
            (omega arith));
        history = it.book.history;
        keeps = slice_get-map (λ (book : BookView). book.history) t.books e.port
            ∙ ap (option_map (λ (book : BookView). book.history)) it.port;
        wide = it.wide;
        is = it.is;
        asked = it.asked;
        replied = it.replied;
      }

  -- every master has left, so no slot is held, and all slots are free
  none_held : length t.held ≡ 0
  none_held = ap (λ (held : List HeldSlot). length held)
      (t.run.account.all_free (λ m within. t.run.all_left m
      (subst (λ (about : About). m < about.masters) t.run.about within)))

  all_free : length t.free ≡ s.slots
  all_free =
      let all : length t.free + length t.held ≡ s.slots =
      all_slots t.run.arena.about t.free t.held t.left t.run.account
      ∙ ap (λ (about : About). about.slots) t.run.about in
      let none = none_held in
      omega arith

  account_is : account_text (length t.free) (length t.held) ≡ account_text s.slots 0
  account_is = ap (λ (free : ℕ). account_text free (length t.held)) all_free
      ∙ ap (λ (held : ℕ). account_text s.slots held) none_held

  pub threaded_is_one_threads : IsOneThreadsText history s text
  threaded_is_one_threads = record {
    traces = t.traces;
    histories = histories_of t.books;
    run = record {
      masters = t.run.traces_are.many;
      ports = length-map t.books (λ (book : BookView). book.history) ∙ t.run.books_are.many;
      asked = λ m jobs trace its at.
          let trace_is = t.run.traces_are.each m jobs trace its at in
          record { each = trace_is.each; waits = trace_is.waits; turns = trace_is.turns };
      served = served;
      once = one.once;
      order = one.order;
    };
    is = t.is ∙ ap (λ (line : List ℕ). run_text history t.traces (histories_of t.books) ++ line) account_is;
  }
