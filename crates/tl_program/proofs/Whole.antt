-- The parts of a run, put together.
use Rattle.std.proofs.Common.{◌≡◌, ℕ, ◌+◌, ◌≤◌, List, [], ◌∷◌, length, slice_get, Option, Some, None, option_map, Vec, Global, vec_len, refl, sym, ap, subst, ◌∙◌, arith, length-append}
use Rattle.std.proofs.lemmas.Grind.{common_steps}
use Rattle.std.proofs.lemmas.List.{length-map}
use Rattle.std.proofs.lemmas.Option.{slice_get-map}
use Rattle.tl_types.specs.declared.trace.Entry.{Entry}
use Rattle.tl_journal.specs.Trace.{TraceView, entries_in}
use Rattle.tl_map.specs.declared.range.Range.{Range}
use Rattle.tl_ops.specs.Store.{Store}
use Rattle.tl_script.specs.declared.operation.Job.{Job}
use Rattle.tl_script.specs.System.{System, IsLawfulSystem, resets, error_store}
use Rattle.tl_script.proofs.Banks.{ports_counted}
use Rattle.tl_arena.specs.Views.{ArenaId, PortView, about_of}
use Rattle.tl_arena.specs.Account.{IsClosing}
use Rattle.tl_arena.specs.declared.account.HeldSlot.{HeldSlot}
use Rattle.tl_port.specs.Book.{BookView}
use Rattle.tl_workers.specs.Trace.{IsTrace}
use Rattle.tl_threads.specs.Left.{HaveLeft, IsBookOf}
use Rattle.tl_program.specs.Run.{AreTraces, AreBooks, IsThreadedRun}
use Rattle.tl_workers.specs.Start.{AreFrom, IsTraceOf}
use Rattle.tl_workers.proofs.Rows.{one_some}

-- a system has a reset for each port and one for the error port
pub resets_length : (s : System) → IsLawfulSystem s → length (resets s) ≡ length s.ranges + 1
resets_length s lawful =
    length-append s.stores (error_store ∷ []) ∙ ap (λ (n : ℕ). n + 1) (ports_counted s lawful)

-- so an arena of the system has all its ports
pub reached : (s : System) (a : ArenaId) → IsLawfulSystem s → a.about ≡ about_of s.slots s.owners (resets s)
    → length s.ranges + 1 ≤ a.about.ports
reached s a lawful about = let ports = resets_length s lawful in rw about (omega (arith, ports))

pub banks_many : (s : System) (banks : Vec Store Global) → IsLawfulSystem s → banks.items ≡ resets s
    → vec_len banks ≡ length s.ranges + 1
banks_many s banks lawful is =
    let many = ap (λ (l : List Store). length l) is ∙ resets_length s lawful in
    grind (arith, common_steps, many)

-- as many books as seats
pub seats_many : (n : ℕ) (books : Vec BookView Global) (seats : Vec PortView Global) → vec_len books ≡ vec_len seats
    → length seats.items ≡ n → vec_len books ≡ n
seats_many n books seats all many = grind (arith, common_steps)

pub books_many : (n : ℕ) (books given : Vec BookView Global) → vec_len books ≡ vec_len given → vec_len given ≡ n
    → length books.items ≡ n
books_many n books given all many = grind (arith, common_steps)

-- whose trace a list is
traced_at : (a : ArenaId) (ranges : List (List Range)) (jobs : List (List Job)) (m : ℕ) (its_jobs : List Job)
    (entries : List Entry) (o : Option TraceView) → slice_get jobs m ≡ Some its_jobs
    → option_map (λ (t : TraceView). t.items) o ≡ Some entries
    → ((t : TraceView) → o ≡ Some t → IsTraceOf a ranges jobs m t) → IsTrace a ranges m its_jobs entries
traced_at a ranges jobs m its_jobs entries None at is of = absurd cc
traced_at a ranges jobs m its_jobs entries (Some t) at is of =
    let own = of t refl in
    let items : t.items ≡ entries = cc in
    subst (λ (es : List Entry). IsTrace a ranges m its_jobs es) items
    (subst (λ (js : List Job). IsTrace a ranges m js t.items)
    (one_some (slice_get jobs m) own.its_jobs its_jobs own.at at) own.trace)

pub traces_of : (a : ArenaId) (ranges : List (List Range)) (jobs : List (List Job)) (ts : List TraceView)
    → length ts ≡ length jobs → AreFrom (IsTraceOf a ranges jobs) 0 ts → AreTraces a ranges jobs (entries_in ts)
traces_of a ranges jobs ts many all = record {
  many = length-map ts (λ (t : TraceView). t.items) ∙ many;
  each = λ m its_jobs entries at is. traced_at a ranges jobs m its_jobs entries (slice_get ts m) at
      (sym (slice_get-map (λ (t : TraceView). t.items) ts m) ∙ is)
      (λ t here. let e : 0 + m ≡ m = omega arith in subst (λ (n : ℕ). IsTraceOf a ranges jobs n t) e (all m t here));
}

pub books_are : (a : ArenaId) (ports : ℕ) (bs : List BookView) → length bs ≡ ports → AreFrom (IsBookOf a) 0 bs
    → AreBooks a ports bs
books_are a ports bs many all =
    record {
      many = many;
      each = λ p b is. let e : 0 + p ≡ p = omega arith in subst (λ (n : ℕ). IsBookOf a n b) e (all p b is);
    }

pub threaded : (s : System) (a : ArenaId) (ts : List TraceView) (bs : List BookView) (free : List ℕ)
    (held : List HeldSlot) (left : List ℕ) → a.about ≡ about_of s.slots s.owners (resets s)
    → length ts ≡ length s.jobs → AreFrom (IsTraceOf a s.ranges s.jobs) 0 ts → length bs ≡ length s.ranges + 1
    → AreFrom (IsBookOf a) 0 bs → IsClosing a.about free held left → HaveLeft (length s.owners) left
    → IsThreadedRun s (entries_in ts) bs free held left
threaded s a ts bs free held left about many traces ports books account gone = record {
  arena = a;
  about = about;
  traces_are = traces_of a s.ranges s.jobs ts many traces;
  books_are = books_are a (length s.ranges + 1) bs ports books;
  account = account;
  all_left = gone;
}
