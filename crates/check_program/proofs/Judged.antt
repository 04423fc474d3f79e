-- What a judge finds by each plan that it judges by is what is found by the plan of its system.
use Rattle.std.proofs.Common.{◌≡◌, ◌∙◌, ℕ, Bool, List, [], Option, None, Some, Result, Ok, Err, IfOk, IfSome, ap, refl, subst, sym}
use Rattle.check_beats.specs.declared.bus.Bus.{Bus}
use Rattle.check_description.specs.Description.{Description, Makes}
use Rattle.check_text.specs.Review.{Stretches, AppendsCoverage, HasCovered, Judges, is_asked, is_covered, is_traced, Judge, Tally}
use Rattle.check_rows.specs.Row.{SeenRow}
use Rattle.check_records.specs.Text.{TextPlace, text_start}
use Rattle.check_rows.specs.PortNumbers.{PortNumbers}
use Rattle.check_start.specs.Numbers.{numbers_of}
use Rattle.check_description.specs.Buses.{master_buses, port_buses}
use Rattle.check_start.specs.Start.{ByThePlan}
use Rattle.check_watch.specs.declared.links.Links.{Links}
use Rattle.check_text.specs.Buses.{LinkBuses}
use Rattle.check_text.specs.Capture.{IsCovered, IsFault, IsVerdict, IsWritten, OfCapture, TellsCovered}
use Rattle.check_text.specs.Rows.{OfJudged}
use Rattle.check_text.specs.declared.fault.CaptureFault.{CaptureFault}
use Rattle.check_text.specs.declared.fault.Verdict.{Verdict}
use Rattle.check_text.specs.declared.fault.Verdict.TheVariants as verdicts
use Rattle.check_start.specs.Loads.{SystemPlan}
use Rattle.check_program.specs.declared.asked.Asked.{Asked}
use Rattle.check_program.specs.declared.fault.CheckFault.{CheckFault}
use Rattle.check_program.specs.declared.engine.Prepared.{Prepared}
use Rattle.check_program.specs.Dump.{IsText}
use Rattle.check_program.specs.Engine.{GivenParts, HasVerdict, IsCounted, IsPrepared, IsStopped, IsVerdictOf, IsWrittenByJudge, buses_of, is_lawful, with_buses}

-- what holds of the text of a reader holds of what is known of it
pub as_known : (known text : Option (List ℕ)) (P : List ℕ → Type 0) → IsText known text → IfSome text P → IfSome known P
as_known None text P is holds = tt
as_known (Some bytes) text P is holds = subst (λ t. IfSome t P) is holds

-- a judge of a system, and the buses of its links
pub record IsJudgeOf (asked : Asked) (given : GivenParts) (system : Description) (judge : Judge) (buses : LinkBuses)
    : Type 0 where
  pub judges : ByThePlan asked.terms system given.images (λ plan. Judges plan [] judge)
  pub trace : is_traced judge ≡ asked.trace
  pub complete : is_asked judge ≡ asked.complete
  pub coverage : is_covered judge ≡ asked.coverage
  pub have : buses ≡ buses_of asked.terms.links system

-- the buses and the numbers of the links are those of the system
pub buses_are : (links : Links) (masters ports : List Bus) (resets : Bool) (numbers : List (Option PortNumbers))
    (system : Description) → masters ≡ master_buses system.masters → ports ≡ port_buses system.ports → resets ≡ system.resets
    → numbers ≡ numbers_of links system
    → ◌≡◌ {A = LinkBuses}
    (record { masters = masters; ports = ports; resets = resets; numbers = numbers }) (buses_of links system)
buses_are links masters ports resets numbers system of_masters of_ports of_resets of_numbers =
    ap (λ (m : List Bus). with_buses m ports resets numbers) of_masters
    ∙ ap (λ (p : List Bus). with_buses (master_buses system.masters) p resets numbers) of_ports
    ∙ ap (λ (r : Bool). with_buses (master_buses system.masters) (port_buses system.ports) r numbers) of_resets
    ∙ ap (λ (n : List (Option PortNumbers)). with_buses (master_buses system.masters) (port_buses system.ports) system.resets n)
    of_numbers

-- what a judge is that was prepared, with the buses of the system
pub of_prepared : (asked : Asked) (given : GivenParts) (prepared : Prepared) (buses : LinkBuses)
    (is : IsPrepared asked given.parts given.images prepared) → buses ≡ buses_of asked.terms.links is.system
    → IsJudgeOf asked given is.system prepared.judge buses
of_prepared asked given prepared buses is have = record {
  judges = is.judges;
  trace = is.trace;
  complete = is.complete;
  coverage = is.coverage;
  have = have;
}

pub by_the_plan : (asked : Asked) (given : GivenParts) (system : Description) (judge : Judge) (buses : LinkBuses)
    (Holds : LinkBuses → SystemPlan → Type 0) → IsJudgeOf asked given system judge buses
    → ((plan : SystemPlan) → Judges plan [] judge → Holds buses plan)
    → ByThePlan asked.terms system given.images (Holds (buses_of asked.terms.links system))
by_the_plan asked given system judge buses Holds of_it holds = record {
  some = of_it.judges.some;
  each = λ plan is. subst (λ b. Holds b plan) of_it.have (holds plan (of_it.judges.each plan is));
}

by_the_traced_plan : (asked : Asked) (given : GivenParts) (system : Description) (judge : Judge) (buses : LinkBuses)
    (old new : Option (List ℕ)) (answer : Result Verdict CaptureFault)
    → IsJudgeOf asked given system judge buses
    → ((plan : SystemPlan) → Judges plan [] judge → IfSome given.capture
    (λ text. IsWritten (is_asked judge) (is_traced judge) plan buses (text_start text) old new answer))
    → IsWrittenByJudge asked given system old new answer
by_the_traced_plan asked given system judge buses old new answer of_it tells =
    let W : Bool → Bool → Type 0 = λ a t. ByThePlan asked.terms system given.images (λ plan. IfSome given.capture
    (λ text. IsWritten a t plan (buses_of asked.terms.links system) (text_start text) old new answer)) in
    let is : W (is_asked judge) (is_traced judge) =
    by_the_plan asked given system judge buses (λ b plan. IfSome given.capture
    (λ text. IsWritten (is_asked judge) (is_traced judge) plan b (text_start text) old new answer)) of_it tells in
    subst (λ a. W a asked.trace) of_it.complete (subst (λ t. W (is_asked judge) t) of_it.trace is)

pub has_verdict : (asked : Asked) (given : GivenParts) (system : Description) (judge : Judge) (buses : LinkBuses)
    (old told : Option (List ℕ)) (verdict : Verdict)
    → IsJudgeOf asked given system judge buses → Makes given.parts system
    → ((plan : SystemPlan) → Judges plan [] judge → IfSome given.capture
    (λ text. IsVerdict (is_asked judge) plan buses (text_start text) verdict))
    → ((plan : SystemPlan) → Judges plan [] judge → IfSome given.capture
    (λ text. IsWritten (is_asked judge) (is_traced judge) plan buses (text_start text) old told (Ok verdict)))
    → HasVerdict asked given old told system verdict
has_verdict asked given system judge buses old told verdict of_it made found tells = record {
  made = made;
  is = subst (λ a. ByThePlan asked.terms system given.images
      (λ plan. IfSome given.capture (λ text. IsVerdict a plan (buses_of asked.terms.links system) (text_start text) verdict))) of_it.complete
      (by_the_plan asked given system judge buses
      (λ b plan. IfSome given.capture (λ text. IsVerdict (is_asked judge) plan b (text_start text) verdict)) of_it found);
  tells = by_the_traced_plan asked given system judge buses old told (Ok verdict) of_it tells;
}

pub is_stopped : (asked : Asked) (given : GivenParts) (system : Description) (judge : Judge) (buses : LinkBuses)
    (old new : Option (List ℕ)) (fault : CaptureFault)
    → IsJudgeOf asked given system judge buses → Makes given.parts system
    → ((plan : SystemPlan) → Judges plan [] judge → IfSome given.capture (λ text. IsFault plan buses (text_start text) fault))
    → ((plan : SystemPlan) → Judges plan [] judge → IfSome given.capture
    (λ text. IsWritten (is_asked judge) (is_traced judge) plan buses (text_start text) old new (Err fault)))
    → IsStopped asked given old new fault
is_stopped asked given system judge buses old new fault of_it made found tells = record {
  system = system;
  made = made;
  is = by_the_plan asked given system judge buses
      (λ b plan. IfSome given.capture (λ text. IsFault plan b (text_start text) fault)) of_it found;
  tells = by_the_traced_plan asked given system judge buses old new (Err fault) of_it tells;
}

-- ---- what is covered

-- what follows of the rows of a verdict that are lawful
pub of_judged : (plan : SystemPlan) (v : Verdict) (rows : List SeenRow)
    (P Q : (crossed : List SeenRow) → Stretches plan crossed → Type 0)
    → ((crossed : List SeenRow) (course : Stretches plan crossed) → P crossed course → Q crossed course)
    → OfJudged plan v rows P → OfJudged plan v rows Q
of_judged plan (verdicts.Lawful counts) rows P Q to is =
    record { lawful = is.lawful; holds = to is.lawful.crossed is.lawful.course is.holds }
of_judged plan (verdicts.Incomplete left) rows P Q to is =
    record { lawful = is.lawful; holds = to is.lawful.crossed is.lawful.course is.holds }
of_judged plan (verdicts.Unlawful found) rows P Q to is =
    record { first = is.first; holds = to is.first.before is.first.course is.holds }

of_capture : (plan : SystemPlan) (buses : LinkBuses) (from : TextPlace) (v : Verdict)
    (P Q : (crossed : List SeenRow) → Stretches plan crossed → Type 0)
    → ((crossed : List SeenRow) (course : Stretches plan crossed) → P crossed course → Q crossed course)
    → OfCapture plan buses from v P → OfCapture plan buses from v Q
of_capture plan buses from v P Q to is = record {
  rows = is.rows;
  at = is.at;
  begins = is.begins;
  judged = is.judged;
  holds = of_judged plan v is.rows P Q to is.holds;
}

of_known : (known : Option (List ℕ)) (P Q : List ℕ → Type 0) → ((text : List ℕ) → P text → Q text) → IfSome known P
    → IfSome known Q
of_known None P Q to is = tt
of_known (Some text) P Q to is = to text is

pub is_counted : (asked : Asked) (given : GivenParts) (system : Description) (judge : Judge) (buses : LinkBuses)
    (tally : Tally) (covered : Bool) (old new : List ℕ) (verdict : Verdict)
    → IsJudgeOf asked given system judge buses → Makes given.parts system → IsVerdictOf asked given system verdict
    → covered ≡ is_covered judge
    → ((plan : SystemPlan) → Judges plan [] judge → IfSome given.capture
    (λ text. IsCovered plan buses (text_start text) tally verdict))
    → ((plan : SystemPlan) (crossed : List SeenRow) (course : Stretches plan crossed) → HasCovered plan crossed course tally
    → AppendsCoverage covered plan crossed course old new)
    → IsCounted asked given old new (is_lawful asked.complete verdict)
is_counted asked given system judge buses tally covered old new verdict of_it made is same covers appends = record {
  system = system;
  verdict = verdict;
  made = made;
  is = is;
  answered = refl;
  covered = by_the_plan asked given system judge buses (λ b plan. IfSome given.capture
      (λ text. TellsCovered asked.coverage plan b (text_start text) old new verdict)) of_it (λ plan start.
      of_known given.capture (λ text. IsCovered plan buses (text_start text) tally verdict)
      (λ text. TellsCovered asked.coverage plan buses (text_start text) old new verdict) (λ text is_covered_there.
      of_capture plan buses (text_start text) verdict (λ crossed course. HasCovered plan crossed course tally)
      (λ crossed course. AppendsCoverage asked.coverage plan crossed course old new)
      (λ crossed course has. subst (λ a. AppendsCoverage a plan crossed course old new) (same ∙ of_it.coverage)
      (appends plan crossed course has)) is_covered_there) (covers plan start));
}

pub counted_if : (asked : Asked) (given : GivenParts) (old new : List ℕ) (lawful : Bool) (result : Result Bool CheckFault)
    → IfOk result (λ answered. answered ≡ lawful) → IsCounted asked given old new lawful
    → IfOk result (IsCounted asked given old new)
counted_if asked given old new lawful (Ok answered) is counted = subst (IsCounted asked given old new) (sym is) counted
counted_if asked given old new lawful (Err e) is counted = tt
