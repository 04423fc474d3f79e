-- What is found of a dump by each plan that a judge judges by is what is found by the plan of its system.
use Rattle.std.proofs.Common.{◌≡◌, ◌≢◌, ◌∙◌, inl, inr, ℕ, Bool, List, [], Option, None, Some, Result, Ok, Err, IfErr, IfOk, IfSome, ap, refl, subst, sym}
use Rattle.std.specs.Result.{IsErrAnd}
use Rattle.std.specs.Io.KnownBytes.{Appends}
use Rattle.std.proofs.KnownBytes.{Keeps-refl}
use Rattle.check_beats.specs.declared.bus.Bus.{Bus}
use Rattle.check_description.specs.Description.{Description, Makes}
use Rattle.check_text.specs.Review.{Stretches, AppendsCoverage, HasCovered, Judges, is_asked, is_covered, is_traced, Judge, Tally}
use Rattle.check_rows.specs.Row.{SeenRow}
use Rattle.check_samples.specs.Left.{RowsLeft}
use Rattle.check_start.specs.Loads.{SystemPlan}
use Rattle.check_signals.specs.Names.{SignalNames, names_of_file}
use Rattle.check_signals.specs.declared.fault.KeyFault.{KeyFault}
use Rattle.check_signals.specs.declared.fault.KeyFault.TheVariants as key
use Rattle.check_description.specs.Buses.{master_buses, port_buses}
use Rattle.check_start.specs.Start.{system_names}
use Rattle.check_text.specs.Buses.{LinkBuses}
use Rattle.check_text.specs.declared.fault.Verdict.{Verdict}
use Rattle.check_waves.specs.Capture.{IsOpened, IsUnopened}
use Rattle.check_waves.specs.Links.{WaveLinks}
use Rattle.check_waves.specs.declared.fault.WaveFault.{WaveFault}
use Rattle.check_waves.specs.declared.fault.WaveFault.TheVariants as wave
use Rattle.check_watch.specs.declared.links.Links.{Links}
use Rattle.check_dump.specs.Replay.{IsReplayCovered, IsReplayed, OfReplayed}
use Rattle.check_dump.specs.declared.fault.ReplayFault.{ReplayFault}
use Rattle.check_dump.specs.declared.fault.ReplayFault.TheVariants as replay
use Rattle.check_program.specs.Dump.{HasLinks, IsAnswered, IsDumpChecked, IsDumpCounted, IsDumpFaulty, IsDumpStopped, IsNamesFault, OfTheRows, link_unnamed}
use Rattle.check_program.specs.Engine.{GivenParts, IsLineFault, buses_of, is_lawful, line_of}
use Rattle.check_program.specs.Fault.{of_keys, of_replay, of_wave}
use Rattle.check_program.specs.declared.asked.Asked.{Asked}
use Rattle.check_program.specs.declared.fault.CheckFault.{CheckFault}
use Rattle.check_program.specs.declared.fault.CheckFault.TheVariants as check
use Rattle.check_program.proofs.Judged.{IsJudgeOf, by_the_plan, of_judged}

-- ---- the rows of the dump

module _ (asked : Asked) (given : GivenParts) (system : Description) (judge : Judge) (buses : LinkBuses)
    (of_it : IsJudgeOf asked given system judge buses) (links : WaveLinks) (rows : Option RowsLeft)
    (has : HasLinks asked given.file system links) (opened : IfSome given.capture (IsOpened links rows)) where
  -- something that holds of the rows by each plan of the judge
  of_rows : (Holds : LinkBuses → SystemPlan → RowsLeft → Type 0)
      → ((plan : SystemPlan) → Judges plan [] judge → IfSome rows (λ left. Holds buses plan left))
      → IfSome given.capture (OfTheRows asked given.file given.images system (λ plan left. Holds (buses_of asked.terms.links system) plan left))
  of_rows Holds holds = go given.capture opened
    where
      of_text : (text : List ℕ) (known : Option RowsLeft) → IsOpened links known text
          → ((plan : SystemPlan) → Judges plan [] judge → IfSome known (λ left. Holds buses plan left))
          → OfTheRows asked given.file given.images system (λ plan left. Holds (buses_of asked.terms.links system) plan left) text
      of_text text None is holds = absurd is
      of_text text (Some left) is holds = record {
        links = links;
        has = has;
        left = left;
        rows = is;
        holds = by_the_plan asked given system judge buses (λ b plan. Holds b plan left) of_it holds;
      }

      go : (capture : Option (List ℕ)) → IfSome capture (IsOpened links rows)
          → IfSome capture (OfTheRows asked given.file given.images system (λ plan left. Holds (buses_of asked.terms.links system) plan left))
      go None is = tt
      go (Some text) is = of_text text rows is holds

  pub is_answered : (old new : Option (List ℕ)) (answer : Result Verdict ReplayFault)
      → ((plan : SystemPlan) → Judges plan [] judge
      → IfSome rows (λ left. IsReplayed (is_asked judge) (is_traced judge) plan buses left old new answer))
      → IsAnswered asked given system old new answer
  is_answered old new answer replayed =
      let W : Bool → Bool → Type 0 = λ a t. IfSome given.capture (OfTheRows asked given.file given.images system
      (λ plan left. IsReplayed a t plan (buses_of asked.terms.links system) left old new answer)) in
      let is : W (is_asked judge) (is_traced judge) =
      of_rows (λ b plan left. IsReplayed (is_asked judge) (is_traced judge) plan b left old new answer) replayed in
      subst (λ a. W a asked.trace) of_it.complete (subst (λ t. W (is_asked judge) t) of_it.trace is)

  pub dump_counted : (tally : Tally) (covered : Bool) (old new : List ℕ) (verdict : Verdict) → Makes given.parts system
      → covered ≡ is_covered judge
      → ((plan : SystemPlan) → Judges plan [] judge → IfSome rows (λ left. IsReplayCovered plan buses left tally verdict))
      → ((plan : SystemPlan) (crossed : List SeenRow) (course : Stretches plan crossed) → HasCovered plan crossed course tally
      → AppendsCoverage covered plan crossed course old new)
      → IsDumpCounted asked given old new (is_lawful asked.complete verdict)
  dump_counted tally covered old new verdict made same covers appends = record {
    system = system;
    made = made;
    verdict = verdict;
    answered = refl;
    covered = of_rows (λ b plan left. OfReplayed plan b left verdict
        (λ crossed course. AppendsCoverage asked.coverage plan crossed course old new)) (λ plan start. go plan rows (covers plan start));
  }
    where
      go : (plan : SystemPlan) (known : Option RowsLeft) → IfSome known (λ left. IsReplayCovered plan buses left tally verdict)
          → IfSome known (λ left. OfReplayed plan buses left verdict
          (λ crossed course. AppendsCoverage asked.coverage plan crossed course old new))
      go plan None is = tt
      go plan (Some left) is = record {
        rows = is.rows;
        front = is.front;
        rest = is.rest;
        is = is.is;
        spell = is.spell;
        holds = of_judged plan verdict is.rows (λ crossed course. HasCovered plan crossed course tally)
            (λ crossed course. AppendsCoverage asked.coverage plan crossed course old new)
            (λ crossed course has. subst (λ a. AppendsCoverage a plan crossed course old new) (same ∙ of_it.coverage)
            (appends plan crossed course has)) is.holds;
      }

-- ---- what is promised of a result

pub dump_err : (asked : Asked) (given : GivenParts) (old new : Option (List ℕ)) (result : Result Bool CheckFault)
    (fault : CheckFault) → IsErrAnd result (λ e. e ≡ fault) → IsDumpFaulty asked given old new fault
    → IsDumpChecked asked given old new result
dump_err asked given old new (Ok lawful) fault is faulty = absurd is
dump_err asked given old new (Err e) fault is faulty =
    record { ok = tt; fault = subst (IsDumpFaulty asked given old new) (sym is) faulty }

module _ (asked : Asked) (given : GivenParts) (old new : Option (List ℕ)) where
  pub of_stopped_dump : (fault : ReplayFault) → IsDumpStopped asked given old new fault
      → IsDumpFaulty asked given old new (of_replay fault)
  of_stopped_dump (replay.Edges why) stopped = inr (record { fault = replay.Edges why; is_told = refl; stopped = stopped })
  of_stopped_dump (replay.Unknown unknown) stopped =
      inr (record { fault = replay.Unknown unknown; is_told = refl; stopped = stopped })
  of_stopped_dump (replay.Dump line mistake) stopped =
      inr (record { fault = replay.Dump line mistake; is_told = refl; stopped = stopped })
  of_stopped_dump (replay.Row line why) stopped = record { fault = replay.Row line why; is_told = refl; stopped = stopped }
  of_stopped_dump replay.Read stopped = inr (record { fault = replay.Read; is_told = refl; stopped = stopped })
  of_stopped_dump replay.Memory stopped = inr (inl (record { fault = replay.Memory; is_told = refl; stopped = stopped }))
  of_stopped_dump replay.Write stopped = inl (record { fault = replay.Write; is_told = refl; stopped = stopped })

module _ (asked : Asked) (given : GivenParts) (bytes : Option (List ℕ)) where
  -- the dump was not opened
  pub of_unopened : (system : Description) (links : WaveLinks) (fault : WaveFault) → Makes given.parts system
      → HasLinks asked given.file system links → IfSome given.capture (IsUnopened links fault)
      → IsDumpFaulty asked given bytes bytes (of_wave fault)
  of_unopened system links wave.Read made has why = inl (Keeps-refl bytes)
  of_unopened system links wave.Memory made has why = inl (Keeps-refl bytes)
  of_unopened system links fault made has why =
      inl (record { system = system; made = made; links = links; has = has; why = why; written = Keeps-refl bytes })

  -- there are no names
  pub of_names : (links : Links) (fault : CheckFault) → asked.terms.links ≡ links → IsNamesFault given.file links fault
      → IsDumpFaulty asked given bytes bytes fault
  of_names links fault same (inl memory) = subst (IsDumpFaulty asked given bytes bytes) (sym memory) (inl (Keeps-refl bytes))
  of_names links fault same (inr (inl key)) =
      subst (IsDumpFaulty asked given bytes bytes) (sym key.2) (key.1, Keeps-refl bytes)
  of_names links fault same (inr (inr link)) =
      subst (IsDumpFaulty asked given bytes bytes) (sym link.4) (record {
        names = link.0;
        named = link.2;
        missing = subst (λ l. link_unnamed l link.0 ≡ Some link.1) (sym same) link.3;
        written = Keeps-refl bytes;
      })

-- why no names were read
pub names_fault : (file : List ℕ) (links : Links) (why : KeyFault) → (why ≢ key.Memory → names_of_file file ≡ Err why)
    → IsNamesFault file links (of_keys why)
names_fault file links key.Memory is = inl refl
names_fault file links why is = inr (inl (why, is (λ same. cc same), refl))

module _ (asked : Asked) (given : GivenParts) (old told new : Option (List ℕ)) (system : Description) (verdict : Verdict)
    (made : Makes given.parts system) (is : IsAnswered asked given system old told (Ok verdict)) where
  -- a verdict whose line was not written
  untold : (fault : CheckFault) → IsLineFault told new (line_of asked.complete (system_names system) verdict) fault
      → IsDumpFaulty asked given old new fault
  untold (check.System fault) why = absurd why
  untold (check.Capture fault) why = absurd why
  untold (check.Keys fault) why = absurd why
  untold (check.Unnamed link) why = absurd why
  untold (check.Dump fault) why = absurd why
  untold check.Read why = absurd why
  untold check.Write why =
      inr (record { system = system; made = made; verdict = verdict; told = told; is = is; line = why })
  untold check.Memory why =
      inr (inr (record { system = system; made = made; verdict = verdict; told = told; is = is; line = why }))

  -- a verdict, and what became of its line
  pub told_dump : (line : List ℕ) (result : Result Bool CheckFault)
      → line ≡ line_of asked.complete (system_names system) verdict
      → IfOk result (λ lawful. lawful ≡ is_lawful asked.complete verdict) → IfOk result (λ lawful. Appends told new line)
      → IfErr result (IsLineFault told new line) → IsDumpChecked asked given old new result
  told_dump line (Ok lawful) same answered written fault = record {
    ok = record {
      system = system;
      made = made;
      verdict = verdict;
      told = told;
      is = is;
      answered = answered;
      written = subst (λ (l : List ℕ). Appends told new l) same written;
    };
    fault = tt;
  }
  told_dump line (Err e) same answered written fault =
      record { ok = tt; fault = untold e (subst (λ (l : List ℕ). IsLineFault told new l e) same fault) }

pub dump_counted_if : (asked : Asked) (given : GivenParts) (old new : List ℕ) (lawful : Bool)
    (result : Result Bool CheckFault) → IfOk result (λ answered. answered ≡ lawful)
    → IsDumpCounted asked given old new lawful → IfOk result (IsDumpCounted asked given old new)
dump_counted_if asked given old new lawful (Ok answered) is counted =
    subst (IsDumpCounted asked given old new) (sym is) counted
dump_counted_if asked given old new lawful (Err e) is counted = tt

abbrev pub wave_links : List Bus → List Bus → SignalNames → WaveLinks
wave_links masters ports names = record { masters = masters; ports = ports; names = names }

-- the links of what was prepared are the system's, by names that all links that are watched have
pub has_links : (asked : Asked) (file : List ℕ) (watched : Links) (names : SignalNames) (masters ports : List Bus)
    (system : Description) (links : WaveLinks) → asked.terms.links ≡ watched → names_of_file file ≡ Ok names
    → link_unnamed watched names ≡ None
    → links ≡ wave_links masters ports names → masters ≡ master_buses system.masters → ports ≡ port_buses system.ports
    → HasLinks asked file system links
has_links asked file watched names masters ports system links same named all are of_masters of_ports = record {
  names = names;
  named = named;
  all = subst (λ l. link_unnamed l names ≡ None) (sym same) all;
  are = are ∙ ap (λ (m : List Bus). wave_links m ports names) of_masters
      ∙ ap (λ (p : List Bus). wave_links (master_buses system.masters) p names) of_ports;
}
