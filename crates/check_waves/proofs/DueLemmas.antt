-- Rows that are due are appended to a text.
use Rattle.std.proofs.Common.{◌∙◌, List, [], ◌++◌, ℕ, Option, None, Some, Result, Ok, Err, append_assoc, append-nil, ap}
use Rattle.std.specs.Option.{IfSome}
use Rattle.std.specs.Result.{IfErr, IfOk}
use Rattle.check_vcd.specs.Words.{Both}
use Rattle.check_samples.specs.Left.{RowsGoOn, RowsLeft, Stops}
use Rattle.check_samples.specs.declared.rows.Progress.{Progress}
use Rattle.check_samples.specs.declared.rows.Progress.TheVariants.{More, Over}
use Rattle.check_samples.specs.declared.rows.RowsFault.{RowsFault}
use Rattle.check_samples.specs.declared.rows.RowsFault.TheVariants as fault

goes-on : (text due : List ℕ) (progress : Progress) (from to : RowsLeft) → RowsGoOn progress [] due from to
    → RowsGoOn progress text (text ++ due) from to
goes-on text due More from to is =
    (append_assoc text due to.text ∙ ap (λ (more : List ℕ). text ++ more) is.0, is.1)
goes-on text due Over from to is = (ap (λ (more : List ℕ). text ++ more) is.0, is.1)

pub appended-on : (text due : List ℕ) (from to : Option RowsLeft) (answer : Result Progress RowsFault)
    → IfOk answer (λ progress. Both from to (RowsGoOn progress [] due))
    → IfOk answer (λ progress. Both from to (RowsGoOn progress text (text ++ due)))
appended-on text due from to (Err why) is = tt
appended-on text due None to (Ok progress) is = tt
appended-on text due (Some from) None (Ok progress) is = absurd is
appended-on text due (Some from) (Some to) (Ok progress) is = goes-on text due progress from to is

stops : (text due : List ℕ) (why : RowsFault) (from : RowsLeft) → Stops why [] due from → Stops why text (text ++ due) from
stops text due (fault.Unknown unknown) from is = (ap (λ (more : List ℕ). text ++ more) is.0, is.1)
stops text due (fault.Dump line mistake) from is = (ap (λ (more : List ℕ). text ++ more) is.0, is.1)
stops text due (fault.Edges why) from is = (ap (λ (more : List ℕ). text ++ more) is.0, is.1)
stops text due fault.Read from is = ap (λ (more : List ℕ). text ++ more) is ∙ append-nil text
stops text due fault.Memory from is = tt

pub appended-stop : (text due : List ℕ) (from : Option RowsLeft) (answer : Result Progress RowsFault)
    → IfErr answer (λ why. IfSome from (Stops why [] due)) → IfErr answer (λ why. IfSome from (Stops why text (text ++ due)))
appended-stop text due from (Ok progress) is = tt
appended-stop text due None (Err why) is = tt
appended-stop text due (Some from) (Err why) is = stops text due why from is
