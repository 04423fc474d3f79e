-- What is left of a dump's rows after one thing that happens.
use Rattle.std.proofs.Common.{◌≡◌, ◌∙◌, ℕ, List, [], ◌∷◌, ◌++◌, true, false, Option, Some, None, Result, Ok, Err, ap, append-nil, refl, sym, subst}
use Rattle.std.specs.Option.{IfSome, option_map}
use Rattle.check_vcd.specs.Body.{Happens, Resumes, Wrong, happens_of}
use Rattle.check_vcd.specs.Words.{Both}
use Rattle.check_vcd.specs.declared.body.Event.{Event}
use Rattle.check_vcd.specs.declared.body.Event.TheVariants as event
use Rattle.check_vcd.specs.declared.fault.DumpFault.{DumpFault}
use Rattle.check_vcd.specs.declared.fault.DumpFault.TheVariants as dump
use Rattle.check_vcd.specs.declared.fault.Mistake.{Mistake}
use Rattle.check_vcd.specs.declared.fault.Mistake.TheVariants.{Gap}
use Rattle.check_samples.specs.EdgeFault.{EdgeFault, edge_fault, edge_fault_view, some_crossed}
use Rattle.check_samples.specs.Faults.{of_dump, of_sample}
use Rattle.check_samples.specs.Left.{IsOver, RowsGoOn, RowsLeft, Stops, end_by, end_in, end_of_edges, left_of}
use Rattle.check_samples.specs.Rows.{Writes}
use Rattle.check_samples.specs.Sampling.{IsJoined, Joins, LeadsToRows, Sampling, behind, rows_from, rows_now, watched_now, with_value}
use Rattle.std.specs.Result.{IfErr, IfOk, IsErrAnd}
use Rattle.check_samples.specs.declared.rows.Progress.{Progress}
use Rattle.check_samples.specs.declared.rows.Progress.TheVariants.{More, Over}
use Rattle.check_samples.specs.declared.rows.RowsFault.{RowsFault}
use Rattle.check_samples.specs.declared.rows.RowsFault.TheVariants as rows
use Rattle.check_samples.specs.declared.sampler.SampleFault.{SampleFault}
use Rattle.check_samples.specs.declared.sampler.SampleFault.TheVariants as sample

-- ---- the rows that are left to come

pub both-same : (left : Option RowsLeft) → Both left left (λ from to. to ≡ from)
both-same None = tt
both-same (Some left) = refl

pub both-then : (a b c : Option RowsLeft) (P : RowsLeft → RowsLeft → Type 0) → Both a b (λ from to. to ≡ from) → Both b c P
    → Both a c P
both-then None b c P one two = tt
both-then (Some a) None c P one two = absurd one
both-then (Some a) (Some b) None P one two = absurd two
both-then (Some a) (Some b) (Some c) P one two = subst (λ (x : RowsLeft). P x c) one two

pub if-then : (a b : Option RowsLeft) (P : RowsLeft → Type 0) → Both a b (λ from to. to ≡ from) → IfSome b P → IfSome a P
if-then None b P one two = tt
if-then (Some a) None P one two = absurd one
if-then (Some a) (Some b) P one two = subst P one two

pub ok-then : (a b c : Option RowsLeft) (answer : Result Progress RowsFault) (t t' : List ℕ)
    → Both a b (λ from to. to ≡ from) → IfOk answer (λ progress. Both b c (RowsGoOn progress t t'))
    → IfOk answer (λ progress. Both a c (RowsGoOn progress t t'))
ok-then a b c (Ok progress) t t' one two = both-then a b c (RowsGoOn progress t t') one two
ok-then a b c (Err why) t t' one two = tt

pub err-then : (a b : Option RowsLeft) (answer : Result Progress RowsFault) (t t' : List ℕ)
    → Both a b (λ from to. to ≡ from) → IfErr answer (λ why. IfSome b (Stops why t t'))
    → IfErr answer (λ why. IfSome a (Stops why t t'))
err-then a b (Ok progress) t t' one two = tt
err-then a b (Err why) t t' one two = if-then a b (Stops why t t') one two

-- and after a change they are the same
pub changes-on : (first : Option RowsLeft) (a b : Option (List Happens)) (old new : Sampling) (slot : ℕ) (digits : List ℕ)
    → Both first (option_map (λ h. left_of h old) a) (λ from to. to ≡ from)
    → Both a b (λ from to. from ≡ happens_of (event.Change slot) digits ∷ to) → new ≡ with_value old slot digits
    → Both first (option_map (λ h. left_of h new) b) (λ from to. to ≡ from)
unfolding rows_from end_in
changes-on None a b old new slot digits same both is = tt
changes-on (Some first) None b old new slot digits same both is = absurd same
changes-on (Some first) (Some x) None old new slot digits same both is = absurd both
changes-on (Some first) (Some x) (Some y) old new slot digits same both is =
    ap (λ (s : Sampling). left_of y s) is ∙ ap (λ h. left_of h old) (sym both) ∙ same

-- ---- one thing more happens

ends-resumed : (s : Sampling) (line : ℕ) (rest : List Happens) → some_crossed s.watched ≡ false
    → end_in (Resumes line ∷ rest) s ≡ end_in rest s
unfolding end_in
ends-resumed s line rest none = rw none refl

ends-on : (old new : Sampling) (next : Event) (digits : List ℕ) (rest : List Happens)
    → new ≡ behind (happens_of next digits) old → IsJoined next old
    → end_in rest new ≡ end_in (happens_of next digits ∷ rest) old
unfolding end_in
ends-on old new (event.Time time) digits rest is joined = ap (λ (s : Sampling). end_in rest s) is
ends-on old new (event.Change slot) digits rest is joined = ap (λ (s : Sampling). end_in rest s) is
ends-on old new (event.Resume line) digits rest is joined =
    ap (λ (s : Sampling). end_in rest s) is ∙ sym (ends-resumed old line rest joined)

left-on : (rest : List Happens) (old new : Sampling) (t t' : List ℕ) (done : Unit {0}) (next : Event)
    (digits : List ℕ) → LeadsToRows (Ok done) t t' (rows_from (happens_of next digits ∷ rest) old) (rows_from rest new)
    → new ≡ behind (happens_of next digits) old → IsJoined next old
    → RowsGoOn More t t' (left_of (happens_of next digits ∷ rest) old) (left_of rest new)
left-on rest old new t t' done next digits leads is joined = (
  leads.0,
  ap (λ f. end_by f (end_in rest new)) leads.1
      ∙ ap (λ e. end_by (rows_from (happens_of next digits ∷ rest) old).fault e)
      (ends-on old new next digits rest is joined),
)

pub goes-on : (a b : Option (List Happens)) (old new : Sampling) (t t' : List ℕ) (done : Unit {0})
    (next : Event) (digits : List ℕ) → Both a b (λ from to. from ≡ happens_of next digits ∷ to)
    → ((rest : List Happens) → LeadsToRows (Ok done) t t' (rows_from (happens_of next digits ∷ rest) old) (rows_from rest new))
    → new ≡ behind (happens_of next digits) old → IsJoined next old
    → Both (option_map (λ h. left_of h old) a) (option_map (λ h. left_of h new) b) (RowsGoOn More t t')
goes-on None b old new t t' done next digits both leads is joined = tt
goes-on (Some x) None old new t t' done next digits both leads is joined = absurd both
goes-on (Some x) (Some y) old new t t' done next digits both leads is joined =
    subst (λ h. RowsGoOn More t t' (left_of h old) (left_of y new)) (sym both)
    (left-on y old new t t' done next digits (leads y) is joined)

-- a beat of the time that is over is none, or there is a gap
gap-on : (s : Sampling) (t t' : List ℕ) (line : ℕ) (digits : List ℕ) (rest : List Happens) → t' ≡ t
    → some_crossed s.watched ≡ true → Stops (rows.Dump line Gap) t t' (left_of (Resumes line ∷ rest) s)
unfolding rows_from end_in
gap-on s t t' line digits rest same crossed = rw (crossed, same) (sym (append-nil t), refl)

stop-on : (s new : Sampling) (t t' : List ℕ) (fault : SampleFault) (next : Event) (digits : List ℕ) (rest : List Happens)
    → LeadsToRows (Err fault) t t' (rows_from (happens_of next digits ∷ rest) s) (rows_from rest new)
    → Joins (Err fault) next s → Stops (of_sample fault) t t' (left_of (happens_of next digits ∷ rest) s)
stop-on s new t t' (sample.Unknown u) next digits rest leads joins =
    (leads.0, ap (λ f. end_by f (end_in (happens_of next digits ∷ rest) s)) leads.1)
stop-on s new t t' (sample.Gap line) next digits rest leads joins =
    subst (λ (e : Event). Stops (rows.Dump line Gap) t t' (left_of (happens_of e digits ∷ rest) s)) (sym joins.0)
    (gap-on s t t' line digits rest leads joins.1)
stop-on s new t t' sample.Memory next digits rest leads joins = tt

pub stops-taking : (a b : Option (List Happens)) (s new : Sampling) (t t' : List ℕ) (fault : SampleFault) (next : Event)
    (digits : List ℕ) → Both a b (λ from to. from ≡ happens_of next digits ∷ to)
    → ((rest : List Happens) → LeadsToRows (Err fault) t t' (rows_from (happens_of next digits ∷ rest) s) (rows_from rest new))
    → Joins (Err fault) next s → IfSome (option_map (λ h. left_of h s) a) (Stops (of_sample fault) t t')
stops-taking None b s new t t' fault next digits both leads joins = tt
stops-taking (Some x) None s new t t' fault next digits both leads joins = absurd both
stops-taking (Some x) (Some y) s new t t' fault next digits both leads joins =
    subst (λ h. Stops (of_sample fault) t t' (left_of h s)) (sym both)
    (stop-on s new t t' fault next digits y (leads y) joins)

-- ---- the end

-- what is said of the edges of a dump of which nothing is left to happen
abbrev pub edges-of : Sampling → Option EdgeFault
edges-of s = edge_fault (watched_now s)

end-is : (s : Sampling) (t t' : List ℕ) (done : Unit {0}) (why : Option EdgeFault) → Writes (Ok done) t t' (rows_now s)
    → edges-of s ≡ why → (left_of [] s).end ≡ end_of_edges why
unfolding rows_from end_in
end-is s t t' done why writes is =
    ap (λ f. end_by f (end_of_edges (edges-of s))) writes.1 ∙ ap (λ (w : Option EdgeFault). end_of_edges w) is

text-is : (s : Sampling) (t t' : List ℕ) (done : Unit {0}) → Writes (Ok done) t t' (rows_now s)
    → t' ≡ t ++ (left_of [] s).text
unfolding rows_from
text-is s t t' done writes = writes.0

-- nothing is left to happen
pub ends : (a b : Option (List Happens)) (s other : Sampling) (t t' : List ℕ) (done : Unit {0})
    (answer : Result Progress RowsFault) → Both a b (λ from to. (from ≡ []) × (to ≡ []))
    → Writes (Ok done) t t' (rows_now s) → IsOver answer (edges-of s)
    → IfOk answer (λ progress. Both (option_map (λ h. left_of h s) a) (option_map (λ h. left_of h other) b)
    (RowsGoOn progress t t'))
ends a b s other t t' done (Err why) both writes over = tt
ends a b s other t t' done (Ok More) both writes over = absurd over
ends None b s other t t' done (Ok Over) both writes over = tt
ends (Some x) None s other t t' done (Ok Over) both writes over = absurd both
ends (Some x) (Some y) s other t t' done (Ok Over) both writes over =
    subst (λ h. RowsGoOn Over t t' (left_of h s) (left_of y other)) (sym both.0)
    (text-is s t t' done writes, end-is s t t' done None writes over)

-- what is said of the edges is so of the sampler before its rows were appended
pub said-of : (answer : Result Progress RowsFault) (fault : Option EdgeFault) (old new : Sampling) → IsOver answer fault
    → new ≡ old → fault ≡ edge_fault (watched_now new) → IsOver answer (edges-of old)
said-of answer fault old new over same is =
    subst (λ (s : Sampling). IsOver answer (edges-of s)) same (subst (λ (f : Option EdgeFault). IsOver answer f) is over)

-- nothing is left to happen, and the edges are none to take beats at
pub stops-over : (a b : Option (List Happens)) (s : Sampling) (t t' : List ℕ) (done : Unit {0})
    (answer : Result Progress RowsFault) → Both a b (λ from to. (from ≡ []) × (to ≡ []))
    → Writes (Ok done) t t' (rows_now s) → IsOver answer (edges-of s)
    → IfErr answer (λ why. IfSome (option_map (λ h. left_of h s) a) (Stops why t t'))
stops-over a b s t t' done (Ok progress) both writes over = tt
stops-over None b s t t' done (Err why) both writes over = tt
stops-over (Some x) None s t t' done (Err why) both writes over = absurd both
stops-over (Some x) (Some y) s t t' done (Err (rows.Edges why)) both writes over =
    subst (λ h. Stops (rows.Edges why) t t' (left_of h s)) (sym both.0)
    (text-is s t t' done writes, end-is s t t' done (Some (edge_fault_view why)) writes over)
stops-over (Some x) (Some y) s t t' done (Err (rows.Unknown u)) both writes over = absurd over
stops-over (Some x) (Some y) s t t' done (Err (rows.Dump l m)) both writes over = absurd over
stops-over (Some x) (Some y) s t t' done (Err rows.Read) both writes over = absurd over
stops-over (Some x) (Some y) s t t' done (Err rows.Memory) both writes over = tt

-- a beat of the last time is none
pub stops-ending : (a b : Option (List Happens)) (s : Sampling) (t t' : List ℕ) (fault : SampleFault)
    → Both a b (λ from to. (from ≡ []) × (to ≡ [])) → Writes (Err fault) t t' (rows_now s)
    → IfSome (option_map (λ h. left_of h s) a) (Stops (of_sample fault) t t')
unfolding rows_from
stops-ending None b s t t' fault both writes = tt
stops-ending (Some x) None s t t' fault both writes = absurd both
stops-ending (Some x) (Some y) s t t' (sample.Unknown u) both writes =
    subst (λ h. Stops (of_sample (sample.Unknown u)) t t' (left_of h s)) (sym both.0)
    (writes.0, ap (λ f. end_by f (end_in [] s)) writes.1)
stops-ending (Some x) (Some y) s t t' (sample.Gap line) both writes = absurd writes
stops-ending (Some x) (Some y) s t t' sample.Memory both writes = tt

-- the next line is wrong, or a read failed
pub stops-reading : (a : Option (List Happens)) (s : Sampling) (t : List ℕ) (fault : DumpFault)
    → ((line : ℕ) (mistake : Mistake) → fault ≡ dump.At line mistake → IfSome a (λ h. h ≡ Wrong line mistake ∷ []))
    → IfSome (option_map (λ h. left_of h s) a) (Stops (of_dump fault) t t)
unfolding rows_from end_in
stops-reading None s t fault wrong = tt
stops-reading (Some x) s t (dump.At line mistake) wrong =
    subst (λ h. Stops (of_dump (dump.At line mistake)) t t (left_of h s)) (sym (wrong line mistake refl))
    (sym (append-nil t), refl)
stops-reading (Some x) s t dump.Read wrong = refl
stops-reading (Some x) s t dump.Memory wrong = tt

-- what is so of a fault is so of a result that is this fault
pub fails-by : {T : Type 0} (result : Result T RowsFault) (fault : RowsFault) (P : RowsFault → Type 0)
    → IsErrAnd result (λ e. e ≡ fault) → P fault → IfErr result P
fails-by (Ok x) fault P is holds = absurd is
fails-by (Err e) fault P is holds = subst P (sym is) holds
