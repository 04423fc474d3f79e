-- The requests that a list of operations sends, one operation after the other, and the entries that they get.
use Rattle.std.proofs.Common.{◌≡◌, ◌∙◌, ℕ, suc, zero, ◌+◌, ◌<◌, List, [], ◌∷◌, ◌++◌, length, take, map, Option, Some, None, IsSomeAnd, slice_get, get_or, ap, append_assoc, sym, arith}
use Rattle.std.specs.Prelude.{All}
use Rattle.std.proofs.lemmas.List.{append-nil, take_more, map-append}
use Rattle.std.proofs.lemmas.List.Concat.{flat_map-append}
use Rattle.std.proofs.lemmas.List.Elements.{filter_map-append, All-head, All-tail}
use Rattle.std.proofs.lemmas.Option.{slice_get-get_or, slice_get_within, get_or_from_slice_get}
use Rattle.std.proofs.lemmas.List.{length-map}
use Rattle.tl_types.specs.Request.{Request}
use Rattle.tl_types.specs.declared.trace.Entry.{Entry}
use Rattle.tl_map.specs.declared.owners.Owner.{Owner}
use Rattle.tl_map.specs.Blocks.{counts_in}
use Rattle.tl_script.specs.System.{IsLawfulSystem, System, sent_by, sends}
use Rattle.tl_script.specs.declared.operation.Job.{Job}
use Rattle.tl_script.specs.declared.operation.Job.TheVariants.{Wait, Send}
use Rattle.tl_script.specs.Trace.{lines_of, trace_line, traces_from, trace_text}
use Rattle.tl_serial.specs.Serial.{asks_in, numbered, log_from, log_of}

pub take_next : {A : Type 0} (xs : List A) (i : ℕ) (x : A) → slice_get xs i ≡ Some x
    → take (i + 1) xs ≡ take i xs ++ x ∷ []
take_next {A} xs i x at =
    take_more xs i x (slice_get_within xs i x at)
    ∙ ap (λ (y : A). take i xs ++ y ∷ []) (get_or_from_slice_get xs i x x at)

pub sends-send : (jobs : List Job) (i : ℕ) (ask : Request) → slice_get jobs i ≡ Some (Send ask)
    → sends (take (i + 1) jobs) ≡ sends (take i jobs) ++ ask ∷ []
sends-send jobs i ask at =
    ap sends (take_next jobs i (Send ask) at) ∙ filter_map-append sent_by (take i jobs) (Send ask ∷ [])

pub sends-wait : (jobs : List Job) (i : ℕ) → slice_get jobs i ≡ Some Wait
    → sends (take (i + 1) jobs) ≡ sends (take i jobs)
sends-wait jobs i at =
    ap sends (take_next jobs i Wait at) ∙ filter_map-append sent_by (take i jobs) (Wait ∷ [])
    ∙ append-nil (sends (take i jobs))

-- what holds of all that is sent holds of what one operation sends
pub sent_has : (P : Request → Type 0) (jobs : List Job) (i : ℕ) (ask : Request) → slice_get jobs i ≡ Some (Send ask)
    → All P (sends jobs) → P ask
sent_has P [] i ask at all = absurd (cc)
sent_has P (Wait ∷ jobs) zero ask at all = absurd (cc)
sent_has P (Wait ∷ jobs) (suc i) ask at all = sent_has P jobs i ask at all
sent_has P (Send first ∷ jobs) zero ask at all =
    let same : Some (Send first) ≡ Some (Send ask) = at in
    let is : first ≡ ask = cc in
    rw (← is) (All-head P first (sends jobs) all)
sent_has P (Send first ∷ jobs) (suc i) ask at all = sent_has P jobs i ask at (All-tail P first (sends jobs) all)

-- an entry more of a master's
pub asks_in-push : (entries : List Entry) (e : Entry) → asks_in (entries ++ e ∷ []) ≡ asks_in entries ++ e.ask ∷ []
asks_in-push entries e = map-append (λ (x : Entry). x.ask) entries (e ∷ [])

pub numbered-push : (log : List (ℕ × Entry)) (master : ℕ) (entries : List Entry) (e : Entry)
    → log ++ numbered master (entries ++ e ∷ []) ≡ (log ++ numbered master entries) ++ (master, e) ∷ []
numbered-push log master entries e =
    ap (λ (es : List (ℕ × Entry)). log ++ es) (map-append (λ (x : Entry). (master, x)) entries (e ∷ []))
    ∙ sym (append_assoc log (numbered master entries) ((master, e) ∷ []))

-- what one operation sends is from a source that the master has
pub some_sent : (count : Option ℕ) (jobs : List Job) (i : ℕ) (ask : Request) → slice_get jobs i ≡ Some (Send ask)
    → IsSomeAnd count (λ n. All (λ (a : Request). a.source < n) (sends jobs)) → IsSomeAnd count (λ n. ask.source < n)
some_sent None jobs i ask at all = all
some_sent (Some n) jobs i ask at all = sent_has (λ (a : Request). a.source < n) jobs i ask at all

-- a master's operations are from sources that it has
pub sources_are : (s : System) (m : ℕ) (jobs : List Job) → IsLawfulSystem s → m < length s.jobs
    → slice_get s.jobs m ≡ Some jobs
    → IsSomeAnd (slice_get (counts_in s.owners) m) (λ count. All (λ (ask : Request). ask.source < count) (sends jobs))
sources_are s m jobs lawful within at =
    let counted = length-map s.owners (λ (owner : Owner). owner.count) in
    let count : slice_get (counts_in s.owners) m ≡ Some (get_or (counts_in s.owners) m 0) =
    slice_get-get_or (counts_in s.owners) m 0 (omega (arith, within, lawful.lists, counted)) in
    rw count (lawful.jobs m (get_or (counts_in s.owners) m 0) jobs count at).sources

-- a master's trace more
log_from-push : (master : ℕ) (traces : List (List Entry)) (entries : List Entry)
    → log_from master (traces ++ entries ∷ []) ≡ log_from master traces ++ numbered (master + length traces) entries
log_from-push master [] entries =
    append-nil (numbered master entries) ∙ ap (λ (m : ℕ). numbered m entries) (omega arith)
log_from-push master (first ∷ traces) entries =
    ap (λ (log : List (ℕ × Entry)). numbered master first ++ log) (log_from-push (master + 1) traces entries)
    ∙ sym (append_assoc (numbered master first) (log_from (master + 1) traces)
    (numbered ((master + 1) + length traces) entries))
    ∙ ap (λ (m : ℕ). (numbered master first ++ log_from (master + 1) traces) ++ numbered m entries) (omega arith)

pub log_of-push : (traces : List (List Entry)) (entries : List Entry)
    → log_of (traces ++ entries ∷ []) ≡ log_of traces ++ numbered (length traces) entries
log_of-push traces entries =
    log_from-push 0 traces entries ∙ ap (λ (m : ℕ). log_of traces ++ numbered m entries) (omega arith)

-- a master's requests more
pub asked_more : (traces : List (List Entry)) (entries : List Entry) (lists : List (List Job)) (m : ℕ) (jobs : List Job)
    → slice_get lists m ≡ Some jobs
    → map asks_in traces ≡ map sends (take m lists) → asks_in entries ≡ sends jobs
    → map asks_in (traces ++ entries ∷ []) ≡ map sends (take (m + 1) lists)
asked_more traces entries lists m jobs at before last =
    map-append asks_in traces (entries ∷ []) ∙ ap (λ (asks : List (List Request)). asks ++ asks_in entries ∷ []) before
    ∙ ap (λ (asks : List Request). map sends (take m lists) ++ asks ∷ []) last
    ∙ sym (ap (map sends) (take_next lists m jobs at) ∙ map-append sends (take m lists) (jobs ∷ []))

-- a line more of a master's
pub lines_of-push : (master : ℕ) (entries : List Entry) (e : Entry) (before : List ℕ)
    → before ++ lines_of master (entries ++ e ∷ []) ≡ (before ++ lines_of master entries) ++ trace_line master e
lines_of-push master entries e before =
    ap (λ (text : List ℕ). before ++ text) (flat_map-append (trace_line master) entries (e ∷ [])
    ∙ ap (λ (text : List ℕ). lines_of master entries ++ text) (append-nil (trace_line master e)))
    ∙ sym (append_assoc before (lines_of master entries) (trace_line master e))

-- a master's lines more
traces_from-push : (master : ℕ) (traces : List (List Entry)) (entries : List Entry)
    → traces_from master (traces ++ entries ∷ []) ≡ traces_from master traces
    ++ lines_of (master + length traces) entries
traces_from-push master [] entries =
    append-nil (lines_of master entries) ∙ ap (λ (m : ℕ). lines_of m entries) (omega arith)
traces_from-push master (first ∷ traces) entries =
    ap (λ (text : List ℕ). lines_of master first ++ text) (traces_from-push (master + 1) traces entries)
    ∙ sym (append_assoc (lines_of master first) (traces_from (master + 1) traces)
    (lines_of ((master + 1) + length traces) entries))
    ∙ ap (λ (m : ℕ). (lines_of master first ++ traces_from (master + 1) traces) ++ lines_of m entries) (omega arith)

pub trace_text-push : (traces : List (List Entry)) (entries : List Entry)
    → trace_text (traces ++ entries ∷ []) ≡ trace_text traces ++ lines_of (length traces) entries
trace_text-push traces entries =
    traces_from-push 0 traces entries ∙ ap (λ (m : ℕ). trace_text traces ++ lines_of m entries) (omega arith)
