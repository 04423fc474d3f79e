-- Two serial runs of one system are the same.
use Rattle.std.proofs.Common.{◌≡◌, ◌∙◌, ℕ, ◌+◌, List, [], ◌∷◌, ◌++◌, length, map, Option, Some, None, IsSomeAnd, slice_get, refl, ap, sym, append_assoc}
use Rattle.std.proofs.lemmas.List.{map-append, take_at}
use Rattle.tl_types.specs.Request.{Request}
use Rattle.tl_types.specs.Response.{Response}
use Rattle.tl_types.specs.declared.trace.Entry.{Entry}
use Rattle.tl_ops.specs.Store.{Store, reply}
use Rattle.tl_ops.specs.History.{replay}
use Rattle.tl_map.specs.Map.{IsLawfulAddressMap, Routes}
use Rattle.tl_map.proofs.Routing.{one_port}
use Rattle.tl_map.proofs.Kept.{one_wide}
use Rattle.tl_map.proofs.Place.{same_at_each}
use Rattle.tl_map.specs.declared.owners.Owner.{Owner}
use Rattle.tl_script.specs.System.{System, resets}
use Rattle.tl_serial.specs.Serial.{AreServedInTurn, IsHistoryOf, IsServedAfter, IsWidened, asks_in, at_port, log_from, log_of, numbered, requests_at}
use Rattle.tl_serial.specs.Exact.{SerialRunOf}

-- ---- an entry follows from its request and from what came before it

same_entry : (a b : Entry) → a.ask ≡ b.ask → a.reply ≡ b.reply → a.port ≡ b.port → a.index ≡ b.index → a ≡ b
same_entry a b ask reply port index =
    let first : a ≡ record a { ask = b.ask } = ap (λ (q : Request). let e : Entry = record a { ask = q } in e) ask in
    let second : record a { ask = b.ask } ≡ record a { ask = b.ask; reply = b.reply } =
    ap (λ (r : Response). let e : Entry = record a { ask = b.ask; reply = r } in e) reply in
    let third : record a { ask = b.ask; reply = b.reply } ≡ record b { index = a.index } =
    ap (λ (p : ℕ). let e : Entry = record a { ask = b.ask; reply = b.reply; port = p } in e) port in
    let last : record b { index = a.index } ≡ b = ap (λ (i : ℕ). let e : Entry = record b { index = i } in e) index in
    first ∙ second ∙ third ∙ last

one_reply : (found : Option Store) (after : Store → Response) (a b : Response)
    → IsSomeAnd found (λ reset. a ≡ after reset) → IsSomeAnd found (λ reset. b ≡ after reset) → a ≡ b
one_reply None after a b first second = absurd first
one_reply (Some reset) after a b first second = first ∙ sym second

module _ (s : System) (lawful : IsLawfulAddressMap s.ranges) where
  one_entry : (log : List (ℕ × Entry)) (a b : Entry) → a.ask ≡ b.ask → IsServedAfter s log a → IsServedAfter s log b
      → a ≡ b
  one_entry log a b ask first second =
      let routed : Routes s.ranges b.ask a.port = rw ask at first.port in
      let port : a.port ≡ b.port =
      one_port s.ranges lawful b.ask.address b.ask.size a.port b.port routed second.port in
      let index : a.index ≡ b.index = first.index ∙ ap (λ (p : ℕ). length (at_port p log)) port ∙ sym second.index in
      let answered : IsSomeAnd (slice_get (resets s) b.port)
      (λ reset. a.reply ≡ reply (replay reset (requests_at b.port log)) b.ask) = rw (port, ask) at first.reply in
      same_entry a b ask (one_reply (slice_get (resets s) b.port)
      (λ reset. reply (replay reset
      (requests_at b.port log)) b.ask) a.reply b.reply answered second.reply) port index

-- ---- the entries of a run follow from the requests

-- the requests of a log, each with its master's number
abbrev asked_in : List (ℕ × Entry) → List (ℕ × Request)
asked_in log = map (λ (e : ℕ × Entry). (e.0, e.1.ask)) log

same_pair : {A B : Type 0} (x y : A × B) → x.0 ≡ y.0 → x.1 ≡ y.1 → x ≡ y
same_pair {A} {B} x y first second =
    ap (λ (a : A). let p : A × B = (a, x.1) in p) first ∙ ap (λ (b : B). let p : A × B = (y.0, b) in p) second

seam : {A : Type 0} (xs : List A) (y : A) (ys : List A) → slice_get (xs ++ y ∷ ys) (length xs) ≡ Some y
seam [] y ys = refl
seam (x ∷ xs) y ys = seam xs y ys

module _ (s : System) (lawful : IsLawfulAddressMap s.ranges) where
  -- the entry after these is served after them
  served_next : (before : List (ℕ × Entry)) (e : ℕ × Entry) (behind : List (ℕ × Entry))
      → AreServedInTurn s (before ++ e ∷ behind) → IsServedAfter s before e.1
  served_next before e behind served =
      let here = served (length before) e (seam before e behind) in
      rw (take_at before (e ∷ behind) (length before) refl) at here

  -- after the same entries, the same requests make the same entries
  one_rest : (before one other : List (ℕ × Entry)) → asked_in one ≡ asked_in other → AreServedInTurn s (before ++ one)
      → AreServedInTurn s (before ++ other) → one ≡ other
  one_rest before [] [] asked first second = refl
  one_rest before [] (y ∷ other) asked first second = absurd (cc)
  one_rest before (x ∷ one) [] asked first second = absurd (cc)
  one_rest before (x ∷ one) (y ∷ other) asked first second =
      let keys : ◌≡◌ {A = ℕ × Request} (x.0, x.1.ask) (y.0, y.1.ask) = cc in
      let rest : asked_in one ≡ asked_in other = cc in
      let master : x.0 ≡ y.0 = ap (λ (k : ℕ × Request). k.0) keys in
      let ask : x.1.ask ≡ y.1.ask = ap (λ (k : ℕ × Request). k.1) keys in
      let entry : x.1 ≡ y.1 =
      one_entry s lawful before x.1 y.1 ask (served_next before x one first) (served_next before y other second) in
      let same : x ≡ y = same_pair x y master entry in
      let others : AreServedInTurn s (before ++ x ∷ other) = rw same second in
      let tail : one ≡ other =
      one_rest (before ++ x ∷ []) one other rest (rw append_assoc first) (rw append_assoc others) in
      ap (λ (e : ℕ × Entry). e ∷ one) same ∙ ap (λ (es : List (ℕ × Entry)). y ∷ es) tail

  one_log : (one other : List (ℕ × Entry)) → asked_in one ≡ asked_in other → AreServedInTurn s one
      → AreServedInTurn s other → one ≡ other
  one_log one other asked first second = one_rest [] one other asked first second

-- ---- traces and logs

-- the log's requests follow from those of the traces
asked_in-append : (a b : List (ℕ × Entry)) → asked_in (a ++ b) ≡ asked_in a ++ asked_in b
asked_in-append a b = map-append (λ (e : ℕ × Entry). (e.0, e.1.ask)) a b

asked_numbered : (m : ℕ) (one other : List Entry) → asks_in one ≡ asks_in other
    → asked_in (numbered m one) ≡ asked_in (numbered m other)
asked_numbered m [] [] asked = refl
asked_numbered m [] (y ∷ other) asked = absurd (cc)
asked_numbered m (x ∷ one) [] asked = absurd (cc)
asked_numbered m (x ∷ one) (y ∷ other) asked =
    let first : x.ask ≡ y.ask = cc in
    let rest : asks_in one ≡ asks_in other = cc in
    ap (λ (q : Request). (m, q) ∷ asked_in (numbered m one)) first
    ∙ ap (λ (ks : List (ℕ × Request)). (m, y.ask) ∷ ks) (asked_numbered m one other rest)

asked_log : (m : ℕ) (one other : List (List Entry)) → map asks_in one ≡ map asks_in other
    → asked_in (log_from m one) ≡ asked_in (log_from m other)
asked_log m [] [] asked = refl
asked_log m [] (y ∷ other) asked = absurd (cc)
asked_log m (x ∷ one) [] asked = absurd (cc)
asked_log m (x ∷ one) (y ∷ other) asked =
    let first : asks_in x ≡ asks_in y = cc in
    let rest : map asks_in one ≡ map asks_in other = cc in
    asked_in-append (numbered m x) (log_from (m + 1) one)
    ∙ ap (λ (ks : List (ℕ × Request)). ks ++ asked_in (log_from (m + 1) one)) (asked_numbered m x y first)
    ∙ ap (λ (ks : List (ℕ × Request)). asked_in (numbered m y) ++ ks) (asked_log (m + 1) one other rest)
    ∙ sym (asked_in-append (numbered m y) (log_from (m + 1) other))

-- a log is taken apart where a master's entries end
apart : (m : ℕ) (one other : List Entry) (behind_one behind_other : List (ℕ × Entry)) → asks_in one ≡ asks_in other
    → numbered m one ++ behind_one ≡ numbered m other ++ behind_other → (one ≡ other) × (behind_one ≡ behind_other)
apart m [] [] behind_one behind_other asked same = (refl, same)
apart m [] (y ∷ other) behind_one behind_other asked same = absurd (cc)
apart m (x ∷ one) [] behind_one behind_other asked same = absurd (cc)
apart m (x ∷ one) (y ∷ other) behind_one behind_other asked same =
    let asked_rest : asks_in one ≡ asks_in other = cc in
    let head : ◌≡◌ {A = ℕ × Entry} (m, x) (m, y) = cc in
    let tail : numbered m one ++ behind_one ≡ numbered m other ++ behind_other = cc in
    let entry : x ≡ y = ap (λ (e : ℕ × Entry). e.1) head in
    let (rest, behind) = apart m one other behind_one behind_other asked_rest tail in
    (ap (λ (e : Entry). e ∷ one) entry ∙ ap (λ (es : List Entry). y ∷ es) rest, behind)

-- the log and the requests of each master have the traces
one_traces : (m : ℕ) (one other : List (List Entry)) → map asks_in one ≡ map asks_in other
    → log_from m one ≡ log_from m other → one ≡ other
one_traces m [] [] asked same = refl
one_traces m [] (y ∷ other) asked same = absurd (cc)
one_traces m (x ∷ one) [] asked same = absurd (cc)
one_traces m (x ∷ one) (y ∷ other) asked same =
    let first : asks_in x ≡ asks_in y = cc in
    let rest : map asks_in one ≡ map asks_in other = cc in
    let (entries, behind) = apart m x y (log_from (m + 1) one) (log_from (m + 1) other) first same in
    ap (λ (es : List Entry). es ∷ one) entries
    ∙ ap (λ (ts : List (List Entry)). y ∷ ts) (one_traces (m + 1) one other rest behind)

-- ---- histories

one_pair : (owners : List Owner) (e : ℕ × Entry) (a b : Request × Response) → IsWidened owners e a → IsWidened owners e b
    → a ≡ b
one_pair owners e a b first second =
    let wide : first.wide ≡ second.wide =
    one_wide owners e.0 e.1.ask.source first.wide second.wide first.is second.is in
    let asks : a.0 ≡ b.0 =
    first.ask ∙ ap (λ (w : ℕ). let q : Request = record e.1.ask { source = w } in q) wide ∙ sym second.ask in
    let replies : a.1 ≡ b.1 =
    first.reply ∙ ap (λ (w : ℕ). let r : Response = record e.1.reply { source = w } in r) wide ∙ sym second.reply in
    same_pair a b asks replies

one_history : (owners : List Owner) (entries : List (ℕ × Entry)) (a b : List (Request × Response))
    → IsHistoryOf owners entries a → IsHistoryOf owners entries b → a ≡ b
one_history owners [] [] [] first second = refl
one_history owners [] (x ∷ a) b first second = absurd first
one_history owners [] [] (y ∷ b) first second = absurd second
one_history owners (e ∷ entries) [] b first second = absurd first
one_history owners (e ∷ entries) (x ∷ a) [] first second = absurd second
one_history owners (e ∷ entries) (x ∷ a) (y ∷ b) first second =
    ap (λ (p : Request × Response). p ∷ a) (one_pair owners e x y first.0 second.0)
    ∙ ap (λ (ps : List (Request × Response)). y ∷ ps) (one_history owners entries a b first.1 second.1)

-- ---- the run

module _ (s : System) (lawful : IsLawfulAddressMap s.ranges) (one other : SerialRunOf s) where
  asked : map asks_in one.traces ≡ map asks_in other.traces
  asked = one.is.asked ∙ sym other.is.asked

  same_log : log_of one.traces ≡ log_of other.traces
  same_log = one_log s lawful (log_of one.traces) (log_of other.traces)
      (asked_log 0 one.traces other.traces asked) one.is.served other.is.served

  pub traces_same : one.traces ≡ other.traces
  traces_same = one_traces 0 one.traces other.traces asked same_log

  pub histories_same : one.histories ≡ other.histories
  histories_same =
      same_at_each one.histories other.histories (one.is.ports ∙ sym other.is.ports)
      (λ p a b first second. one_history s.owners (at_port p (log_of other.traces)) a b
      (rw same_log at (one.is.recorded p a first)) (other.is.recorded p b second))
