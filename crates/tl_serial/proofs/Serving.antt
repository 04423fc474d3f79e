-- A request more is served: what the entries, the banks and the histories are then.
use Rattle.std.proofs.Common.{◌≡◌, ◌∙◌, ℕ, zero, suc, ◌+◌, ⊎_elim, Bool, true, false, cond, eqb, List, [], ◌∷◌, ◌++◌, length, take, take_all, map, set, Option, Some, None, option_map, unwrap_or, All, length-append, IsSomeAnd, slice_get, refl, ap, sym, arith}
use Rattle.std.proofs.lemmas.Bool.{eq-eqb}
use Rattle.std.proofs.lemmas.Bool.Decides.{eqb_tells}
use Rattle.std.proofs.lemmas.List.{append-nil, take-append-le, take_at, length-set, length-map, map-append}
use Rattle.std.proofs.lemmas.List.Elements.{filter-append}
use Rattle.std.proofs.lemmas.Option.{slice_get_within, slice_get-map, get_or_from_slice_get}
use Rattle.tl_types.proofs.Lists.{slice_get-set_same, slice_get-set_other, slice_get-push}
use Rattle.tl_types.specs.Request.{Request}
use Rattle.tl_types.specs.Response.{Response}
use Rattle.tl_types.specs.declared.trace.Entry.{Entry}
use Rattle.tl_ops.specs.Store.{Store, after, reply}
use Rattle.tl_ops.specs.History.{replay}
use Rattle.tl_ops.proofs.Histories.{replay-append}
use Rattle.tl_map.specs.Map.{Routes}
use Rattle.tl_map.specs.Owner.{IsWideSource}
use Rattle.tl_map.specs.declared.owners.Owner.{Owner}
use Rattle.tl_script.specs.System.{System, IsLawfulSystem, sends}
use Rattle.tl_script.proofs.Banks.{ports_counted}
use Rattle.tl_script.specs.Trace.{trace_text}
use Rattle.tl_serial.specs.Serial.{at_port, requests_at, log_of, IsServedAfter, AreServedInTurn, IsWidened, IsHistoryOf}
use Rattle.tl_script.specs.System.{error_store, resets}
use Rattle.tl_serial.specs.Text.{IsSerialText}
use Rattle.tl_serial.specs.Slave.{AreWritten, HasServed, HaveWide, IsFresh, Stand, bank_of, count_of, history_of, kept_by}
use Rattle.tl_serial.specs.declared.run.Slave.{Slave}

-- what holds of a value that is there, from what else does
some_and : {A : Type 0} {P Q : A → Type 0} (o : Option A) → ((x : A) → P x → Q x) → IsSomeAnd o P → IsSomeAnd o Q
some_and None f p = p
some_and (Some x) f p = f x p

-- ---- histories

history_more : (owners : List Owner) (entries : List (ℕ × Entry)) (history : List (Request × Response)) (e : ℕ × Entry)
    (pair : Request × Response)
    → IsHistoryOf owners entries history → IsWidened owners e pair
    → IsHistoryOf owners (entries ++ e ∷ []) (history ++ pair ∷ [])
history_more owners [] [] e pair h more = (more, tt)
history_more owners [] (p ∷ history) e pair h more = absurd h
history_more owners (x ∷ entries) [] e pair h more = absurd h
history_more owners (x ∷ entries) (p ∷ history) e pair h more =
    (h.0, history_more owners entries history e pair h.1 more)

-- what is kept grows likewise
kept_more : (kept : Option (List (Request × Response))) (owners : List Owner) (entries : List (ℕ × Entry)) (e : ℕ × Entry)
    (pair : Request × Response)
    → IsSomeAnd kept (IsHistoryOf owners entries) → IsWidened owners e pair
    → IsSomeAnd (option_map (λ h. h ++ pair ∷ []) kept) (IsHistoryOf owners (entries ++ e ∷ []))
kept_more None owners entries e pair h more = h
kept_more (Some history) owners entries e pair h more = history_more owners entries history e pair h more

wide_more : (owners : List Owner) (log : List (ℕ × Entry)) (e : ℕ × Entry) → HaveWide owners log
    → ((wide : ℕ) × IsWideSource owners e.0 e.1.ask.source wide) → HaveWide owners (log ++ e ∷ [])
wide_more owners [] e have more = (more, tt)
wide_more owners (x ∷ log) e have more = (have.0, wide_more owners log e have.1 more)

-- ---- what a port served

at_port-same : (log : List (ℕ × Entry)) (m : ℕ) (e : Entry)
    → at_port e.port (log ++ (m, e) ∷ []) ≡ at_port e.port log ++ (m, e) ∷ []
at_port-same log m e =
    filter-append (λ (x : ℕ × Entry). eqb x.1.port e.port) log ((m, e) ∷ [])
    ∙ ap (λ (mine : Bool). at_port e.port log ++ cond mine ((m, e) ∷ []) []) (eq-eqb e.port e.port refl)

at_port-other : (log : List (ℕ × Entry)) (m : ℕ) (e : Entry) (port : ℕ) → eqb e.port port ≡ false
    → at_port port (log ++ (m, e) ∷ []) ≡ at_port port log
at_port-other log m e port other =
    filter-append (λ (x : ℕ × Entry). eqb x.1.port port) log ((m, e) ∷ [])
    ∙ ap (λ (mine : Bool). at_port port log ++ cond mine ((m, e) ∷ []) []) other ∙ append-nil (at_port port log)

requests_at-same : (log : List (ℕ × Entry)) (m : ℕ) (e : Entry)
    → requests_at e.port (log ++ (m, e) ∷ []) ≡ requests_at e.port log ++ e.ask ∷ []
requests_at-same log m e =
    ap (map (λ (x : ℕ × Entry). x.1.ask)) (at_port-same log m e)
    ∙ map-append (λ (x : ℕ × Entry). x.1.ask) (at_port e.port log) ((m, e) ∷ [])

-- ---- entries in turn

pub in_turn_more : (s : System) (log : List (ℕ × Entry)) (m : ℕ) (e : Entry) → AreServedInTurn s log
    → IsServedAfter s log e → AreServedInTurn s (log ++ (m, e) ∷ [])
in_turn_more s log m e before last k x at = ⊎_elim earlier here (slice_get-push log (m, e) x k at) where
  earlier : slice_get log k ≡ Some x → IsServedAfter s (take k (log ++ (m, e) ∷ [])) x.1
  earlier found =
      let within = slice_get_within log k x found in
      rw (take-append-le k log ((m, e) ∷ []) (omega (arith, within))) (before k x found)

  here : (k ≡ length log) × ((m, e) ≡ x) → IsServedAfter s (take k (log ++ (m, e) ∷ [])) x.1
  here found =
      let same : e ≡ x.1 = ap (λ (y : ℕ × Entry). y.1) found.1 in
      rw (take_at log ((m, e) ∷ []) k (sym found.0)) (rw (← same) last)

-- ---- the slaves

module _ (s : System) (keeps : Bool) (log : List (ℕ × Entry)) (slaves : List Slave) (old new : Slave) (m wide : ℕ)
    (e : Entry)
    (stand : Stand s keeps log slaves) (was : slice_get slaves e.port ≡ Some old)
    (routed : Routes s.ranges e.ask e.port) (index : e.index ≡ count_of old)
    (counted : count_of new ≡ count_of old + 1) (answered : e.reply ≡ reply (bank_of old) e.ask)
    (bank : bank_of new ≡ after (bank_of old) e.ask)
    (history : kept_by new ≡ option_map (λ h. h
    ++ (record e.ask { source = wide }, record e.reply { source = wide }) ∷ []) (kept_by old))
    (widened : IsWideSource s.owners m e.ask.source wide) where
  served : HasServed s keeps log e.port old
  served = stand.each e.port old was

  entry_is : IsServedAfter s log e
  entry_is = record {
    port = routed;
    index = index ∙ served.served;
    reply = some_and (slice_get (resets s) e.port)
        (λ reset is. answered ∙ ap (λ (b : Store). reply b e.ask) is) served.bank;
  }

  same_port : HasServed s keeps (log ++ (m, e) ∷ []) e.port new
  same_port = record {
    bank = some_and (slice_get (resets s) e.port)
        (λ reset is. bank ∙ ap (λ (b : Store). after b e.ask) is
        ∙ sym (replay-append reset (requests_at e.port log) e.ask)
        ∙ ap (replay reset) (sym (requests_at-same log m e)))
        served.bank;
    served = counted ∙ ap (λ (n : ℕ). n + 1) served.served
        ∙ sym (ap length (at_port-same log m e) ∙ length-append (at_port e.port log) ((m, e) ∷ []));
    history = λ kept. rw (history, at_port-same log m e)
        (kept_more (kept_by old) s.owners (at_port e.port log) (m, e)
        (record e.ask { source = wide }, record e.reply { source = wide }) (served.history kept)
        (record { wide = wide; is = widened; ask = refl; reply = refl }));
  }

  other_port : (port : ℕ) (slave : Slave) → eqb e.port port ≡ false → HasServed s keeps log port slave
      → HasServed s keeps (log ++ (m, e) ∷ []) port slave
  other_port port slave other has = record {
    bank = some_and (slice_get (resets s) port)
        (λ reset is. is ∙ ap (λ (es : List (ℕ × Entry)). replay reset (map (λ (x : ℕ × Entry). x.1.ask) es))
        (sym (at_port-other log m e port other))) has.bank;
    served = has.served ∙ ap length (sym (at_port-other log m e port other));
    history = rw (at_port-other log m e port other) has.history;
  }

  pub stand_more : Stand s keeps (log ++ (m, e) ∷ []) (set slaves e.port new)
  stand_more = record {
    ports = length-set slaves e.port new ∙ stand.ports;
    served = in_turn_more s log m e stand.served entry_is;
    wide = wide_more s.owners log (m, e) stand.wide (wide, widened);
    each = λ port slave at. ⊎_elim
        (λ same.
        let there : slice_get (set slaves e.port new) e.port ≡ Some slave =
        ap (λ (k : ℕ). slice_get (set slaves e.port new) k) same.1 ∙ at in
        let is : new ≡ slave = cc (slice_get-set_same slaves e.port new (slice_get_within slaves e.port old was)) in
        rw (← is, ← same.1) same_port)
        (λ other. other_port port slave other.0 (stand.each port slave
        (sym (slice_get-set_other slaves e.port port new other.1) ∙ at)))
        (eqb_tells e.port port);
  }

-- ---- at reset

module _ (s : System) (keeps : Bool) (slaves : List Slave) (lawful : IsLawfulSystem s)
    (banks : map bank_of slaves ≡ resets s) (fresh : All (IsFresh keeps) slaves) where
  fresh_bank : (port : ℕ) (slave : Slave) → slice_get slaves port ≡ Some slave
      → slice_get (resets s) port ≡ Some (bank_of slave)
  fresh_bank port slave at =
      ap (λ (stores : List Store). slice_get stores port) (sym banks) ∙ slice_get-map bank_of slaves port
      ∙ ap (option_map bank_of) at

  is_fresh : (port : ℕ) (slave : Slave) → slice_get slaves port ≡ Some slave → IsFresh keeps slave
  is_fresh port slave at =
      rw (get_or_from_slice_get slaves port slave slave at) at
      (fresh port slave (slice_get_within slaves port slave at))

  fresh_each : (port : ℕ) (slave : Slave) → slice_get slaves port ≡ Some slave → HasServed s keeps [] port slave
  fresh_each port slave at =
      let new = is_fresh port slave at in
      record {
        bank = rw (fresh_bank port slave at) refl;
        served = new.served;
        history = λ kept. rw (new.kept kept) tt;
      }

  -- nothing is served yet
  pub stand_fresh : Stand s keeps [] slaves
  stand_fresh = record {
    ports =
        let all : length slaves ≡ length s.stores + 1 =
        sym (length-map slaves bank_of) ∙ ap length banks ∙ length-append s.stores (error_store ∷ []) in
        let ranges = ports_counted s lawful in
        omega (arith, all, ranges);
    served = λ k e at. absurd (cc);
    wide = tt;
    each = fresh_each;
  }

-- ---- at the end

-- the histories that slaves kept are those of the entries
pub histories_are : (s : System) (log : List (ℕ × Entry)) (slaves : List Slave)
    (histories : List (List (Request × Response))) → Stand s true log slaves → histories ≡ map history_of slaves
    → (p : ℕ) (history : List (Request × Response)) → slice_get histories p ≡ Some history
    → IsHistoryOf s.owners (at_port p log) history
histories_are s log slaves histories stand are p history at =
    by_slave (slice_get slaves p) refl (sym (slice_get-map history_of slaves p)
    ∙ ap (λ (hs : List (List (Request × Response))). slice_get hs p) (sym are) ∙ at) where
      kept_is : (kept : Option (List (Request × Response))) → IsSomeAnd kept (IsHistoryOf s.owners (at_port p log))
          → unwrap_or kept [] ≡ history → IsHistoryOf s.owners (at_port p log) history
      kept_is None h same = absurd h
      kept_is (Some found) h same = rw (← same) h

      by_slave : (found : Option Slave) → slice_get slaves p ≡ found → option_map history_of found ≡ Some history
          → IsHistoryOf s.owners (at_port p log) history
      by_slave None is none = absurd (cc)
      by_slave (Some slave) is here =
          let same : history_of slave ≡ history = cc in
          kept_is (kept_by slave) ((stand.each p slave is).history refl) same

-- ---- histories that nobody kept

-- one entry more, at this port or at another
history_with : (owners : List Owner) (e : ℕ × Entry) (here : Bool) (entries : List (ℕ × Entry))
    → ((wide : ℕ) × IsWideSource owners e.0 e.1.ask.source wide)
    → ((history : List (Request × Response)) × IsHistoryOf owners entries history)
    → (history : List (Request × Response)) × IsHistoryOf owners (cond here (e ∷ entries) entries) history
history_with owners e true entries (wide, is) (history, of) = (
  (record e.1.ask { source = wide }, record e.1.reply { source = wide })
      ∷ history,
  (record { wide = wide; is = is; ask = refl; reply = refl }, of),
)
history_with owners e false entries has rest = rest

-- entries with wide sources have a history at each port
history_there : (owners : List Owner) (port : ℕ) (log : List (ℕ × Entry)) → HaveWide owners log
    → (history : List (Request × Response)) × IsHistoryOf owners (at_port port log) history
history_there owners port [] have = ([], tt)
history_there owners port (e ∷ log) have =
    history_with owners e (eqb e.1.port port) (at_port port log) have.0 (history_there owners port log have.1)

-- a list of such histories, one for each of this many ports
record HistoriesOf (owners : List Owner) (log : List (ℕ × Entry)) (ports : ℕ) : Type 0 where
  pub histories : List (List (Request × Response))
  pub counted : length histories ≡ ports
  pub each : (p : ℕ) (history : List (Request × Response)) → slice_get histories p ≡ Some history
      → IsHistoryOf owners (at_port p log) history

histories_there : (owners : List Owner) (log : List (ℕ × Entry)) (ports : ℕ) → HaveWide owners log
    → HistoriesOf owners log ports
histories_there owners log zero have = record { histories = []; counted = refl; each = λ p history at. absurd (cc) }
histories_there owners log (suc ports) have =
    let before = histories_there owners log ports have in
    let last = history_there owners ports log have in
    record {
      histories = before.histories ++ last.0 ∷ [];
      counted = length-append before.histories (last.0 ∷ []) ∙ ap (λ (n : ℕ). n + 1) before.counted ∙ omega arith;
      each = λ p history at. ⊎_elim (before.each p history)
          (λ here. rw (← here.1, here.0, before.counted) last.1)
          (slice_get-push before.histories last.0 history p at);
    }

-- the text of traces that were served in turn is that of the serial run
pub serial_text_is : (s : System) (keeps : Bool) (old new : List Slave) (text : List ℕ) → Stand s keeps [] old
    → AreWritten s old new text (length s.jobs) → IsSerialText false s text
serial_text_is s keeps old new text start written =
    let stand = written.stands keeps start in
    let there = histories_there s.owners (log_of written.traces) (length s.ranges + 1) stand.wide in
    record {
      traces = written.traces;
      histories = there.histories;
      run = record {
        asked = written.asked ∙ ap (map sends) (take_all (length s.jobs) s.jobs (omega arith));
        served = stand.served;
        ports = there.counted;
        recorded = there.each;
      };
      is = written.is ∙ sym (append-nil (trace_text written.traces));
    }
