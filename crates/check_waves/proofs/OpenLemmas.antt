-- A dump that is opened, and the identifiers that are kept of it.
use Rattle.std.proofs.Common.{◌≡◌, ◌≢◌, ◌∙◌, ℕ, suc, ◌+◌, ◌<◌, List, [], ◌∷◌, ◌++◌, length, get_or, drop, drop-cons, map, add-one, Option, Some, None, Result, Ok, Err, IfErr, IsErrAnd, inl, inr, ap, refl, sym, subst, if◌then◌else◌}
use Rattle.std.proofs.KnownBytes.{Appends-nil}
use Rattle.std.proofs.Math.Path.{fun_ext}
use Rattle.std.specs.Option.{IfSome, option_map}
use Rattle.std.specs.Str.{bytes_eq}
use Rattle.check_vcd.specs.Body.{Body, Find, happenings, start}
use Rattle.check_vcd.specs.Codes.{coded_in, find_in}
use Rattle.check_vcd.specs.Dump.{Dumping, IsNoDump, Opens, with_slot}
use Rattle.check_vcd.specs.Header.{Opened, Var, blank, opening}
use Rattle.check_vcd.specs.Words.{Both, Word, dump_words}
use Rattle.check_vcd.specs.declared.codes.Coded.{Coded}
use Rattle.check_vcd.specs.declared.fault.DumpFault.{DumpFault}
use Rattle.check_vcd.specs.declared.fault.DumpFault.TheVariants as dump
use Rattle.check_vcd.specs.declared.fault.Mistake.{Mistake}
use Rattle.check_keys.specs.declared.fault.SystemFault.{SystemFault}
use Rattle.check_keys.specs.declared.fault.SystemFault.TheVariants as system
use Rattle.check_description.specs.Description.{Description}
use Rattle.check_description.specs.declared.read.TheConstants.{MAX_SYSTEM}
use Rattle.check_samples.specs.Digits.{unknown}
use Rattle.check_samples.specs.Left.{RowsLeft, left_in, left_of}
use Rattle.check_samples.specs.Rows.{Probes, view_of}
use Rattle.check_samples.specs.Sampling.{Sampling, sampling_by}
use Rattle.check_samples.specs.Values.{all_before, all_now, all_widths}
use Rattle.check_signals.specs.Found.{Found, IsFound, IsResolved, code_in, digits_in, find_of, sampling_of, slot_one, slots_from, width_in}
use Rattle.check_signals.specs.Names.{names_of_file}
use Rattle.check_signals.specs.Source.{SearchFault, fault_view}
use Rattle.check_signals.specs.declared.fault.KeyFault.{KeyFault}
use Rattle.check_signals.specs.declared.fault.KeyFault.TheVariants as key
use Rattle.check_signals.specs.declared.resolve.Resolved.{Resolved}
use Rattle.check_signals.specs.declared.signal_fault.SignalFault.{SignalFault}
use Rattle.check_signals.specs.declared.signal_fault.SignalFault.TheVariants as signal
use Rattle.tl_streams.specs.Streams.{ReadsUpTo}
use Rattle.tl_streams.specs.declared.streams.ReadFault.{ReadFault}
use Rattle.tl_streams.specs.declared.streams.ReadFault.TheVariants as read
use Rattle.check_waves.specs.Capture.{Describes, GivesLinks, IsCapture, IsFirstSystemFault, IsNoHeader, IsOfSystem, IsOpened, IsUnopened, NotFound, found_among, rows_after, rows_found, rows_in}
use Rattle.check_waves.specs.Links.{WaveLinks}
use Rattle.check_waves.specs.Out.{EndsCapture, IsOut, capture_of}
use Rattle.check_waves.specs.Fault.{of_dump, of_keys, of_read, of_signal, of_system}
use Rattle.check_waves.specs.declared.fault.WaveFault.{WaveFault}

slot-one-same : (code : Option (List ℕ)) (slot : ℕ) (f g : Find) → ((c : List ℕ) → f c ≡ g c) → (c : List ℕ)
    → slot_one code slot f c ≡ slot_one code slot g c
slot-one-same None slot f g same c = same c
slot-one-same (Some code) slot f g same c =
    ap (λ (known : Option Coded). if bytes_eq code c then with_slot slot known else known) (same c)

pub slots-same : (codes : List (Option (List ℕ))) (slot : ℕ) (f g : Find) → ((c : List ℕ) → f c ≡ g c) → (c : List ℕ)
    → slots_from codes slot f c ≡ slots_from codes slot g c
slots-same [] slot f g same c = same c
slots-same (code ∷ codes) slot f g same c =
    slots-same codes (slot + 1) (slot_one code slot f) (slot_one code slot g) (slot-one-same code slot f g same) c

-- a sampler that has taken nothing, of what was found
pub fresh-is : (s : Sampling) (resolved : Resolved) (found : Found) → IsResolved resolved found
    → s ≡ sampling_by (view_of resolved.probes) (all_before resolved.values) (all_now resolved.values) (all_widths resolved.values)
    → s ≡ sampling_of found
fresh-is s resolved found is made =
    made
    ∙ ap (λ (p : Probes). sampling_by p (all_before resolved.values) (all_now resolved.values) (all_widths resolved.values))
    is.probes
    ∙ ap (λ (vs : List (List ℕ)). sampling_by found.probes vs (all_now resolved.values) (all_widths resolved.values)) is.before
    ∙ ap (λ (vs : List (List ℕ)). sampling_by found.probes
    (map (λ value. unknown (width_in value)) found.kept ++ ([] ∷ [])) vs (all_widths resolved.values)) is.now
    ∙ ap (λ (ws : List ℕ). sampling_by found.probes (map (λ value. unknown (width_in value)) found.kept ++ ([] ∷ []))
    (map digits_in found.kept) ws) is.widths

opened : (links : WaveLinks) (text : List ℕ) (vars : List Var) (words : Option (List Word)) (find : Find) (body : Body)
    (found : Found) (s : Sampling)
    → Both (Some (dump_words text)) words (λ from to. opening from blank ≡ Opened vars to)
    → body ≡ start → find ≡ find_of vars found → s ≡ sampling_of found → found_among vars links ≡ Ok found
    → IsOpened links (option_map (λ h. left_of h s) (option_map (λ w. happenings find w body) words)) text
unfolding rows_in
opened links text vars None find body found s both is finds fresh has = absurd both
opened links text vars (Some w) find body found s both is finds fresh has =
    ap (rows_after links) both
    ∙ ap (rows_found vars w) has
    ∙ ap (λ (l : RowsLeft). Ok l) (sym (ap (λ (b : Body). left_of (happenings find w b) s) is
    ∙ ap (λ (f : Find). left_of (happenings f w start) s) finds
    ∙ ap (λ (t : Sampling). left_of (happenings (find_of vars found) w start) t) fresh))

-- the identifiers that are kept are those that were found
find-is : (vars : List Var) (first now : Find) (codes : List (Option (List ℕ))) (found : Found)
    → ((code : List ℕ) → first code ≡ coded_in vars code) → ((code : List ℕ) → now code ≡ slots_from codes 0 first code)
    → codes ≡ map code_in found.kept → now ≡ find_of vars found
find-is vars first now codes found opens finds are =
    fun_ext (λ code. finds code ∙ slots-same codes 0 first (coded_in vars) opens code
    ∙ ap (λ (all : List (Option (List ℕ))). slots_from all 0 (coded_in vars) code) are)

-- the rows of a dump after its header, if these identifiers are kept
pub opened-rows : (links : WaveLinks) (text : Option (List ℕ)) (vars : List Var) (first dump : Dumping)
    (codes : List (Option (List ℕ))) (found : Found) (s : Sampling)
    → Opens text vars first → dump.words ≡ first.words → dump.body ≡ first.body
    → ((code : List ℕ) → find_in dump.codes code ≡ slots_from codes 0 (find_in first.codes) code)
    → codes ≡ map code_in found.kept → s ≡ sampling_of found → found_among vars links ≡ Ok found
    → IfSome text (IsOpened links (left_in dump s))
opened-rows links None vars first dump codes found s opens words body finds are fresh has = tt
opened-rows links (Some text) vars first dump codes found s opens words body finds are fresh has =
    opened links text vars dump.words (find_in dump.codes) dump.body found s (rw words opens.words) (body ∙ opens.body)
    (find-is vars (find_in first.codes) (find_in dump.codes) codes found opens.find finds are)
    fresh has

-- what was found
pub found-is : (found : Result Found SearchFault) (resolved : Resolved) → IsFound found resolved
    → (f : Found) × (found ≡ Ok f) × IsResolved resolved f
found-is (Ok f) resolved is = (f, refl, is)
found-is (Err fault) resolved is = absurd is

-- one identifier more is kept
pub keeps-on : (first now next : Find) (all here rest : List (Option (List ℕ))) (slot : ℕ) (code : Option (List ℕ))
    → here ≡ code ∷ rest → ((o : List ℕ) → slots_from here slot now o ≡ slots_from all 0 first o)
    → ((o : List ℕ) → next o ≡ slot_one code slot now o)
    → (o : List ℕ) → slots_from rest (slot + 1) next o ≡ slots_from all 0 first o
keeps-on first now next all here rest slot code is so_far one o =
    slots-same rest (slot + 1) next (slot_one code slot now) one o
    ∙ subst (λ (h : List (Option (List ℕ))). slots_from h slot now o ≡ slots_from all 0 first o) is (so_far o)

-- no dump was opened
wrong-header : (links : WaveLinks) (text : List ℕ) (line : ℕ) (mistake : Mistake)
    → IsNoDump (Some text) line mistake → IsNoHeader links text line mistake
unfolding rows_in
wrong-header links text line mistake (inl refused) = inl (ap (rows_after links) refused)
wrong-header links text line mistake (inr cut) = inr (ap (rows_after links) cut.0, cut.1)

pub unopened-dump : (links : WaveLinks) (text : Option (List ℕ)) (fault : DumpFault)
    → ((line : ℕ) (mistake : Mistake) → fault ≡ dump.At line mistake → IsNoDump text line mistake)
    → IfSome text (IsUnopened links (of_dump fault))
unopened-dump links None fault wrong = tt
unopened-dump links (Some text) (dump.At line mistake) wrong =
    wrong-header links text line mistake (wrong line mistake refl)
unopened-dump links (Some text) dump.Read wrong = tt
unopened-dump links (Some text) dump.Memory wrong = tt

pub fails-by : {T : Type 0} (result : Result T WaveFault) (fault : WaveFault) (P : WaveFault → Type 0)
    → IsErrAnd result (λ e. e ≡ fault) → P fault → IfErr result P
fails-by (Ok x) fault P is holds = absurd is
fails-by (Err e) fault P is holds = subst P (sym is) holds

-- the item of a list at a place, and those after it
pub rest-of : {A : Type 0} (xs : List A) (i : ℕ) (x : A) → i < length xs → x ≡ get_or xs i x
    → drop i xs ≡ x ∷ drop (i + 1) xs
rest-of xs i x lt is =
    let all : drop i xs ≡ x ∷ drop (suc i) xs = drop-cons xs i x lt ∙ ap (λ h. h ∷ drop (suc i) xs) (sym is) in
    rw add-one all

-- the first signal that is not found after a header
pub unopened-signal : (links : WaveLinks) (text : Option (List ℕ)) (vars : List Var) (first : Dumping) (fault : SignalFault)
    → Opens text vars first → (fault ≢ signal.Memory → found_among vars links ≡ Err (fault_view fault))
    → IfSome text (IsUnopened links (of_signal fault))
unfolding rows_in
unopened-signal links None vars first fault opens finds = tt
unopened-signal links (Some text) vars first fault opens finds = by fault finds
  where
    behind : (words : Option (List Word)) (f : SearchFault) → Both (Some (dump_words text)) words (λ from to. opening from blank ≡ Opened vars to)
        → found_among vars links ≡ Err f → rows_in links text ≡ Err (NotFound f)
    behind None f both is = absurd both
    behind (Some words) f both is = ap (rows_after links) both ∙ ap (rows_found vars words) is

    by : (f : SignalFault) → (f ≢ signal.Memory → found_among vars links ≡ Err (fault_view f))
        → IsUnopened links (of_signal f) text
    by signal.Memory is = tt
    by f is = behind first.words (fault_view f) opens.words (is (λ (same : f ≡ signal.Memory). cc))

-- ---- the first fault of a system

pub read-first : (old new : Option (List ℕ)) (fault : ReadFault) → IsOfSystem old new (of_read fault)
read-first old new read.Read = tt
read-first old new read.Memory = tt

pub system-first : (old new : Option (List ℕ)) (file : List ℕ) (fault : SystemFault)
    → ReadsUpTo (MAX_SYSTEM + 1) old new file → (fault ≢ system.Memory → IsFirstSystemFault file fault)
    → IsOfSystem old new (of_system fault)
system-first old new file system.Memory reads first = tt
system-first old new file fault reads first = record {
  file = file;
  read = reads;
  first = first (λ (is : fault ≡ system.Memory). cc);
}

pub keys-first : (old new : Option (List ℕ)) (file : List ℕ) (about : Description) (fault : KeyFault)
    → ReadsUpTo (MAX_SYSTEM + 1) old new file → Describes file about
    → (fault ≢ key.Memory → names_of_file file ≡ Err fault) → IsOfSystem old new (of_keys fault)
keys-first old new file about key.Memory reads described first = tt
keys-first old new file about fault reads described first = record {
  file = file;
  read = reads;
  system = about;
  described = described;
  first = first (λ (is : fault ≡ key.Memory). cc);
}

-- ---- what is written

-- no links are known
pub refused-system : (text : Option (List ℕ)) (result : Result Unit WaveFault) (fault : WaveFault)
    (read_old read_new at : Option (List ℕ)) → IsErrAnd result (λ e. e ≡ fault) → IsOfSystem read_old read_new fault
    → IfSome text (λ t. IsCapture read_old read_new result t at at)
refused-system None result fault read_old read_new at is why = tt
refused-system (Some text) (Ok done) fault read_old read_new at is why = absurd is
refused-system (Some text) (Err e) fault read_old read_new at is why =
    inl (record {
      why = inl (subst (IsOfSystem read_old read_new) (sym is) why);
      written = Appends-nil at;
    })

-- no dump was opened
pub refused-dump : (text : Option (List ℕ)) (result : Result Unit WaveFault) (fault : WaveFault) (links : WaveLinks)
    (read_old read_new at : Option (List ℕ)) → IsErrAnd result (λ e. e ≡ fault) → GivesLinks read_old read_new links
    → IfSome text (IsUnopened links fault) → IfSome text (λ t. IsCapture read_old read_new result t at at)
refused-dump None result fault links read_old read_new at is given why = tt
refused-dump (Some text) (Ok done) fault links read_old read_new at is given why = absurd is
refused-dump (Some text) (Err e) fault links read_old read_new at is given why =
    inl (record {
      why = inr (record {
        links = links;
        given = given;
        why = subst (λ (f : WaveFault). IsUnopened links f text) (sym is) why;
      });
      written = Appends-nil at;
    })

-- the rows were written, and the capture was ended
pub captured : (text : Option (List ℕ)) (rows : Option RowsLeft) (answer result : Result Unit WaveFault) (links : WaveLinks)
    (read_old read_new old mid new : Option (List ℕ)) → GivesLinks read_old read_new links
    → IfSome text (IsOpened links rows) → IfSome rows (λ left. IsOut answer (capture_of left) old mid)
    → EndsCapture mid new answer result → IfSome text (λ t. IsCapture read_old read_new result t old new)
captured None rows answer result links read_old read_new old mid new given has out ends = tt
captured (Some text) None answer result links read_old read_new old mid new given has out ends = absurd has
captured (Some text) (Some left) answer (Ok done) links read_old read_new old mid new given has out ends = record {
  links = links;
  given = given;
  left = left;
  has = has;
  mid = mid;
  answer = answer;
  out = out;
  ends = ends;
}
captured (Some text) (Some left) answer (Err e) links read_old read_new old mid new given has out ends =
    inr (record {
      links = links;
      given = given;
      left = left;
      has = has;
      mid = mid;
      answer = answer;
      out = out;
      ends = ends;
    })
