-- Rows on their way out.
use Rattle.std.proofs.Common.{◌≡◌, ◌∙◌, ℕ, List, [], ◌++◌, Option, Some, None, Result, Ok, Err, true, false, inl, inr, append_assoc, refl, sym, ap, subst}
use Rattle.std.specs.Option.{IfSome}
use Rattle.std.specs.Result.{IsErrAnd}
use Rattle.std.specs.Io.KnownBytes.{Appends}
use Rattle.std.proofs.KnownBytes.{Appends-nil, Appends-trans}
use Rattle.tl_streams.specs.Streams.{AppendsPart}
use Rattle.check_vcd.specs.Words.{Both}
use Rattle.check_samples.specs.Left.{RowsGoOn, RowsLeft, Stops}
use Rattle.check_samples.specs.declared.rows.Progress.TheVariants.{More, Over}
use Rattle.check_samples.specs.declared.rows.RowsFault.{RowsFault}
use Rattle.check_samples.specs.declared.rows.RowsFault.TheVariants as rows
use Rattle.check_waves.specs.Fault.{of_rows}
use Rattle.check_waves.specs.Out.{AppendsFront, Finishes, IsOut, IsPushed, Moves, Pushing, is_cut}
use Rattle.check_waves.specs.declared.fault.WaveFault.{WaveFault}
use Rattle.check_waves.specs.declared.fault.WaveFault.TheVariants as wave

-- rows after a text
abbrev pub behind : List ℕ → RowsLeft → RowsLeft
behind text left = record { text = text ++ left.text; end = left.end }

-- ---- rows are taken

-- none was taken
pub pushing-start : (a : Option RowsLeft) (text : List ℕ) (at : Option (List ℕ)) → Both a a (Pushing text text at at)
pushing-start None text at = tt
pushing-start (Some x) text at = record { front = []; is = refl; end = refl; written = Appends-nil at }

-- some more were, and a front of the text was written
pub pushing-on : (a b c : Option RowsLeft) (text now next last : List ℕ) (old mid new : Option (List ℕ))
    → Both a b (Pushing text now old mid) → Both b c (RowsGoOn More now next) → Moves mid new next last
    → Both a c (Pushing text last old new)
pushing-on None b c text now next last old mid new so_far goes moves = tt
pushing-on (Some x) None c text now next last old mid new so_far goes moves = absurd so_far
pushing-on (Some x) (Some y) None text now next last old mid new so_far goes moves = absurd goes
pushing-on (Some x) (Some y) (Some z) text now next last old mid new so_far goes moves = record {
  front = so_far.front ++ moves.front;
  is = so_far.is
      ∙ ap (λ l. so_far.front ++ l)
      (sym goes.0 ∙ ap (λ l. l ++ z.text) moves.is ∙ append_assoc moves.front last z.text)
      ∙ sym (append_assoc so_far.front moves.front (last ++ z.text));
  end = goes.1 ∙ so_far.end;
  written = Appends-trans old mid new so_far.front moves.front so_far.written moves.written;
}

-- all were taken
moved-all : (x y : RowsLeft) (text now next : List ℕ) (old mid : Option (List ℕ)) → Pushing text now old mid x y
    → next ≡ now ++ y.text → Moves old mid (text ++ x.text) next
moved-all x y text now next old mid so_far is = record {
  front = so_far.front;
  is = so_far.is ∙ ap (λ l. so_far.front ++ l) (sym is);
  written = so_far.written;
}

pub pushed-all : (a b c : Option RowsLeft) (text now next : List ℕ) (old mid : Option (List ℕ)) (done : Unit {0})
    → Both a b (Pushing text now old mid) → Both b c (RowsGoOn Over now next)
    → IfSome a (λ left. IsPushed (Ok done) left text next old mid)
pushed-all None b c text now next old mid done so_far goes = tt
pushed-all (Some x) None c text now next old mid done so_far goes = absurd so_far
pushed-all (Some x) (Some y) None text now next old mid done so_far goes = absurd goes
pushed-all (Some x) (Some y) (Some z) text now next old mid done so_far goes =
    (moved-all x y text now next old mid so_far goes.0, sym so_far.end ∙ goes.1)

-- rows end before the dump does, or with it
pub pushed-fault : (a b : Option RowsLeft) (text now next : List ℕ) (old mid : Option (List ℕ)) (fault : RowsFault)
    → Both a b (Pushing text now old mid) → IfSome b (Stops fault now next)
    → IfSome a (λ left. IsPushed (Err (of_rows fault)) left text next old mid)
pushed-fault None b text now next old mid fault so_far stops = tt
pushed-fault (Some x) None text now next old mid fault so_far stops = absurd so_far
pushed-fault (Some x) (Some y) text now next old mid (rows.Unknown u) so_far stops =
    (moved-all x y text now next old mid so_far stops.0, sym so_far.end ∙ stops.1)
pushed-fault (Some x) (Some y) text now next old mid (rows.Dump line mistake) so_far stops =
    (moved-all x y text now next old mid so_far stops.0, sym so_far.end ∙ stops.1)
pushed-fault (Some x) (Some y) text now next old mid (rows.Edges why) so_far stops =
    (moved-all x y text now next old mid so_far stops.0, sym so_far.end ∙ stops.1)
pushed-fault (Some x) (Some y) text now next old mid rows.Read so_far stops = record {
  more = y.text;
  moves = record {
    front = so_far.front;
    is = so_far.is ∙ ap (λ l. so_far.front ++ (l ++ y.text)) (sym stops);
    written = so_far.written;
  };
}
pushed-fault (Some x) (Some y) text now next old mid rows.Memory so_far stops =
    record { front = so_far.front; rest = now ++ y.text; is = so_far.is; written = so_far.written }

-- a write failed
pub pushed-part : (a b c : Option RowsLeft) (text now next : List ℕ) (old mid new : Option (List ℕ))
    → Both a b (Pushing text now old mid) → Both b c (RowsGoOn More now next) → AppendsFront mid new next
    → (last : List ℕ) → IfSome a (λ left. IsPushed (Err wave.Write) left text last old new)
pushed-part None b c text now next old mid new so_far goes part last = tt
pushed-part (Some x) None c text now next old mid new so_far goes part last = absurd so_far
pushed-part (Some x) (Some y) None text now next old mid new so_far goes part last = absurd goes
pushed-part (Some x) (Some y) (Some z) text now next old mid new so_far goes part last = record {
  front = so_far.front ++ part.front;
  rest = part.rest ++ z.text;
  is = so_far.is
      ∙ ap (λ l. so_far.front ++ l)
      (sym goes.0 ∙ ap (λ l. l ++ z.text) part.is ∙ append_assoc part.front part.rest z.text)
      ∙ sym (append_assoc so_far.front part.front (part.rest ++ z.text));
  written = Appends-trans old mid new so_far.front part.front so_far.written part.written;
}

-- nothing was read for too long
pub pushed-long : (a b : Option RowsLeft) (text now : List ℕ) (old mid : Option (List ℕ))
    → Both a b (Pushing text now old mid) → IfSome a (λ left. IsPushed (Err wave.Read) left text now old mid)
pushed-long None b text now old mid so_far = tt
pushed-long (Some x) None text now old mid so_far = absurd so_far
pushed-long (Some x) (Some y) text now old mid so_far = record {
  more = y.text;
  moves = record { front = so_far.front; is = so_far.is; written = so_far.written };
}

-- ---- what is left of the text is written

all-out : (old mid new : Option (List ℕ)) (whole rest : List ℕ) → Moves old mid whole rest → Appends mid new rest
    → Appends old new whole
all-out old mid new whole rest moves written =
    subst (λ l. Appends old new l) (sym moves.is) (Appends-trans old mid new moves.front rest moves.written written)

part-out : (old mid new : Option (List ℕ)) (whole rest more : List ℕ) → Moves old mid whole (rest ++ more)
    → AppendsPart mid new rest → AppendsFront old new whole
part-out old mid new whole rest more moves part = record {
  front = moves.front ++ part.front;
  rest = part.rest ++ more;
  is = moves.is
      ∙ ap (λ l. moves.front ++ l) (ap (λ l. l ++ more) part.is ∙ append_assoc part.front part.rest more)
      ∙ sym (append_assoc moves.front part.front (part.rest ++ more));
  written = Appends-trans old mid new moves.front part.front moves.written part.written;
}

front-out : (old mid new : Option (List ℕ)) (whole rest more : List ℕ) → Moves old mid whole (rest ++ more)
    → Appends mid new rest → AppendsFront old new whole
front-out old mid new whole rest more moves written = record {
  front = moves.front ++ rest;
  rest = more;
  is = moves.is ∙ sym (append_assoc moves.front rest more);
  written = Appends-trans old mid new moves.front rest moves.written written;
}

part-all : (old mid new : Option (List ℕ)) (whole rest : List ℕ) → Moves old mid whole rest → AppendsPart mid new rest
    → AppendsFront old new whole
part-all old mid new whole rest moves part = record {
  front = moves.front ++ part.front;
  rest = part.rest;
  is = moves.is ∙ ap (λ l. moves.front ++ l) part.is ∙ sym (append_assoc moves.front part.front part.rest);
  written = Appends-trans old mid new moves.front part.front moves.written part.written;
}

by-finish : (answer result : Result Unit WaveFault) (mid new : Option (List ℕ)) (rest : List ℕ)
    (P : Result Unit WaveFault → Type 0) → (is_cut answer ≡ true → new ≡ mid → P answer)
    → (is_cut answer ≡ false → Appends mid new rest → P answer)
    → (is_cut answer ≡ false → AppendsPart mid new rest → P (Err wave.Write))
    → Finishes mid new rest answer result → P result
by-finish answer result mid new rest P cut whole part (inl f) = subst P (sym f.1) (cut f.0 f.2)
by-finish answer result mid new rest P cut whole part (inr f) =
    elim f.1 [ inl w ↦ subst P (sym w.0) (whole f.0 w.1) | inr w ↦ subst P (sym w.0) (part f.0 w.1) ]

pub out-by : (answer result : Result Unit WaveFault) (left : RowsLeft) (text rest : List ℕ) (old mid new : Option (List ℕ))
    → IsPushed answer left text rest old mid → Finishes mid new rest answer result
    → IsOut result (behind text left) old new
out-by (Ok done) result left text rest old mid new pushed fin =
    by-finish (Ok done) result mid new rest (λ r. IsOut r (behind text left) old new)
    (λ no same. absurd (cc))
    (λ yes written. (all-out old mid new (text ++ left.text) rest pushed.0 written, pushed.1))
    (λ yes part. part-all old mid new (text ++ left.text) rest pushed.0 part) fin
out-by (Err (wave.Unknown u)) result left text rest old mid new pushed fin =
    by-finish (Err (wave.Unknown u)) result mid new rest
    (λ r. IsOut r (behind text left) old new)
    (λ no same. absurd (cc))
    (λ yes written. (all-out old mid new (text ++ left.text) rest pushed.0 written, pushed.1))
    (λ yes part. part-all old mid new (text ++ left.text) rest pushed.0 part) fin
out-by (Err (wave.Dump line mistake)) result left text rest old mid new pushed fin =
    by-finish (Err (wave.Dump line mistake)) result mid new rest
    (λ r. IsOut r (behind text left) old new)
    (λ no same. absurd (cc))
    (λ yes written. (all-out old mid new (text ++ left.text) rest pushed.0 written, pushed.1))
    (λ yes part. part-all old mid new (text ++ left.text) rest pushed.0 part) fin
out-by (Err (wave.Edges why)) result left text rest old mid new pushed fin =
    by-finish (Err (wave.Edges why)) result mid new rest
    (λ r. IsOut r (behind text left) old new)
    (λ no same. absurd (cc))
    (λ yes written. (all-out old mid new (text ++ left.text) rest pushed.0 written, pushed.1))
    (λ yes part. part-all old mid new (text ++ left.text) rest pushed.0 part) fin
out-by (Err wave.Read) result left text rest old mid new pushed fin =
    by-finish (Err wave.Read) result mid new rest
    (λ r. IsOut r (behind text left) old new)
    (λ no same. absurd (cc))
    (λ yes written. front-out old mid new (text ++ left.text) rest pushed.more pushed.moves written)
    (λ yes part. part-out old mid new (text ++ left.text) rest pushed.more pushed.moves part) fin
out-by (Err wave.Write) result left text rest old mid new pushed fin =
    by-finish (Err wave.Write) result mid new rest
    (λ r. IsOut r (behind text left) old new)
    (λ yes same. subst (λ n. AppendsFront old n (text ++ left.text)) (sym same) pushed)
    (λ no written. absurd (cc)) (λ no part. absurd (cc)) fin
out-by (Err wave.Memory) result left text rest old mid new pushed fin =
    by-finish (Err wave.Memory) result mid new rest
    (λ r. IsOut r (behind text left) old new)
    (λ yes same. subst (λ n. AppendsFront old n (text ++ left.text)) (sym same) pushed)
    (λ no written. absurd (cc)) (λ no part. absurd (cc)) fin
out-by (Err (wave.System f)) result left text rest old mid new pushed fin = absurd pushed
out-by (Err (wave.Keys f)) result left text rest old mid new pushed fin = absurd pushed
out-by (Err (wave.Signal f)) result left text rest old mid new pushed fin = absurd pushed

-- of rows that may be known
pub out-some : (rows : Option RowsLeft) (answer result : Result Unit WaveFault) (text rest : List ℕ)
    (old mid new : Option (List ℕ)) → IfSome rows (λ left. IsPushed answer left text rest old mid)
    → Finishes mid new rest answer result
    → IfSome rows (λ left. IsOut result (behind text left) old new)
out-some None answer result text rest old mid new pushed fin = tt
out-some (Some left) answer result text rest old mid new pushed fin =
    out-by answer result left text rest old mid new pushed fin

-- nothing was written, since memory was refused before
none-out : (rows : Option RowsLeft) (at : Option (List ℕ)) (text : List ℕ)
    → IfSome rows (λ left. IsOut (Err wave.Memory) (behind text left) at at)
none-out None at text = tt
none-out (Some left) at text = record { front = []; rest = text ++ left.text; is = refl; written = Appends-nil at }

pub out-none : (rows : Option RowsLeft) (result : Result Unit WaveFault) (at : Option (List ℕ)) (text : List ℕ)
    → IsErrAnd result (λ e. e ≡ wave.Memory)
    → IfSome rows (λ left. IsOut result (behind text left) at at)
out-none rows (Ok done) at text is = absurd is
out-none rows (Err e) at text is =
    subst (λ (f : WaveFault). IfSome rows (λ left. IsOut (Err f) (behind text left) at at))
    (sym is) (none-out rows at text)
