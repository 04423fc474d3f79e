-- A text on its way out.
use Rattle.std.proofs.Common.{◌≡◌, ◌∙◌, ℕ, List, [], ◌++◌, Option, append_assoc, refl, sym, ap, subst}
use Rattle.std.specs.Io.KnownBytes.{Appends}
use Rattle.std.proofs.KnownBytes.{Appends-nil, Appends-trans}
use Rattle.tl_streams.specs.Streams.{AppendsPart}
use Rattle.check_text.specs.Out.{Moves, WritesAll, WritesFront, WritesPart, Wrote}

-- nothing is told, and nothing written
pub wrote_none : (P : List ℕ → Type 0) (at : Option (List ℕ)) → P [] → Wrote P at at []
wrote_none P at holds = record { told = []; front = []; holds = holds; is = refl; written = Appends-nil at }

module _ (P : List ℕ → Type 0) (old mid : Option (List ℕ)) (text : List ℕ) (wrote : Wrote P old mid text) where
  -- the text grows by what is told
  pub wrote_more : (Q : List ℕ → Type 0) (more next : List ℕ) → next ≡ text ++ more → Q (wrote.told ++ more)
      → Wrote Q old mid next
  wrote_more Q more next grown holds = record {
    told = wrote.told ++ more;
    front = wrote.front;
    holds = holds;
    is = ap (λ l. l ++ more) wrote.is ∙ append_assoc wrote.front text more ∙ ap (λ l. wrote.front ++ l) (sym grown);
    written = wrote.written;
  }

  -- nothing more is told
  pub wrote_as : (Q : List ℕ → Type 0) (next : List ℕ) → next ≡ text → Q wrote.told → Wrote Q old mid next
  wrote_as Q next same holds =
      record {
        told = wrote.told;
        front = wrote.front;
        holds = holds;
        is = wrote.is ∙ ap (λ l. wrote.front ++ l) (sym same);
        written = wrote.written;
      }

  -- a front of the text is written
  pub wrote_moved : (new : Option (List ℕ)) (left : List ℕ) → Moves mid new text left → Wrote P old new left
  wrote_moved new left moves = record {
    told = wrote.told;
    front = wrote.front ++ moves.front;
    holds = wrote.holds;
    is = wrote.is ∙ ap (λ l. wrote.front ++ l) moves.is ∙ sym (append_assoc wrote.front moves.front left);
    written = Appends-trans old mid new wrote.front moves.front wrote.written moves.written;
  }

  -- all of the text is written
  pub wrote_all : (new : Option (List ℕ)) → Appends mid new text → WritesAll P old new
  wrote_all new written = record {
    told = wrote.told;
    holds = wrote.holds;
    written = subst (λ l. Appends old new l) (sym wrote.is)
        (Appends-trans old mid new wrote.front text wrote.written written);
  }

  -- a write fails
  pub wrote_part : (Q : List ℕ → Type 0) (new : Option (List ℕ)) → AppendsPart mid new text → Q wrote.told
      → WritesPart Q old new
  wrote_part Q new front holds = record {
    told = wrote.told;
    holds = holds;
    written = record {
      front = wrote.front ++ front.front;
      rest = front.rest;
      is = wrote.is ∙ ap (λ l. wrote.front ++ l) front.is ∙ sym (append_assoc wrote.front front.front front.rest);
      short = front.short;
      written = Appends-trans old mid new wrote.front front.front wrote.written front.written;
    };
  }

  -- no more is written
  pub wrote_so_far : (Q : List ℕ → Type 0) → Q wrote.told → WritesFront Q old mid
  wrote_so_far Q holds = record {
    told = wrote.told;
    holds = holds;
    written = record { front = wrote.front; rest = text; is = wrote.is; written = wrote.written };
  }
