-- A record that is being read, byte by byte.
use Rattle.std.proofs.Common.{◌≡◌, ℕ, suc, ◌+◌, ◌<◌, ◌≤◌, false, List, [], ◌∷◌, ◌++◌, take, drop, length, get_or, refl, sym, ap, ◌∙◌, subst, arith, append_assoc}
use Rattle.std.proofs.lemmas.List.{take_more}
use Rattle.csv.specs.Machine.{is_end, next_record, step}
use Rattle.csv.specs.Reading.{default_config}
use Rattle.csv.specs.declared.parser.Action.TheVariants as act
use Rattle.check_records.specs.Draft.{EndsWith, DraftGoesOn, Partial, action_at, becomes, text_behind, full_size}
use Rattle.check_records.specs.Text.{bytes_from}
use Rattle.check_records.proofs.TextLemmas.{split-at}
use Rattle.check_records.specs.declared.draft.TheConstants.{MAX_ROW}

pub goes-none : (p : Partial) → DraftGoesOn p [] p
goes-none p = record { becomes = λ rest. refl; size = λ rest. refl }

pub goes-trans : (a b c : Partial) (xs ys : List ℕ) → DraftGoesOn a xs b → DraftGoesOn b ys c → DraftGoesOn a (xs ++ ys) c
goes-trans a b c xs ys one two = record {
  becomes = λ rest. ap (becomes a) (append_assoc xs ys rest) ∙ one.becomes (ys ++ rest) ∙ two.becomes rest;
  size = λ rest. ap (full_size a) (append_assoc xs ys rest) ∙ one.size (ys ++ rest) ∙ two.size rest;
}

-- a byte that does not end it
goes-byte : (p : Partial) (byte : ℕ) → is_end (action_at p byte) ≡ false → DraftGoesOn p (byte ∷ []) (text_behind p byte)
unfolding next_record bytes_from
goes-byte p byte on = record { becomes = λ rest. rw on refl; size = λ rest. rw on (omega arith) }

pub goes-more : (p q : Partial) (xs : List ℕ) (byte : ℕ) → DraftGoesOn p xs q → is_end (action_at q byte) ≡ false
    → DraftGoesOn p (xs ++ byte ∷ []) (text_behind q byte)
goes-more p q xs byte so_far on = goes-trans p q (text_behind q byte) xs (byte ∷ []) so_far (goes-byte q byte on)

-- a byte that ends it
ends-byte : (p : Partial) (byte : ℕ) → action_at p byte ≡ act.EndRecord
    → EndsWith p (byte ∷ []) (p.fields ++ (p.field ∷ [])) p.size
unfolding next_record bytes_from
ends-byte p byte end = record {
  state = (step default_config p.state byte).0;
  becomes = λ rest. rw end refl;
  has_size = λ rest. rw end (omega arith);
}

pub ends-behind : (p q : Partial) (xs ys : List ℕ) (fields : List (List ℕ)) (size : ℕ) → DraftGoesOn p xs q
    → EndsWith q ys fields size
    → EndsWith p (xs ++ ys) fields size
ends-behind p q xs ys fields size so_far ends = record {
  state = ends.state;
  becomes = λ rest. ap (becomes p) (append_assoc xs ys rest) ∙ so_far.becomes (ys ++ rest) ∙ ends.becomes rest;
  has_size = λ rest. ap (full_size p) (append_assoc xs ys rest) ∙ so_far.size (ys ++ rest) ∙ ends.has_size rest;
}

pub ends-more : (p q : Partial) (xs : List ℕ) (byte : ℕ) → DraftGoesOn p xs q → action_at q byte ≡ act.EndRecord
    → EndsWith p (xs ++ byte ∷ []) (q.fields ++ (q.field ∷ [])) q.size
ends-more p q xs byte so_far end =
    ends-behind p q xs (byte ∷ []) (q.fields ++ (q.field ∷ [])) q.size so_far (ends-byte q byte end)

-- a byte more than a record may have
pub long-more : (p q : Partial) (xs : List ℕ) (byte : ℕ) (rest : List ℕ) → DraftGoesOn p xs q
    → is_end (action_at q byte) ≡ false → MAX_ROW ≤ q.size
    → MAX_ROW < full_size p (xs ++ (byte ∷ rest))
unfolding bytes_from
long-more p q xs byte rest so_far on full =
    let size = so_far.size (byte ∷ rest) in
    let more : full_size q (byte ∷ rest) ≡ q.size + suc
    (length (bytes_from (step default_config q.state byte).0 rest)) = rw on refl in
    omega (arith, size, more, full)

-- ---- the next byte of a text

pub feed-more : (p q : Partial) (text : List ℕ) (i : ℕ) → i < length text → DraftGoesOn p (take i text) q
    → is_end (action_at q (get_or text i 0)) ≡ false
    → DraftGoesOn p (take (i + 1) text) (text_behind q (get_or text i 0))
feed-more p q text i inside so_far on =
    rw (take_more text i 0 inside) (goes-more p q (take i text) (get_or text i 0) so_far on)

pub feed-ends : (p q : Partial) (text : List ℕ) (i : ℕ) → i < length text → DraftGoesOn p (take i text) q
    → action_at q (get_or text i 0) ≡ act.EndRecord
    → EndsWith p (take (i + 1) text) (q.fields ++ (q.field ∷ [])) q.size
feed-ends p q text i inside so_far end =
    rw (take_more text i 0 inside) (ends-more p q (take i text) (get_or text i 0) so_far end)

pub feed-long : (p q : Partial) (text : List ℕ) (i : ℕ) → i < length text → DraftGoesOn p (take i text) q
    → is_end (action_at q (get_or text i 0)) ≡ false
    → MAX_ROW ≤ q.size → (rest : List ℕ) → MAX_ROW < full_size p (text ++ rest)
feed-long p q text i inside so_far on full rest =
    let parts : text ++ rest ≡ take i text ++ (get_or text i 0 ∷ (drop (i + 1) text ++ rest)) =
    ap (λ (xs : List ℕ). xs ++ rest) (split-at text i inside)
    ∙ append_assoc (take i text) (get_or text i 0 ∷ drop (i + 1) text) rest in
    let long = long-more p q (take i text) (get_or text i 0) (drop (i + 1) text ++ rest) so_far on full in
    subst (λ (xs : List ℕ). MAX_ROW < full_size p xs) (sym parts) long
