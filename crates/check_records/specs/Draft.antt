-- A record while it is read. This project's own.
use Rattle.std.specs.Prelude.{◌≡◌, ℕ, ◌+◌, ◌<◌, ◌≤◌, get_or, false, Bool, true, List, [], ◌∷◌, ◌++◌, length, take, Option, Some}
use Rattle.csv.specs.Machine.{Read, field_after, fields_after, is_end, next_record, step}
use Rattle.csv.specs.Reading.{default_config}
use Rattle.csv.specs.Records.{fields_of, partial_of}
use Rattle.csv.specs.declared.parser.State.{State}
use Rattle.csv.specs.declared.parser.Action.{Action}
use Rattle.csv.specs.declared.parser.Action.TheVariants as act
use Rattle.check_records.specs.Machine.{begins_field, state_of}
use Rattle.check_records.specs.Text.{bytes_from}
use Rattle.check_records.specs.declared.draft.TheConstants.{MAX_ROW}
use Rattle.check_records.specs.declared.draft.Draft.{Draft}
use Rattle.check_records.specs.declared.draft.Fed.{Fed}

-- a record that is being read: where the machine stands, the fields that ended, the bytes of the field at hand, and how
-- many bytes it has so far
pub record Partial : Type 0 where
  pub state : State
  pub fields : List (List ℕ)
  pub field : List ℕ
  pub size : ℕ

-- what a draft keeps, as contracts see it: a record that is being read.
abbrev pub partial : Draft → Partial
partial draft = record {
  state = state_of draft.state;
  fields = fields_of draft.columns;
  field = draft.field.items;
  size = draft.size;
}

-- ---- what the bytes to come make of it

-- the record that it becomes, with these bytes to come
abbrev pub becomes : Partial → List ℕ → Option Read
becomes p text = next_record default_config p.state p.fields p.field text

-- how many bytes it then has
abbrev pub full_size : Partial → List ℕ → ℕ
full_size p text = p.size + length (bytes_from p.state text)

-- what a byte does to it
abbrev pub action_at : Partial → ℕ → Action
action_at p byte = (step default_config p.state byte).1

-- it, after a byte that does not end it
abbrev pub text_behind : Partial → ℕ → Partial
text_behind p byte = record {
  state = (step default_config p.state byte).0;
  fields = fields_after (action_at p byte) p.fields p.field;
  field = field_after (action_at p byte) byte p.field;
  size = p.size + 1;
}

-- these bytes make the one of the other, whatever follows them
pub record DraftGoesOn (old : Partial) (bytes : List ℕ) (new : Partial) : Type 0 where
  pub becomes : (rest : List ℕ) → becomes old (bytes ++ rest) ≡ becomes new rest
  pub size : (rest : List ℕ) → full_size old (bytes ++ rest) ≡ full_size new rest

-- these bytes end it, with these fields and so many bytes, whatever follows them
pub record EndsWith (old : Partial) (bytes : List ℕ) (fields : List (List ℕ)) (size : ℕ) : Type 0 where
  pub state : State
  pub becomes : (rest : List ℕ) → becomes old (bytes ++ rest) ≡ Some (fields, state, rest)
  pub has_size : (rest : List ℕ) → full_size old (bytes ++ rest) ≡ size

-- no byte of a field is at hand, and the first of these bytes begins one, or ends an empty one
pub record BeginsField (p : Partial) (text : List ℕ) : Type 0 where
  pub none : p.field ≡ []
  pub some : 0 < length text
  pub begins : begins_field p.state (get_or text 0 0) ≡ true

-- ---- the calls of a draft

-- no part of a field is in its columns, and it has no more bytes than it may
pub record IsDraft (draft : Draft) : Type 0 where
  pub whole : partial_of draft.columns ≡ []
  pub room : length draft.field.items ≤ draft.size
  pub short : draft.size ≤ MAX_ROW

-- a byte ends it, or else it goes on
abbrev pub TakesByte : Draft → ℕ → Draft → Bool → Type 0
TakesByte old byte new true =
    (action_at (partial old) byte ≡ act.EndRecord)
    × (fields_of new.columns ≡ fields_of old.columns ++ (old.field.items ∷ []))
TakesByte old byte new false =
    (is_end (action_at (partial old) byte) ≡ false) × (partial new ≡ text_behind (partial old) byte) × IsDraft new

-- so many bytes of a text end it, with no more bytes than it may have, or else it goes on after all of them
abbrev pub FeedsTo : Draft → List ℕ → Draft → Fed → Bool → Type 0
FeedsTo old text new fed true =
    (size : ℕ) × EndsWith (partial old) (take fed.taken text) (fields_of new.columns) size × (size ≤ MAX_ROW)
FeedsTo old text new fed false = (fed.taken ≡ length text) × DraftGoesOn (partial old) text (partial new) × IsDraft new
