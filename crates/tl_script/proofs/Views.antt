-- Values beside the data that they stand for, and tests of text.
use Rattle.std.proofs.Common.{◌≡◌, ℕ, List, [], ◌∷◌, map, refl, ap, false, inl, inr}
use Rattle.std.proofs.lemmas.Bool.{cases_Bool}
pub use Rattle.std.proofs.lemmas.Str.{IsUtf8-from_is_utf8, is_utf8-from_IsUtf8}
use Rattle.std.specs.Str.{IsUtf8, is_utf8}
use Rattle.toml.specs.View.{view, items_view}
use Rattle.toml.specs.declared.value.Value.{Value}
use Rattle.tl_script.specs.Value.{list_of}

pub list_of-view : (vs : List Value) → list_of (items_view vs) ≡ map view vs
list_of-view [] = refl
list_of-view (v ∷ vs) = ap (λ ds. view v ∷ ds) (list_of-view vs)

pub ruleset array_laws = (list_of-view)

pub is_utf8-no : (bs : List ℕ) → ¬ (IsUtf8 bs) → is_utf8 bs ≡ false
is_utf8-no bs broken = elim (cases_Bool (is_utf8 bs)) [ inl e ↦ absurd (broken (IsUtf8-from_is_utf8 bs e)) | inr e ↦ e ]

pub ruleset text_tests = (is_utf8-from_IsUtf8, is_utf8-no)
