-- Lists of which each item is a copy.
use Rattle.std.proofs.Common.{◌≡◌, List, [], ◌∷◌, map, refl}
use Rattle.std.specs.List.{AllZip}

-- what a function makes of copies that it does not tell apart
pub mapped : {A B : Type 0} {R : A → A → Type 0} (f : A → B) → ((old new : A) → R old new → f new ≡ f old)
    → (olds news : List A) → AllZip R olds news → map f news ≡ map f olds
mapped f same [] [] all = refl
mapped f same [] (new ∷ news) all = absurd all
mapped f same (old ∷ olds) [] all = absurd all
mapped f same (old ∷ olds) (new ∷ news) all = λ i. same old new all.0 i ∷ mapped f same olds news all.1 i
