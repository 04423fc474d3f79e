-- The operation that an opcode and a parameter stand for.
use Rattle.std.proofs.Common.{◌≡◌, ℕ, Bool, true, false, ◌==◌, ◌&&◌, List, [], ◌∷◌, if◌then◌else◌, filter, flat_map, refl, sym, eqb-true, subst}
use Rattle.tl_types.specs.Wire.{IsCodeOf, opcode_of, param_of}
use Rattle.tl_types.specs.declared.operation.Arith.TheVariants.{Min, Max, MinU, MaxU, Add}
use Rattle.tl_types.specs.declared.operation.Logic.TheVariants.{Xor, Or, And, Swap}
use Rattle.tl_types.specs.declared.operation.Hint.TheVariants.{PrefetchRead, PrefetchWrite}
use Rattle.tl_types.specs.declared.operation.AskOp.{AskOp}
use Rattle.tl_types.specs.declared.operation.AskOp.TheVariants.{PutFull, PutPartial, Arithmetic, Logical, Get, Intent}
use Rattle.tl_text.specs.Name.{all_operations, operation_word}
use Rattle.check_lines.specs.Target.{has_codes, name_text}

own_name : (op : AskOp) → operation_word op ≡ name_text (opcode_of op) (param_of op)
unfolding name_text
own_name Get = refl
own_name PutFull = refl
own_name PutPartial = refl
own_name (Arithmetic Min) = refl
own_name (Arithmetic Max) = refl
own_name (Arithmetic MinU) = refl
own_name (Arithmetic MaxU) = refl
own_name (Arithmetic Add) = refl
own_name (Logical Xor) = refl
own_name (Logical Or) = refl
own_name (Logical And) = refl
own_name (Logical Swap) = refl
own_name (Intent PrefetchRead) = refl
own_name (Intent PrefetchWrite) = refl

pub named : (op : AskOp) (opcode param : ℕ) → IsCodeOf op opcode param → operation_word op ≡ name_text opcode param
named op opcode param codes =
    let P : ℕ → ℕ → Type 0 = λ o p. operation_word op ≡ name_text o p in
    subst (λ p. P opcode p) codes.param_is (subst (λ o. P o (param_of op)) codes.opcode_is (own_name op))

both : (a b : Bool) → (a && b) ≡ true → (a ≡ true) × (b ≡ true)
both true b is = (refl, is)
both false b is = cc

filtered : (opcode param : ℕ) (op : AskOp) (rest : List AskOp) → (IsCodeOf op opcode param → ⊥)
    → filter (has_codes opcode param) rest ≡ [] → filter (has_codes opcode param) (op ∷ rest) ≡ []
filtered opcode param op rest never none = go (has_codes opcode param op) refl
  where
    go : (has : Bool) → has_codes opcode param op ≡ has
        → (if has then op ∷ filter (has_codes opcode param) rest else filter (has_codes opcode param) rest) ≡ []
    go true is =
        let two = both (opcode_of op == opcode) (param_of op == param) is in
        absurd (never (record {
          opcode_is = eqb-true (opcode_of op) opcode two.0;
          param_is = eqb-true (param_of op) param two.1;
        }))
    go false is = none

none_of : (opcode param : ℕ) (ops : List AskOp) → ((op : AskOp) → IsCodeOf op opcode param → ⊥)
    → filter (has_codes opcode param) ops ≡ []
none_of opcode param [] never = refl
none_of opcode param (op ∷ ops) never = filtered opcode param op ops (never op) (none_of opcode param ops never)

pub unnamed : (opcode param : ℕ) → ((op : AskOp) → IsCodeOf op opcode param → ⊥) → [] ≡ name_text opcode param
unfolding name_text
unnamed opcode param never =
    let P : List AskOp → Type 0 = λ ops. [] ≡ flat_map operation_word ops in
    subst P (sym (none_of opcode param all_operations never)) refl
