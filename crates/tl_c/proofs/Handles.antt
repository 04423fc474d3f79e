-- The machine values of a handle. Assumes `Logic`.
use Rattle.std.proofs.Common.{◌≡◌, ℕ, List, [], ◌∷◌, ◌++◌, refl, subst}
use mathlib.Core.Bool.{Bool, true, false}
use seplogic.Ra.Ura.{Ura}
use mir.Val.{Val, vbool, vstruct, vcons, vnil, of_list, has_ty}
use types.Logic.{Logic, sem}
use base.Logic.{never, fst∗}
use mir.Raw.{raw as bare}
use denote.Memory.{lone}
use Rattle.std.specs.Box.Ownership.{box_owns}
use types.Kit.{Item, Goal, Seq, Step, step, ‵, ◌$◌, move, drop, fsplit, fjoin, fpick, fpack, feq_i, feq_l}
use denote.RattleType.{RattleType, Valss}
use denote.Builtin.{RawPtr, bool}
use denote.RawPtr.{Ptr, block_ptr, null_ptr, ptr_val, in_a_block}
use denote.Steps.{nothing}
use denote.Param.{layout}
use denote.Struct.Struct.{within}
use denote.Struct.Owning.{shape}
use mir.Syntax.{impl, tnil, dnil}
use Rattle.core.proofs.alloc.Calls.{Al, handle_tells}
use Rattle.core.proofs.atomic.Steps.{Ptr-Good}
use Rattle.core.proofs.cell.Inside.{Good}
use Rattle.std.specs.Prelude.{Option, None, Some}
use Rattle.std.specs.contracts.alloc.Global as heap
use Rattle.std.proofs.alloc.Global.TheLaws as heap_laws
use Rattle.std.specs.contracts.impls.GlobalAllocator.TheImpl.{ghosts}
use Rattle.std_alloc.proofs.ResultValues.{and_tt}
use Rattle.tl_c.specs.Handle.{handle_holds}
use Rattle.tl_c.specs.contracts.held.HandleContent as held
use Rattle.tl_c.specs.contracts.handle.Handle as handle
use Rattle.tl_c.proofs.Values.{Loose}

abbrev pub three : Val → Val → Val → Val
three u v w = vstruct (vcons u (vcons v (vcons w vnil)))

abbrev pub R : RattleType
R = held.the_row

abbrev pub Z : RattleType
Z = heap.the_row

abbrev pub Open : RattleType
Open = Loose R Z heap_laws.the_row_laws ghosts

abbrev pub Shut : RattleType
Shut = handle.the_row

abbrev al : Al
al = record { row = Z; laws = heap_laws.the_row_laws; g = ghosts; d = impl [] tnil dnil; drops = impl [] tnil dnil }

pub shut_good : (p : Ptr) (y : Bool) (h : Val) → Good (layout Z) h → Good (layout Shut) (three (ptr_val p) (vbool y) h)
shut_good (block_ptr b o) y h fits = (and_tt (has_ty (layout Z) h) fits.0, (tt, (tt, (fits.1, tt))))
shut_good null_ptr y h fits = (and_tt (has_ty (layout Z) h) fits.0, ((Ptr-Good null_ptr).1, (tt, (fits.1, tt))))

module _ {M : Type 1} {𝓤 : Ura M} {𝓛 : Logic 𝓤} {K : Type 0} {Γ : List (Item 𝓤)} {G : Goal 𝓤 𝓛.H} where
  pub shut_out : K → (d : Shut.Denot) (vs : List Val)
      → ((h : Val) → vs ≡ three (ptr_val d.at) (vbool d.live) h ∷ [] → Good (layout Z) h
      → Seq K 𝓛 (‵ (handle_holds R d.alloc d.at d.live d.value) ∷ ‵ (Z.own_val d.alloc (h ∷ [])) ∷ Γ) G)
      → Seq K 𝓛 (‵ (Shut.own_val d vs) ∷ Γ) G
  shut_out t d vs k =
      fsplit t $ fpick t (λ vss. fsplit t $ feq_l t
      (λ ev. fsplit t $ feq_l t (λ ep. fsplit t $ feq_l t
      (λ eb. fsplit t $ handle_tells al t d.alloc vss.1.1.0
      (λ h ea fits. move t (1 ∷ []) $ drop t $ move t (1 ∷ []) $ k h
      (subst (λ (ws : List Val). vs ≡ vstruct (of_list (ptr_val d.at ∷ vbool d.live ∷ (ws ++ []))) ∷ []) ea
      (subst (λ (bs : List Val). vs ≡ vstruct (of_list (ptr_val d.at ∷ (bs ++ (vss.1.1.0 ++ [])))) ∷ []) eb
      (subst (λ (ps : List Val). vs ≡ vstruct (of_list (ps ++ (vss.1.0 ++ (vss.1.1.0 ++ [])))) ∷ []) ep ev))) fits)))))

  pub shut_in : K → (p : Ptr) (y : Bool) (h : Val) (a : Z.Denot) (x : Option R.Denot)
      → Step K 𝓛 (‵ (Shut.own_val (record { at = p; live = y; alloc = a; value = x })
      (three (ptr_val p) (vbool y) h ∷ [])) ∷ Γ) G (‵ (handle_holds R a p y x) ∷ ‵ (Z.own_val a (h ∷ [])) ∷ Γ) G
  shut_in t p y h a x = step (λ s. let v : Val = three (ptr_val p) (vbool y) h in
      nothing t $ move t (2 ∷ 0 ∷ []) $ fjoin t $ feq_i t (List Val) (vbool y ∷ [])
      (vbool y ∷ []) refl $ fjoin t $ feq_i t (List Val) (ptr_val p ∷ []) (ptr_val p ∷ []) refl $ fjoin t $ feq_i t
      (List Val) (v ∷ []) (v ∷ []) refl $ fjoin t $
      fpack t (Valss (RawPtr ∷ bool ∷ heap.the_field.row ∷ []))
      (within (shape handle.the_type) (p, (y, (heap.the_field.into a, tt))) (v ∷ []))
      (ptr_val p ∷ [], (vbool y ∷ [], (h ∷ [], tt))) $ fjoin t $ s)

module _ {M : Type 1} {𝓤 : Ura M} {𝓛 : Logic 𝓤} {K : Type 0} {Γ : List (Item 𝓤)} {G : Goal 𝓤 𝓛.H} where
  pub opened : K → (a : Z.Denot) (p : Ptr) (y : Bool) (x : Option R.Denot)
      → (x ≡ None → y ≡ false → Seq K 𝓛 Γ G)
      → ((b o : ℕ) (e : R.Denot) → x ≡ Some e → y ≡ true → p ≡ block_ptr b o
      → Seq K 𝓛 (‵ (box_owns (ghosts.dealloc_token a) R (block_ptr b o) e) ∷ Γ) G)
      → Seq K 𝓛 (‵ (handle_holds R a p y x) ∷ Γ) G
  opened t a p y None none some = feq_l t (λ e. none refl e)
  opened t a p y (Some x) none some = fsplit t $ feq_l t (λ e.
      in_a_block t p (λ at. box_owns (ghosts.dealloc_token a) R at x)
      (fst∗ 𝓤 (never 𝓤) (sem 𝓛 (ghosts.dealloc_token a (bare (lone R.mir)) null_ptr)))
      (λ b o at. some b o x refl e at))
