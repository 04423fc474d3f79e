-- `loose`, walked.
use Rattle.std.proofs.Common.{◌≡◌, List, [], ◌∷◌, ◌++◌, refl, sym, subst, lit<}
use mathlib.Core.Bool.{Bool, true, false}
use mir.Val.{Val, vptr, vbool, vcons, vnil}
use base.Logic.{SProp, ent, id⊢, emp}
use base.Fml.{ftrue}
use prog.Wp.{WpFn}
use types.Kit.{‵, raw, ◌⊛◌, at_ret, ◌$◌, ◌∵◌, !, qed, by, move, keep, split, fsplit, fjoin, suffices, use0, use1}
use types.Run.{stop, fld, lit, of_opd, no_more, and_then, first, branches, exec, returns, enter}
use types.ByLocal.{alloc_all, pass_all, free_all, look_at, get, get_in, sets, sets_last, env}
use types.Part.{agg, sub, whole}
use types.Match.{live}
use contract.Monad.{fact, fact_i}
use contract.Running.{tables}
use denote.Exit.{yes}
use denote.RattleType.{RattleType, owns}
use denote.Signature.{types_at, type_at, plain}
use denote.RawPtr.{Ptr, block_ptr, ptr_val}
use denote.Steps.{nothing}
use denote.Param.{layout}
use denote.Triple.Walked.{Stays, stay_dropped, walk_of, Goes-dropped}
use Rattle.core.proofs.alloc.Shapes.{after}
use Rattle.core.proofs.atomic.Steps.{Ptr-Good}
use Rattle.core.proofs.cell.Inside.{Good}
use Rattle.core.proofs.option.Made.{Some-of, none_of}
use Rattle.core.specs.declared.option.Option.TheVariants.{None, Some}
use Rattle.std.proofs.raw_atomic.Walks.{proved_at, leaves}
use Rattle.std.specs.contracts.impls.GlobalAllocator.TheImpl.{ghosts}
use Rattle.std.proofs.alloc.Global.TheLaws as heap_laws
use Rattle.std_alloc.proofs.ResultValues.{and_tt}
use Rattle.tl_c.proofs.Values.{both, loose_good, loose_in}
use Rattle.tl_c.proofs.Handles.{three, R, Z, Open, Shut, shut_good, shut_out, opened}
use Rattle.tl_c.specs.contracts.handle.Handle.loose.{ended, clauses}
use Rattle.tl_c.specs.contracts.handle.Handle.loose.Key.{name as #self}
use Rattle.tl_c.proofs.handle.Handle.loose.Statement.{statement}
use Rattle.tl_c.proofs.handle.Handle.loose.Code as code

pub loose_spec : {M : Type 1} → statement M
loose_spec 𝓤 𝓛 𝓜 𝓡 wired =
    let H = 𝓛.H in let 𝓣 = tables 𝓤 H 𝓜 𝓡 𝓡.env in let c = clauses 𝓛 𝓜.mem 𝓡.returns in let fn = code.function in
    let hs : Stays ended.signature.params ended.kept = (stay_dropped (plain (λ _. Shut)) yes, tt) in
    proved_at 𝓛 ended hs c 𝓜 𝓡 (Goes-dropped 𝓛 0 (plain (λ _. Shut)) yes (λ κs x w. refl), tt) #self fn
    (code.unfolded 𝓤 H 𝓜 𝓡 wired) (λ z are.
    let d = z.0.3.0 in let Post : Val → SProp 𝓤 = (walk_of 𝓛 ended hs c).post z in
    let Run : List Val → SProp 𝓤 = λ ws. WpFn 𝓤 H 𝓣.C 𝓣.Λ fn ws Post in
    let Out : RattleType = type_at ended.signature.result z.0.0 in
    qed 𝓛 ((‵ ftrue ⊛ ‵ (owns (types_at ended.signature.params z.0.0) z.0.3 z.0.4)) ∷ raw ((c z.0.0 z.0.3).requires z.1)
    ∷ []) ∵ split ! $ move ! (1 ∷ []) $ fsplit ! $ shut_out ! d z.0.4.0 (λ h ws fits.
    opened ! d.alloc d.at d.live d.value (λ is dead.
    let w : Val = three (ptr_val d.at) (vbool false) h in
    let same : z.0.4.0 ≡ w ∷ [] = subst (λ (y : Bool). z.0.4.0 ≡ three (ptr_val d.at) (vbool y) h ∷ []) dead ws in
    suffices ! (Run (w ∷ [])) (subst (λ (us : List Val). ent 𝓤 (Run (w ∷ [])) (Run us)) (sym (λ i. same i ++ []))
    (id⊢ 𝓤 (Run (w ∷ [])))) $
    enter ! 𝓣.C 𝓣.Λ fn (w ∷ []) Post $ alloc_all !
    (λ l. pass_all ! refl (shut_good d.at false h fits, tt) $ let Ev = env fn.locals l in
    sets ! (of_opd ! (get_in ! (fld ! refl (stop !)) (sub ! 0 refl (whole !)))) refl (Ptr-Good d.at) $ sets !
    (of_opd ! (get_in ! (fld ! refl (stop !)) (sub ! 1 refl (whole !)))) refl (tt, tt) $ sets !
    (of_opd ! (get_in ! (fld ! refl (stop !)) (sub ! 2 refl (whole !)))) refl fits $
    sets ! (of_opd ! (get ! refl)) refl (tt, tt) $ first ! $ branches ! (get ! refl) (λ wrong. absurd wrong) (λ _.
    sets_last ! (agg ! (and_then ! (lit ! tt) (no_more !))) refl
    (tt, (record { fits = lit< tt }, tt)) $ exec ! 𝓣.C 𝓣.Λ Ev (after 5 fn.body) (at_ret Ev Post) $ sets !
    (of_opd ! (get ! refl)) refl (tt, (record { fits = lit< tt }, tt)) $
    use0 𝓛 (raw (fact 𝓤 (d.value ≡ None))) (fact_i 𝓤 (d.value ≡ None) (emp 𝓤) is) $ use0 𝓛
    (‵ (Out.own_val None (live 0 vnil ∷ []))) (none_of 𝓛 Open) $ nothing ! $ nothing ! $ fjoin ! $
    returns ! (look_at ! 0 refl) $ free_all ! refl $ keep ! (4 ∷ 0 ∷ 1 ∷ 2 ∷ []) $ by !
    (leaves 𝓛 ended hs c z (live 0 vnil) None (tt, tt) (tt, tt)))))
    (λ b o x is alive at.
    let w : Val = three (vptr b o) (vbool true) h in
    let same : z.0.4.0 ≡ w ∷ [] =
    subst (λ (y : Bool). z.0.4.0 ≡ three (vptr b o) (vbool y) h ∷ []) alive
    (subst (λ (p : Ptr). z.0.4.0 ≡ three (ptr_val p) (vbool d.live) h ∷ []) at ws) in
    let made : Val = both (vptr b o) h in let typed = loose_good R Z heap_laws.the_row_laws ghosts b o h fits in
    let v₁ : Val = live 1 (vcons made vnil) in
    let r : Open.Denot = record { at = block_ptr b o; alloc = d.alloc; value = x } in
    let good : Good (layout Out) v₁ = (and_tt _ typed.0, (record { fits = lit< tt }, (typed.1, tt))) in
    suffices ! (Run (w ∷ [])) (subst (λ (us : List Val). ent 𝓤 (Run (w ∷ [])) (Run us)) (sym (λ i. same i ++ []))
    (id⊢ 𝓤 (Run (w ∷ [])))) $
    enter ! 𝓣.C 𝓣.Λ fn (w ∷ []) Post $ alloc_all !
    (λ l. pass_all ! refl (shut_good (block_ptr b o) true h fits, tt) $ let Ev = env fn.locals l in
    sets ! (of_opd ! (get_in ! (fld ! refl (stop !)) (sub ! 0 refl (whole !)))) refl (tt, tt) $ sets !
    (of_opd ! (get_in ! (fld ! refl (stop !)) (sub ! 1 refl (whole !)))) refl (tt, tt) $ sets !
    (of_opd ! (get_in ! (fld ! refl (stop !)) (sub ! 2 refl (whole !)))) refl fits $
    sets ! (of_opd ! (get ! refl)) refl (tt, tt) $ first ! $ branches ! (get ! refl) (λ _.
    sets ! (of_opd ! (get ! refl)) refl (tt, tt) $ sets !
    (agg ! (and_then ! (get ! refl) (and_then ! (get ! refl) (no_more !)))) refl typed $ sets_last !
    (agg ! (and_then ! (lit ! tt) (and_then ! (get ! refl) (no_more !)))) refl good $
    exec ! 𝓣.C 𝓣.Λ Ev (after 5 fn.body) (at_ret Ev Post) $ sets !
    (of_opd ! (get ! refl)) refl good $ loose_in R Z heap_laws.the_row_laws ghosts ! b o h d.alloc x $
    use1 𝓛 (‵ (Out.own_val (Some r) (v₁ ∷ []))) (Some-of 𝓛 Open r made) $ use0 𝓛 (raw (fact 𝓤 (d.value ≡ Some x)))
    (fact_i 𝓤 (d.value ≡ Some x) (emp 𝓤) is) $ nothing ! $ nothing ! $ fjoin ! $
    returns ! (look_at ! 0 refl) $ free_all ! refl $ keep ! (3 ∷ 0 ∷ 2 ∷ 1 ∷ []) $ by !
    (leaves 𝓛 ended hs c z v₁ (Some r) (tt, tt) (tt, tt))) (λ wrong. absurd wrong)))))
