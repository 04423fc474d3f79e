-- The judge of a draft, and why no image is too long.
use Rattle.std.proofs.Common.{◌≡◌, ◌≢◌, ◌∙◌, ◌≤◌, List, Some, [], ap, length, map, refl, slice_get, subst, sym, ℕ}
use Rattle.check_description.specs.Port.{Port}
use Rattle.check_description.specs.Ranges.{first_length}
use Rattle.check_keys.specs.declared.fault.SystemFault.{SystemFault}
use Rattle.check_keys.specs.declared.fault.SystemFault.TheVariants.{Memory}
use Rattle.check_description.proofs.BlockLemmas.{error_is}
use Rattle.check_description.specs.Description.{IsFirstFaultOf, Makes}
use Rattle.check_description.specs.File.{Parts}
use Rattle.check_turns.specs.View.{KeepsOrdered}
use Rattle.check_start.specs.Slaves.{image_at, shared_side}
use Rattle.check_start.specs.Loads.{AreLoadsOf}
use Rattle.check_start.specs.Start.{ByThePlan}
use Rattle.tl_c.specs.Draft.{image_bytes}
use Rattle.tl_c.proofs.Drafts.{slaves_are}
use Rattle.tl_c.proofs.making.make_judge.Goals as goal

pub returns-in_err-begun-clause-fault : goal.returns-in_err-begun-clause-fault
returns-in_err-begun-clause-fault c =
    let draft = c.args.draft.now in
    let system = c.in_ok-system.system in
    let fault = c.in_err-begun.field-0.0 in
    let given = map (λ image. image.items) c.deref.result.now in
    let images : given ≡ image_bytes draft.images =
    ap (map (λ image. image.items)) c.deref.ensures.value ∙ c.in_ok-parts.ensures.images in
    let ports : system.ports ≡ draft.parts.ports =
    c.in_ok-system.ensures.made.ports ∙ ap (λ (p : Parts). p.ports) c.in_ok-parts.ensures.parts in
    let fits : (k : ℕ) (said : Port) → slice_get system.ports k ≡ Some said
    → length (image_at given k) ≤ first_length said.ranges =
    λ k said there. (let P : List (List ℕ) → Type 0 = λ l. length (image_at l k) ≤ first_length said.ranges in
    subst P (sym images) (c.copy_parts.ensures.lawful.fits k said
    (subst (λ l. slice_get l k ≡ Some said) ports there))) in
    error_is (λ (fault : SystemFault). fault ≢ Memory → IsFirstFaultOf draft.parts fault) fault
    c.from_residual-in_err-begun.result c.from_residual-in_err-begun.ensures.1
    (λ real. absurd (slaves_are system.rules.corrupt (shared_side c.args.terms.links) c.args.terms.orders given system.ports fits fault (c.in_err-begun.ensures.fault real)))

pub returns-in_err-text-clause-fault : goal.returns-in_err-text-clause-fault
returns-in_err-text-clause-fault c =
    error_is (λ (fault : SystemFault). fault ≢ Memory → IsFirstFaultOf c.args.draft.now.parts fault) Memory
    c.from_residual-in_err-text.result c.from_residual-in_err-text.ensures.1 (λ real. absurd (real refl))

pub returns-clause-ok : goal.returns-clause-ok
returns-clause-ok c =
    let system = c.in_ok-system.system in
    let watch = c.in_ok-begun.begun.watch in
    let images : map (λ image. image.items) c.deref.result.now ≡ image_bytes c.args.draft.now.images =
    ap (map (λ image. image.items)) c.deref.ensures.value ∙ c.in_ok-parts.ensures.images in
    let keeps : ByThePlan c.args.terms system (image_bytes c.args.draft.now.images) (λ plan. KeepsOrdered plan.begins [] watch) =
    (let P : List (List ℕ) → Type 0 = λ l. ByThePlan c.args.terms system l (λ plan. KeepsOrdered plan.begins [] watch) in
    subst P images c.in_ok-begun.ensures.keeps) in
    let loads : ByThePlan c.args.terms system (image_bytes c.args.draft.now.images) (λ plan. AreLoadsOf plan c.in_ok-begun.begun.loads) =
    (let P : List (List ℕ) → Type 0 = λ l. ByThePlan c.args.terms system l (λ plan. AreLoadsOf plan c.in_ok-begun.begun.loads) in
    subst P images c.in_ok-begun.ensures.loads) in
    record {
      whole = c.requires;
      system = system;
      made = (let P : Parts → Type 0 = λ p. Makes p system in subst P c.in_ok-parts.ensures.parts c.in_ok-system.ensures.made);
      begins = record {
        layout = c.in_ok-begun.ensures.layout;
        keeps = keeps;
        pending = record { some = keeps.some; each = λ plan is. c.in_ok-pending.ensures plan.begins (keeps.each plan is) };
        resets = c.in_ok-begun.ensures.resets;
        loads = loads;
        numbers = c.in_ok-begun.ensures.numbers;
        names = c.in_ok-begun.ensures.names;
        requests = refl;
        answered = refl;
        text = c.in_ok-text.ensures.items;
        room = c.in_ok-text.ensures.capacity;
      };
    }
