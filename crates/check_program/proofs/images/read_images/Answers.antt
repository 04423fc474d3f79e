-- One image more is that of its port.
use Rattle.std.proofs.Common.{rules, ◌≡◌, ◌++◌, ◌∷◌, [], map, length, inl, refl, arith, Some, slice_get}
use Rattle.std.proofs.lemmas.List.{length-map, length-append}
use Rattle.check_description.specs.Port.{port_view}
use Rattle.check_program.specs.declared.fault.CheckFault.TheVariants.{Memory}
use Rattle.check_program.specs.Images.{IsFaultOfImages, IsImageOf}
use Rattle.check_program.proofs.Fitting.{fault_of_one, fit_none, if_err, one_more, seen_at}
use Rattle.check_program.proofs.images.read_images.Goals as goal

pub returns-in_err-images-clause-fault : goal.returns-in_err-images-clause-fault
returns-in_err-images-clause-fault g c =
    if_err c.from_residual.result (IsFaultOfImages (map port_view c.args.parts.now.ports.items)) Memory
    c.from_residual.ensures.1 (inl refl)

pub loop-number-init : goal.loop-number-init
loop-number-init g c =
    rw c.in_ok-images.ensures.items (
      refl,
      fit_none (IsImageOf (g.F.ImageFiles.opens c.args.files.now) g.F.File.Read.remaining c.args.system.now)
          (map port_view c.deref-port-items.result.now),
    )

pub returns-in_err-image-clause-fault : goal.returns-in_err-image-clause-fault
returns-in_err-image-clause-fault g c =
    let ports = c.deref-port-items.result.now in
    let port = c.port-item.result in
    let fault = c.in_err-image.field-0.0 in
    let at : slice_get (map port_view ports) c.loop-number.number ≡ Some (port_view port) =
    seen_at ports c.loop-number.number port c.loop-number-test.true c.port-item.is in
    if_err c.from_residual-in_err-image.result (IsFaultOfImages (map port_view c.args.parts.now.ports.items)) fault
    c.from_residual-in_err-image.ensures.1
    (rw (← c.deref-port-items.ensures.value)
    (fault_of_one (map port_view ports) c.loop-number.number (port_view port) fault at c.in_err-image.ensures.fault))

pub loop-number-preserved : goal.loop-number-preserved
loop-number-preserved g c =
    let ports = c.deref-port-items.result.now in
    let port = c.port-item.result in
    let image = c.in_ok-image.image in
    let images = c.loop-number.images.items in
    let pushed : c.push.new.self.items ≡ images ++ image ∷ [] = search rules in
    let at : slice_get (map port_view ports) c.loop-number.number ≡ Some (port_view port) =
    seen_at ports c.loop-number.number port c.loop-number-test.true c.port-item.is in
    let here : slice_get (map port_view ports) (length images) ≡ Some (port_view port) =
    rw c.loop-number.invariant.0 at in
    rw pushed (
      omega (arith, length-append images (image ∷ []), c.loop-number.invariant.0),
      one_more (IsImageOf (g.F.ImageFiles.opens c.args.files.now) g.F.File.Read.remaining c.args.system.now)
          (map port_view ports) images image (port_view port) c.loop-number.invariant.1 here c.in_ok-image.ensures.ok,
    )

pub returns-clause-ok : goal.returns-clause-ok
returns-clause-ok g c =
    let ports = c.deref-port-items.result.now in
    let images = c.loop-number.images.items in
    rw (← c.deref-port-items.ensures.value) (record {
      counted = omega (
        arith,
        length-map images (λ image. image.items),
        length-map ports port_view,
        c.loop-number.invariant.0,
        c.loop-number.auto.number-end,
        c.loop-number-test.false,
      );
      each = c.loop-number.invariant.1;
    })
