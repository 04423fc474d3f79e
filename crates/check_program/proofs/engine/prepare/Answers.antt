-- The judge is that of the system that the parts make, or the first fault is told.
use Rattle.std.proofs.Common.{◌∙◌, ◌+◌, ap, inl, inr, length, map, refl, sym}
use Rattle.check_description.specs.File.{parts_view}
use Rattle.check_watch.specs.Plan.{Layout}
use Rattle.check_program.specs.Fault.{of_system}
use Rattle.check_program.specs.declared.fault.CheckFault.TheVariants as check
use Rattle.check_program.proofs.Failing.{if_err, not_ok, unprepared_by}
use Rattle.check_program.proofs.engine.prepare.Goals as goal

pub returns-in_err-system : goal.returns-in_err-system
returns-in_err-system c =
    let result = c.from_residual.result in
    let fault = c.in_err-system.field-0.0 in
    let is = c.from_residual.ensures.1 in
    record {
      prepared = not_ok _ result (of_system fault) is;
      masters = not_ok _ result (of_system fault) is;
      ports = not_ok _ result (of_system fault) is;
      buses = not_ok _ result (of_system fault) is;
      fault = if_err _ result (of_system fault) is
          (unprepared_by c.args.asked.terms (parts_view c.args.parts) (map (λ image. image.items) c.args.images.now) fault (λ other. inl (c.in_err-system.ensures.fault other)));
    }

pub returns-in_err-coverage : goal.returns-in_err-coverage
returns-in_err-coverage c =
    let result = c.from_residual-in_err-coverage.result in
    let is = c.from_residual-in_err-coverage.ensures.1 in
    record {
      prepared = not_ok _ result check.Memory is;
      masters = not_ok _ result check.Memory is;
      ports = not_ok _ result check.Memory is;
      buses = not_ok _ result check.Memory is;
      fault = if_err _ result check.Memory is tt;
    }

pub returns-in_err-begun : goal.returns-in_err-begun
returns-in_err-begun c =
    let result = c.from_residual-in_err-begun.result in
    let fault = c.in_err-begun.field-0.0 in
    let is = c.from_residual-in_err-begun.ensures.1 in
    record {
      prepared = not_ok _ result (of_system fault) is;
      masters = not_ok _ result (of_system fault) is;
      ports = not_ok _ result (of_system fault) is;
      buses = not_ok _ result (of_system fault) is;
      fault = if_err _ result (of_system fault) is (unprepared_by c.args.asked.terms (parts_view c.args.parts) (map (λ image. image.items) c.args.images.now) fault (λ other.
          inr (c.in_ok-system.system, c.in_ok-system.ensures.made, c.in_err-begun.ensures.fault other)));
    }

pub returns-in_err-judge : goal.returns-in_err-judge
returns-in_err-judge c =
    let result = c.from_residual-in_err-judge.result in
    let is = c.from_residual-in_err-judge.ensures.1 in
    record {
      prepared = not_ok _ result check.Memory is;
      masters = not_ok _ result check.Memory is;
      ports = not_ok _ result check.Memory is;
      buses = not_ok _ result check.Memory is;
      fault = if_err _ result check.Memory is tt;
    }

-- a reset may load something into each port and into the error port
pub before_rows-requires : goal.before_rows-requires
before_rows-requires c =
    let begun = c.in_ok-begun.ensures in
    let is = begun.keeps.some.1 in
    (begun.loads.each begun.keeps.some.0 is).counted ∙ ap (λ (l : Layout). length l.ports + 1) (is.layout ∙ sym begun.layout)

pub returns : goal.returns
returns c =
    let begun = c.in_ok-begun.ensures in
    let judge = c.in_ok-judge.ensures in
    let covered = c.in_ok-coverage.ensures in
    let images = map (λ image. image.items) c.args.images.now in
    let layout = judge.layout ∙ begun.layout in
    record {
      prepared = record {
        system = c.in_ok-system.system;
        made = c.in_ok-system.ensures.made;
        judges = record {
          some = begun.keeps.some;
          each = λ plan is. judge.judges plan (begun.keeps.each plan is) (begun.loads.each plan is) (covered.none_yet c.args.asked.terms images plan is)
              (sym is.within);
        };
        trace = judge.trace;
        complete = judge.asked;
        coverage = judge.covered ∙ covered.asked;
        told = refl;
        names = begun.names;
        masters = begun.masters;
        ports = begun.ports;
        resets = begun.resets;
        numbers = begun.numbers;
      };
      masters = begun.few_masters;
      ports = begun.few_ports;
      buses = record {
        masters = ap (λ (l : Layout). l.master_buses) layout ∙ sym begun.masters;
        ports = ap (λ (l : Layout). l.port_buses) layout ∙ sym begun.ports;
      };
      fault = tt;
    }
