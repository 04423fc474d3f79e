use Rattle.std.proofs.Common.{◌≡◌, ◌<◌, ◌+◌, ◌∙◌, ℕ, Bool, List, length, take, get_or, refl, sym, ap, subst, arith}
use Rattle.std.proofs.lemmas.Option.{get_or_from_slice_get, slice_get-get_or, slice_get_within}
use Rattle.tl_script.specs.Operations.{job_at}
use Rattle.tl_script.specs.System.{sends}
use Rattle.tl_workers.specs.Start.{AddsArrivals}
use Rattle.tl_workers.proofs.Arrivals.{grown, few_before, wait_adds, send_adds}
use Rattle.tl_workers.proofs.setup.count_sends.Goals as goal
use Rattle.tl_workers.proofs.setup.count_sends.Goals.{else-fill, then-fill}

pub overflow_add-counts : goal.overflow_add-counts
overflow_add-counts c =
    let was = c.loop-number.invariant in
    let port = c.route.result in
    let within : port < length c.loop-number.counts =
    omega (arith, c.route.ensures.in_ports, was.many, c.requires.ports) in
    let from = grown c.args.map.now
    (sends (take c.loop-number.number c.args.jobs.now)) c.args.counts.now c.loop-number.counts port
    (get_or c.loop-number.counts port 0) was (slice_get-get_or c.loop-number.counts port 0 within) in
    omega (
      arith,
      from.2,
      few_before c.args.jobs.now c.loop-number.number,
      c.requires.room port from.0 from.1,
      c.loop-number-test.true,
    )

pub loop-number-preserved : goal.loop-number-preserved
loop-number-preserved c =
    let ranges = c.args.map.now in
    let jobs = c.args.jobs.now in
    let k = c.loop-number.number in
    let ask = c.fill.new.ask in
    let job = job_at c.fill.result ask in
    let counts = c.loop-number.counts in
    let was = c.loop-number.invariant in
    let within : k < length jobs = slice_get_within jobs k job c.fill.ensures.job in
    let here : get_or jobs k job ≡ job = get_or_from_slice_get jobs k job job c.fill.ensures.job in
    elim c.if-fill.branch [
      | else-fill w ↦ subst (λ (l : List ℕ). AddsArrivals ranges (sends (take (k + 1) jobs)) c.args.counts.now l)
          (sym w.counts-is)
          (wait_adds ranges jobs k job within c.args.counts.now counts was
          (here ∙ ap (λ (sends : Bool). job_at sends ask) w.if-fill.false))
      | then-fill w ↦
          let port = w.route.result in
          let inside : port < length counts = omega (arith, w.route.ensures.in_ports, was.many, c.requires.ports) in
          send_adds ranges jobs k job within c.args.counts.now counts was ask port
          (get_or counts port 0) c.if-fill.counts (here ∙ ap (λ (sends : Bool). job_at sends ask) w.if-fill.true)
          (slice_get-get_or counts port 0 inside) ((w.route.ensures.port port).0 refl) w.counts-is
    ]
