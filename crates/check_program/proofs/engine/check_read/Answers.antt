-- The verdict over the dump or the capture, or why the bytes in front were not read.
use Rattle.std.proofs.Common.{◌∙◌, ℕ, List, Some, ap, false, inl, inr, subst, sym, true}
use Rattle.std.specs.Fmt.{option_append}
use Rattle.check_program.specs.Dump.{IsText}
use Rattle.check_program.specs.Engine.{GivenParts}
use Rattle.check_program.specs.Fault.{of_read}
use Rattle.check_program.specs.Front.{begins_dump}
use Rattle.check_program.proofs.FrontLemmas.{dump_by_front, text_of_front}
use Rattle.check_program.proofs.Outcome.{counted_capture, counted_dump, unread, why_unread}
use Rattle.check_program.proofs.engine.check_read.Goals as goal

pub returns-in_err-front-clause-checked : goal.returns-in_err-front-clause-checked
returns-in_err-front-clause-checked g c = λ asked parts images same is.
    let given : GivenParts = record {
      file = c.args.file.now;
      parts = parts;
      images = images;
      capture = g.C.Read.remaining c.args.capture;
    } in
    let fault = c.in_err-front.field-0.0 in
    unread asked given _ _ (of_read fault) c.from_residual.ensures.1 (why_unread asked given is.system is.made fault)

pub returns-then-is_dump-clause-checked : goal.returns-then-is_dump-clause-checked
returns-then-is_dump-clause-checked g c = λ asked parts images same is.
    let known = g.C.Read.remaining c.args.capture in
    let front = c.in_ok-front.front.items in
    let taken = c.in_ok-front.ensures.taken in
    let text = subst (IsText known) (sym (c.chain-text.ensures.bytes
    ∙ ap (λ (f : List ℕ). option_append (Some f) (g.C.Read.remaining c.read_front.new.reader)) c.as_slice.ensures.value))
    (text_of_front known _ front taken) in
    inr (inl (
      dump_by_front known _ front true taken c.in_ok-front.ensures.enough
          (sym c.if-is_dump.true ∙ c.begins_dump-is_dump.ensures ∙ ap begins_dump c.deref.ensures.value),
      c.check_dump.ensures.checked asked parts images known same is text,
    ))

pub returns-then-is_dump-clause-covered : goal.returns-then-is_dump-clause-covered
returns-then-is_dump-clause-covered g c = λ asked parts images same is.
    let known = g.C.Read.remaining c.args.capture in
    let given : GivenParts = record { file = c.args.file.now; parts = parts; images = images; capture = known } in
    let front = c.in_ok-front.front.items in
    let taken = c.in_ok-front.ensures.taken in
    let text = subst (IsText known) (sym (c.chain-text.ensures.bytes
    ∙ ap (λ (f : List ℕ). option_append (Some f) (g.C.Read.remaining c.read_front.new.reader)) c.as_slice.ensures.value))
    (text_of_front known _ front taken) in
    counted_dump asked given _ _ _ (dump_by_front known _ front true taken c.in_ok-front.ensures.enough
    (sym c.if-is_dump.true ∙ c.begins_dump-is_dump.ensures ∙ ap begins_dump c.deref.ensures.value))
    (c.check_dump.ensures.covered asked parts images known same is text)

pub returns-clause-checked : goal.returns-clause-checked
returns-clause-checked g c = λ asked parts images same is.
    let known = g.C.Read.remaining c.args.capture in
    let front = c.in_ok-front.front.items in
    let taken = c.in_ok-front.ensures.taken in
    let text = subst (IsText known) (sym (c.chain-text.ensures.bytes
    ∙ ap (λ (f : List ℕ). option_append (Some f) (g.C.Read.remaining c.read_front.new.reader)) c.as_slice.ensures.value))
    (text_of_front known _ front taken) in
    inl (
      dump_by_front known _ front false taken c.in_ok-front.ensures.enough
          (sym c.if-is_dump.false ∙ c.begins_dump-is_dump.ensures ∙ ap begins_dump c.deref.ensures.value),
      c.check_prepared.ensures.checked asked c.args.file.now parts images known is text,
    )

pub returns-clause-covered : goal.returns-clause-covered
returns-clause-covered g c = λ asked parts images same is.
    let known = g.C.Read.remaining c.args.capture in
    let given : GivenParts = record { file = c.args.file.now; parts = parts; images = images; capture = known } in
    let front = c.in_ok-front.front.items in
    let taken = c.in_ok-front.ensures.taken in
    let text = subst (IsText known) (sym (c.chain-text.ensures.bytes
    ∙ ap (λ (f : List ℕ). option_append (Some f) (g.C.Read.remaining c.read_front.new.reader)) c.as_slice.ensures.value))
    (text_of_front known _ front taken) in
    counted_capture asked given _ _ _ (dump_by_front known _ front false taken c.in_ok-front.ensures.enough
    (sym c.if-is_dump.false ∙ c.begins_dump-is_dump.ensures ∙ ap begins_dump c.deref.ensures.value))
    (c.check_prepared.ensures.covered asked c.args.file.now parts images known is text)
