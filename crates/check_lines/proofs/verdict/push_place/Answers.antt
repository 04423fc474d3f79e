-- The pieces of the text, one after another, and what a call leaves that fails after some of them.
use Rattle.std.proofs.Common.{◌∙◌, ◌<◌, ◌+◌, ◌++◌, ap, arith, codes, length, length-append, rules, vec_capacity}
use Rattle.std.proofs.lemmas.List.{append_assoc}
use Rattle.std.specs.Fmt.{decimal}
use Rattle.tl_script.proofs.Appended.{on_err}
use Rattle.tl_text.proofs.TextLemmas.{begins_with_itself}
use Rattle.check_lines.specs.Verdict.{channel_text, link_text, unlawful_text}
use Rattle.check_lines.proofs.Growing.{begins_after, grown, grown_by_two}
use Rattle.check_lines.proofs.verdict.push_place.Goals as goal

pub returns-in_err-push_field-clause-ok : goal.returns-in_err-push_field-clause-ok
returns-in_err-push_field-clause-ok c = search rules

pub returns-in_err-push_field-clause-err : goal.returns-in_err-push_field-clause-err
returns-in_err-push_field-clause-err c =
    on_err c.from_residual.result c.in_err-push_field.ensures.err

pub returns-in_err-push_field-clause-room : goal.returns-in_err-push_field-clause-room
returns-in_err-push_field-clause-room c = omega (arith, c.in_err-push_field.ensures.room)

pub returns-in_err-push_field-2-clause-ok : goal.returns-in_err-push_field-2-clause-ok
returns-in_err-push_field-2-clause-ok c = search rules

pub returns-in_err-push_field-2-clause-err : goal.returns-in_err-push_field-2-clause-err
returns-in_err-push_field-2-clause-err c =
    let old = c.args.text.now.items in
    let e1 = c.in_ok-push_field.ensures.ok ∙ append_assoc old _ _ in
    on_err c.from_residual-in_err-push_field-2.result (begins_after old _ _ _ e1 c.in_err-push_field-2.ensures.err)

pub returns-in_err-push_field-2-clause-room : goal.returns-in_err-push_field-2-clause-room
returns-in_err-push_field-2-clause-room c = omega (arith, c.in_ok-push_field.ensures.room, c.in_err-push_field-2.ensures.room)

pub returns-in_err-extend_from_slice-clause-ok : goal.returns-in_err-extend_from_slice-clause-ok
returns-in_err-extend_from_slice-clause-ok c = search rules

pub returns-in_err-extend_from_slice-clause-err : goal.returns-in_err-extend_from_slice-clause-err
returns-in_err-extend_from_slice-clause-err c =
    let old = c.args.text.now.items in
    let e1 = c.in_ok-push_field.ensures.ok ∙ append_assoc old _ _ in
    let e2 = grown_by_two old _ _ _ _ _ e1 c.in_ok-push_field-2.ensures.ok in
    on_err c.from_residual-in_err-extend_from_slice.result (begins_after old _ _ _ e2 (begins_with_itself _ _ c.in_err-extend_from_slice.ensures.items))

pub returns-in_err-extend_from_slice-clause-room : goal.returns-in_err-extend_from_slice-clause-room
returns-in_err-extend_from_slice-clause-room c = omega (arith, c.in_ok-push_field.ensures.room, c.in_ok-push_field-2.ensures.room, c.in_err-extend_from_slice.ensures.capacity)

pub returns-in_err-push_link-clause-ok : goal.returns-in_err-push_link-clause-ok
returns-in_err-push_link-clause-ok c = search rules

pub returns-in_err-push_link-clause-err : goal.returns-in_err-push_link-clause-err
returns-in_err-push_link-clause-err c =
    let old = c.args.text.now.items in
    let e1 = c.in_ok-push_field.ensures.ok ∙ append_assoc old _ _ in
    let e2 = grown_by_two old _ _ _ _ _ e1 c.in_ok-push_field-2.ensures.ok in
    let e3 = grown old _ _ _ _ e2 c.in_ok-extend_from_slice.ensures.items in
    on_err c.from_residual-in_err-push_link.result (begins_after old _ _ _ e3 c.in_err-push_link.ensures.err)

pub returns-in_err-push_link-clause-room : goal.returns-in_err-push_link-clause-room
returns-in_err-push_link-clause-room c = omega (arith, c.in_ok-push_field.ensures.room, c.in_ok-push_field-2.ensures.room, c.in_ok-extend_from_slice.ensures.capacity, c.in_err-push_link.ensures.room)

pub returns-in_err-push_words-clause-ok : goal.returns-in_err-push_words-clause-ok
returns-in_err-push_words-clause-ok c = search rules

pub returns-in_err-push_words-clause-err : goal.returns-in_err-push_words-clause-err
returns-in_err-push_words-clause-err c =
    let old = c.args.text.now.items in
    let e1 = c.in_ok-push_field.ensures.ok ∙ append_assoc old _ _ in
    let e2 = grown_by_two old _ _ _ _ _ e1 c.in_ok-push_field-2.ensures.ok in
    let e3 = grown old _ _ _ _ e2 c.in_ok-extend_from_slice.ensures.items in
    let e4 = grown old _ _ _ _ e3 c.in_ok-push_link.ensures.ok in
    on_err c.from_residual-in_err-push_words.result (begins_after old _ _ _ e4 c.in_err-push_words.ensures.err)

pub returns-in_err-push_words-clause-room : goal.returns-in_err-push_words-clause-room
returns-in_err-push_words-clause-room c = omega (arith, c.in_ok-push_field.ensures.room, c.in_ok-push_field-2.ensures.room, c.in_ok-extend_from_slice.ensures.capacity, c.in_ok-push_link.ensures.room, c.in_err-push_words.ensures.room)

pub returns-clause-ok : goal.returns-clause-ok
unfolding unlawful_text
returns-clause-ok c =
    rw (
      c.in_ok-push_words.ensures.ok,
      c.channel_words.ensures,
      c.in_ok-push_link.ensures.ok,
      c.in_ok-extend_from_slice.ensures.items,
      c.in_ok-push_field-2.ensures.ok,
      c.in_ok-push_field.ensures.ok,
    )
    (simp append_assoc)

pub returns-clause-room : goal.returns-clause-room
returns-clause-room c = omega (arith, c.in_ok-push_field.ensures.room, c.in_ok-push_field-2.ensures.room, c.in_ok-extend_from_slice.ensures.capacity, c.in_ok-push_link.ensures.room, c.in_ok-push_words.ensures.room)

pub returns-in_err-push_field-clause-full : goal.returns-in_err-push_field-clause-full
unfolding unlawful_text
returns-in_err-push_field-clause-full c =
    let old = c.args.text.now.items in
    let row = c.args.row.now in
    let s1 = codes "unlawful: line " ++ decimal row.line in
    let s2 = s1 ++ codes ", time " ++ decimal row.time in
    let s3 = s2 ++ codes ", " in
    let s4 = s3 ++ link_text c.args.names.now row.link in
    let s5 = s4 ++ channel_text row.beat in
    let enough : vec_capacity c.args.text.now < length old + length s5 =
    omega (arith, c.in_err-push_field.ensures.full, length-append (codes "unlawful: line ") (decimal row.line), length-append s1 (codes ", time "), length-append (s1 ++ codes ", time ") (decimal row.time), length-append s2 (codes ", "), length-append s3 (link_text c.args.names.now row.link), length-append s4 (channel_text row.beat)) in
    on_err c.from_residual.result enough

pub returns-in_err-push_field-2-clause-full : goal.returns-in_err-push_field-2-clause-full
unfolding unlawful_text
returns-in_err-push_field-2-clause-full c =
    let old = c.args.text.now.items in
    let row = c.args.row.now in
    let s1 = codes "unlawful: line " ++ decimal row.line in
    let s2 = s1 ++ codes ", time " ++ decimal row.time in
    let s3 = s2 ++ codes ", " in
    let s4 = s3 ++ link_text c.args.names.now row.link in
    let s5 = s4 ++ channel_text row.beat in
    let e1 = c.in_ok-push_field.ensures.ok ∙ append_assoc old _ _ in
    let enough : vec_capacity c.args.text.now < length old + length s5 =
    omega (arith, c.in_err-push_field-2.ensures.full, c.in_ok-push_field.ensures.room, ap length e1, length-append old s1, length-append s1 (codes ", time "), length-append (s1 ++ codes ", time ") (decimal row.time), length-append s2 (codes ", "), length-append s3 (link_text c.args.names.now row.link), length-append s4 (channel_text row.beat)) in
    on_err c.from_residual-in_err-push_field-2.result enough

pub returns-in_err-extend_from_slice-clause-full : goal.returns-in_err-extend_from_slice-clause-full
unfolding unlawful_text
returns-in_err-extend_from_slice-clause-full c =
    let old = c.args.text.now.items in
    let row = c.args.row.now in
    let s1 = codes "unlawful: line " ++ decimal row.line in
    let s2 = s1 ++ codes ", time " ++ decimal row.time in
    let s3 = s2 ++ codes ", " in
    let s4 = s3 ++ link_text c.args.names.now row.link in
    let s5 = s4 ++ channel_text row.beat in
    let e1 = c.in_ok-push_field.ensures.ok ∙ append_assoc old _ _ in
    let e2 = grown_by_two old _ _ _ _ _ e1 c.in_ok-push_field-2.ensures.ok in
    let enough : vec_capacity c.args.text.now < length old + length s5 =
    omega (arith, c.in_err-extend_from_slice.ensures.full, c.in_ok-push_field.ensures.room, c.in_ok-push_field-2.ensures.room, ap length e2, length-append old s2, length-append s2 (codes ", "), length-append s3 (link_text c.args.names.now row.link), length-append s4 (channel_text row.beat)) in
    on_err c.from_residual-in_err-extend_from_slice.result enough

pub returns-in_err-push_link-clause-full : goal.returns-in_err-push_link-clause-full
unfolding unlawful_text
returns-in_err-push_link-clause-full c =
    let old = c.args.text.now.items in
    let row = c.args.row.now in
    let s1 = codes "unlawful: line " ++ decimal row.line in
    let s2 = s1 ++ codes ", time " ++ decimal row.time in
    let s3 = s2 ++ codes ", " in
    let s4 = s3 ++ link_text c.args.names.now row.link in
    let s5 = s4 ++ channel_text row.beat in
    let e1 = c.in_ok-push_field.ensures.ok ∙ append_assoc old _ _ in
    let e2 = grown_by_two old _ _ _ _ _ e1 c.in_ok-push_field-2.ensures.ok in
    let e3 = grown old _ _ _ _ e2 c.in_ok-extend_from_slice.ensures.items in
    let enough : vec_capacity c.args.text.now < length old + length s5 =
    omega (arith, c.in_err-push_link.ensures.full, c.in_ok-push_field.ensures.room, c.in_ok-push_field-2.ensures.room, c.in_ok-extend_from_slice.ensures.capacity, ap length e3, length-append old s3, length-append s3 (link_text c.args.names.now row.link), length-append s4 (channel_text row.beat)) in
    on_err c.from_residual-in_err-push_link.result enough

pub returns-in_err-push_words-clause-full : goal.returns-in_err-push_words-clause-full
unfolding unlawful_text
returns-in_err-push_words-clause-full c =
    let old = c.args.text.now.items in
    let row = c.args.row.now in
    let s1 = codes "unlawful: line " ++ decimal row.line in
    let s2 = s1 ++ codes ", time " ++ decimal row.time in
    let s3 = s2 ++ codes ", " in
    let s4 = s3 ++ link_text c.args.names.now row.link in
    let s5 = s4 ++ channel_text row.beat in
    let e1 = c.in_ok-push_field.ensures.ok ∙ append_assoc old _ _ in
    let e2 = grown_by_two old _ _ _ _ _ e1 c.in_ok-push_field-2.ensures.ok in
    let e3 = grown old _ _ _ _ e2 c.in_ok-extend_from_slice.ensures.items in
    let e4 = grown old _ _ _ _ e3 c.in_ok-push_link.ensures.ok in
    let enough : vec_capacity c.args.text.now < length old + length s5 =
    omega (arith, c.in_err-push_words.ensures.full, c.in_ok-push_field.ensures.room, c.in_ok-push_field-2.ensures.room, c.in_ok-extend_from_slice.ensures.capacity, c.in_ok-push_link.ensures.room, ap length c.channel_words.ensures, ap length e4, length-append old s4, length-append s4 (channel_text row.beat)) in
    on_err c.from_residual-in_err-push_words.result enough
