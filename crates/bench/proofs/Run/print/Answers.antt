-- `Run::print` meets its contract: no call is refused, and every one goes further, so that the loop ends past the last visit.
use Rattle.std.proofs.Common.{rules, arith, ◌∙◌, ◌++◌, length, take, sym, ap, length-take-le, append_assoc, ◌<◌}
use Rattle.std.proofs.KnownBytes.{Appends-trans}
use Rattle.verdict.specs.Lists.{Words}
use Rattle.file.specs.File.{file_in}
use Rattle.bench.specs.Known.{text_on}
use Rattle.run.specs.Bench.{visit_count}
use Rattle.run.proofs.Paging.{goes_further, bytes_fit, left_first}
use Rattle.bench.proofs.Printing.{never_refused, page_says, page_leaves, appends_same, begins_after, goes_on, all_there}
use Rattle.bench.proofs.Run.print.Goals as goal

pub unwrap-page-requires : goal.unwrap-page-requires
unwrap-page-requires g c =
    let run = c.loop-next.self in
    let here = c.loop-next-test.true in
    never_refused run.words.now run.begun.accepted run.state.now run.begun.exact c.loop-next.next (omega (arith, here, run.begun.all_visits))
    (length c.loop-next.text) (omega (arith, c.loop-next.invariant.1, c.requires)) c.run.result c.run.ensures.answer

pub slice_bounds-write_whole-end : goal.slice_bounds-write_whole-end
slice_bounds-write_whole-end g c =
    let run = c.loop-next.self in
    let says = page_says run.words.now run.state.now c.loop-next.next (length c.loop-next.text) c.unwrap-page.ensures c.run.ensures.answer in
    omega (arith, bytes_fit run.words.now run.state.now c.loop-next.next c.loop-next.text says c.run.ensures.text c.run.auto.text, c.run.auto.text)

pub slice_bounds-write_whole-end-in-loop-next : goal.slice_bounds-write_whole-end-in-loop-next
slice_bounds-write_whole-end-in-loop-next g c =
    let run = c.loop-next.self in
    let says = page_says run.words.now run.state.now c.loop-next.next (length c.loop-next.text) c.unwrap-page.ensures c.run.ensures.answer in
    let fit = bytes_fit run.words.now run.state.now c.loop-next.next c.loop-next.text says c.run.ensures.text c.run.auto.text in
    sym (length-take-le _ _ (omega (arith, fit, c.run.auto.text)))

pub loop-next-smaller : goal.loop-next-smaller
loop-next-smaller g c =
    let run = c.loop-next.self in
    let here = c.loop-next-test.true in
    let says = page_says run.words.now run.state.now c.loop-next.next (length c.loop-next.text) c.unwrap-page.ensures c.run.ensures.answer in
    let further = goes_further run.words.now run.begun.accepted run.state.now run.begun.exact c.loop-next.next (omega (arith, here, run.begun.all_visits)) (length c.loop-next.text)
    (omega (arith, c.loop-next.invariant.1, c.requires)) says in
    omega (arith, further, here)

pub loop-next-preserved : goal.loop-next-preserved
loop-next-preserved g c =
    let run = c.loop-next.self in
    let (done, written, going) = c.loop-next.invariant.2 in
    let page = take c.unwrap-page.result.bytes c.run.new.text in
    let left = page_leaves run.words.now run.state.now _ c.loop-next.text _ c.loop-next.next c.unwrap-page.ensures c.run.ensures.answer c.run.ensures.state c.run.ensures.text in
    let on = goes_on run.words.now c.args.self.now.state.now run.state.now c.loop-next.next done going run.begun.accepted c.loop-next.text left in
    (search rules, search rules, (done ++ page, Appends-trans _ _ _ done page written c.in_ok-write_whole.ensures.text, append_assoc done page _ ∙ on))

pub returns-in_err-write_whole : goal.returns-in_err-write_whole
returns-in_err-write_whole g c =
    let run = c.loop-next.self in
    let (done, written, going) = c.loop-next.invariant.2 in
    let page = take c.unwrap-page.result.bytes c.run.new.text in
    let left = page_leaves run.words.now run.state.now _ c.loop-next.text _ c.loop-next.next c.unwrap-page.ensures c.run.ensures.answer c.run.ensures.state c.run.ensures.text in
    let on = goes_on run.words.now c.args.self.now.state.now run.state.now c.loop-next.next done going run.begun.accepted c.loop-next.text left in
    let same = ap (λ (ws : Words). text_on (file_in ws) c.args.self.now.state.now) c.loop-next.invariant.0 in
    let begun = begins_after _ _ _ done page _ (on ∙ left_first (file_in run.words.now) c.args.self.now.state.now ∙ same) written c.in_err-write_whole.ensures.text.0 in
    search rules

pub returns : goal.returns
returns g c =
    let run = c.loop-next.self in
    let (done, written, going) = c.loop-next.invariant.2 in
    let past : visit_count (file_in run.words.now) < c.loop-next.next = omega (arith, c.loop-next-test.false, run.begun.all_visits) in
    let same = ap (λ (ws : Words). text_on (file_in ws) c.args.self.now.state.now) c.loop-next.invariant.0 in
    let whole = appends_same _ _ (all_there run.words.now c.args.self.now.state.now run.state.now c.loop-next.next done going past ∙ same) written in
    search rules
