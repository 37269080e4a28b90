use Rattle.std.proofs.Common.{◌≡◌, length, map, replicate, sym, ◌∙◌, ap}
use Rattle.std.proofs.Math.ListN.{length-replicate}
use Rattle.rv_inst.specs.Word.{form_at}
use Rattle.point_list.specs.Walk.{begun_before}
use Rattle.point_list.specs.Marks.{is_marked}
use Rattle.point_list.proofs.MarkLemmas.{written_back, only_windows}
use Rattle.point_list.proofs.WindowLaws.{length_said}
use Rattle.point_list.proofs.choose.window_marks.Goals as goal

pub returns-clause-marks : goal.returns-clause-marks
returns-clause-marks c k r =
    let zeros : c.in_ok-marks.marks.items ≡ replicate (length c.args.words.now) 0 = c.in_ok-marks.ensures.items_if_clones_equal (λ y e. e) in
    let total : length c.in_ok-marks.marks.items ≡ length c.args.words.now = ap length zeros ∙ length-replicate (length c.args.words.now) 0 in
    let same = written_back c.in_ok-marks.marks.len c.mark_windows.new.marks c.in_ok-marks.marks.items (c.in_ok-marks.ensures.len ∙ sym total) (c.mark_windows.auto.marks ∙ ap length c.deref_mut.ensures.value) in
    let marked = only_windows c.deref.result.now c.args.base k r (length c.args.words.now) c.deref_mut.result.now c.mark_windows.new.marks (c.deref_mut.ensures.value ∙ zeros) (c.mark_windows.ensures k r) in
    ap (λ marks. is_marked marks k r) same ∙ marked
    ∙ ap (λ text. begun_before text c.args.base (length text) k r) (c.deref.ensures.value ∙ c.in_ok-text.ensures)
    ∙ ap (λ n. begun_before (map form_at c.args.words.now) c.args.base n k r) (length_said c.args.words.now)
