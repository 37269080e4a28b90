use Rattle.std.proofs.Common.{◌≡◌, ◌∙◌, ap, ℕ, length}
use Rattle.std.specs.Prelude.{◌↔◌, ◌&&◌, Contains}
use Rattle.std.specs.List.{list_any}
use Rattle.std.proofs.lemmas.Result.{IfOk-weaker}
use Rattle.rv_inst.specs.Window.{IsWindowPoint}
use Rattle.point_list.specs.Marks.{is_marked, is_at, IsMarkedPoint}
use Rattle.point_list.specs.declared.list.Point.{Point}
use Rattle.point_list.proofs.PointsLaws.{chosen_exact}
use Rattle.point_list.proofs.choose.points.Goals as goal

pub returns-clause-exact : goal.returns-clause-exact
returns-clause-exact c =
    let count : length c.deref-2.result.now ≡ length c.args.words.now =
    ap length c.deref-2.ensures.value ∙ c.in_ok-marks.ensures.len ∙ ap length c.deref.ensures.value ∙ c.in_ok-window.ensures.len in
    let marked = λ (k r : ℕ).
    ap (λ marks. is_marked marks k r) c.deref-2.ensures.value ∙ c.in_ok-marks.ensures.marks k r
    ∙ ap (λ b. b && list_any (is_at c.args.base k r) c.args.asked.now) (ap (λ marks. is_marked marks k r) c.deref.ensures.value ∙ c.in_ok-window.ensures.marks k r) in
    IfOk-weaker c.marked_points.result (λ points. (p : Point) → Contains points.items p ↔ IsMarkedPoint c.args.base c.deref-2.result.now p)
    (λ points. (p : Point) → Contains points.items p ↔ (Contains c.args.asked.now p × IsWindowPoint c.args.words.now c.args.base p.pc p.reg))
    (λ points listed. chosen_exact c.args.words.now c.args.base c.args.asked.now c.deref-2.result.now points.items count marked listed) c.marked_points.ensures.marked
