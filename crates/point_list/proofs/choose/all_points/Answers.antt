use Rattle.std.proofs.Common.{◌≡◌, ◌∙◌, ap, ℕ, length}
use Rattle.std.specs.Prelude.{◌↔◌, Contains}
use Rattle.std.proofs.lemmas.Result.{IfOk-weaker}
use Rattle.rv_inst.specs.Window.{IsWindowPoint}
use Rattle.point_list.specs.Marks.{is_marked, IsMarkedPoint}
use Rattle.point_list.specs.declared.list.Point.{Point}
use Rattle.point_list.proofs.PointsLaws.{windows_exact}
use Rattle.point_list.proofs.choose.all_points.Goals as goal

pub returns-clause-exact : goal.returns-clause-exact
returns-clause-exact c =
    let count : length c.deref.result.now ≡ length c.args.words.now = ap length c.deref.ensures.value ∙ c.in_ok-windows.ensures.len in
    let marked = λ (k r : ℕ). ap (λ marks. is_marked marks k r) c.deref.ensures.value ∙ c.in_ok-windows.ensures.marks k r in
    IfOk-weaker c.marked_points.result (λ points. (p : Point) → Contains points.items p ↔ IsMarkedPoint c.args.base c.deref.result.now p)
    (λ points. (p : Point) → Contains points.items p ↔ IsWindowPoint c.args.words.now c.args.base p.pc p.reg)
    (λ points listed. windows_exact c.args.words.now c.args.base c.deref.result.now points.items count marked listed) c.marked_points.ensures.marked
