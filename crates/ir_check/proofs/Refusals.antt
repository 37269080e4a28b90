-- A proper module within the limits isn't refused, and a module is refused for one reason.
use Rattle.std.proofs.Common.{◌≡◌, ℕ, Some, refl, ap, sym, ◌∙◌}
use Rattle.ir_tree.specs.ShapeOf.{module_shape}
use Rattle.ir_tree.specs.declared.parsed.Parsed.{Parsed}
use Rattle.ir_rules.specs.Faults.{NameFault, TypeFault, IsFirst}
use Rattle.ir_proper.specs.declared.Which.{Which}
use Rattle.ir_proper.specs.FlowRules.{HasFlow, FlowFault}
use Rattle.ir_proper.specs.Limits.{most_of, IsWithin, IsFirstPassed}
use Rattle.ir_proper.specs.Proper.{IsProper}
use Rattle.ir_types.proofs.NoFaults.{no_name_fault, no_type_fault, one_first}
use Rattle.ir_limits.proofs.Alone.{never_both, one_first as one_passed}
use Rattle.ir_check.specs.Answers.{IsRefused}
use Rattle.ir_check.specs.declared.error.CheckError.{CheckError}
use Rattle.ir_check.specs.declared.error.CheckError.TheVariants.{Name, Typing, Flow, NoMain, Limit, OutOfMemory}

no_flow_fault : (p : Parsed) (at : ℕ) → HasFlow (module_shape p.«module») → FlowFault p at → ⊥
no_flow_fault p at flow fault = fault.wrong (flow fault.number fault.block fault.index fault.function fault.inst fault.there fault.inside)

-- a proper module within the limits isn't refused
pub not_refused : (p : Parsed) (error : CheckError) → IsProper (module_shape p.«module») → IsWithin (module_shape p.«module») → IsRefused p error
    → error ≡ OutOfMemory
not_refused p (Name at) proper within refused = absurd (no_name_fault p at proper.names refused.0)
not_refused p (Typing at) proper within refused = absurd (no_type_fault p at proper.types refused.1.0)
not_refused p (Flow at) proper within refused = absurd (no_flow_fault p at proper.flow refused.2.0)
not_refused p NoMain proper within refused = absurd (refused.3 proper.main)
not_refused p (Limit which found most) proper within refused = absurd (never_both (module_shape p.«module») which found within refused.1)
not_refused p OutOfMemory proper within refused = refl

same_limit : (which other : Which) (found more most least : ℕ) → which ≡ other → found ≡ more → most ≡ least → Limit which found most ≡ Limit other more least
same_limit which other found more most least one two three = cc

-- a module is refused for one reason
pub one_refusal : (p : Parsed) (one other : CheckError) → IsRefused p one → IsRefused p other → (one ≡ OutOfMemory → ⊥) → (other ≡ OutOfMemory → ⊥)
    → one ≡ other
one_refusal p OutOfMemory other first second has also = absurd (has refl)
one_refusal p (Name at) OutOfMemory first second has also = absurd (also refl)
one_refusal p (Typing at) OutOfMemory first second has also = absurd (also refl)
one_refusal p (Flow at) OutOfMemory first second has also = absurd (also refl)
one_refusal p NoMain OutOfMemory first second has also = absurd (also refl)
one_refusal p (Limit which found most) OutOfMemory first second has also = absurd (also refl)
one_refusal p (Name at) (Name place) first second has also = ap (λ (n : ℕ). Name n) (one_first (NameFault p) at place first second)
one_refusal p (Name at) (Typing place) first second has also = absurd (no_name_fault p at second.0 first.0)
one_refusal p (Name at) (Flow place) first second has also = absurd (no_name_fault p at second.0 first.0)
one_refusal p (Name at) NoMain first second has also = absurd (no_name_fault p at second.0 first.0)
one_refusal p (Name at) (Limit which found most) first second has also = absurd (no_name_fault p at second.0.names first.0)
one_refusal p (Typing at) (Name place) first second has also = absurd (no_name_fault p place first.0 second.0)
one_refusal p (Typing at) (Typing place) first second has also = ap (λ (n : ℕ). Typing n) (one_first (TypeFault p) at place first.1 second.1)
one_refusal p (Typing at) (Flow place) first second has also = absurd (no_type_fault p at second.1 first.1.0)
one_refusal p (Typing at) NoMain first second has also = absurd (no_type_fault p at second.1 first.1.0)
one_refusal p (Typing at) (Limit which found most) first second has also = absurd (no_type_fault p at second.0.types first.1.0)
one_refusal p (Flow at) (Name place) first second has also = absurd (no_name_fault p place first.0 second.0)
one_refusal p (Flow at) (Typing place) first second has also = absurd (no_type_fault p place first.1 second.1.0)
one_refusal p (Flow at) (Flow place) first second has also = ap (λ (n : ℕ). Flow n) (one_first (FlowFault p) at place first.2 second.2)
one_refusal p (Flow at) NoMain first second has also = absurd (no_flow_fault p at second.2 first.2.0)
one_refusal p (Flow at) (Limit which found most) first second has also = absurd (no_flow_fault p at second.0.flow first.2.0)
one_refusal p NoMain (Name place) first second has also = absurd (no_name_fault p place first.0 second.0)
one_refusal p NoMain (Typing place) first second has also = absurd (no_type_fault p place first.1 second.1.0)
one_refusal p NoMain (Flow place) first second has also = absurd (no_flow_fault p place first.2 second.2.0)
one_refusal p NoMain NoMain first second has also = refl
one_refusal p NoMain (Limit which found most) first second has also = absurd (first.3 second.0.main)
one_refusal p (Limit which found most) (Name place) first second has also = absurd (no_name_fault p place first.0.names second.0)
one_refusal p (Limit which found most) (Typing place) first second has also = absurd (no_type_fault p place first.0.types second.1.0)
one_refusal p (Limit which found most) (Flow place) first second has also = absurd (no_flow_fault p place first.0.flow second.2.0)
one_refusal p (Limit which found most) NoMain first second has also = absurd (second.3 first.0.main)
one_refusal p (Limit which found most) (Limit other more least) first second has also =
    let same = one_passed (module_shape p.«module») which other found more first.1 second.1 in
    same_limit which other found more most least same.0 same.1 (first.2 ∙ ap most_of same.0 ∙ sym second.2)
