-- What was found where the flow at instructions was looked at one by one.
use Rattle.std.proofs.Common.{◌≡◌, ℕ, ◌+◌, ◌<◌, ◌≤◌, ◌⊎◌, inl, inr, length, Option, Some, None, refl, sym, ◌∙◌, ap, subst, arith, slice_get}
use Rattle.std.proofs.lemmas.Bool.{cases_lt}
use Rattle.std.proofs.lemmas.Option.{slice_get_within, same_Some}
use Rattle.std.proofs.lemmas.List.{length-map}
use Rattle.ir_tree.specs.ShapeOf.{module_shape}
use Rattle.ir_tree.specs.declared.module.Function.{Function}
use Rattle.ir_tree.specs.declared.module.Block.{Block}
use Rattle.ir_tree.specs.declared.parsed.Parsed.{Parsed}
use Rattle.ir_rules.specs.Places.{inst_at_place, spot_of}
use Rattle.ir_rules.specs.Values.{inst_at}
use Rattle.ir_rules.specs.Faults.{IsFirst}
use Rattle.ir_proper.specs.FlowRules.{HasProperFlow, FlowFault}
use Rattle.ir_flow.specs.Looks.{IsFoundBy, IsProperAt, HasLooked, AreBefore}
use Rattle.ir_flow.proofs.Rows.{inst_within, block_within}

-- what stands before the next instruction: it, and what stands before it
next_inst : (k b i j c h : ℕ) → AreBefore k b (i + 1) j c h → AreBefore k b i j c h ⊎ ((j ≡ k) × (c ≡ b) × (h ≡ i))
next_inst k b i j c h (inl less) = inl (inl less)
next_inst k b i j c h (inr (same, inl less)) = inl (inr (same, inl less))
next_inst k b i j c h (inr (same, inr (equal, low))) =
    elim (cases_lt h i) [
      | inl less ↦ inl (inr (same, inr (equal, less)))
      | inr least ↦ inr (same, equal, omega arith)
    ]

-- the same that is looked at before an instruction, where nothing is new
pub looked_past : (p : Parsed) (k b i spot : ℕ) (found : Option ℕ) → spot_of p.spots (inst_at_place k b i) ≡ Some spot → IsFoundBy found spot
    → HasLooked p (AreBefore k b i) found → HasLooked p (AreBefore k b (i + 1)) found
looked_past p k b i spot found spotted by looked = record {
  fault = looked.fault;
  all = λ j c h at before e. elim (next_inst k b i j c h before) [
    | inl past ↦ looked.all j c h at past e
    | inr here ↦
        let place : inst_at_place j c h ≡ inst_at_place k b i = cc in
        let same : spot ≡ at = same_Some spot at (sym spotted ∙ ap (spot_of p.spots) (sym place) ∙ e) in
        inr (subst (λ (n : ℕ). IsFoundBy found n) same by)
  ];
}

-- the instruction is proper
pub looked_proper : (p : Parsed) (k b i : ℕ) (found : Option ℕ) → IsProperAt p k b i → HasLooked p (AreBefore k b i) found
    → HasLooked p (AreBefore k b (i + 1)) found
looked_proper p k b i found proper looked = record {
  fault = looked.fault;
  all = λ j c h at before e. elim (next_inst k b i j c h before) [
    | inl past ↦ looked.all j c h at past e
    | inr here ↦ inl (λ f x there inside.
        subst (λ (n : ℕ). HasProperFlow f n h x) (sym here.1)
        (subst (λ (n : ℕ). HasProperFlow f b n x) (sym here.2)
        (proper f x (ap (slice_get (module_shape p.«module»).functions) (sym here.0) ∙ there)
        (ap (λ (n : ℕ). inst_at f b n) (sym here.2) ∙ ap (λ (n : ℕ). inst_at f n h) (sym here.1) ∙ inside))))
  ];
}

-- it isn't, and stands before what was found
pub looked_fault : (p : Parsed) (k b i spot : ℕ) (found : Option ℕ) → (IsFoundBy found spot → ⊥) → spot_of p.spots (inst_at_place k b i) ≡ Some spot
    → FlowFault p spot → HasLooked p (AreBefore k b i) found → HasLooked p (AreBefore k b (i + 1)) (Some spot)
looked_fault p k b i spot found later spotted fault looked = record {
  fault = λ at e. subst (λ (n : ℕ). FlowFault p n) (same_Some spot at e) fault;
  all = λ j c h at before e. elim (next_inst k b i j c h before) [
    | inl past ↦ elim (looked.all j c h at past e) [
      | inl proper ↦ inl proper
      | inr by ↦ inr (
        spot,
        refl,
        elim (cases_lt at spot) [
          | inl less ↦ let low : by.0 ≤ at = by.2 in absurd (later (by.0, by.1, omega arith))
          | inr least ↦ least
        ],
      )
    ]
    | inr here ↦
        let place : inst_at_place j c h ≡ inst_at_place k b i = cc in
        let same : spot ≡ at = same_Some spot at (sym spotted ∙ ap (spot_of p.spots) (sym place) ∙ e) in
        inr (spot, refl, omega arith)
  ];
}

-- fewer instructions, as far as they have spots
looked_all : (p : Parsed) (Among Others : ℕ → ℕ → ℕ → Type 0) (found : Option ℕ)
    → ((k b i at : ℕ) → Others k b i → spot_of p.spots (inst_at_place k b i) ≡ Some at → Among k b i) → HasLooked p Among found → HasLooked p Others found
looked_all p Among Others found each looked =
    record { fault = looked.fault; all = λ k b i at other e. looked.all k b i at (each k b i at other e) e }

-- all instructions of a block
pub block_looked : (p : Parsed) (k b n : ℕ) (f : Function) (x : Block) (found : Option ℕ) → slice_get p.«module».functions.items k ≡ Some f
    → slice_get f.blocks.items b ≡ Some x → length x.insts.items ≤ n → HasLooked p (AreBefore k b n) found → HasLooked p (AreBefore k (b + 1) 0) found
block_looked p k b n f x found there has_block long looked =
    looked_all p (AreBefore k b n) (AreBefore k (b + 1) 0) found
    (λ j c h at before e. elim before [
      | inl less ↦ inl less
      | inr (same, inl low) ↦ elim (cases_lt c b) [
        | inl less ↦ inr (same, inl less)
        | inr least ↦
            let equal : c ≡ b = omega arith in
            let place : inst_at_place j c h ≡ inst_at_place k b h = cc in
            let within = inst_within p k b h at f x there has_block (ap (spot_of p.spots) (sym place) ∙ e) in
            inr (same, inr (equal, omega arith))
      ]
      | inr (same, inr last) ↦ let low : h < 0 = last.1 in absurd (omega arith)
    ])
    looked

-- all blocks of a function
pub function_looked : (p : Parsed) (k n : ℕ) (f : Function) (found : Option ℕ) → slice_get p.«module».functions.items k ≡ Some f
    → length f.blocks.items ≤ n → HasLooked p (AreBefore k n 0) found → HasLooked p (AreBefore (k + 1) 0 0) found
function_looked p k n f found there long looked =
    looked_all p (AreBefore k n 0) (AreBefore (k + 1) 0 0) found
    (λ j c h at before e. elim before [
      | inl low ↦ elim (cases_lt j k) [
        | inl less ↦ inl less
        | inr least ↦
            let equal : j ≡ k = omega arith in
            let place : inst_at_place j c h ≡ inst_at_place k c h = cc in
            let within = block_within p k c h at f there (ap (spot_of p.spots) (sym place) ∙ e) in
            inr (equal, inl (omega arith))
      ]
      | inr (same, inl low) ↦ absurd (omega arith)
      | inr (same, inr last) ↦ let low : h < 0 = last.1 in absurd (omega arith)
    ])
    looked

-- ---- at the end
-- the instruction of a fault was proper, or an offset was found that isn't after it
fault_found : (p : Parsed) (n : ℕ) (found : Option ℕ) (at : ℕ) → length p.«module».functions.items ≤ n → HasLooked p (AreBefore n 0 0) found → FlowFault p at
    → IsFoundBy found at
fault_found p n found at long looked fault =
    let within : fault.number < length (module_shape p.«module»).functions = slice_get_within _ fault.number fault.function fault.there in
    let many : length (module_shape p.«module»).functions ≡ length p.«module».functions.items = length-map p.«module».functions.items _ in
    elim (looked.all fault.number fault.block fault.index at (inl (omega arith)) fault.at_spot) [
      | inl proper ↦ absurd (fault.wrong (proper fault.function fault.inst fault.there fault.inside))
      | inr by ↦ by
    ]

pub first_found : (p : Parsed) (n : ℕ) (found : Option ℕ) → length p.«module».functions.items ≤ n → HasLooked p (AreBefore n 0 0) found
    → IsFirst (FlowFault p) found
first_found p n None long looked = λ at fault. let by = fault_found p n None at long looked fault in let e : ◌≡◌ {A = Option ℕ} None (Some by.0) = by.1 in cc
first_found p n (Some least) long looked = (
  looked.fault least refl,
  λ other fault.
      let by = fault_found p n (Some least) other long looked fault in
      let same : least ≡ by.0 = same_Some least by.0 by.1 in
      let low : by.0 ≤ other = by.2 in
      omega arith,
)
