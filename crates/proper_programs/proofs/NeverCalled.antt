-- `main` is never called, and it is where the program of a proper module begins.
use Rattle.std.proofs.Common.{◌≡◌, ℕ, ◌+◌, Bool, true, false, List, map, Option, Some, None, refl, sym, ap, subst, ◌∙◌, arith, slice_get}
use Rattle.std.specs.Prelude.{◌≢◌, codes, if◌then◌else◌}
use Rattle.std.specs.Option.{option_map}
use Rattle.std.specs.List.{AllByRecursion}
use Rattle.std.specs.Str.{bytes_eq}
use Rattle.std.proofs.lemmas.Option.{same_Some}
use Rattle.std.proofs.lemmas.Slice.Eq.{bytes_eq-Decides}
use Rattle.ir_tree.specs.Shape.{number, boolean, null, undef, poison, zero_value, text, elements, fields, global, address, ValShape, local, fixed, BodyShape, phi, binary, icmp, select, convert, freeze, alloca, load, store, get_element, call, jump, branch, switch, return_void, return_value, unreachable, FunctionShape, ModuleShape}
use Rattle.ir_rules.specs.declared.Callee.{Callee}
use Rattle.ir_rules.specs.declared.Callee.TheVariants.{Defined, Declared}
use Rattle.ir_rules.specs.Things.{function_of, declare_of, is_outside_name, defined_or, callee_of}
use Rattle.ir_rules.specs.Instructions.{Around}
use Rattle.ir_proper.specs.Proper.{IsProper}
use Rattle.ir_model.specs.Programs.{Call, PutChar, GetChar, Instruction, Block, Function}
use Rattle.ir_program.specs.Operands.{action_of, called, call_of}
use Rattle.ir_program.specs.ProgramOf.{program_function, program_of}
use Rattle.ir_typed_runs.proofs.Lists.{all_mapped}
use Rattle.proper_programs.specs.NeverCalled.{IsNeverCalled, BeginsAtMain}
use Rattle.proper_programs.proofs.Positions.{found_at, all_of}
use Rattle.proper_programs.proofs.CalledKinds.{names_same}
use Rattle.proper_programs.proofs.Bodies.{block_stands, all_blocks, body_has, blocks_have}
use Rattle.proper_programs.proofs.TypedModules.{begins_with}

pub begins_at_main : (m : ModuleShape) → IsProper m → BeginsAtMain m
begins_at_main m proper =
    let begins = begins_with m proper in
    record {
      function = begins.function;
      there = ap (slice_get m.functions) begins.main ∙ begins.there;
      is_main = begins.is_main;
    }

-- a name that calls a defined function isn't `main`, and is the function's
defined_by : (main : Bool) (defined : Option ℕ) (outside : Bool) (declared : Option ℕ) (g : ℕ)
    → (if main then None else defined_or defined (if outside then option_map (λ (k : ℕ). Declared k) declared else None)) ≡ Some (Defined g)
    → (main ≡ false) × (defined ≡ Some g)
defined_by true defined outside declared g e = cc
defined_by false (Some h) outside declared g e = (refl, grind arith)
defined_by false None false declared g e = cc
defined_by false None true None g e = cc
defined_by false None true (Some k) g e = cc

not_both : (b : Bool) → b ≡ true → b ≡ false → ⊥
not_both true passes fails = cc
not_both false passes fails = cc

not_main : (m : ModuleShape) (name : List ℕ) (g : ℕ) (f : FunctionShape) → callee_of m name ≡ Some (Defined g) → slice_get m.functions g ≡ Some f
    → f.name ≡ codes "main" → ⊥
not_main m name g f calls there is_main =
    let parts = defined_by (bytes_eq name (codes "main")) (function_of m name) (is_outside_name name) (declare_of m name) g calls in
    let found = found_at (λ (h : FunctionShape). bytes_eq h.name name) 0 m.functions g parts.1 in
    let place : found.index ≡ g = let e : g ≡ 0 + found.index = found.place in omega arith in
    let at : slice_get m.functions g ≡ Some found.element = subst (λ (n : ℕ). slice_get m.functions n ≡ Some found.element) place found.there in
    let same : found.element ≡ f = same_Some found.element f (sym at ∙ there) in
    let named : f.name ≡ name = ap (λ (h : FunctionShape). h.name) (sym same) ∙ names_same found.element.name name found.passes in
    not_both (bytes_eq name (codes "main")) ((bytes_eq-Decides name (codes "main")).1 (sym named ∙ is_main)) parts.0

module _ (m : ModuleShape) (main : ℕ) (start : FunctionShape) (there : slice_get m.functions main ≡ Some start) (is_main : start.name ≡ codes "main") where
  outside_no_call : (put : Bool) → (if put then PutChar else GetChar) ≢ Call main
  outside_no_call true = λ e. cc
  outside_no_call false = λ e. cc

  same_call : (g h : ℕ) → Call g ≡ Call h → g ≡ h
  same_call g h e = grind arith

  name_no_call : (name : List ℕ) (callee : Option Callee) → callee_of m name ≡ callee → call_of name callee ≢ Call main
  name_no_call name None is = λ e. cc
  name_no_call name (Some (Defined g)) is = λ e.
      not_main m name g start is (subst (λ (n : ℕ). slice_get m.functions n ≡ Some start) (sym (same_call g main e)) there) is_main
  name_no_call name (Some (Declared k)) is = outside_no_call (bytes_eq name (codes "putchar"))

  module _ (f : FunctionShape) where
    abbrev a : Around
    a = record { within = m; function = f }

    callee_no_call : (callee : ValShape) → called a callee ≢ Call main
    callee_no_call (local name) = λ e. cc
    callee_no_call (fixed (number value)) = λ e. cc
    callee_no_call (fixed (boolean value)) = λ e. cc
    callee_no_call (fixed null) = λ e. cc
    callee_no_call (fixed undef) = λ e. cc
    callee_no_call (fixed poison) = λ e. cc
    callee_no_call (fixed zero_value) = λ e. cc
    callee_no_call (fixed (text bytes)) = λ e. cc
    callee_no_call (fixed (elements vs)) = λ e. cc
    callee_no_call (fixed (fields vs packed)) = λ e. cc
    callee_no_call (fixed (global name)) = name_no_call name (callee_of m name) refl
    callee_no_call (fixed (address inbounds u base indices)) = λ e. cc

    action_no_call : (body : BodyShape) → action_of a body ≢ Call main
    action_no_call (phi t inputs) = λ e. cc
    action_no_call (binary operation flags t left right) = λ e. cc
    action_no_call (icmp predicate t left right) = λ e. cc
    action_no_call (select condition met unmet) = λ e. cc
    action_no_call (convert conversion t val to) = λ e. cc
    action_no_call (freeze t val) = λ e. cc
    action_no_call (alloca t count) = λ e. cc
    action_no_call (load t at) = λ e. cc
    action_no_call (store value at) = λ e. cc
    action_no_call (get_element inbounds t base indices) = λ e. cc
    action_no_call (call ret callee arguments) = callee_no_call callee
    action_no_call (jump to) = λ e. cc
    action_no_call (branch condition met unmet) = λ e. cc
    action_no_call (switch value otherwise cases) = λ e. cc
    action_no_call return_void = λ e. cc
    action_no_call (return_value value) = λ e. cc
    action_no_call unreachable = λ e. cc

    function_no_call : AllByRecursion (λ (b : Block). AllByRecursion (λ (x : Instruction). x.action ≢ Call main) b.body) (program_function m f).blocks
    function_no_call =
        blocks_have a (λ (b : Block). AllByRecursion (λ (x : Instruction). x.action ≢ Call main) b.body)
        (λ b x at. body_has a (λ (y : Instruction). y.action ≢ Call main) b (λ i y stands. action_no_call y.body) 0 x.insts (block_stands f b x at))
        0 f.blocks (all_blocks f)

  functions_no_call : AllByRecursion (λ (F : Function). AllByRecursion (λ (b : Block). AllByRecursion (λ (x : Instruction). x.action ≢ Call main) b.body) F.blocks)
      (map (program_function m) m.functions)
  functions_no_call =
      all_mapped (λ (F : Function). AllByRecursion (λ (b : Block). AllByRecursion (λ (x : Instruction). x.action ≢ Call main) b.body) F.blocks)
      (program_function m) m.functions
      (all_of (λ (f : FunctionShape). AllByRecursion (λ (b : Block). AllByRecursion (λ (x : Instruction). x.action ≢ Call main) b.body) (program_function m f).blocks)
      function_no_call m.functions)

never_by : (m : ModuleShape) (main : ℕ) (begins : BeginsAtMain m) → (program_of m).main ≡ main → IsNeverCalled (program_of m) main
unfolding program_of
never_by m main begins is =
    functions_no_call m main begins.function (ap (slice_get m.functions) (sym is) ∙ begins.there) begins.is_main.called_main

pub never_called : (m : ModuleShape) → IsProper m → IsNeverCalled (program_of m) (program_of m).main
never_called m proper = never_by m (program_of m).main (begins_at_main m proper) refl
