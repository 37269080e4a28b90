-- What each instruction needs of its types and operands, a line for each.
use Rattle.std.specs.Prelude.{◌≡◌, ℕ, ℤ, pos, ◌*◌, ◌^◌, ◌<◌, ◌≤◌, ◌⊎◌, List, map, Option, Some, None, nat_eq, unsigned_abs}
use Rattle.std.specs.Int.{int_rem_euclid}
use Rattle.std.specs.List.{IsDistinct, AllByRecursion}
use Rattle.ir_tree.specs.Shape.{TyShape, integer, pointer, void, ValShape, local, fixed, global, TyValShape, CaseShape, BodyShape, phi, binary, icmp, select, convert, freeze, alloca, load, store, get_element, call, jump, branch, switch, return_void, return_value, unreachable, NamedTyShape, FunctionShape, ModuleShape}
use Rattle.ir_tree.specs.declared.module.Conv.{Conv}
use Rattle.ir_tree.specs.declared.module.Conv.TheVariants as conv
use Rattle.ir_layout.specs.declared.sizes.Layout.{Layout}
use Rattle.ir_layout.specs.Layout.{most_size}
use Rattle.ir_layout.specs.Rules.{HasLayout, IsSized}
use Rattle.ir_rules.specs.declared.Callee.{Callee}
use Rattle.ir_rules.specs.Constants.{IsInteger, IsScalar, IsLiteral, HasConst, IsPlain, const_number, WalksBehind}
use Rattle.ir_rules.specs.Values.{value_ty}
use Rattle.ir_rules.specs.Things.{callee_of, signature_of, Signature}

-- where an instruction stands: its module and its function
pub record Around : Type 0 where
  pub within : ModuleShape
  pub function : FunctionShape

-- an operand has the type
abbrev pub HasTy : Around → ValShape → TyShape → Type 0
HasTy a (local name) t = value_ty a.function name ≡ Some t
HasTy a (fixed c) t = HasConst a.within.types c t × IsPlain c t

-- an operand has the type that is stated with it
abbrev pub Fits : Around → TyValShape → Type 0
Fits a x = HasTy a x.val x.ty

-- an operand is stated to have the type, and has it
abbrev pub FitsAs : Around → TyValShape → TyShape → Type 0
FitsAs a x t = (x.ty ≡ t) × HasTy a x.val t

-- the types of what is loaded and stored
abbrev pub IsStorable : TyShape → Type 0
IsStorable t = (t ≡ integer 8) ⊎ (t ≡ integer 16) ⊎ (t ≡ integer 32) ⊎ (t ≡ integer 64) ⊎ (t ≡ pointer)

-- an extension leads from fewer bits to more, a truncation from more to fewer
abbrev pub Changes : Conv → ℕ → ℕ → Type 0
Changes conv.Zext from to = from < to
Changes conv.Sext from to = from < to
Changes conv.Trunc from to = to < from

-- a conversion leads from one integer type to the other
abbrev pub Converts : Conv → TyShape → TyShape → Type 0
Converts conversion t u = (from to : ℕ) × (t ≡ integer from) × (u ≡ integer to) × Changes conversion from to

-- so many values of the type are sized together
abbrev pub HasRoom : List NamedTyShape → TyShape → ℤ → Type 0
HasRoom ts t count = (n : ℕ) × (l : Layout) × (count ≡ pos n) × HasLayout ts t l × (n * l.size ≤ most_size)

-- the number of an index, where it is a constant one
abbrev pub val_number : ValShape → Option ℤ
val_number (local name) = None
val_number (fixed c) = const_number c

-- an index is an integer of the type stated with it
abbrev pub IsStep : Around → TyValShape → Type 0
IsStep a x = IsInteger x.ty × Fits a x

-- the bits of a number without a sign
abbrev pub bits_of : ℕ → ℤ → ℕ
bits_of width value = unsigned_abs (int_rem_euclid value (pos (2 ^ width)))

-- a case of a switch on a value of so many bits
abbrev pub IsCase : ℕ → CaseShape → Type 0
IsCase width c = (c.ty ≡ integer width) × IsLiteral c.value c.ty

-- the cases of a switch on a value of so many bits
pub record AreCases (width : ℕ) (cases : List CaseShape) : Type 0 where
  pub each : AllByRecursion (IsCase width) cases
  pub apart : IsDistinct nat_eq (map (λ c. bits_of width c.value) cases)

-- the function that is called has these types
abbrev pub Calls : Around → ValShape → Signature → Type 0
Calls a (local name) s = ⊥
Calls a (fixed c) s = (name : List ℕ) × (callee : Callee) × (c ≡ global name) × (callee_of a.within name ≡ Some callee) × (signature_of a.within callee ≡ Some s)

-- what an instruction needs
abbrev pub IsWellTyped : Around → BodyShape → Type 0
IsWellTyped a (phi t inputs) = IsScalar t × AllByRecursion (λ i. HasTy a i.val t) inputs
IsWellTyped a (binary operation flags t left right) = IsInteger t × HasTy a left t × HasTy a right t
IsWellTyped a (icmp predicate t left right) = IsScalar t × HasTy a left t × HasTy a right t
IsWellTyped a (select condition met unmet) = FitsAs a condition (integer 1) × IsScalar met.ty × Fits a met × FitsAs a unmet met.ty
IsWellTyped a (convert conversion t val to) = IsInteger t × IsInteger to × Converts conversion t to × HasTy a val t
IsWellTyped a (freeze t val) = IsScalar t × HasTy a val t
IsWellTyped a (alloca t count) = HasRoom a.within.types t count
IsWellTyped a (load t at) = IsStorable t × FitsAs a at pointer
IsWellTyped a (store value at) = IsStorable value.ty × Fits a value × FitsAs a at pointer
IsWellTyped a (get_element inbounds t base indices) =
    IsSized a.within.types t × FitsAs a base pointer × AllByRecursion (IsStep a) indices
    × WalksBehind a.within.types t (map (λ i. val_number i.val) indices)
IsWellTyped a (call ret callee arguments) =
    (s : Signature) × Calls a callee s × (ret ≡ s.ret) × (map (λ x. x.ty) arguments ≡ s.params) × AllByRecursion (Fits a) arguments
IsWellTyped a (jump to) = Unit {0}
IsWellTyped a (branch condition met unmet) = FitsAs a condition (integer 1)
IsWellTyped a (switch value otherwise cases) = (width : ℕ) × (value.ty ≡ integer width) × IsInteger value.ty × Fits a value × AreCases width cases
IsWellTyped a return_void = a.function.ret ≡ void
IsWellTyped a (return_value value) = (value.ty ≡ a.function.ret) × IsScalar value.ty × Fits a value
IsWellTyped a unreachable = Unit {0}
