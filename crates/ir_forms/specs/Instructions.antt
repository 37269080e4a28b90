-- The form of instructions: where one may stand in a block, and what it is written with.
use Rattle.std.specs.Prelude.{◌≡◌, ℕ, ◌≤◌, Bool, true, false, List, length}
use Rattle.std.specs.List.{AllByRecursion}
use Rattle.ir_tree.specs.Shape.{ValShape, local, fixed, global, TyValShape, BodyShape, phi, binary, icmp, select, convert, freeze, alloca, load, store, get_element, call, jump, branch, switch, return_void, return_value, unreachable}
use Rattle.ir_tree.specs.declared.module.Bin.{Bin}
use Rattle.ir_tree.specs.declared.module.Bin.TheVariants as bins
use Rattle.ir_tree.specs.declared.module.Flags.{Flags}
use Rattle.ir_forms.specs.Types.{HasTyForm, HasConstForm}

-- whether an instruction is a phi
abbrev pub is_phi : BodyShape → Bool
is_phi (phi ty inputs) = true
is_phi (binary operation flags ty left right) = false
is_phi (icmp predicate ty left right) = false
is_phi (select condition met unmet) = false
is_phi (convert conversion ty val to) = false
is_phi (freeze ty val) = false
is_phi (alloca ty count) = false
is_phi (load ty at) = false
is_phi (store value at) = false
is_phi (get_element inbounds ty base indices) = false
is_phi (call ret callee arguments) = false
is_phi (jump to) = false
is_phi (branch condition met unmet) = false
is_phi (switch value otherwise cases) = false
is_phi return_void = false
is_phi (return_value value) = false
is_phi unreachable = false

-- whether an instruction is a terminator: a `br`, a `switch`, a `ret` or `unreachable`
abbrev pub is_terminator : BodyShape → Bool
is_terminator (phi ty inputs) = false
is_terminator (binary operation flags ty left right) = false
is_terminator (icmp predicate ty left right) = false
is_terminator (select condition met unmet) = false
is_terminator (convert conversion ty val to) = false
is_terminator (freeze ty val) = false
is_terminator (alloca ty count) = false
is_terminator (load ty at) = false
is_terminator (store value at) = false
is_terminator (get_element inbounds ty base indices) = false
is_terminator (call ret callee arguments) = false
is_terminator (jump to) = true
is_terminator (branch condition met unmet) = true
is_terminator (switch value otherwise cases) = true
is_terminator return_void = true
is_terminator (return_value value) = true
is_terminator unreachable = true

-- the form of an operand: that of its constant, if it is one
abbrev pub HasValForm : ValShape → Type 0
HasValForm (local name) = Unit {0}
HasValForm (fixed c) = HasConstForm c

-- the form of an operand and of the type that is stated with it
abbrev pub HasTyValForm : TyValShape → Type 0
HasTyValForm v = HasTyForm v.ty × HasValForm v.val

-- an operand is the name of a global or a function
abbrev pub IsGlobalName : ValShape → Type 0
IsGlobalName v = (name : List ℕ) × (v ≡ fixed (global name))

-- an operation has no flags but its own: `nuw` and `nsw` where it may wrap, `exact` where it may drop bits, else none
abbrev pub HasOwnFlags : Bin → Flags → Type 0
HasOwnFlags bins.Add f = f.exact ≡ false
HasOwnFlags bins.Sub f = f.exact ≡ false
HasOwnFlags bins.Mul f = f.exact ≡ false
HasOwnFlags bins.Shl f = f.exact ≡ false
HasOwnFlags bins.Udiv f = (f.nuw ≡ false) × (f.nsw ≡ false)
HasOwnFlags bins.Sdiv f = (f.nuw ≡ false) × (f.nsw ≡ false)
HasOwnFlags bins.Lshr f = (f.nuw ≡ false) × (f.nsw ≡ false)
HasOwnFlags bins.Ashr f = (f.nuw ≡ false) × (f.nsw ≡ false)
HasOwnFlags bins.Urem f = (f.nuw ≡ false) × (f.nsw ≡ false) × (f.exact ≡ false)
HasOwnFlags bins.Srem f = (f.nuw ≡ false) × (f.nsw ≡ false) × (f.exact ≡ false)
HasOwnFlags bins.And f = (f.nuw ≡ false) × (f.nsw ≡ false) × (f.exact ≡ false)
HasOwnFlags bins.Or f = (f.nuw ≡ false) × (f.nsw ≡ false) × (f.exact ≡ false)
HasOwnFlags bins.Xor f = (f.nuw ≡ false) × (f.nsw ≡ false) × (f.exact ≡ false)

-- the form of what an instruction does: that of its types and operands. Besides, a phi has an input, an operation its own flags, and what
-- is called is a name
abbrev pub HasBodyForm : BodyShape → Type 0
HasBodyForm (phi t inputs) = HasTyForm t × (1 ≤ length inputs) × AllByRecursion (λ i. HasValForm i.val) inputs
HasBodyForm (binary operation flags t left right) = HasOwnFlags operation flags × HasTyForm t × HasValForm left × HasValForm right
HasBodyForm (icmp predicate t left right) = HasTyForm t × HasValForm left × HasValForm right
HasBodyForm (select condition met unmet) = HasTyValForm condition × HasTyValForm met × HasTyValForm unmet
HasBodyForm (convert conversion t val to) = HasTyForm t × HasValForm val × HasTyForm to
HasBodyForm (freeze t val) = HasTyForm t × HasValForm val
HasBodyForm (alloca t count) = HasTyForm t
HasBodyForm (load t at) = HasTyForm t × HasTyValForm at
HasBodyForm (store value at) = HasTyValForm value × HasTyValForm at
HasBodyForm (get_element inbounds t base indices) = HasTyForm t × HasTyValForm base × AllByRecursion HasTyValForm indices
HasBodyForm (call ret callee arguments) = HasTyForm ret × IsGlobalName callee × AllByRecursion HasTyValForm arguments
HasBodyForm (jump to) = Unit {0}
HasBodyForm (branch condition met unmet) = HasTyValForm condition
HasBodyForm (switch value otherwise cases) = HasTyValForm value × AllByRecursion (λ c. HasTyForm c.ty) cases
HasBodyForm return_void = Unit {0}
HasBodyForm (return_value value) = HasTyValForm value
HasBodyForm unreachable = Unit {0}
