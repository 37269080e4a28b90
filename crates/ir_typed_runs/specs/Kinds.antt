-- Kinds of values, and the kinds that operations take and give (Language Reference, "Type System").
use Rattle.std.specs.Prelude.{◌≡◌, ◌≤◌, ◌<◌, ⊤, ℕ, ◌^◌, List, [], ◌∷◌}
use Rattle.ir_tree.specs.declared.module.Conv.{Conv}
use Rattle.ir_tree.specs.declared.module.Conv.TheVariants.{Zext, Sext, Trunc}
use Rattle.ir_model.specs.declared.Access.{Access}
use Rattle.ir_model.specs.declared.Access.TheVariants.{I8, I16, I32, I64, Ptr}
use Rattle.ir_model.specs.Values.{Pointer, Value, Integer, Address, Poison, Cell, Unknown, Byte, Part, Answer, Gives, Fails}
use Rattle.ir_model.specs.MemoryFacts.{IsOfBits}
use Rattle.ir_model.specs.Pointers.{Stride, Scaled, Field}
use Rattle.ir_model.specs.Operations.{Operation, Binary, Compare, Select, Convert, Freeze, Walk}

-- a kind of values: integers of a width, or addresses
pub data Kind : Type 0 where
  OfWidth : (width : ℕ) → Kind
  OfPointer : Kind

-- the widths of integers are 1 to 64 bits
abbrev pub HasWidth : Kind → Type 0
HasWidth (OfWidth width) = (1 ≤ width) × (width ≤ 64)
HasWidth OfPointer = ⊤

-- an address is that of a block, where there are so many, and its distance has 64 bits
pub record IsPointer (blocks : ℕ) (q : Pointer) : Type 0 where
  pub exists : q.block < blocks
  pub distance : q.offset < 2 ^ 64

-- a value is of a kind, where there are so many blocks: a number of the kind's width, an address, or poison
abbrev pub IsOfKind : ℕ → Kind → Value → Type 0
IsOfKind blocks kind Poison = ⊤
IsOfKind blocks (OfWidth width) (Integer w n) = IsOfBits width w n
IsOfKind blocks (OfWidth width) (Address q) = ⊥
IsOfKind blocks OfPointer (Integer w n) = ⊥
IsOfKind blocks OfPointer (Address q) = IsPointer blocks q

-- what a byte of memory may hold, where there are so many blocks
abbrev pub IsCell : ℕ → Cell → Type 0
IsCell blocks Unknown = ⊤
IsCell blocks (Byte n) = n < 256
IsCell blocks (Part q k) = IsPointer blocks q × (k < 8)

-- the kind of what an access moves
abbrev pub kind_of : Access → Kind
kind_of I8 = OfWidth 8
kind_of I16 = OfWidth 16
kind_of I32 = OfWidth 32
kind_of I64 = OfWidth 64
kind_of Ptr = OfPointer

-- a conversion leads to a width: extensions to a larger one, truncation to a smaller one
abbrev pub Converts : Conv → ℕ → ℕ → Type 0
Converts Zext from to = from < to
Converts Sext from to = from < to
Converts Trunc from to = to < from

-- the kinds of the indices of steps
abbrev pub index_kinds : List Stride → List Kind
index_kinds [] = []
index_kinds (Scaled width size ∷ strides) = OfWidth width ∷ index_kinds strides
index_kinds (Field offset ∷ strides) = index_kinds strides

-- the kinds of an operation's operands and of its value, a line an operation
abbrev pub HasKinds : Operation → List Kind → Kind → Type 0
HasKinds (Binary operation flags width) ks kind = (ks ≡ OfWidth width ∷ OfWidth width ∷ []) × (kind ≡ OfWidth width)
HasKinds (Compare predicate) ks kind = (of : Kind) × (ks ≡ of ∷ of ∷ []) × (kind ≡ OfWidth 1)
HasKinds Select ks kind = ks ≡ OfWidth 1 ∷ kind ∷ kind ∷ []
HasKinds (Convert conversion from to) ks kind = (ks ≡ OfWidth from ∷ []) × (kind ≡ OfWidth to) × Converts conversion from to
HasKinds Freeze ks kind = ks ≡ kind ∷ []
HasKinds (Walk inbounds strides) ks kind = (ks ≡ OfPointer ∷ index_kinds strides) × (kind ≡ OfPointer)

-- an answer, if it is a value, is of a kind
abbrev pub Answers : ℕ → Kind → Answer → Type 0
Answers blocks kind (Gives v) = IsOfKind blocks kind v
Answers blocks kind (Fails cause) = ⊤
