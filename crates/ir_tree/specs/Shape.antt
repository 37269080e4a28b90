-- What a type, a constant and all else of a module is apart from how names are numbered: its shape, with each name as its bytes.
use Rattle.std.specs.Prelude.{ℕ, ℤ, Bool, List, [], ◌∷◌, Option}
use Rattle.ir_tree.specs.declared.module.Bin.{Bin}
use Rattle.ir_tree.specs.declared.module.Flags.{Flags}
use Rattle.ir_tree.specs.declared.module.Pred.{Pred}
use Rattle.ir_tree.specs.declared.module.Conv.{Conv}

mutual
  -- a type
  pub data TyShape : Type 0 where
    integer : (bits : ℕ) → TyShape
    pointer : TyShape
    void : TyShape
    array : (count : ℕ) (element : TyShape) → TyShape
    structure : (fields : TyShapes) (packed : Bool) → TyShape
    named : (name : List ℕ) → TyShape

  -- types in a row
  pub data TyShapes : Type 0 where
    no_types : TyShapes
    types : (first : TyShape) (rest : TyShapes) → TyShapes

-- the types of a list
abbrev pub ty_row : List TyShape → TyShapes
ty_row [] = no_types
ty_row (t ∷ ts) = types t (ty_row ts)

mutual
  -- a constant
  pub data ConstShape : Type 0 where
    number : (value : ℤ) → ConstShape
    boolean : (value : Bool) → ConstShape
    null : ConstShape
    undef : ConstShape
    poison : ConstShape
    zero_value : ConstShape
    text : (bytes : List ℕ) → ConstShape
    elements : (values : TypedShapes) → ConstShape
    fields : (values : TypedShapes) (packed : Bool) → ConstShape
    global : (name : List ℕ) → ConstShape
    address : (inbounds : Bool) (ty : TyShape) (base : TypedShape) (indices : TypedShapes) → ConstShape

  -- a constant with its type
  pub data TypedShape : Type 0 where
    typed : (ty : TyShape) (value : ConstShape) → TypedShape

  -- constants with their types in a row
  pub data TypedShapes : Type 0 where
    no_values : TypedShapes
    values : (first : TypedShape) (rest : TypedShapes) → TypedShapes

-- the constants of a list
abbrev pub typed_row : List TypedShape → TypedShapes
typed_row [] = no_values
typed_row (v ∷ vs) = values v (typed_row vs)

-- an operand
pub data ValShape : Type 0 where
  local : (name : List ℕ) → ValShape
  fixed : (value : ConstShape) → ValShape

-- an operand with its type
pub record TyValShape : Type 0 where
  pub ty : TyShape
  pub val : ValShape

-- a value that a phi takes, and the block that it comes from
pub record PhiInShape : Type 0 where
  pub val : ValShape
  pub from : List ℕ

-- a case of a switch
pub record CaseShape : Type 0 where
  pub ty : TyShape
  pub value : ℤ
  pub to : List ℕ

-- what an instruction does
pub data BodyShape : Type 0 where
  phi : (ty : TyShape) (inputs : List PhiInShape) → BodyShape
  binary : (operation : Bin) (flags : Flags) (ty : TyShape) (left right : ValShape) → BodyShape
  icmp : (predicate : Pred) (ty : TyShape) (left right : ValShape) → BodyShape
  select : (condition yes no_value : TyValShape) → BodyShape
  convert : (conversion : Conv) (ty : TyShape) (val : ValShape) (to : TyShape) → BodyShape
  freeze : (ty : TyShape) (val : ValShape) → BodyShape
  alloca : (ty : TyShape) (count : ℤ) → BodyShape
  load : (ty : TyShape) (address : TyValShape) → BodyShape
  store : (value address : TyValShape) → BodyShape
  get_element : (inbounds : Bool) (ty : TyShape) (base : TyValShape) (indices : List TyValShape) → BodyShape
  call : (ret : TyShape) (callee : ValShape) (arguments : List TyValShape) → BodyShape
  jump : (to : List ℕ) → BodyShape
  branch : (condition : TyValShape) (yes no_block : List ℕ) → BodyShape
  switch : (value : TyValShape) (otherwise : List ℕ) (cases : List CaseShape) → BodyShape
  return_void : BodyShape
  return_value : (value : TyValShape) → BodyShape
  unreachable : BodyShape

pub record InstShape : Type 0 where
  pub result : Option (List ℕ)
  pub body : BodyShape

pub record BlockShape : Type 0 where
  pub name : List ℕ
  pub insts : List InstShape

pub record ParamShape : Type 0 where
  pub ty : TyShape
  pub name : Option (List ℕ)

pub record FunctionShape : Type 0 where
  pub name : List ℕ
  pub ret : TyShape
  pub params : List ParamShape
  pub blocks : List BlockShape

pub record GlobalShape : Type 0 where
  pub name : List ℕ
  pub constant : Bool
  pub ty : TyShape
  pub init : ConstShape

pub record DeclareShape : Type 0 where
  pub name : List ℕ
  pub ret : TyShape
  pub params : List TyShape

pub record NamedTyShape : Type 0 where
  pub name : List ℕ
  pub ty : TyShape

pub record ModuleShape : Type 0 where
  pub types : List NamedTyShape
  pub globals : List GlobalShape
  pub declares : List DeclareShape
  pub functions : List FunctionShape
