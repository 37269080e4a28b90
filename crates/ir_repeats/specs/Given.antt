-- The names that a function gives, by their numbers and with their offsets, and which of them are given again.
use Rattle.std.specs.Prelude.{◌≡◌, ℕ, ◌<◌, List, [], ◌∷◌, ◌++◌, Option, Some, None, Vec, nat_eq, slice_get, zip, flat_map}
use Rattle.std.specs.List.{list_any}
use Rattle.std.specs.Ordering.{nat_cmp}
use Rattle.std.specs.BTreeSet.{contains}
use Rattle.std.specs.declared.alloc.Global.{Global}
use Rattle.ir_tree.specs.declared.names.NameId.{NameId}
use Rattle.ir_tree.specs.declared.module.Inst.{Inst}
use Rattle.ir_tree.specs.declared.module.Block.{Block}
use Rattle.ir_tree.specs.declared.module.Param.{Param}
use Rattle.ir_tree.specs.declared.module.Function.{Function}
use Rattle.ir_rules.specs.Faults.{IsFirst}
use Rattle.ir_repeats.specs.declared.given.Seen.{Seen}

-- a name that is given, by its number, and the offset at which it is given
pub record GivenId : Type 0 where
  pub number : ℕ
  pub spot : ℕ

-- the name that is given at an offset, if one is
abbrev pub given_id : Option NameId → ℕ → List GivenId
given_id None spot = []
given_id (Some id) spot = record { number = id.0; spot = spot } ∷ []

-- the names of parameters, at the offset of their function
abbrev pub ids_of_params : ℕ → List Param → List GivenId
ids_of_params spot params = flat_map (λ (p : Param). given_id p.name spot) params

-- the names of results, each at the offset of its instruction
abbrev pub ids_of_insts : List Inst → List ℕ → List GivenId
ids_of_insts insts spots = flat_map (λ (p : Inst × ℕ). given_id p.0.result p.1) (zip insts spots)

-- the label of a block, at the offset of its function, and then the names of results
abbrev pub ids_of_block : ℕ → Block → List ℕ → List GivenId
ids_of_block spot b spots = record { number = b.name.0; spot = spot } ∷ ids_of_insts b.insts.items spots

-- the names that blocks give
abbrev pub ids_of_blocks : ℕ → List Block → List (Vec ℕ Global) → List GivenId
ids_of_blocks spot blocks spots = flat_map (λ (p : Block × Vec ℕ Global). ids_of_block spot p.0 p.1.items) (zip blocks spots)

-- the names that a function gives, in the order of the text
abbrev pub given_ids : Function → ℕ → List (Vec ℕ Global) → List GivenId
given_ids f spot spots = ids_of_params spot f.params.items ++ ids_of_blocks spot f.blocks.items spots

-- one of the names is given again at an offset
pub record IsGivenAgain (given : List GivenId) (at : ℕ) : Type 0 where
  pub first : ℕ
  pub second : ℕ
  pub one : GivenId
  pub other : GivenId
  pub before : first < second
  pub is_first : slice_get given first ≡ Some one
  pub is_second : slice_get given second ≡ Some other
  pub same : one.number ≡ other.number
  pub at_spot : other.spot ≡ at

-- these names were given so far
pub record HasSeen (given : List GivenId) (seen : Seen) : Type 0 where
  pub names : (number : ℕ) → contains nat_cmp seen.names number ≡ list_any (λ g. nat_eq number g.number) given
  pub repeat : IsFirst (IsGivenAgain given) seen.repeat

-- the new state has seen what the old one has, and then these names
abbrev pub Notes : Seen → List GivenId → Seen → Type 0
Notes old given new = (before : List GivenId) → HasSeen before old → HasSeen (before ++ given) new
