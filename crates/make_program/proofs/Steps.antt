-- Lists from a place on, and what the types of a module say of its functions and globals.
use Rattle.std.proofs.Common.{◌≡◌, ◌<◌, ◌≤◌, ◌+◌, ℕ, suc, Bool, true, false, List, [], ◌∷◌, ◌++◌, map, drop, take, length, get_or, Option, Some, None, refl, sym, ap, subst, ◌∙◌}
use Rattle.std.specs.Prelude.{slice_get, if◌then◌else◌}
use Rattle.std.specs.Option.{option_and_then}
use Rattle.std.specs.List.{AllByRecursion, position_from}
use Rattle.std.proofs.lemmas.List.{drop_more, drop_all, map-append, take_more}
use Rattle.program_steps.proofs.Alike.{mapped_at, item_there}
use Rattle.ir_tree.specs.Shape.{InstShape, BlockShape, FunctionShape, ModuleShape}
use Rattle.ir_rules.specs.Places.{inst_at_place}
use Rattle.ir_rules.specs.TypeRules.{HasTypes}
use Rattle.ir_rules.specs.Instructions.{IsWellTyped}
use Rattle.program_actions.specs.Around.{AreWellTyped}

-- the first place from one on, where what stands there fits or doesn't
pub found_here : {X : Type 0} (p : X → Bool) (xs : List X) (k : ℕ) (x : X) → k < length xs → get_or xs k x ≡ x → p x ≡ true → position_from p k (drop k xs) ≡ Some k
found_here {X} p xs k x lt is fits =
    let rest = drop (k + 1) xs in
    ap (position_from p k) (drop_more xs k x lt ∙ ap (λ (z : X). z ∷ rest) is) ∙ ap (λ (b : Bool). if b then Some k else position_from p (k + 1) rest) fits

pub found_later : {X : Type 0} (p : X → Bool) (xs : List X) (k : ℕ) (x : X) → k < length xs → get_or xs k x ≡ x → p x ≡ false
    → position_from p k (drop k xs) ≡ position_from p (k + 1) (drop (k + 1) xs)
found_later {X} p xs k x lt is other =
    let rest = drop (k + 1) xs in
    ap (position_from p k) (drop_more xs k x lt ∙ ap (λ (z : X). z ∷ rest) is) ∙ ap (λ (b : Bool). if b then Some k else position_from p (k + 1) rest) other

pub found_nowhere : {X : Type 0} (p : X → Bool) (xs : List X) (k : ℕ) → length xs ≤ k → position_from p k (drop k xs) ≡ None
found_nowhere p xs k past = ap (position_from p k) (drop_all k xs past)

-- what is so at each place is so of all
all_of : {X : Type 0} (P : X → Type 0) (xs : List X) → ((k : ℕ) (x : X) → slice_get xs k ≡ Some x → P x) → AllByRecursion P xs
all_of P [] each = tt
all_of {X} P (x ∷ xs) each = (each 0 x refl, all_of P xs (λ (k : ℕ) (y : X) is. each (suc k) y is))

-- the instructions of a function are well typed
pub well_typed : (m : ModuleShape) (k : ℕ) (f : FunctionShape) → HasTypes m → slice_get m.functions k ≡ Some f → AreWellTyped (record { within = m; function = f })
well_typed m k f types at =
    all_of (λ b. AllByRecursion (λ x. IsWellTyped (record { within = m; function = f }) x.body) b.insts) f.blocks
    (λ (b : ℕ) (block : BlockShape) there. all_of (λ x. IsWellTyped (record { within = m; function = f }) x.body) block.insts
    (λ (i : ℕ) (x : InstShape) here. (types (inst_at_place k b i) f x at (ap (option_and_then (λ (z : BlockShape). slice_get z.insts i)) there ∙ here)).typed))

-- how long a mapped list is, and where something is the first in it
pub mapped_long : {X Y : Type 0} (f : X → Y) (xs : List X) → length (map f xs) ≡ length xs
mapped_long f [] = refl
mapped_long f (x ∷ xs) = ap suc (mapped_long f xs)

pub mapped_first : {X Y : Type 0} (f : X → Y) (p : Y → Bool) (k : ℕ) (xs : List X) → position_from p k (map f xs) ≡ position_from (λ (x : X). p (f x)) k xs
mapped_first f p k [] = refl
mapped_first f p k (x ∷ xs) = ap (λ (o : Option ℕ). if p (f x) then Some k else o) (mapped_first f p (k + 1) xs)

-- what stands at a place of a list, told of a list that is the same
pub item_of : {X : Type 0} (xs ys : List X) (k : ℕ) (x : X) → ys ≡ xs → k < length ys → x ≡ get_or ys k x → (k < length xs) × (get_or xs k x ≡ x)
item_of {X} xs ys k x same lt is = (subst (λ (z : List X). k < length z) same lt, subst (λ (z : List X). get_or z k x ≡ x) same (sym is))

pub mapped_there : {X Y : Type 0} (f : X → Y) (xs : List X) (k : ℕ) (x : X) → k < length xs → get_or xs k x ≡ x → slice_get (map f xs) k ≡ Some (f x)
mapped_there f xs k x lt is = mapped_at f xs k x (item_there xs k x lt is)

pub mapped_more : {X Y Z : Type 0} (f : X → Y) (g : Y → Z) (xs : List X) (k : ℕ) (x : X) → k < length xs → get_or xs k x ≡ x
    → map g (map f (take (k + 1) xs)) ≡ map g (map f (take k xs)) ++ g (f x) ∷ []
mapped_more {X} f g xs k x lt is =
    ap (λ (z : List X). map g (map f z)) (take_more xs k x lt ∙ ap (λ (z : X). take k xs ++ z ∷ []) is)
    ∙ ap (map g) (map-append f (take k xs) (x ∷ [])) ∙ map-append g (map f (take k xs)) (f x ∷ [])

-- bytes and more bytes are bytes
pub all_more : {X : Type 0} (P : X → Type 0) (xs : List X) (x : X) → AllByRecursion P xs → P x → AllByRecursion P (xs ++ x ∷ [])
all_more P [] x all one = (one, tt)
all_more P (y ∷ xs) x all one = (all.0, all_more P xs x all.1 one)
