-- A longer table of names keeps the shape of each constant.
use Rattle.std.proofs.Common.{◌≡◌, ℕ, ◌≤◌, Bool, true, List, [], ◌∷◌, ◌++◌, length, map, refl, sym, ◌∙◌, ap, subst, ltb-true}
use Rattle.std.specs.List.{list_all}
use Rattle.ir_tree.specs.Shape.{ConstShape, TypedShape, elements, fields, global, typed_row}
use Rattle.ir_tree.specs.ShapeOf.{ty_shape, const_step, typed_step, const_shape, typed_shape}
use Rattle.ir_tree.specs.Known.{const_known_step, typed_known_step, const_known, typed_known}
use Rattle.ir_tree.specs.declared.types.Const.{Const}
use Rattle.ir_tree.specs.declared.types.Const.TheOpen as constant
use Rattle.ir_tree.specs.declared.types.Const.TheFolds.{fold-roll-Const, fold-roll-Typed, ind-Const, ind-Typed, map-Const, map-Typed}
use Rattle.ir_tree.specs.declared.types.Typed.{Typed}
use Rattle.ir_tree.proofs.Table.{text_of-append}
use Rattle.ir_tree.proofs.Grows.{and_left, and_right, and_both, below_more, ty_shape-append, ty_known-more}

-- a constant keeps its shape
abbrev pub KeepsConst : List (List ℕ) → List (List ℕ) → Const → Type 0
KeepsConst names more c = const_known (length names) c ≡ true → const_shape (names ++ more) c ≡ const_shape names c

abbrev pub KeepsTyped : List (List ℕ) → List (List ℕ) → Typed → Type 0
KeepsTyped names more t = typed_known (length names) t ≡ true → typed_shape (names ++ more) t ≡ typed_shape names t

-- a constant with a proof beside it
abbrev KeptConst : List (List ℕ) → List (List ℕ) → Type 0
KeptConst names more = (c : Const) × KeepsConst names more c

abbrev KeptTyped : List (List ℕ) → List (List ℕ) → Type 0
KeptTyped names more = (t : Typed) × KeepsTyped names more t

keep_row : (names more : List (List ℕ)) (ts : List (KeptTyped names more))
    → list_all (λ b. b) (map (typed_known (length names)) (map (λ e. e.0) ts)) ≡ true
    → map (typed_shape (names ++ more)) (map (λ e. e.0) ts) ≡ map (typed_shape names) (map (λ e. e.0) ts)
keep_row names more [] h = refl
keep_row names more (t ∷ ts) h =
    let one : typed_shape (names ++ more) t.0 ≡ typed_shape names t.0 = t.1 (and_left _ _ h) in
    let rest : map (typed_shape (names ++ more)) (map (λ e. e.0) ts) ≡ map (typed_shape names) (map (λ e. e.0) ts) =
    keep_row names more ts (and_right _ _ h) in
    cc

-- one layer, with what is known and what is shown of the constants in it
abbrev ConstKnownAt : ℕ → constant.Const-F Const Typed → Type 0
ConstKnownAt n z = const_known_step n (map-Const Const Typed Bool Bool (const_known n) (typed_known n) z) ≡ true

abbrev const_at : List (List ℕ) → constant.Const-F Const Typed → ConstShape
const_at names z = const_step names (map-Const Const Typed ConstShape TypedShape (const_shape names) (typed_shape names) z)

abbrev TypedKnownAt : ℕ → constant.Typed-F Const Typed → Type 0
TypedKnownAt n z = typed_known_step n (map-Typed Const Typed Bool Bool (const_known n) (typed_known n) z) ≡ true

abbrev typed_at : List (List ℕ) → constant.Typed-F Const Typed → TypedShape
typed_at names z = typed_step names (map-Typed Const Typed ConstShape TypedShape (const_shape names) (typed_shape names) z)

keep_const_at : (names more : List (List ℕ)) (y : constant.Const-F (KeptConst names more) (KeptTyped names more))
    → ConstKnownAt (length names) (map-Const (KeptConst names more) (KeptTyped names more) Const Typed (λ e. e.0) (λ e. e.0) y)
    → const_at (names ++ more) (map-Const (KeptConst names more) (KeptTyped names more) Const Typed (λ e. e.0) (λ e. e.0) y)
    ≡ const_at names (map-Const (KeptConst names more) (KeptTyped names more) Const Typed (λ e. e.0) (λ e. e.0) y)
keep_const_at names more (constant.Int value) h = refl
keep_const_at names more (constant.Bool value) h = refl
keep_const_at names more constant.Null h = refl
keep_const_at names more constant.Undef h = refl
keep_const_at names more constant.Poison h = refl
keep_const_at names more constant.Zero h = refl
keep_const_at names more (constant.Text v) h = refl
keep_const_at names more (constant.Array v) h = ap (λ z. elements (typed_row z)) (keep_row names more v.items h)
keep_const_at names more (constant.Struct v packed) h = ap (λ z. fields (typed_row z) packed) (keep_row names more v.items h)
keep_const_at names more (constant.Global id) h = ap global (text_of-append names more id.0 (ltb-true id.0 (length names) h))
keep_const_at names more (constant.Gep inbounds t base v) h =
    let ty : ty_shape (names ++ more) t ≡ ty_shape names t = ty_shape-append names more t (and_left _ _ (and_left _ _ h)) in
    let one : typed_shape (names ++ more) base.value.0 ≡ typed_shape names base.value.0 = base.value.1 (and_right _ _ (and_left _ _ h)) in
    let row : map (typed_shape (names ++ more)) (map (λ e. e.0) v.items) ≡ map (typed_shape names) (map (λ e. e.0) v.items) =
    keep_row names more v.items (and_right _ _ h) in
    cc

keep_typed_at : (names more : List (List ℕ)) (y : constant.Typed-F (KeptConst names more) (KeptTyped names more))
    → TypedKnownAt (length names) (map-Typed (KeptConst names more) (KeptTyped names more) Const Typed (λ e. e.0) (λ e. e.0) y)
    → typed_at (names ++ more) (map-Typed (KeptConst names more) (KeptTyped names more) Const Typed (λ e. e.0) (λ e. e.0) y)
    ≡ typed_at names (map-Typed (KeptConst names more) (KeptTyped names more) Const Typed (λ e. e.0) (λ e. e.0) y)
keep_typed_at names more y h =
    let ty : ty_shape (names ++ more) y.ty ≡ ty_shape names y.ty = ty_shape-append names more y.ty (and_left _ _ h) in
    let one : const_shape (names ++ more) y.value.0 ≡ const_shape names y.value.0 = y.value.1 (and_right _ _ h) in
    cc

keep_const_roll : (names more : List (List ℕ)) (x : constant.Const-F Const Typed) (y : constant.Const-F (KeptConst names more) (KeptTyped names more))
    → map-Const (KeptConst names more) (KeptTyped names more) Const Typed (λ e. e.0) (λ e. e.0) y ≡ x
    → ConstKnownAt (length names) x → const_at (names ++ more) x ≡ const_at names x
keep_const_roll names more x y is =
    subst (λ z. ConstKnownAt (length names) z → const_at (names ++ more) z ≡ const_at names z) is (keep_const_at names more y)

keep_typed_roll : (names more : List (List ℕ)) (x : constant.Typed-F Const Typed) (y : constant.Typed-F (KeptConst names more) (KeptTyped names more))
    → map-Typed (KeptConst names more) (KeptTyped names more) Const Typed (λ e. e.0) (λ e. e.0) y ≡ x
    → TypedKnownAt (length names) x → typed_at (names ++ more) x ≡ typed_at names x
keep_typed_roll names more x y is =
    subst (λ z. TypedKnownAt (length names) z → typed_at (names ++ more) z ≡ typed_at names z) is (keep_typed_at names more y)

-- a constant whose names are known keeps its shape where names are added
pub const_shape-append : (names more : List (List ℕ)) (c : Const) → KeepsConst names more c
const_shape-append names more = ind-Const (KeepsConst names more) (KeepsTyped names more)
    (λ x y is known.
    fold-roll-Const ConstShape TypedShape (const_step (names ++ more)) (typed_step (names ++ more)) x
    ∙ keep_const_roll names more x y is (sym (fold-roll-Const Bool Bool (const_known_step (length names)) (typed_known_step (length names)) x) ∙ known)
    ∙ sym (fold-roll-Const ConstShape TypedShape (const_step names) (typed_step names) x))
    (λ x y is known.
    fold-roll-Typed ConstShape TypedShape (const_step (names ++ more)) (typed_step (names ++ more)) x
    ∙ keep_typed_roll names more x y is (sym (fold-roll-Typed Bool Bool (const_known_step (length names)) (typed_known_step (length names)) x) ∙ known)
    ∙ sym (fold-roll-Typed ConstShape TypedShape (const_step names) (typed_step names) x))

-- so does a constant with its type
pub typed_shape-append : (names more : List (List ℕ)) (t : Typed) → KeepsTyped names more t
typed_shape-append names more = ind-Typed (KeepsConst names more) (KeepsTyped names more)
    (λ x y is known.
    fold-roll-Const ConstShape TypedShape (const_step (names ++ more)) (typed_step (names ++ more)) x
    ∙ keep_const_roll names more x y is (sym (fold-roll-Const Bool Bool (const_known_step (length names)) (typed_known_step (length names)) x) ∙ known)
    ∙ sym (fold-roll-Const ConstShape TypedShape (const_step names) (typed_step names) x))
    (λ x y is known.
    fold-roll-Typed ConstShape TypedShape (const_step (names ++ more)) (typed_step (names ++ more)) x
    ∙ keep_typed_roll names more x y is (sym (fold-roll-Typed Bool Bool (const_known_step (length names)) (typed_known_step (length names)) x) ∙ known)
    ∙ sym (fold-roll-Typed ConstShape TypedShape (const_step names) (typed_step names) x))

-- what is below a count is below a greater one
abbrev pub StaysConst : ℕ → ℕ → Const → Type 0
StaysConst n m c = const_known n c ≡ true → const_known m c ≡ true

abbrev pub StaysTyped : ℕ → ℕ → Typed → Type 0
StaysTyped n m t = typed_known n t ≡ true → typed_known m t ≡ true

abbrev StayConst : ℕ → ℕ → Type 0
StayConst n m = (c : Const) × StaysConst n m c

abbrev StayTyped : ℕ → ℕ → Type 0
StayTyped n m = (t : Typed) × StaysTyped n m t

stay_row : (n m : ℕ) (ts : List (StayTyped n m))
    → list_all (λ b. b) (map (typed_known n) (map (λ e. e.0) ts)) ≡ true → list_all (λ b. b) (map (typed_known m) (map (λ e. e.0) ts)) ≡ true
stay_row n m [] h = refl
stay_row n m (t ∷ ts) h = and_both (t.1 (and_left _ _ h)) (stay_row n m ts (and_right _ _ h))

stay_const_at : (n m : ℕ) → n ≤ m → (y : constant.Const-F (StayConst n m) (StayTyped n m))
    → ConstKnownAt n (map-Const (StayConst n m) (StayTyped n m) Const Typed (λ e. e.0) (λ e. e.0) y)
    → ConstKnownAt m (map-Const (StayConst n m) (StayTyped n m) Const Typed (λ e. e.0) (λ e. e.0) y)
stay_const_at n m le (constant.Int value) h = refl
stay_const_at n m le (constant.Bool value) h = refl
stay_const_at n m le constant.Null h = refl
stay_const_at n m le constant.Undef h = refl
stay_const_at n m le constant.Poison h = refl
stay_const_at n m le constant.Zero h = refl
stay_const_at n m le (constant.Text v) h = refl
stay_const_at n m le (constant.Array v) h = stay_row n m v.items h
stay_const_at n m le (constant.Struct v packed) h = stay_row n m v.items h
stay_const_at n m le (constant.Global id) h = below_more id.0 n m le h
stay_const_at n m le (constant.Gep inbounds t base v) h =
    and_both
    (and_both (ty_known-more n m le t (and_left _ _ (and_left _ _ h))) (base.value.1 (and_right _ _ (and_left _ _ h))))
    (stay_row n m v.items (and_right _ _ h))

stay_typed_at : (n m : ℕ) → n ≤ m → (y : constant.Typed-F (StayConst n m) (StayTyped n m))
    → TypedKnownAt n (map-Typed (StayConst n m) (StayTyped n m) Const Typed (λ e. e.0) (λ e. e.0) y)
    → TypedKnownAt m (map-Typed (StayConst n m) (StayTyped n m) Const Typed (λ e. e.0) (λ e. e.0) y)
stay_typed_at n m le y h = and_both (ty_known-more n m le y.ty (and_left _ _ h)) (y.value.1 (and_right _ _ h))

stay_const_roll : (n m : ℕ) → n ≤ m → (x : constant.Const-F Const Typed) (y : constant.Const-F (StayConst n m) (StayTyped n m))
    → map-Const (StayConst n m) (StayTyped n m) Const Typed (λ e. e.0) (λ e. e.0) y ≡ x → ConstKnownAt n x → ConstKnownAt m x
stay_const_roll n m le x y is = subst (λ z. ConstKnownAt n z → ConstKnownAt m z) is (stay_const_at n m le y)

stay_typed_roll : (n m : ℕ) → n ≤ m → (x : constant.Typed-F Const Typed) (y : constant.Typed-F (StayConst n m) (StayTyped n m))
    → map-Typed (StayConst n m) (StayTyped n m) Const Typed (λ e. e.0) (λ e. e.0) y ≡ x → TypedKnownAt n x → TypedKnownAt m x
stay_typed_roll n m le x y is = subst (λ z. TypedKnownAt n z → TypedKnownAt m z) is (stay_typed_at n m le y)

pub const_known-more : (n m : ℕ) → n ≤ m → (c : Const) → StaysConst n m c
const_known-more n m le = ind-Const (StaysConst n m) (StaysTyped n m)
    (λ x y is known.
    fold-roll-Const Bool Bool (const_known_step m) (typed_known_step m) x
    ∙ stay_const_roll n m le x y is (sym (fold-roll-Const Bool Bool (const_known_step n) (typed_known_step n) x) ∙ known))
    (λ x y is known.
    fold-roll-Typed Bool Bool (const_known_step m) (typed_known_step m) x
    ∙ stay_typed_roll n m le x y is (sym (fold-roll-Typed Bool Bool (const_known_step n) (typed_known_step n) x) ∙ known))

pub typed_known-more : (n m : ℕ) → n ≤ m → (t : Typed) → StaysTyped n m t
typed_known-more n m le = ind-Typed (StaysConst n m) (StaysTyped n m)
    (λ x y is known.
    fold-roll-Const Bool Bool (const_known_step m) (typed_known_step m) x
    ∙ stay_const_roll n m le x y is (sym (fold-roll-Const Bool Bool (const_known_step n) (typed_known_step n) x) ∙ known))
    (λ x y is known.
    fold-roll-Typed Bool Bool (const_known_step m) (typed_known_step m) x
    ∙ stay_typed_roll n m le x y is (sym (fold-roll-Typed Bool Bool (const_known_step n) (typed_known_step n) x) ∙ known))
