-- A longer table of names keeps each shape, and what is known stays known.
use Rattle.std.proofs.lemmas.Bool.{lt-ltb}
use Rattle.std.proofs.Common.{◌≡◌, ℕ, ◌<◌, ◌≤◌, Bool, true, false, List, [], ◌∷◌, ◌++◌, length, map, refl, sym, ◌∙◌, ap, subst, arith, ◌&&◌, nat_lt, ltb-true}
use Rattle.std.specs.List.{list_all}
use Rattle.ir_tree.specs.Shape.{TyShape, array, structure, named, ty_row}
use Rattle.ir_tree.specs.ShapeOf.{ty_step, ty_shape}
use Rattle.ir_tree.specs.Known.{ty_known_step, ty_known}
use Rattle.ir_tree.specs.declared.types.Ty.{Ty}
use Rattle.ir_tree.specs.declared.types.Ty.TheOpen as ty
use Rattle.ir_tree.specs.declared.types.Ty.TheFolds.{fold-roll-Ty, ind-Ty, map-Ty}
use Rattle.ir_tree.proofs.Table.{text_of-append}

pub and_left : (a b : Bool) → (a && b) ≡ true → a ≡ true
and_left true b e = refl
and_left false b e = cc

pub and_right : (a b : Bool) → (a && b) ≡ true → b ≡ true
and_right true b e = e
and_right false b e = cc

pub and_both : {a b : Bool} → a ≡ true → b ≡ true → (a && b) ≡ true
and_both {a = true} e f = f
and_both {a = false} e f = cc

pub below_more : (i n m : ℕ) → n ≤ m → nat_lt i n ≡ true → nat_lt i m ≡ true
below_more i n m le h = let lt : i < n = ltb-true i n h in lt-ltb i m (omega arith)

-- maps that agree where the test holds agree on a list of whose elements it holds
pub map_where : {A B : Type 0} (f g : A → B) (k : A → Bool) → ((x : A) → k x ≡ true → f x ≡ g x)
    → (xs : List A) → list_all k xs ≡ true → map f xs ≡ map g xs
map_where f g k h [] e = refl
map_where f g k h (x ∷ xs) e =
    let one : f x ≡ g x = h x (and_left _ _ e) in
    let rest : map f xs ≡ map g xs = map_where f g k h xs (and_right _ _ e) in
    cc

pub list_all-weaker : {A : Type 0} (k k' : A → Bool) → ((x : A) → k x ≡ true → k' x ≡ true)
    → (xs : List A) → list_all k xs ≡ true → list_all k' xs ≡ true
list_all-weaker k k' h [] e = refl
list_all-weaker k k' h (x ∷ xs) e = and_both (h x (and_left _ _ e)) (list_all-weaker k k' h xs (and_right _ _ e))

-- a type keeps its shape
abbrev pub KeepsTy : List (List ℕ) → List (List ℕ) → Ty → Type 0
KeepsTy names more t = ty_known (length names) t ≡ true → ty_shape (names ++ more) t ≡ ty_shape names t

keep_tys : (names more : List (List ℕ)) (ts : List ((t : Ty) × KeepsTy names more t))
    → list_all (λ b. b) (map (ty_known (length names)) (map (λ e. e.0) ts)) ≡ true
    → map (ty_shape (names ++ more)) (map (λ e. e.0) ts) ≡ map (ty_shape names) (map (λ e. e.0) ts)
keep_tys names more [] h = refl
keep_tys names more (t ∷ ts) h =
    let one : ty_shape (names ++ more) t.0 ≡ ty_shape names t.0 = t.1 (and_left _ _ h) in
    let rest : map (ty_shape (names ++ more)) (map (λ e. e.0) ts) ≡ map (ty_shape names) (map (λ e. e.0) ts) = keep_tys names more ts (and_right _ _ h) in
    cc

keep_ty_at : (names more : List (List ℕ)) (y : ty.Ty-F ((t : Ty) × KeepsTy names more t))
    → ty_known_step (length names) (map-Ty Ty Bool (ty_known (length names)) (map-Ty ((t : Ty) × KeepsTy names more t) Ty (λ e. e.0) y)) ≡ true
    → ty_step (names ++ more) (map-Ty Ty TyShape (ty_shape (names ++ more)) (map-Ty ((t : Ty) × KeepsTy names more t) Ty (λ e. e.0) y))
    ≡ ty_step names (map-Ty Ty TyShape (ty_shape names) (map-Ty ((t : Ty) × KeepsTy names more t) Ty (λ e. e.0) y))
keep_ty_at names more (ty.Int bits) h = refl
keep_ty_at names more ty.Ptr h = refl
keep_ty_at names more ty.Void h = refl
keep_ty_at names more (ty.Array count element) h = ap (array count) (element.value.1 h)
keep_ty_at names more (ty.Struct v packed) h = ap (λ z. structure (ty_row z) packed) (keep_tys names more v.items h)
keep_ty_at names more (ty.Named id) h = ap named (text_of-append names more id.0 (ltb-true id.0 (length names) h))

-- a type whose names are known keeps its shape where names are added
pub ty_shape-append : (names more : List (List ℕ)) (t : Ty) → KeepsTy names more t
ty_shape-append names more = ind-Ty (KeepsTy names more) (λ x y is known.
    let here : ty_known_step (length names) (map-Ty Ty Bool (ty_known (length names)) x) ≡ true =
    sym (fold-roll-Ty Bool (ty_known_step (length names)) x) ∙ known in
    let step = subst (λ z. ty_known_step (length names) (map-Ty Ty Bool (ty_known (length names)) z) ≡ true
    → ty_step (names ++ more) (map-Ty Ty TyShape (ty_shape (names ++ more)) z) ≡ ty_step names (map-Ty Ty TyShape (ty_shape names) z))
    is (keep_ty_at names more y) in
    fold-roll-Ty TyShape (ty_step (names ++ more)) x ∙ step here ∙ sym (fold-roll-Ty TyShape (ty_step names) x))

-- what is below a count is below a greater one
abbrev pub StaysTy : ℕ → ℕ → Ty → Type 0
StaysTy n m t = ty_known n t ≡ true → ty_known m t ≡ true

stay_tys : (n m : ℕ) (ts : List ((t : Ty) × StaysTy n m t))
    → list_all (λ b. b) (map (ty_known n) (map (λ e. e.0) ts)) ≡ true → list_all (λ b. b) (map (ty_known m) (map (λ e. e.0) ts)) ≡ true
stay_tys n m [] h = refl
stay_tys n m (t ∷ ts) h = and_both (t.1 (and_left _ _ h)) (stay_tys n m ts (and_right _ _ h))

stay_ty_at : (n m : ℕ) → n ≤ m → (y : ty.Ty-F ((t : Ty) × StaysTy n m t))
    → ty_known_step n (map-Ty Ty Bool (ty_known n) (map-Ty ((t : Ty) × StaysTy n m t) Ty (λ e. e.0) y)) ≡ true
    → ty_known_step m (map-Ty Ty Bool (ty_known m) (map-Ty ((t : Ty) × StaysTy n m t) Ty (λ e. e.0) y)) ≡ true
stay_ty_at n m le (ty.Int bits) h = refl
stay_ty_at n m le ty.Ptr h = refl
stay_ty_at n m le ty.Void h = refl
stay_ty_at n m le (ty.Array count element) h = element.value.1 h
stay_ty_at n m le (ty.Struct v packed) h = stay_tys n m v.items h
stay_ty_at n m le (ty.Named id) h = below_more id.0 n m le h

pub ty_known-more : (n m : ℕ) → n ≤ m → (t : Ty) → StaysTy n m t
ty_known-more n m le = ind-Ty (StaysTy n m) (λ x y is known.
    let here : ty_known_step n (map-Ty Ty Bool (ty_known n) x) ≡ true = sym (fold-roll-Ty Bool (ty_known_step n) x) ∙ known in
    let step = subst (λ z. ty_known_step n (map-Ty Ty Bool (ty_known n) z) ≡ true → ty_known_step m (map-Ty Ty Bool (ty_known m) z) ≡ true)
    is (stay_ty_at n m le y) in
    fold-roll-Ty Bool (ty_known_step m) x ∙ step here)
